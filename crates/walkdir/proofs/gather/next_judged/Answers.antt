use Rattle.std.proofs.Common.{◌≡◌, ◌+◌, ℕ, arith, Some, Ok, Err, inl, inr, sym, ◌∙◌, ap, subst, Option}
use Rattle.std.proofs.lemmas.Bool.{false≢true}
use Rattle.sd_io.specs.Count.{HasRisen}
use Rattle.sd_io.specs.Disk.{DiskState}
use Rattle.walk_rest.specs.declared.error.Error.{Error}
use Rattle.walk_rest.specs.declared.error.Error.TheVariants as error
use Rattle.walk_rest.specs.declared.options.Options.{Options}
use Rattle.walk_rest.specs.Plan.{Item}
use Rattle.walk_steps.specs.declared.inside.Inside.{Inside}
use Rattle.walk_steps.specs.Causes.{CountsFaults, faults_told}
use Rattle.walk_steps.specs.Inside.{HasRest, chain_of, levels_of}
use Rattle.walk_steps.specs.Listed.{GivesListed, below_one, gives_below}
use Rattle.walk_steps.specs.Sound.{KeepsWalk}
use Rattle.walk_steps.specs.Steps.{SkipsTo}
use Rattle.walkdir.proofs.gather.CountLemmas.{below_err, counts_skip, fails_as, fits_tree, listed_skip, memory_error, no_loop, told_err}
use Rattle.walk_steps.proofs.WithinLemmas.{keeps_on}
use Rattle.walkdir.specs.Gather.{GoesOn}
use Rattle.walkdir.proofs.gather.NextLemmas.{carry, dir_is, keeps_next, keeps_skip, next_ends, next_fails, next_goes_on, next_leaves, next_lies}
use Rattle.walkdir.proofs.gather.next_judged.Goals as goal
use Rattle.walkdir.proofs.gather.next_judged.Goals.{then-out+then-is_dir+then-lies_unread, else-out, else-out-via-then-out+then-is_dir+else-lies_unread, else-out-via-then-out+else-is_dir, else-out-via-else-out}

pub returns-in_default-clause-goes : goal.returns-in_default-clause-goes
returns-in_default-clause-goes g c = λ told by rest compares has plain.
    next_ends (g.P.Prunes.leaves_out c.args.prune.now) (g.S.Order.sorts c.args.inside.now.order) by (g.D.Disk.state c.args.disk.now) (g.D.Disk.state c.next_item.new.disk) rest c.next_item.result c.next_item.new.inside
    c.in_default.is plain (c.next_item.ensures.gives.step told by rest compares has)

pub returns-in_err-entry-clause-goes : goal.returns-in_err-entry-clause-goes
returns-in_err-entry-clause-goes g c = λ told by rest compares has plain.
    next_fails (g.P.Prunes.leaves_out c.args.prune.now) (g.S.Order.sorts c.args.inside.now.order) by (g.D.Disk.state c.args.disk.now) (g.D.Disk.state c.next_item.new.disk) rest c.next_item.result c.next_item.new.inside
    c.in_err-entry.field-0.0 c.from_residual.result (c.in-Some.is ∙ ap (λ (item : Item). Some item) c.in_err-entry.was) c.from_residual.ensures.1 plain (c.next_item.ensures.gives.step told by rest compares has)

pub returns-clause-goes : goal.returns-clause-goes
returns-clause-goes g c = λ told by rest compares has plain.
    let out = g.P.Prunes.leaves_out c.args.prune.now in
    let sorts = g.S.Order.sorts c.args.inside.now.order in
    let entry = c.in_ok-entry.entry in
    let old = g.D.Disk.state c.args.disk.now in
    let mid = g.D.Disk.state c.next_item.new.disk in
    let is : c.next_item.result ≡ Some (Ok entry) = c.in-Some.is ∙ ap (λ (item : Item). Some item) c.in_ok-entry.was in
    let steps = c.next_item.ensures.gives.step told by rest compares has in
    let asked = c.in_ok-out.ensures in
    elim c.if-out.branch [
      | then-out+then-is_dir+then-lies_unread w ↦
          carry (λ (s : DiskState) (i : Inside g.row.S.Denot). GoesOn out sorts by rest entry c.in_ok-out.out s i) (g.D.Disk.state w.skip_top.new.disk) (g.D.Disk.state c.if-out.disk) w.skip_top.new.inside c.if-out.inside
          (ap g.D.Disk.state w.disk-is) w.inside-is
          (next_leaves out sorts by old mid (g.D.Disk.state w.skip_top.new.disk) rest c.next_item.result c.next_item.new.inside w.skip_top.new.inside entry c.in_ok-out.out is asked plain steps
          (sym (dir_is entry.kind w.is_dir.result w.is_dir.ensures) ∙ w.if-is_dir.true) (sym asked ∙ w.if-out.true)
          (λ left has_left.
          let same = c.next_item.ensures.gives.same.order in
          subst (λ (order : g.row.S.Denot). HasRest mid (g.S.Order.sorts order) by c.next_item.new.inside left → SkipsTo (g.S.Order.sorts order) by left (g.D.Disk.state w.skip_top.new.disk) w.skip_top.new.inside)
          same (w.skip_top.ensures.skipped told by left) has_left)
          w.skip_top.ensures.unread)
      | else-out w ↦
          carry (λ (s : DiskState) (i : Inside g.row.S.Denot). GoesOn out sorts by rest entry c.in_ok-out.out s i) mid (g.D.Disk.state c.if-out.disk) c.next_item.new.inside c.if-out.inside
          (ap g.D.Disk.state w.disk-is) w.inside-is
          (next_goes_on out sorts by old mid rest c.next_item.result c.next_item.new.inside entry c.in_ok-out.out is asked plain steps
          (elim w.else-out.branch [
            | else-out-via-then-out+then-is_dir+else-lies_unread v ↦
                absurd (false≢true (sym v.if-lies_unread.false ∙ (v.lies_unread.ensures ∙ next_lies out sorts by old mid rest c.next_item.result c.next_item.new.inside entry is plain steps (sym (dir_is entry.kind v.is_dir.result v.is_dir.ensures) ∙ v.if-is_dir.true))))
            | else-out-via-then-out+else-is_dir v ↦ inr (sym (dir_is entry.kind v.is_dir.result v.is_dir.ensures) ∙ v.if-is_dir.false)
            | else-out-via-else-out v ↦ inl (sym asked ∙ v.if-out.false)
          ]))
    ]

pub returns-in_default-clause-keeps : goal.returns-in_default-clause-keeps
returns-in_default-clause-keeps g c =
    keeps_next g.D.Disk.tells (g.S.Order.sorts c.args.inside.now.order) (g.S.Order.compares_by c.args.inside.now.order) (g.D.Disk.state c.args.disk.now) c.args.inside.now c.next_item.result
    (g.D.Disk.state c.next_item.new.disk) c.next_item.new.inside c.next_item.ensures.gives

pub returns-in_err-entry-clause-keeps : goal.returns-in_err-entry-clause-keeps
returns-in_err-entry-clause-keeps g c =
    keeps_next g.D.Disk.tells (g.S.Order.sorts c.args.inside.now.order) (g.S.Order.compares_by c.args.inside.now.order) (g.D.Disk.state c.args.disk.now) c.args.inside.now c.next_item.result
    (g.D.Disk.state c.next_item.new.disk) c.next_item.new.inside c.next_item.ensures.gives

pub returns-in_err-out-clause-keeps : goal.returns-in_err-out-clause-keeps
returns-in_err-out-clause-keeps g c =
    keeps_next g.D.Disk.tells (g.S.Order.sorts c.args.inside.now.order) (g.S.Order.compares_by c.args.inside.now.order) (g.D.Disk.state c.args.disk.now) c.args.inside.now c.next_item.result
    (g.D.Disk.state c.next_item.new.disk) c.next_item.new.inside c.next_item.ensures.gives

pub returns-clause-keeps : goal.returns-clause-keeps
returns-clause-keeps g c =
    let old = g.D.Disk.state c.args.disk.now in
    let mid = g.D.Disk.state c.next_item.new.disk in
    let did = keeps_next g.D.Disk.tells (g.S.Order.sorts c.args.inside.now.order) (g.S.Order.compares_by c.args.inside.now.order) old c.args.inside.now c.next_item.result mid c.next_item.new.inside c.next_item.ensures.gives in
    elim c.if-out.branch [
      | then-out+then-is_dir+then-lies_unread w ↦
          carry (λ (s : DiskState) (i : Inside g.row.S.Denot). KeepsWalk old c.args.inside.now s i) (g.D.Disk.state w.skip_top.new.disk) (g.D.Disk.state c.if-out.disk) w.skip_top.new.inside c.if-out.inside
          (ap g.D.Disk.state w.disk-is) w.inside-is
          (keeps_on old mid (g.D.Disk.state w.skip_top.new.disk) c.args.inside.now c.next_item.new.inside w.skip_top.new.inside did
          (keeps_skip mid (g.D.Disk.state w.skip_top.new.disk) c.next_item.new.inside w.skip_top.new.inside w.skip_top.ensures.sound.lists w.skip_top.ensures.same w.skip_top.ensures.within w.skip_top.ensures.others
          w.skip_top.ensures.listed w.skip_top.ensures.tree w.skip_top.ensures.faults))
      | else-out w ↦
          carry (λ (s : DiskState) (i : Inside g.row.S.Denot). KeepsWalk old c.args.inside.now s i) mid (g.D.Disk.state c.if-out.disk) c.next_item.new.inside c.if-out.inside
          (ap g.D.Disk.state w.disk-is) w.inside-is did
    ]

-- ---- what is listed whole

pub returns-in_default-clause-listed : goal.returns-in_default-clause-listed
returns-in_default-clause-listed g c = λ count whole quiet.
    c.next_item.ensures.gives.listed_whole whole.0 whole.2.0 count whole.2.1 whole.1 whole.3 whole.4 quiet (λ none. let is = c.in_default.is in cc (is, none))

pub returns-clause-listed : goal.returns-clause-listed
returns-clause-listed g c = λ count whole.
    let old = g.D.Disk.state c.args.disk.now in
    let mid = g.D.Disk.state c.next_item.new.disk in
    let is : c.next_item.result ≡ Some (Ok c.in_ok-entry.entry) = c.in-Some.is ∙ ap (λ (item : Item). Some item) c.in_ok-entry.was in
    let step = c.next_item.ensures.gives.listed_whole whole.0 whole.2.0 count whole.2.1 whole.1 whole.3 whole.4 in
    let F : DiskState → Type 0 = λ s. (HasRisen old.faults s.faults → ⊥) → s.listed ≡ old.listed + count in
    let at_mid : F mid = λ quiet. step quiet (λ none. cc (is, none)) in
    elim c.if-out.branch [
      | then-out+then-is_dir+then-lies_unread w ↦
          subst F (sym (ap g.D.Disk.state w.disk-is)) (λ quiet.
          let listed = at_mid (λ risen. quiet (subst (HasRisen old.faults) (sym w.skip_top.ensures.faults) risen)) in
          w.skip_top.ensures.listed ∙ listed)
      | else-out w ↦ subst F (sym (ap g.D.Disk.state w.disk-is)) at_mid
    ]

-- ---- counts

pub returns-in_default-clause-counted : goal.returns-in_default-clause-counted
returns-in_default-clause-counted g c = λ fits.
    let T : Option Item → Type 0 = λ a. CountsFaults (faults_told g.D.Disk.tells a) (g.D.Disk.state c.args.disk.now) (levels_of c.args.inside.now) (g.D.Disk.state c.next_item.new.disk) (levels_of c.next_item.new.inside) in
    subst T c.in_default.is (c.next_item.ensures.gives.counted (fits_tree g.D.Disk.tells g.S.Order.compares_by (g.D.Disk.state c.args.disk.now) (g.S.Order.sorts c.args.inside.now.order) c.args.inside.now fits))

pub returns-in_default-clause-listed_each : goal.returns-in_default-clause-listed_each
returns-in_default-clause-listed_each g c =
    let G : Option Item → Type 0 = λ a. GivesListed (gives_below a) (g.D.Disk.state c.args.disk.now) (levels_of c.args.inside.now) (g.D.Disk.state c.next_item.new.disk) (levels_of c.next_item.new.inside) in
    subst G c.in_default.is c.next_item.ensures.gives.listed_each

pub returns-in_err-entry-clause-counted : goal.returns-in_err-entry-clause-counted
returns-in_err-entry-clause-counted g c = λ fits.
    let is : c.next_item.result ≡ Some (Err c.in_err-entry.field-0.0) = c.in-Some.is ∙ ap (λ (item : Item). Some item) c.in_err-entry.was in
    let T : ℕ → Type 0 = λ n. CountsFaults n (g.D.Disk.state c.args.disk.now) (levels_of c.args.inside.now) (g.D.Disk.state c.next_item.new.disk) (levels_of c.next_item.new.inside) in
    subst T (ap (faults_told g.D.Disk.tells) is ∙ sym (told_err g.D.Disk.tells c.from_residual.result c.in_err-entry.field-0.0 c.from_residual.ensures.1))
    (c.next_item.ensures.gives.counted (fits_tree g.D.Disk.tells g.S.Order.compares_by (g.D.Disk.state c.args.disk.now) (g.S.Order.sorts c.args.inside.now.order) c.args.inside.now fits))

pub returns-in_err-entry-clause-listed_each : goal.returns-in_err-entry-clause-listed_each
returns-in_err-entry-clause-listed_each g c =
    let is : c.next_item.result ≡ Some (Err c.in_err-entry.field-0.0) = c.in-Some.is ∙ ap (λ (item : Item). Some item) c.in_err-entry.was in
    let T : ℕ → Type 0 = λ n. GivesListed n (g.D.Disk.state c.args.disk.now) (levels_of c.args.inside.now) (g.D.Disk.state c.next_item.new.disk) (levels_of c.next_item.new.inside) in
    subst T (ap gives_below is ∙ sym (below_err c.from_residual.result c.in_err-entry.field-0.0 c.from_residual.ensures.1)) c.next_item.ensures.gives.listed_each

pub returns-in_err-entry-clause-named : goal.returns-in_err-entry-clause-named
returns-in_err-entry-clause-named g c =
    let is : c.next_item.result ≡ Some (Err c.in_err-entry.field-0.0) = c.in-Some.is ∙ ap (λ (item : Item). Some item) c.in_err-entry.was in
    let same = ap (λ (o : Options). o.follow_links) c.next_item.ensures.gives.same.options in
    fails_as _ c.from_residual.result c.in_err-entry.field-0.0 c.from_residual.ensures.1 (
      (λ e. c.next_item.ensures.gives.uncapped (is ∙ ap (λ (x : Error). Some (Err x)) e)),
      λ off. no_loop c.next_item.new.inside.options.follow_links (chain_of c.next_item.new.inside) c.next_item.result c.in_err-entry.field-0.0 (same ∙ off) c.next_item.ensures.gives.looped is,
    )

pub returns-in_err-out-clause-counted : goal.returns-in_err-out-clause-counted
returns-in_err-out-clause-counted g c = λ fits.
    let is : c.next_item.result ≡ Some (Ok c.in_ok-entry.entry) = c.in-Some.is ∙ ap (λ (item : Item). Some item) c.in_ok-entry.was in
    let T : ℕ → Type 0 = λ n. CountsFaults n (g.D.Disk.state c.args.disk.now) (levels_of c.args.inside.now) (g.D.Disk.state c.next_item.new.disk) (levels_of c.next_item.new.inside) in
    subst T (ap (faults_told g.D.Disk.tells) is ∙ sym (told_err g.D.Disk.tells c.from_residual-in_err-out.result error.NoMemory c.from_residual-in_err-out.ensures.1))
    (c.next_item.ensures.gives.counted (fits_tree g.D.Disk.tells g.S.Order.compares_by (g.D.Disk.state c.args.disk.now) (g.S.Order.sorts c.args.inside.now.order) c.args.inside.now fits))

pub returns-in_err-out-clause-listed_each : goal.returns-in_err-out-clause-listed_each
returns-in_err-out-clause-listed_each g c =
    let h = c.next_item.ensures.gives.listed_each in
    let none = below_err c.from_residual-in_err-out.result error.NoMemory c.from_residual-in_err-out.ensures.1 in
    omega (arith, h, none)

pub returns-in_err-out-clause-named : goal.returns-in_err-out-clause-named
returns-in_err-out-clause-named g c =
    fails_as _ c.from_residual-in_err-out.result error.NoMemory c.from_residual-in_err-out.ensures.1 (memory_error c.args.inside.now.options.follow_links)

pub returns-clause-counted : goal.returns-clause-counted
returns-clause-counted g c = λ fits.
    let old = g.D.Disk.state c.args.disk.now in
    let mid = g.D.Disk.state c.next_item.new.disk in
    let is : c.next_item.result ≡ Some (Ok c.in_ok-entry.entry) = c.in-Some.is ∙ ap (λ (item : Item). Some item) c.in_ok-entry.was in
    let T : Option Item → Type 0 = λ a. CountsFaults (faults_told g.D.Disk.tells a) old (levels_of c.args.inside.now) mid (levels_of c.next_item.new.inside) in
    let counts = subst T is (c.next_item.ensures.gives.counted (fits_tree g.D.Disk.tells g.S.Order.compares_by old (g.S.Order.sorts c.args.inside.now.order) c.args.inside.now fits)) in
    elim c.if-out.branch [
      | then-out+then-is_dir+then-lies_unread w ↦
          carry (λ (s : DiskState) (i : Inside g.row.S.Denot). CountsFaults 0 old (levels_of c.args.inside.now) s (levels_of i)) (g.D.Disk.state w.skip_top.new.disk) (g.D.Disk.state c.if-out.disk) w.skip_top.new.inside c.if-out.inside
          (ap g.D.Disk.state w.disk-is) w.inside-is
          (counts_skip 0 old mid (g.D.Disk.state w.skip_top.new.disk) (levels_of c.args.inside.now) (levels_of c.next_item.new.inside) (levels_of w.skip_top.new.inside) counts w.skip_top.ensures.due w.skip_top.ensures.faults)
      | else-out w ↦
          carry (λ (s : DiskState) (i : Inside g.row.S.Denot). CountsFaults 0 old (levels_of c.args.inside.now) s (levels_of i)) mid (g.D.Disk.state c.if-out.disk) c.next_item.new.inside c.if-out.inside
          (ap g.D.Disk.state w.disk-is) w.inside-is counts
    ]

pub returns-clause-listed_each : goal.returns-clause-listed_each
returns-clause-listed_each g c =
    let old = g.D.Disk.state c.args.disk.now in
    let mid = g.D.Disk.state c.next_item.new.disk in
    let is : c.next_item.result ≡ Some (Ok c.in_ok-entry.entry) = c.in-Some.is ∙ ap (λ (item : Item). Some item) c.in_ok-entry.was in
    let G : Option Item → Type 0 = λ a. GivesListed (gives_below a) old (levels_of c.args.inside.now) mid (levels_of c.next_item.new.inside) in
    let n = below_one c.in_ok-entry.entry in
    let counts = subst G is c.next_item.ensures.gives.listed_each in
    elim c.if-out.branch [
      | then-out+then-is_dir+then-lies_unread w ↦
          carry (λ (s : DiskState) (i : Inside g.row.S.Denot). GivesListed n old (levels_of c.args.inside.now) s (levels_of i)) (g.D.Disk.state w.skip_top.new.disk) (g.D.Disk.state c.if-out.disk) w.skip_top.new.inside c.if-out.inside
          (ap g.D.Disk.state w.disk-is) w.inside-is
          (listed_skip n old mid (g.D.Disk.state w.skip_top.new.disk) (levels_of c.args.inside.now) (levels_of c.next_item.new.inside) (levels_of w.skip_top.new.inside) counts w.skip_top.ensures.waits w.skip_top.ensures.listed)
      | else-out w ↦
          carry (λ (s : DiskState) (i : Inside g.row.S.Denot). GivesListed n old (levels_of c.args.inside.now) s (levels_of i)) mid (g.D.Disk.state c.if-out.disk) c.next_item.new.inside c.if-out.inside
          (ap g.D.Disk.state w.disk-is) w.inside-is counts
    ]
