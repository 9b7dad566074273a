use Rattle.std.proofs.Common.{◌≡◌, ◌<◌, ◌+◌, ℕ, Bool, cond, [], Some, None, Ok, Err, Result, Option, inl, refl, ◌∙◌, ap, subst, arith}
use Rattle.std.specs.Prelude.{nat_lt, IfErr, OnOk, OnSome, IfOk}
use Rattle.std.specs.Bool.{MatchBool}
use Rattle.sd_io.specs.Tree.{Tree}
use Rattle.walk_rest.specs.declared.entry.DirEntry.{DirEntry}
use Rattle.walk_rest.specs.declared.error.Error.{Error}
use Rattle.walk_rest.specs.declared.options.Options.{Options}
use Rattle.walk_steps.specs.Causes.{CountsFaults, faults_told}
use Rattle.walk_steps.specs.Listed.{GivesListed}
use Rattle.walk_steps.specs.Inside.{levels_of}
use Rattle.walk_steps.specs.Work.{left_to_do}
use Rattle.walk_steps.proofs.WithinLemmas.{keeps_on, keeps_same}
use Rattle.walk_steps.proofs.MeetLemmas.{back_keeps, back_sound, back_work}
use Rattle.walkdir.specs.Gather.{GoesTo, IsNextError, ListsWhole, below_by, told_by}
use Rattle.walkdir.specs.Steps.{still_compares}
use Rattle.walkdir.proofs.gather.CountLemmas.{capped_not, counts_later, counts_after, counts_next, counts_refused, fails_as, one_below, refused_no_loop, refused_not_many}
use Rattle.walkdir.proofs.gather.GatherLemmas.{GoesBy, all_gathered, all_listed, counted_more, counted_same, lists_by, not_gathered, on_at_first, on_more, some_more, too_many}
use Rattle.walkdir.proofs.gather.gather_from.Goals as goal
use Rattle.walkdir.proofs.gather.gather_from.Goals.{then-entry-gt0+else-below-cap, else-entry-gt0}

pub loop-entry-init : goal.loop-entry-init
loop-entry-init g c = record {
  sound = c.requires.sound;
  order = c.requires.order;
  keeps = keeps_same (g.D.Disk.state c.args.disk.now) c.args.inside.now c.args.inside.now (record { options = refl; order = refl; root = refl }) refl c.requires.sound.lists;
  few = c.requires.cap;
  gives = λ told by start compares has plain.
      on_at_first (g.P.Prunes.leaves_out c.args.prune.now) (g.G.Gathers.gathers g.D.Disk.tells (g.D.Disk.state c.args.disk.now).tree) (g.S.Order.sorts c.args.inside.now.order) by start
      (g.D.Disk.state c.args.disk.now) c.args.gatherer.now (ListsWhole g.D.Disk.tells g.S.Order.compares_by (g.D.Disk.state c.args.disk.now) (g.S.Order.sorts c.args.inside.now.order) c.args.inside.now)
      c.args.inside.now has plain (λ count whole. whole.4);
  some = ([], refl);
  each = omega arith;
  counts = λ fits. inl (omega arith);
}

pub loop-entry-preserved : goal.loop-entry-preserved
loop-entry-preserved g c =
    let out = g.P.Prunes.leaves_out c.args.prune.now in
    let sorts = g.S.Order.sorts c.args.inside.now.order in
    let s0 = g.D.Disk.state c.args.disk.now in
    let s = g.D.Disk.state c.loop-entry.disk in
    let t = g.D.Disk.state c.next_judged.new.disk in
    let gathers = g.G.Gathers.gathers g.D.Disk.tells s0.tree in
    let whole = ListsWhole g.D.Disk.tells g.S.Order.compares_by s0 sorts c.args.inside.now in
    let inv = c.loop-entry.invariant in
    let next = c.next_judged.ensures in
    let u = g.D.Disk.state c.gather_unless.new.disk in
    let made = c.gather_unless.ensures in
    let is : c.next_judged.result ≡ Ok (Some (c.in-Some.entry, c.in-Some.out)) = c.in_ok-entry.was ∙ ap Ok c.in-Some.is in
    let same : t.tree ≡ s0.tree = next.keeps.tree.tree ∙ inv.keeps.tree.tree in
    let gathered = subst (λ (tree : Tree). MatchBool c.in-Some.out (c.gather_unless.new.gatherer ≡ c.loop-entry.gatherer) (g.G.Gathers.gathers g.D.Disk.tells tree c.loop-entry.gatherer c.in-Some.entry c.gather_unless.new.gatherer)) same c.in_ok-gather_unless.ensures.gathers in
    record {
      sound = back_sound t u (g.S.Order.sorts c.next_judged.new.inside.order) c.next_judged.new.inside made.lists next.sound;
      order = still_compares g.S.Order.can_compare c.loop-entry.inside c.next_judged.new.inside next.keeps.same inv.order;
      keeps = keeps_on s0 t u c.args.inside.now c.next_judged.new.inside c.next_judged.new.inside (keeps_on s0 s t c.args.inside.now c.loop-entry.inside c.next_judged.new.inside inv.keeps next.keeps)
          (back_keeps t u c.next_judged.new.inside made.lists made.tree made.faults next.sound.lists);
      few =
          (let n = inv.few in
          elim c.if-entry-gt0.branch [
            | then-entry-gt0+else-below-cap w ↦ (let d = w.if-below-cap.false in let b = w.below-is in omega (arith, n, d, b))
            | else-entry-gt0 w ↦ (let b = w.below-is in omega (arith, n, b))
          ]);
      gives = λ told by start compares has plain.
          (let o = inv.gives told by start compares has plain in
          let goes = subst (GoesBy out g.S.Order.sorts g.S.Order.compares_by s c.loop-entry.inside c.next_judged.result t c.next_judged.new.inside) inv.keeps.same.order (next.goes told) in
          let went = subst (λ (r : Result (Option (DirEntry × Bool)) Error). GoesTo out sorts by o.rest r t c.next_judged.new.inside) is (goes by o.rest compares o.has_rest o.plain) in
          let counted : c.if-entry-gt0.below ≡ c.loop-entry.below + cond (nat_lt 0 c.in-Some.entry.depth) 1 0 =
          elim c.if-entry-gt0.branch [
            | then-entry-gt0+else-below-cap w ↦ counted_more c.loop-entry.below c.if-entry-gt0.below c.in-Some.entry.depth w.if-entry-gt0.true w.below-is
            | else-entry-gt0 w ↦ counted_same c.loop-entry.below c.if-entry-gt0.below c.in-Some.entry.depth w.if-entry-gt0.false w.below-is
          ] in
          on_more out gathers sorts by start s0 c.args.gatherer.now whole s t u c.loop-entry.inside c.next_judged.new.inside c.loop-entry.gatherer c.gather_unless.new.gatherer c.loop-entry.below c.if-entry-gt0.below
          c.in-Some.entry c.in-Some.out o went gathered counted
          (λ n count listed on_top quiet. subst (λ (r : Result (Option (DirEntry × Bool)) Error). OnOk r (t.listed ≡ s.listed + count)) is
          (next.listed count (lists_by g.D.Disk.tells g.S.Order.sorts g.S.Order.compares_by s0 s c.args.inside.now c.loop-entry.inside n count inv.keeps.same listed on_top) quiet))
          inv.keeps.faults next.keeps.faults made.faults made.tree made.lists);
      some = some_more gathers inv.some.0 c.in-Some.entry c.in-Some.out c.args.gatherer.now c.loop-entry.gatherer c.gather_unless.new.gatherer inv.some.1 gathered;
      each =
          (let G : Result (Option (DirEntry × Bool)) Error → Type 0 = λ a. GivesListed (below_by a) s (levels_of c.loop-entry.inside) t (levels_of c.next_judged.new.inside) in
          let more = subst G is next.listed_each in
          let so_far = inv.each in
          let still = made.lists.listed in
          elim c.if-entry-gt0.branch [
            | then-entry-gt0+else-below-cap w ↦ (let one = one_below c.in-Some.entry w.if-entry-gt0.true in let b = w.below-is in omega (arith, more, so_far, one, b, still))
            | else-entry-gt0 w ↦ (let b = w.below-is in omega (arith, more, so_far, b, still))
          ]);
      counts = λ fits.
          (let C : Result (Option (DirEntry × Bool)) Error → Type 0 = λ a. CountsFaults (told_by g.D.Disk.tells a) s0 (levels_of c.args.inside.now) t (levels_of c.next_judged.new.inside) in
          counts_later 0 s0 t u (levels_of c.args.inside.now) (levels_of c.next_judged.new.inside) made.faults (subst C is (counts_next g.D.Disk.tells g.S.Order.sorts g.S.Order.compares_by s0 s t c.args.inside.now c.loop-entry.inside c.next_judged.new.inside (told_by g.D.Disk.tells c.next_judged.result) inv.keeps.same
          (λ told by start compares has plain. let o = inv.gives told by start compares has plain in (o.rest, o.has_rest, o.plain)) inv.counts next.counted next.keeps.faults fits)));
    }

pub loop-entry-smaller : goal.loop-entry-smaller
loop-entry-smaller g c =
    let is : c.next_judged.result ≡ Ok (Some (c.in-Some.entry, c.in-Some.out)) = c.in_ok-entry.was ∙ ap Ok c.in-Some.is in
    let t = g.D.Disk.state c.next_judged.new.disk in
    let less = subst (λ (r : Result (Option (DirEntry × Bool)) Error). IfOk r (λ given. OnSome given (left_to_do t c.next_judged.new.inside < left_to_do (g.D.Disk.state c.loop-entry.disk) c.loop-entry.inside))) is c.next_judged.ensures.less in
    let same = back_work t (g.D.Disk.state c.gather_unless.new.disk) c.next_judged.new.inside c.gather_unless.ensures.lists in
    omega (arith, less, same)

-- ---- the end

pub returns-clause-all : goal.returns-clause-all
returns-clause-all g c = λ told by start compares has plain.
    let out = g.P.Prunes.leaves_out c.args.prune.now in
    let sorts = g.S.Order.sorts c.args.inside.now.order in
    let s0 = g.D.Disk.state c.args.disk.now in
    let s = g.D.Disk.state c.loop-entry.disk in
    let t = g.D.Disk.state c.next_judged.new.disk in
    let gathers = g.G.Gathers.gathers g.D.Disk.tells s0.tree in
    let whole = ListsWhole g.D.Disk.tells g.S.Order.compares_by s0 sorts c.args.inside.now in
    let inv = c.loop-entry.invariant in
    let next = c.next_judged.ensures in
    let o = inv.gives told by start compares has plain in
    let goes = subst (GoesBy out g.S.Order.sorts g.S.Order.compares_by s c.loop-entry.inside c.next_judged.result t c.next_judged.new.inside) inv.keeps.same.order (next.goes told) in
    let is : c.next_judged.result ≡ Ok None = c.in_ok-entry.was ∙ ap Ok c.in_default.is in
    let ended = subst (λ (r : Result (Option (DirEntry × Bool)) Error). GoesTo out sorts by o.rest r t c.next_judged.new.inside) is (goes by o.rest compares o.has_rest o.plain) in
    all_gathered out gathers sorts by start s0 c.args.gatherer.now whole s c.loop-entry.inside c.loop-entry.gatherer c.loop-entry.below c.args.cap o ended.0 ended.1 inv.few

pub returns-clause-listed : goal.returns-clause-listed
returns-clause-listed g c = λ told by start compares has plain n lists quiet.
    let out = g.P.Prunes.leaves_out c.args.prune.now in
    let sorts = g.S.Order.sorts c.args.inside.now.order in
    let s0 = g.D.Disk.state c.args.disk.now in
    let s = g.D.Disk.state c.loop-entry.disk in
    let t = g.D.Disk.state c.next_judged.new.disk in
    let gathers = g.G.Gathers.gathers g.D.Disk.tells s0.tree in
    let whole = ListsWhole g.D.Disk.tells g.S.Order.compares_by s0 sorts c.args.inside.now in
    let inv = c.loop-entry.invariant in
    let next = c.next_judged.ensures in
    let o = inv.gives told by start compares has plain in
    let goes = subst (GoesBy out g.S.Order.sorts g.S.Order.compares_by s c.loop-entry.inside c.next_judged.result t c.next_judged.new.inside) inv.keeps.same.order (next.goes told) in
    let is : c.next_judged.result ≡ Ok None = c.in_ok-entry.was ∙ ap Ok c.in_default.is in
    let ended = subst (λ (r : Result (Option (DirEntry × Bool)) Error). GoesTo out sorts by o.rest r t c.next_judged.new.inside) is (goes by o.rest compares o.has_rest o.plain) in
    all_listed out gathers sorts by start s0 c.args.gatherer.now whole s t c.loop-entry.inside c.loop-entry.gatherer c.loop-entry.below n o ended.0 ended.2 lists
    (λ count on_top still. subst (λ (r : Result (Option (DirEntry × Bool)) Error). OnOk r (t.listed ≡ s.listed + count)) is
    (next.listed count (lists_by g.D.Disk.tells g.S.Order.sorts g.S.Order.compares_by s0 s c.args.inside.now c.loop-entry.inside n count inv.keeps.same lists on_top) still))
    inv.keeps.faults next.keeps.faults quiet

pub returns-clause-keeps : goal.returns-clause-keeps
returns-clause-keeps g c =
    keeps_on (g.D.Disk.state c.args.disk.now) (g.D.Disk.state c.loop-entry.disk) (g.D.Disk.state c.next_judged.new.disk) c.args.inside.now c.loop-entry.inside c.next_judged.new.inside c.loop-entry.invariant.keeps c.next_judged.ensures.keeps

pub returns-in_err-entry-clause-keeps : goal.returns-in_err-entry-clause-keeps
returns-in_err-entry-clause-keeps g c =
    keeps_on (g.D.Disk.state c.args.disk.now) (g.D.Disk.state c.loop-entry.disk) (g.D.Disk.state c.next_judged.new.disk) c.args.inside.now c.loop-entry.inside c.next_judged.new.inside c.loop-entry.invariant.keeps c.next_judged.ensures.keeps

pub returns-then-below-cap-clause-keeps : goal.returns-then-below-cap-clause-keeps
returns-then-below-cap-clause-keeps g c =
    keeps_on (g.D.Disk.state c.args.disk.now) (g.D.Disk.state c.loop-entry.disk) (g.D.Disk.state c.next_judged.new.disk) c.args.inside.now c.loop-entry.inside c.next_judged.new.inside c.loop-entry.invariant.keeps c.next_judged.ensures.keeps

-- ---- an error of the walk

pub returns-in_err-entry-clause-failed : goal.returns-in_err-entry-clause-failed
returns-in_err-entry-clause-failed g c = λ told by start compares has plain.
    let out = g.P.Prunes.leaves_out c.args.prune.now in
    let sorts = g.S.Order.sorts c.args.inside.now.order in
    let s0 = g.D.Disk.state c.args.disk.now in
    let s = g.D.Disk.state c.loop-entry.disk in
    let t = g.D.Disk.state c.next_judged.new.disk in
    let gathers = g.G.Gathers.gathers g.D.Disk.tells s0.tree in
    let whole = ListsWhole g.D.Disk.tells g.S.Order.compares_by s0 sorts c.args.inside.now in
    let inv = c.loop-entry.invariant in
    let next = c.next_judged.ensures in
    let o = inv.gives told by start compares has plain in
    let goes = subst (GoesBy out g.S.Order.sorts g.S.Order.compares_by s c.loop-entry.inside c.next_judged.result t c.next_judged.new.inside) inv.keeps.same.order (next.goes told) in
    let stops = subst (λ (r : Result (Option (DirEntry × Bool)) Error). GoesTo out sorts by o.rest r t c.next_judged.new.inside) c.in_err-entry.was (goes by o.rest compares o.has_rest o.plain) in
    fails_as _ c.from_residual.result c.in_err-entry.field-0.0 c.from_residual.ensures.1 (inl stops)

pub returns-in_err-entry-clause-counted : goal.returns-in_err-entry-clause-counted
returns-in_err-entry-clause-counted g c = λ fits.
    let out = g.P.Prunes.leaves_out c.args.prune.now in
    let sorts = g.S.Order.sorts c.args.inside.now.order in
    let s0 = g.D.Disk.state c.args.disk.now in
    let s = g.D.Disk.state c.loop-entry.disk in
    let t = g.D.Disk.state c.next_judged.new.disk in
    let gathers = g.G.Gathers.gathers g.D.Disk.tells s0.tree in
    let whole = ListsWhole g.D.Disk.tells g.S.Order.compares_by s0 sorts c.args.inside.now in
    let inv = c.loop-entry.invariant in
    let next = c.next_judged.ensures in
    let C : ℕ → Type 0 = λ n. CountsFaults n s0 (levels_of c.args.inside.now) t (levels_of c.next_judged.new.inside) in
    fails_as _ c.from_residual.result c.in_err-entry.field-0.0 c.from_residual.ensures.1 (subst C (ap (told_by g.D.Disk.tells) c.in_err-entry.was) (counts_next g.D.Disk.tells g.S.Order.sorts g.S.Order.compares_by s0 s t c.args.inside.now c.loop-entry.inside c.next_judged.new.inside (told_by g.D.Disk.tells c.next_judged.result) inv.keeps.same
    (λ told by start compares has plain. let o = inv.gives told by start compares has plain in (o.rest, o.has_rest, o.plain)) inv.counts next.counted next.keeps.faults fits))

pub returns-in_err-entry-clause-capped : goal.returns-in_err-entry-clause-capped
returns-in_err-entry-clause-capped g c = λ capped.
    let named = subst (λ (r : Result (Option (DirEntry × Bool)) Error). IfErr r (IsNextError c.loop-entry.inside.options.follow_links)) c.in_err-entry.was c.next_judged.ensures.named in
    absurd (named.0 (capped_not c.from_residual.result c.in_err-entry.field-0.0 c.from_residual.ensures.1 capped))

pub returns-in_err-entry-clause-unlooped : goal.returns-in_err-entry-clause-unlooped
returns-in_err-entry-clause-unlooped g c = λ off.
    let named = subst (λ (r : Result (Option (DirEntry × Bool)) Error). IfErr r (IsNextError c.loop-entry.inside.options.follow_links)) c.in_err-entry.was c.next_judged.ensures.named in
    fails_as _ c.from_residual.result c.in_err-entry.field-0.0 c.from_residual.ensures.1 (named.1 (ap (λ (o : Options). o.follow_links) c.loop-entry.invariant.keeps.same.options ∙ off))

-- ---- too many

pub returns-then-below-cap-clause-failed : goal.returns-then-below-cap-clause-failed
returns-then-below-cap-clause-failed g c = λ told by start compares has plain.
    let out = g.P.Prunes.leaves_out c.args.prune.now in
    let sorts = g.S.Order.sorts c.args.inside.now.order in
    let s0 = g.D.Disk.state c.args.disk.now in
    let s = g.D.Disk.state c.loop-entry.disk in
    let t = g.D.Disk.state c.next_judged.new.disk in
    let gathers = g.G.Gathers.gathers g.D.Disk.tells s0.tree in
    let whole = ListsWhole g.D.Disk.tells g.S.Order.compares_by s0 sorts c.args.inside.now in
    let inv = c.loop-entry.invariant in
    let next = c.next_judged.ensures in
    let o = inv.gives told by start compares has plain in
    let goes = subst (GoesBy out g.S.Order.sorts g.S.Order.compares_by s c.loop-entry.inside c.next_judged.result t c.next_judged.new.inside) inv.keeps.same.order (next.goes told) in
    let is : c.next_judged.result ≡ Ok (Some (c.in-Some.entry, c.in-Some.out)) = c.in_ok-entry.was ∙ ap Ok c.in-Some.is in
    let went = subst (λ (r : Result (Option (DirEntry × Bool)) Error). GoesTo out sorts by o.rest r t c.next_judged.new.inside) is (goes by o.rest compares o.has_rest o.plain) in
    too_many out gathers sorts by start s0 c.args.gatherer.now whole s t c.loop-entry.inside c.next_judged.new.inside c.loop-entry.gatherer c.loop-entry.below c.args.cap c.in-Some.entry c.in-Some.out o went
    c.if-entry-gt0.true c.if-below-cap.true

pub returns-then-below-cap-clause-counted : goal.returns-then-below-cap-clause-counted
returns-then-below-cap-clause-counted g c = λ fits.
    let out = g.P.Prunes.leaves_out c.args.prune.now in
    let sorts = g.S.Order.sorts c.args.inside.now.order in
    let s0 = g.D.Disk.state c.args.disk.now in
    let s = g.D.Disk.state c.loop-entry.disk in
    let t = g.D.Disk.state c.next_judged.new.disk in
    let gathers = g.G.Gathers.gathers g.D.Disk.tells s0.tree in
    let whole = ListsWhole g.D.Disk.tells g.S.Order.compares_by s0 sorts c.args.inside.now in
    let inv = c.loop-entry.invariant in
    let next = c.next_judged.ensures in
    let C : ℕ → Type 0 = λ n. CountsFaults n s0 (levels_of c.args.inside.now) t (levels_of c.next_judged.new.inside) in
    subst C (ap (told_by g.D.Disk.tells) (c.in_ok-entry.was ∙ ap Ok c.in-Some.is)) (counts_next g.D.Disk.tells g.S.Order.sorts g.S.Order.compares_by s0 s t c.args.inside.now c.loop-entry.inside c.next_judged.new.inside (told_by g.D.Disk.tells c.next_judged.result) inv.keeps.same
    (λ told by start compares has plain. let o = inv.gives told by start compares has plain in (o.rest, o.has_rest, o.plain)) inv.counts next.counted next.keeps.faults fits)

pub returns-then-below-cap-clause-capped : goal.returns-then-below-cap-clause-capped
returns-then-below-cap-clause-capped g c = λ failed.
    let is : c.next_judged.result ≡ Ok (Some (c.in-Some.entry, c.in-Some.out)) = c.in_ok-entry.was ∙ ap Ok c.in-Some.is in
    let G : Result (Option (DirEntry × Bool)) Error → Type 0 = λ a. GivesListed (below_by a) (g.D.Disk.state c.loop-entry.disk) (levels_of c.loop-entry.inside) (g.D.Disk.state c.next_judged.new.disk) (levels_of c.next_judged.new.inside) in
    let more = subst G is c.next_judged.ensures.listed_each in
    let so_far = c.loop-entry.invariant.each in
    let one = one_below c.in-Some.entry c.if-entry-gt0.true in
    let last = c.if-below-cap.true in
    omega (arith, more, so_far, one, last)

-- ---- an entry that isn't gathered

pub returns-in_err-gather_unless-clause-keeps : goal.returns-in_err-gather_unless-clause-keeps
returns-in_err-gather_unless-clause-keeps g c =
    let t = g.D.Disk.state c.next_judged.new.disk in
    let u = g.D.Disk.state c.gather_unless.new.disk in
    let made = c.gather_unless.ensures in
    keeps_on (g.D.Disk.state c.args.disk.now) t u c.args.inside.now c.next_judged.new.inside c.next_judged.new.inside
    (keeps_on (g.D.Disk.state c.args.disk.now) (g.D.Disk.state c.loop-entry.disk) (g.D.Disk.state c.next_judged.new.disk) c.args.inside.now c.loop-entry.inside c.next_judged.new.inside c.loop-entry.invariant.keeps c.next_judged.ensures.keeps)
    (back_keeps t u c.next_judged.new.inside made.lists made.tree made.faults c.next_judged.ensures.sound.lists)

pub returns-in_err-gather_unless-clause-sound : goal.returns-in_err-gather_unless-clause-sound
returns-in_err-gather_unless-clause-sound g c =
    back_sound (g.D.Disk.state c.next_judged.new.disk) (g.D.Disk.state c.gather_unless.new.disk) (g.S.Order.sorts c.next_judged.new.inside.order) c.next_judged.new.inside c.gather_unless.ensures.lists
    c.next_judged.ensures.sound

pub returns-in_err-gather_unless-clause-failed : goal.returns-in_err-gather_unless-clause-failed
returns-in_err-gather_unless-clause-failed g c = λ told by start compares has plain.
    let out = g.P.Prunes.leaves_out c.args.prune.now in
    let sorts = g.S.Order.sorts c.args.inside.now.order in
    let s0 = g.D.Disk.state c.args.disk.now in
    let s = g.D.Disk.state c.loop-entry.disk in
    let t = g.D.Disk.state c.next_judged.new.disk in
    let gathers = g.G.Gathers.gathers g.D.Disk.tells s0.tree in
    let whole = ListsWhole g.D.Disk.tells g.S.Order.compares_by s0 sorts c.args.inside.now in
    let inv = c.loop-entry.invariant in
    let next = c.next_judged.ensures in
    let o = inv.gives told by start compares has plain in
    let goes = subst (GoesBy out g.S.Order.sorts g.S.Order.compares_by s c.loop-entry.inside c.next_judged.result t c.next_judged.new.inside) inv.keeps.same.order (next.goes told) in
    let is : c.next_judged.result ≡ Ok (Some (c.in-Some.entry, c.in-Some.out)) = c.in_ok-entry.was ∙ ap Ok c.in-Some.is in
    let went = subst (λ (r : Result (Option (DirEntry × Bool)) Error). GoesTo out sorts by o.rest r t c.next_judged.new.inside) is (goes by o.rest compares o.has_rest o.plain) in
    fails_as _ c.from_residual-in_err-gather_unless.result c.in_err-gather_unless.field-0.0 c.from_residual-in_err-gather_unless.ensures.1
    (not_gathered out gathers sorts by start s0 c.args.gatherer.now whole s t (g.D.Disk.state c.gather_unless.new.disk) c.loop-entry.inside c.next_judged.new.inside c.loop-entry.gatherer c.loop-entry.below c.args.cap
    c.in-Some.entry c.in-Some.out c.in_err-gather_unless.field-0.0 g.D.Disk.tells told o went (next.keeps.tree.tree ∙ inv.keeps.tree.tree) c.in_err-gather_unless.ensures.refused)

pub returns-in_err-gather_unless-clause-counted : goal.returns-in_err-gather_unless-clause-counted
returns-in_err-gather_unless-clause-counted g c = λ fits.
    let out = g.P.Prunes.leaves_out c.args.prune.now in
    let sorts = g.S.Order.sorts c.args.inside.now.order in
    let s0 = g.D.Disk.state c.args.disk.now in
    let s = g.D.Disk.state c.loop-entry.disk in
    let t = g.D.Disk.state c.next_judged.new.disk in
    let gathers = g.G.Gathers.gathers g.D.Disk.tells s0.tree in
    let whole = ListsWhole g.D.Disk.tells g.S.Order.compares_by s0 sorts c.args.inside.now in
    let inv = c.loop-entry.invariant in
    let next = c.next_judged.ensures in
    let u = g.D.Disk.state c.gather_unless.new.disk in
    let failed = c.in_err-gather_unless.field-0.0 in
    let C : ℕ → Type 0 = λ n. CountsFaults n s0 (levels_of c.args.inside.now) t (levels_of c.next_judged.new.inside) in
    let so_far : C 0 = subst C (ap (told_by g.D.Disk.tells) (c.in_ok-entry.was ∙ ap Ok c.in-Some.is)) (counts_next g.D.Disk.tells g.S.Order.sorts g.S.Order.compares_by s0 s t c.args.inside.now c.loop-entry.inside c.next_judged.new.inside (told_by g.D.Disk.tells c.next_judged.result) inv.keeps.same
    (λ told by start compares has plain. let o = inv.gives told by start compares has plain in (o.rest, o.has_rest, o.plain)) inv.counts next.counted next.keeps.faults fits) in
    fails_as _ c.from_residual-in_err-gather_unless.result failed c.from_residual-in_err-gather_unless.ensures.1
    (counts_after (faults_told g.D.Disk.tells (Some (Err failed))) s0 t u (levels_of c.args.inside.now) (levels_of c.next_judged.new.inside) (levels_of c.next_judged.new.inside) c.gather_unless.ensures.faults so_far
    (counts_refused g.D.Disk.tells t u (levels_of c.next_judged.new.inside) c.in-Some.entry failed c.gather_unless.ensures.faults c.in_err-gather_unless.ensures.refused))

pub returns-in_err-gather_unless-clause-unlooped : goal.returns-in_err-gather_unless-clause-unlooped
returns-in_err-gather_unless-clause-unlooped g c = λ off.
    fails_as _ c.from_residual-in_err-gather_unless.result c.in_err-gather_unless.field-0.0 c.from_residual-in_err-gather_unless.ensures.1
    (refused_no_loop g.D.Disk.tells (g.D.Disk.state c.next_judged.new.disk) (g.D.Disk.state c.gather_unless.new.disk) c.in-Some.entry c.in_err-gather_unless.field-0.0 c.in_err-gather_unless.ensures.refused)

pub returns-in_err-gather_unless-clause-capped : goal.returns-in_err-gather_unless-clause-capped
returns-in_err-gather_unless-clause-capped g c = λ capped.
    absurd (refused_not_many g.D.Disk.tells (g.D.Disk.state c.next_judged.new.disk) (g.D.Disk.state c.gather_unless.new.disk) c.in-Some.entry c.in_err-gather_unless.field-0.0 c.in_err-gather_unless.ensures.refused
    (capped_not c.from_residual-in_err-gather_unless.result c.in_err-gather_unless.field-0.0 c.from_residual-in_err-gather_unless.ensures.1 capped))
