use Rattle.std.proofs.Common.{◌≡◌, ◌≤◌, inl, Some, Err, length, arith, [], ◌∷◌, ◌++◌, reverse, List, Bool, None, refl, sym, subst, ◌∙◌, ap}
use Rattle.walk_rest.specs.declared.level.Level.{Level}
use Rattle.walk_rest.specs.declared.entry.DirEntry.{DirEntry}
use Rattle.walk_rest.specs.declared.level.Entries.TheVariants.{Kept}
use Rattle.walk_rest.specs.declared.error.Error.{Error}
use Rattle.walk_rest.specs.Plan.{Item}
use Rattle.std.specs.Prelude.{IfSome, IsErr, Option}
use Rattle.walk_steps.specs.Causes.{CountsFaults, IsCaused, IsEnteredBy, faults_due, faults_told}
use Rattle.walk_steps.specs.Inside.{levels_of, with_top}
use Rattle.walk_steps.specs.Listed.{GivesListed, gives_below}
use Rattle.walk_steps.specs.Progress.{KeepsListed, kept_of}
use Rattle.walk_steps.specs.Sound.{AllAt}
use Rattle.walk_steps.specs.Steps.{CannotBegin, TurnsTo}
use Rattle.walk_steps.proofs.open.RootLemmas.{at_root_none, at_root_one, looks, root_begun, root_failed, root_keeps, root_less, root_refused, root_sound}
use Rattle.walk_steps.proofs.next.CauseLemmas.{begin_allowed, caused_begin, caused_none, counts_same, due_snoc, top_not}
use Rattle.walk_steps.proofs.take.ProgressLemmas.{kept_top}
use Rattle.walk_steps.proofs.take.WaitsLemmas.{gives_root}
use Rattle.walk_steps.proofs.open.read_root.Goals as goal
use Rattle.walk_steps.proofs.open.read_root.Goals.{in-Ok+in_ok-push-in-Ok, in-Err+in_ok-named-in-Err}

-- the entries that are kept lie at the root
all_at : (g : _) (c : goal.Joined-inside g) → AllAt 0 c.match-begin.kept.items
all_at g c =
    elim c.match-begin.branch [
      | in-Ok+in_ok-push-in-Ok w ↦
          let is : c.match-begin.kept.items ≡ w.in-Ok.entry ∷ [] = ap (λ (v : _). v.items) w.kept-is ∙ (w.in_ok-push-in-Ok.ensures.items ∙ ap (λ (es : List DirEntry). es ++ w.in-Ok.entry ∷ []) c.new-kept.ensures.items) in
          subst (AllAt 0) (sym is) (at_root_one w.in-Ok.entry w.in-Ok.ensures.depth)
      | in-Err+in_ok-named-in-Err w ↦
          let is : c.match-begin.kept.items ≡ [] = ap (λ (v : _). v.items) w.kept-is ∙ c.new-kept.ensures.items in
          subst (AllAt 0) (sym is) at_root_none
    ]

pub returns-in_err-push-in-Ok-clause-keeps : goal.returns-in_err-push-in-Ok-clause-keeps
returns-in_err-push-in-Ok-clause-keeps g c = λ lying lies.
    let b = c.begin.ensures in
    root_refused (g.D.Disk.state c.args.disk.now) (g.D.Disk.state c.begin.new.disk) (g.S.Order.sorts c.args.inside.now.order) c.args.inside.now c.begin.new.inside lying b.same c.requires.taken lies.unread c.requires.sound b.lists b.tree b.faults

pub returns-in_err-named-in-Err-clause-keeps : goal.returns-in_err-named-in-Err-clause-keeps
returns-in_err-named-in-Err-clause-keeps g c = λ lying lies.
    let b = c.begin.ensures in
    root_refused (g.D.Disk.state c.args.disk.now) (g.D.Disk.state c.begin.new.disk) (g.S.Order.sorts c.args.inside.now.order) c.args.inside.now c.begin.new.inside lying b.same c.requires.taken lies.unread c.requires.sound b.lists b.tree b.faults

pub returns-clause-turns : goal.returns-clause-turns
returns-clause-turns g c = λ tells lying lies by rest h.
    let s = g.D.Disk.state c.args.disk.now in
    let now = g.D.Disk.state c.begin.new.disk in
    let sorts = g.S.Order.sorts c.args.inside.now.order in
    let inside = c.args.inside.now in
    let b = c.begin.ensures in
    let level : Level = record { folder = None; first = None; entries = Kept c.match-begin.kept; faults = c.new.result } in
    let new = with_top c.begin.new.inside level in
    let l = looks s now inside c.begin.new.inside lying level b.same lies refl refl c.new.ensures.items tt (all_at g c) b.lists b.tree b.faults in
    let P : Option Item → Type 0 = λ answer. TurnsTo s sorts by rest answer now new in
    elim c.match-begin.branch [
      | in-Ok+in_ok-push-in-Ok w ↦
          let is : c.match-begin.kept.items ≡ w.in-Ok.entry ∷ [] = ap (λ (v : _). v.items) w.kept-is ∙ (w.in_ok-push-in-Ok.ensures.items ∙ ap (λ (es : List DirEntry). es ++ w.in-Ok.entry ∷ []) c.new-kept.ensures.items) in
          subst P (sym w.answer-is) (root_begun s now sorts by inside new lying level w.in-Ok.entry rest l h (ap reverse is) (w.in-Ok.ensures.begun tells) (w.in-Ok.ensures.device tells))
      | in-Err+in_ok-named-in-Err w ↦
          let is : c.match-begin.kept.items ≡ [] = ap (λ (v : _). v.items) w.kept-is ∙ c.new-kept.ensures.items in
          let failed = w.in_ok-named-in-Err.field-0 in
          let F : Error → Type 0 = CannotBegin g.D.Disk.tells s now inside.options inside.root in
          let cause = subst F (sym w.in_ok-named-in-Err.ensures.same) w.in-Err.ensures.failed in
          let T : Bool → Type 0 = λ t. CannotBegin t s now inside.options inside.root failed in
          subst P (sym w.answer-is) (root_failed s now sorts by inside new lying level failed rest l h (ap reverse is) is (b.device_kept tells) w.in_ok-named-in-Err.ensures.named (subst T tells cause))
    ]

pub returns-clause-sound : goal.returns-clause-sound
returns-clause-sound g c =
    let b = c.begin.ensures in
    let level : Level = record { folder = None; first = None; entries = Kept c.match-begin.kept; faults = c.new.result } in
    root_sound (g.D.Disk.state c.args.disk.now) (g.D.Disk.state c.begin.new.disk) g.S.Order.sorts c.args.inside.now c.begin.new.inside level b.same c.requires.sound b.lists (λ number. tt) refl (all_at g c) tt

pub returns-clause-keeps : goal.returns-clause-keeps
returns-clause-keeps g c = λ lying lies.
    let b = c.begin.ensures in
    let level : Level = record { folder = None; first = None; entries = Kept c.match-begin.kept; faults = c.new.result } in
    root_keeps (g.D.Disk.state c.args.disk.now) (g.D.Disk.state c.begin.new.disk) (g.S.Order.sorts c.args.inside.now.order) c.args.inside.now c.begin.new.inside lying level b.same lies.unread c.requires.sound b.lists (λ number. tt) refl (all_at g c) b.tree b.faults

at_most_one : (g : _) (c : goal.Joined-inside g) → length c.match-begin.kept.items ≤ 1
at_most_one g c =
    elim c.match-begin.branch [
      | in-Ok+in_ok-push-in-Ok w ↦
          let a = ap (λ (v : _). length v.items) w.kept-is in
          let b = ap length w.in_ok-push-in-Ok.ensures.items in
          let d = ap (λ (es : List DirEntry). length (es ++ w.in-Ok.entry ∷ [])) c.new-kept.ensures.items in
          omega (arith, a, b, d)
      | in-Err+in_ok-named-in-Err w ↦
          let a = ap (λ (v : _). length v.items) w.kept-is in
          let b = ap length c.new-kept.ensures.items in
          omega (arith, a, b)
    ]

pub returns-clause-less : goal.returns-clause-less
returns-clause-less g c = λ lying lies.
    let b = c.begin.ensures in
    let level : Level = record { folder = None; first = None; entries = Kept c.match-begin.kept; faults = c.new.result } in
    let one = at_most_one g c in
    root_less (g.D.Disk.state c.args.disk.now) (g.D.Disk.state c.begin.new.disk) c.args.inside.now c.begin.new.inside lying level b.same lies b.lists refl c.new.ensures.items refl (omega (arith, one))

top_at : (g : _) (c : goal.Joined-inside g) (answer : Option Item) → IsEnteredBy answer (Some (record { folder = None; first = None; entries = Kept c.match-begin.kept; faults = c.new.result }))
top_at g c answer = top_not answer (record { folder = None; first = None; entries = Kept c.match-begin.kept; faults = c.new.result }) (λ e. cc e)

pub returns-clause-caused : goal.returns-clause-caused
returns-clause-caused g c =
    let s = g.D.Disk.state c.args.disk.now in
    let now = g.D.Disk.state c.begin.new.disk in
    let inside = c.args.inside.now in
    let level : Level = record { folder = None; first = None; entries = Kept c.match-begin.kept; faults = c.new.result } in
    let new = with_top c.begin.new.inside level in
    let P : Option Item → Type 0 = λ answer. IsCaused g.D.Disk.tells s now answer new in
    elim c.match-begin.branch [
      | in-Ok+in_ok-push-in-Ok w ↦ subst P (sym w.answer-is) (caused_none g.D.Disk.tells s now new)
      | in-Err+in_ok-named-in-Err w ↦
          let failed = w.in_ok-named-in-Err.field-0 in
          let F : Error → Type 0 = CannotBegin g.D.Disk.tells s now inside.options inside.root in
          let cause = subst F (sym w.in_ok-named-in-Err.ensures.same) w.in-Err.ensures.failed in
          subst P (sym w.answer-is) (caused_begin g.D.Disk.tells s now inside.options inside.root failed new cause (top_at g c (Some (Err failed))))
    ]

pub returns-clause-counted : goal.returns-clause-counted
returns-clause-counted g c =
    let s = g.D.Disk.state c.args.disk.now in
    let now = g.D.Disk.state c.begin.new.disk in
    let inside = c.args.inside.now in
    let b = c.begin.ensures in
    let level : Level = record { folder = None; first = None; entries = Kept c.match-begin.kept; faults = c.new.result } in
    let new = with_top c.begin.new.inside level in
    let stack : levels_of new ≡ inside.stack.items ++ level ∷ [] = ap (λ (i : _). i.stack.items ++ level ∷ []) b.same in
    let same : faults_due (levels_of new) ≡ faults_due inside.stack.items = (let e = ap faults_due stack in let d = due_snoc inside.stack.items level in let n = ap length c.new.ensures.items in omega (arith, e, d, n)) in
    let later = b.faults in
    let P : Option Item → Type 0 = λ answer. CountsFaults (faults_told g.D.Disk.tells answer) s inside.stack.items now (levels_of new) in
    elim c.match-begin.branch [
      | in-Ok+in_ok-push-in-Ok w ↦ subst P (sym w.answer-is) (counts_same 0 s now inside.stack.items (levels_of new) same (inl (omega (arith, later))))
      | in-Err+in_ok-named-in-Err w ↦
          let failed = w.in_ok-named-in-Err.field-0 in
          let F : Error → Type 0 = CannotBegin g.D.Disk.tells s now inside.options inside.root in
          let cause = subst F (sym w.in_ok-named-in-Err.ensures.same) w.in-Err.ensures.failed in
          subst P (sym w.answer-is) (counts_same (faults_told g.D.Disk.tells (Some (Err failed))) s now inside.stack.items (levels_of new) same (begin_allowed g.D.Disk.tells s now inside.options inside.root failed later cause))
    ]

pub returns-clause-listed_each : goal.returns-clause-listed_each
returns-clause-listed_each g c =
    let s = g.D.Disk.state c.args.disk.now in
    let now = g.D.Disk.state c.begin.new.disk in
    let xs = c.args.inside.now.stack.items in
    let b = c.begin.ensures in
    let level : Level = record { folder = None; first = None; entries = Kept c.match-begin.kept; faults = c.new.result } in
    let new = with_top c.begin.new.inside level in
    let stack : levels_of new ≡ xs ++ level ∷ [] = ap (λ (i : _). i.stack.items ++ level ∷ []) b.same in
    let same = b.lists.listed in
    let P : Option Item → Type 0 = λ answer. GivesListed (gives_below answer) s xs now (levels_of new) in
    elim c.match-begin.branch [
      | in-Ok+in_ok-push-in-Ok w ↦ subst P (sym w.answer-is) (gives_root 0 s now xs (levels_of new) level stack refl refl refl (omega (arith, same)))
      | in-Err+in_ok-named-in-Err w ↦ subst P (sym w.answer-is) (gives_root 0 s now xs (levels_of new) level stack refl refl refl (omega (arith, same)))
    ]

-- ---- what is read

pub returns-clause-read : goal.returns-clause-read
returns-clause-read g c = record { level = record { folder = None; first = None; entries = Kept c.match-begin.kept; faults = c.new.result }; on_top = refl; read = tt; first = refl }

pub returns-clause-failed : goal.returns-clause-failed
returns-clause-failed g c =
    let P : Option Item → Type 0 = λ answer. IfSome answer IsErr in
    elim c.match-begin.branch [ in-Ok+in_ok-push-in-Ok w ↦ subst P (sym w.answer-is) tt | in-Err+in_ok-named-in-Err w ↦ subst P (sym w.answer-is) refl ]

pub returns-clause-kept : goal.returns-clause-kept
returns-clause-kept g c = λ lying lies.
    let s = g.D.Disk.state c.args.disk.now in
    let now = g.D.Disk.state c.begin.new.disk in
    let xs = c.args.inside.now.stack.items in
    let b = c.begin.ensures in
    let level : Level = record { folder = None; first = None; entries = Kept c.match-begin.kept; faults = c.new.result } in
    let one = at_most_one g c in
    let same = b.lists.listed in
    let own : kept_of lying.entries lying.folder ≡ 1 = rw (lies.unread, lies.folder_is) refl in
    let stack : levels_of (with_top c.begin.new.inside level) ≡ xs ++ level ∷ [] = ap (λ (i : _). i.stack.items ++ level ∷ []) b.same in
    let P : List Level → Type 0 = λ levels. KeepsListed s (xs ++ lying ∷ []) now levels in
    subst P (sym stack) (kept_top s now xs lying level (omega (arith, one, same, own)))
