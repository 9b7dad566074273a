-- A turn of a walk: its parts, one after the other.
use Rattle.std.proofs.Common.{◌≡◌, ◌≢◌, ◌<◌, ◌+◌, ◌≤◌, ℕ, Bool, true, false, Option, None, Some, Result, Ok, Err, inr, refl, sym, subst, ◌∙◌, ap, arith}
use Rattle.std.specs.Prelude.{IfNone, IfOk, IsErr, IsTrue, OnOk}
use Rattle.std.specs.declared.cmp.Ordering.{Ordering}
use Rattle.sd_io.specs.Count.{HasRisen}
use Rattle.sd_io.specs.Disk.{DiskState}
use Rattle.walk_rest.specs.declared.entry.DirEntry.{DirEntry}
use Rattle.walk_rest.specs.declared.error.Error.{Error}
use Rattle.walk_rest.specs.declared.error.Error.TheVariants as error
use Rattle.walk_rest.specs.declared.level.Level.{Level}
use Rattle.walk_rest.specs.declared.options.Options.{Options}
use Rattle.walk_rest.specs.Plan.{Comparison, Item}
use Rattle.walk_rest.specs.Rest.{Rest}
use Rattle.walk_steps.specs.declared.inside.Inside.{Inside}
use Rattle.walk_steps.specs.Causes.{CountsFaults, FitsTree, IsCaused, faults_told}
use Rattle.walk_steps.specs.Inside.{HasRest, IsRead, levels_of}
use Rattle.walk_steps.specs.Listed.{GivesAtOnce, GivesListed, HasRoom, IsToListOnTop, IsTopSettled, gives_below}
use Rattle.walk_steps.specs.Progress.{HasReadTop, IsTurn, IsTurnPart, KeepsListed, Progresses, first_of}
use Rattle.walk_steps.specs.Sound.{IsSound, KeepsWalk, open_limit}
use Rattle.walk_steps.specs.Steps.{ByEachRest, MovesTo, TurnsTo}
use Rattle.walk_steps.specs.Work.{left_to_do}
use Rattle.walk_steps.proofs.next.CauseLemmas.{caused_later, counts_on}
use Rattle.walk_steps.proofs.next.ListedLemmas.{risen_from, risen_on, settled_read, to_list_none}
use Rattle.walk_steps.proofs.next.StepLemmas.{moves_last, moves_more}
use Rattle.walk_steps.proofs.take.ProgressLemmas.{progress_on}
use Rattle.walk_steps.proofs.take.WaitsLemmas.{gives_on}

-- what was read has nothing to list on top
pub read_settled : (n : ℕ) (top : Option Level) → HasReadTop top → IsTopSettled n top
read_settled n top r = let T : Option Level → Type 0 = λ t. IsTopSettled n t in subst T (sym r.on_top) (settled_read n r.level.folder r.level.entries r.read)

-- nor does anything of a left directory come first
read_first : (top : Option Level) → HasReadTop top → first_of top ≡ None
read_first top r = ap first_of r.on_top ∙ r.first

-- what is on top was read
abbrev IsReadOn : Option Level → Type 0
IsReadOn None = ⊥
IsReadOn (Some level) = IsRead level.entries

pub top_read : (top : Option Level) (level : Level) → HasReadTop top → top ≡ Some level → IsRead level.entries
top_read top level r is = subst IsReadOn is (subst IsReadOn (sym r.on_top) r.read)

pub top_stands : (top : Option Level) → HasReadTop top → top ≡ None → ⊥
top_stands top r none = cc (r.on_top, none)

-- an answer that is an error
pub error_given : (item : Item) → IsErr item → (failed : Error) × (◌≡◌ {A = Option Item} (Some item) (Some (Err failed)))
error_given (Ok entry) h = let e : false ≡ true = h in absurd (cc e)
error_given (Err failed) h = (failed, refl)

listed_on : (answer : Option Item) (a b c : ℕ) → b ≡ a → IfNone answer (c ≡ b) → IfNone answer (c ≡ a)
listed_on None a b c e h = h ∙ e
listed_on (Some item) a b c e h = tt

module _ {S : Type 0} where
  turned_more : (s0 s now : DiskState) (sorts : Bool) (by : DirEntry → DirEntry → Ordering) (mid new : Inside S) (rest : Rest) (answer : Option Item) → s0.faults ≤ s.faults → s.faults ≤ now.faults
      → (m : MovesTo s0 sorts by rest s mid) → TurnsTo s sorts by m.new answer now new → TurnsTo s0 sorts by rest answer now new
  turned_more s0 s now sorts by mid new rest None le lf m k = moves_more s0 s now sorts by mid new rest le lf m k
  turned_more s0 s now sorts by mid new rest (Some item) le lf m k = moves_last s0 s now sorts by mid new rest (Some item) le lf m k

  -- what holds of each answer that comes
  pub part_ok : {E : Type 0} (tells : Bool) (sorts : S → Bool) (compares_by : S → Comparison → Type 0) (s now : DiskState) (before new : Inside S) (result : Result (Option Item) E)
      → ByEachRest tells compares_by s (sorts before.order) before (λ by rest. IfOk result (λ answer. TurnsTo s (sorts before.order) by rest answer now new))
      → IfOk result (λ answer. answer ≢ Some (Err error.NoMemory))
      → OnOk result (IsSound now (sorts new.order) new)
      → (FitsTree tells compares_by s (sorts before.order) before → IfOk result (λ answer. CountsFaults (faults_told tells answer) s (levels_of before) now (levels_of new)))
      → IfOk result (λ answer. IsCaused tells s now answer new)
      → IfOk result (λ answer. GivesListed (gives_below answer) s (levels_of before) now (levels_of new))
      → (GivesAtOnce before.options → IfOk result (λ answer. IfNone answer (IsTopSettled before.options.max_depth new.top)))
      → (sorts before.order ≡ false → GivesAtOnce before.options → HasRoom (open_limit before.options) before.options.max_depth before.stack.items before.top → IfOk result (λ answer. IfNone answer (now.listed ≡ s.listed)))
      → (IsTrue tells → (by : Comparison) (count : ℕ) → compares_by before.order by → sorts before.order ≡ true → IsToListOnTop s.tree before.options.max_depth before.top count → (HasRisen s.faults now.faults → ⊥)
      → OnOk result (now.listed ≡ s.listed + count))
      → OnOk result (left_to_do now new < left_to_do s before)
      → IfOk result (λ answer. IsTurnPart tells sorts compares_by s before answer now new)
  part_ok tells sorts compares_by s now before new (Ok answer) turns named sound counted caused each settles passes whole less =
      record { turns = turns; named = named; sound = sound; counted = counted; caused = caused; listed_each = each; settles = settles; passes = passes; listed_whole = whole; less = less }
  part_ok tells sorts compares_by s now before new (Err want) turns named sound counted caused each settles passes whole less = tt

  pub turn_ok : {E : Type 0} (tells : Bool) (sorts : S → Bool) (compares_by : S → Comparison → Type 0) (s now : DiskState) (before new : Inside S) (result : Result (Option Item) E)
      → IfOk result (λ answer. IsTurnPart tells sorts compares_by s before answer now new)
      → IfOk result (λ answer. Progresses (first_of before.top) s (levels_of before) answer now (levels_of new))
      → IfOk result (λ answer. IsTurn tells sorts compares_by s before answer now new)
  turn_ok tells sorts compares_by s now before new (Ok answer) part progress = record { part = part; progress = progress }
  turn_ok tells sorts compares_by s now before new (Err want) part progress = tt

  -- a level was read, and then what was due of it was taken
  read_then : (tells : Bool) (sorts : S → Bool) (compares_by : S → Comparison → Type 0) (s mid now : DiskState) (before inside new : Inside S) (answer : Option Item) → HasReadTop inside.top
      → KeepsWalk s before mid inside → mid.faults ≤ now.faults → IsTurnPart tells sorts compares_by s before None mid inside → IsTurnPart tells sorts compares_by mid inside answer now new
      → IsTurnPart tells sorts compares_by s before answer now new
  read_then tells sorts compares_by s mid now before inside new answer top keeps later first last =
      let order = keeps.same.order in
      let sorted = ap sorts order in
      let gave : GivesAtOnce before.options → GivesAtOnce inside.options = λ gives. subst GivesAtOnce (sym keeps.same.options) gives in
      let settled = read_settled inside.options.max_depth inside.top top in
      record {
        turns = λ told by rest same h.
            (let m = first.turns told by rest same h in
            let C : S → Type 0 = λ o. compares_by o by in
            let H : Bool → Type 0 = λ b. HasRest mid b by inside m.new in
            let T : Bool → Type 0 = λ b. TurnsTo mid b by m.new answer now new in
            turned_more s mid now (sorts before.order) by inside new rest answer keeps.faults later m (subst T sorted (last.turns told by m.new (subst C (sym order) same) (subst H (sym sorted) m.left))));
        named = last.named;
        sound = last.sound;
        counted = λ fits.
            (let there : FitsTree tells compares_by mid (sorts inside.order) inside = λ told.
            (let f = fits told in
            let m = first.turns told f.0 f.1 f.2 f.3 in
            let C : S → Type 0 = λ o. compares_by o f.0 in
            let H : Bool → Type 0 = λ b. HasRest mid b f.0 inside m.new in
            (f.0, m.new, subst C (sym order) f.2, subst H (sym sorted) m.left)) in
            counts_on (faults_told tells answer) s mid now (levels_of before) (levels_of inside) (levels_of new) later (first.counted fits) (last.counted there));
        caused = caused_later tells s mid now answer new keeps.faults last.caused;
        listed_each = gives_on (gives_below answer) s mid now (levels_of before) (levels_of inside) (levels_of new) first.listed_each last.listed_each;
        settles = λ gives. (let O : Options → Type 0 = λ o. IfNone answer (IsTopSettled o.max_depth new.top) in subst O keeps.same.options (last.settles (gave gives)));
        passes = λ unsorted gives room. listed_on answer s.listed mid.listed now.listed (first.passes unsorted gives room) (last.passes (sorted ∙ unsorted) (gave gives) (inr settled));
        listed_whole = λ told by count compares is to_list none.
            (let C : S → Type 0 = λ o. compares_by o by in
            let a = first.listed_whole told by count compares is to_list (λ risen. none (risen_on _ _ _ later risen)) in
            let b = last.listed_whole told by 0 (subst C (sym order) compares) (sorted ∙ is) (to_list_none mid.tree inside.options.max_depth inside.top settled) (λ risen. none (risen_from _ _ _ keeps.faults risen)) in
            omega (arith, a, b));
        less = let a = first.less in let b = last.less in omega (arith, a, b);
      }

  pub turn_on : (tells : Bool) (sorts : S → Bool) (compares_by : S → Comparison → Type 0) (s mid now : DiskState) (before inside new : Inside S) (answer : Option Item) → HasReadTop inside.top
      → KeepsWalk s before mid inside → KeepsListed s (levels_of before) mid (levels_of inside) → mid.faults ≤ now.faults → IsTurnPart tells sorts compares_by s before None mid inside
      → IsTurn tells sorts compares_by mid inside answer now new → IsTurn tells sorts compares_by s before answer now new
  turn_on tells sorts compares_by s mid now before inside new answer top keeps kept later first last = record {
    part = read_then tells sorts compares_by s mid now before inside new answer top keeps later first last.part;
    progress = progress_on (first_of before.top) (first_of inside.top) s mid now (levels_of before) (levels_of inside) (levels_of new) answer (read_first inside.top top) kept last.progress;
  }

  pub turns_on : {E : Type 0} (tells : Bool) (sorts : S → Bool) (compares_by : S → Comparison → Type 0) (s mid now : DiskState) (before inside new : Inside S) (result : Result (Option Item) E) → HasReadTop inside.top
      → KeepsWalk s before mid inside → KeepsListed s (levels_of before) mid (levels_of inside) → mid.faults ≤ now.faults → IsTurnPart tells sorts compares_by s before None mid inside
      → IfOk result (λ answer. IsTurn tells sorts compares_by mid inside answer now new) → IfOk result (λ answer. IsTurn tells sorts compares_by s before answer now new)
  turns_on tells sorts compares_by s mid now before inside new (Ok answer) top keeps kept later first last = turn_on tells sorts compares_by s mid now before inside new answer top keeps kept later first last
  turns_on tells sorts compares_by s mid now before inside new (Err want) top keeps kept later first last = tt
