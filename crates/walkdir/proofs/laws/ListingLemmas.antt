-- Walks that run out, and listings.
use Rattle.std.proofs.Common.{◌≡◌, ◌≢◌, ◌≤◌, ◌⊎◌, ℕ, zero, suc, Bool, List, [], ◌∷◌, Option, Some, None, Err, refl, sym, subst, ap, arith, inl, inr}
use Rattle.std.specs.Prelude.{IsTrue, All}
use Rattle.std.proofs.lemmas.List.Elements.{All-head, All-tail}
use Rattle.sd_io.specs.Count.{HasRisen}
use Rattle.sd_io.specs.Disk.{DiskState}
use Rattle.sd_io.specs.Tree.{Tree}
use Rattle.walk_rest.specs.declared.entry.DirEntry.{DirEntry}
use Rattle.walk_rest.specs.declared.error.Error.TheVariants as error
use Rattle.walk_rest.specs.declared.level.Folder.{Folder}
use Rattle.walk_rest.specs.Level.{IsAllowed}
use Rattle.walk_rest.specs.Listing.{Beginning, ends, begins, beginning, IsBegun, IsRootPlan}
use Rattle.walk_rest.specs.Plan.{Comparison, Item, Manner, Plan, done, past, into, IsContents, IsPlan}
use Rattle.walk_rest.specs.Rest.{IsStep, Rest, Runs}
use Rattle.walk_steps.specs.declared.inside.Inside.{Inside}
use Rattle.walk_steps.specs.Inside.{HasRest}
use Rattle.walk_steps.specs.Steps.{StepsTo}
use Rattle.walkdir.specs.Calls.{RunsOut, ended, went_on}

-- ---- a walk that runs out

no_cut : (cuts a b : ℕ) → IsAllowed cuts a b → (HasRisen a b → ⊥) → cuts ≡ 0
no_cut zero a b allowed none = refl
no_cut (suc n) a b (inl h) none = absurd (none (inl (omega (arith, h))))
no_cut (suc n) a b (inr h) none = absurd (none (inr h))

rises_later : (a b c : ℕ) → b ≤ c → HasRisen a b → HasRisen a c
rises_later a b c le (inl h) = inl (omega (arith, le, h))
rises_later a b c le (inr h) = inr (omega (arith, le, h))

rises_earlier : (a b c : ℕ) → a ≤ b → HasRisen b c → HasRisen a c
rises_earlier a b c le (inl h) = inl (omega (arith, le, h))
rises_earlier a b c le (inr h) = inr h

module _ {S : Type 0} where
  -- a step for which no failure came has no cut
  whole_step : (old new : DiskState) (sorts : Bool) (by : Comparison) (rest : Rest) (answer : Option Item) (now : Inside S) → (step : StepsTo old sorts by rest answer new now)
      → (HasRisen old.faults new.faults → ⊥) → IsStep 0 rest answer step.new
  whole_step old new sorts by rest answer now step none =
      subst (λ (cuts : ℕ). IsStep cuts rest answer step.new) (no_cut step.cuts old.faults new.faults step.allowed none) step.is_step

  runs_later : (tells : Bool) (sorts : S → Bool) (compares_by : S → Comparison → Type 0) (old new : DiskState) (before now : Inside S) (items : List Item)
      → RunsOut tells sorts compares_by old before items new now → old.faults ≤ new.faults
  runs_later tells sorts compares_by old new before now items (ended gives) = gives.faults
  runs_later tells sorts compares_by old new before now items (went_on {mid = mid} {between = between} {items = more} gives runs) =
      let a = gives.faults in let b = runs_later tells sorts compares_by mid new between now more runs in omega (arith, a, b)

  pub runs_out : (tells : Bool) (sorts : S → Bool) (compares_by : S → Comparison → Type 0) (old new : DiskState) (before now : Inside S) (items : List Item) (by : Comparison) (rest : Rest)
      → IsTrue tells → compares_by before.order by → HasRest old (sorts before.order) by before rest → RunsOut tells sorts compares_by old before items new now
      → (HasRisen old.faults new.faults → ⊥) → All (λ (item : Item). item ≢ Err error.NoMemory) items → Runs rest items
  runs_out tells sorts compares_by old new before now items by rest told compares has (ended gives) none named = at (gives.step told by rest compares has)
    where
      at : ◌≡◌ {A = Option Item} None (Some (Err error.NoMemory)) ⊎ StepsTo old (sorts before.order) by rest None new now → Runs rest []
      at (inl want) = absurd (cc want)
      at (inr step) = (step.new, whole_step old new (sorts before.order) by rest None now step none)
  runs_out tells sorts compares_by old new before now items by rest told compares has (went_on {mid = mid} {between = between} {item = item} {items = more} gives runs) none named =
      at (λ left has_left no_fault all_named. runs_out tells sorts compares_by mid new between now more by left told (subst (λ (order : S). compares_by order by) (sym gives.same.order) compares) has_left runs no_fault all_named)
      (gives.step told by rest compares has)
    where
      at : ((left : Rest) → HasRest mid (sorts between.order) by between left → (HasRisen mid.faults new.faults → ⊥)
          → All (λ (i : Item). i ≢ Err error.NoMemory) more → Runs left more)
          → ◌≡◌ {A = Option Item} (Some item) (Some (Err error.NoMemory)) ⊎ StepsTo old (sorts before.order) by rest (Some item) mid between → Runs rest (item ∷ more)
      at goes (inl want) = (let is : item ≡ Err error.NoMemory = cc want in absurd (All-head (λ (i : Item). i ≢ Err error.NoMemory) item more named is))
      at goes (inr step) = (
        step.new,
        whole_step old mid (sorts before.order) by rest (Some item) between step
            (λ risen. none (rises_later old.faults mid.faults new.faults (runs_later tells sorts compares_by mid new between now more runs) risen)),
        goes step.new (subst (λ (b : Bool). HasRest mid b by between step.new) (sym (ap sorts gives.same.order)) step.left)
            (λ risen. none (rises_earlier old.faults mid.faults new.faults gives.faults risen)) (All-tail (λ (i : Item). i ≢ Err error.NoMemory) item more named),
      )

-- ---- how many lists may be open

-- with another number of lists
abbrev opened : Manner → ℕ → Manner
opened manner most = record manner { options = record manner.options { max_open = most } }

contents_opened : (tree : Tree) (manner : Manner) (most : ℕ) (folder : Folder) (entries : List DirEntry) → IsContents tree manner folder entries
    → IsContents tree (opened manner most) folder entries
contents_opened tree manner most folder entries (inl deep) = inl deep
contents_opened tree manner most folder entries (inr lists) =
    inr (record { shallow = lists.shallow; listed = lists.listed; names = lists.names; ordered = lists.ordered })

plan_opened : (tree : Tree) (manner : Manner) (most : ℕ) (chain : List Folder) (entries : List DirEntry) (plan : Plan) → IsPlan tree manner chain entries plan
    → IsPlan tree (opened manner most) chain entries plan
plan_opened tree manner most chain [] done h = tt
plan_opened tree manner most chain [] (past path item plan) h = absurd h
plan_opened tree manner most chain [] (into folder before contents after plan) h = absurd h
plan_opened tree manner most chain (entry ∷ entries) done h = absurd h
plan_opened tree manner most chain (entry ∷ entries) (past path item plan) h = (h.0, h.1, plan_opened tree manner most chain entries plan h.2)
plan_opened tree manner most chain (entry ∷ entries) (into folder before contents after plan) h = (
  h.0,
  (h.1.0, contents_opened tree manner most folder h.1.0 h.1.1, plan_opened tree manner most (folder ∷ chain) h.1.0 contents h.1.2),
  plan_opened tree manner most chain entries plan h.2,
)

begun_opened : (tree : Tree) (manner : Manner) (most : ℕ) (root : List ℕ) (begun : Beginning) (plan : Plan) → IsBegun tree manner root begun plan
    → IsBegun tree (opened manner most) root begun plan
begun_opened tree manner most root (ends failed) plan h = h
begun_opened tree manner most root (begins entry) plan h = plan_opened tree manner most [] (entry ∷ []) plan h

pub root_opened : (tree : Tree) (manner : Manner) (most : ℕ) (root : List ℕ) (plan : Plan) → IsRootPlan tree manner root plan → IsRootPlan tree (opened manner most) root plan
root_opened tree manner most root plan h = begun_opened tree manner most root (beginning tree manner.options root) plan h
