-- Orders of entries.
use Rattle.std.specs.Prelude.{◌≡◌, refl}
use Rattle.std.specs.Borrow.{Bor}
use Rattle.std.specs.Fn.{Shared, FnReturnsAt, FnReturnsAtPair}
use Rattle.std.specs.Ordering.{on}
use Rattle.std.specs.declared.cmp.Ordering.{Ordering}
use Rattle.std.specs.declared.cmp.Ordering.TheVariants.{Equal}
use Rattle.std.specs.Cmp.{IsTotalOrder, nat_cmp_total}
use Rattle.std.specs.Cmp.Lexicographic.{lists_total}
use Rattle.std.proofs.Common.{sym, subst}
use Rattle.std.proofs.lemmas.Cmp.{on_total}
use Rattle.walk_rest.specs.declared.entry.DirEntry.{DirEntry}
use Rattle.walk_rest.specs.Plan.{Comparison}
use Rattle.walk_rest.specs.Names.{file_name, by_file_name}

-- a closure gives this key of each entry
abbrev pub GivesKey : {F K : Type 0} → Shared F (Bor DirEntry × Unit {0}) K → F → (DirEntry → K) → Type 0
GivesKey g f key = (entry : DirEntry) (k : _) → FnReturnsAt g f entry k → k ≡ key entry

-- a closure compares entries so
abbrev pub ComparesBy : {F : Type 0} → Shared F (Bor DirEntry × (Bor DirEntry × Unit {0})) Ordering → F → Comparison → Type 0
ComparesBy g f by = (a b : DirEntry) (answer : Ordering) → FnReturnsAtPair g f a b answer → answer ≡ by a b

-- ---- each is a total preorder

abbrev IsTotal : Comparison → Type 0
IsTotal by = IsTotalOrder by

-- all entries alike
pub alike_total : (by : Comparison) → by ≡ (λ a b. Equal) → IsTotalOrder by
alike_total by is = subst IsTotal (sym is) (record { antisymm = λ x y. refl; trans = λ x y z less more. less; congr = λ x y z same. refl })

pub by_file_name_total : (by : Comparison) → by ≡ by_file_name → IsTotalOrder by
by_file_name_total by is = subst IsTotal (sym is) (on_total (λ (entry : DirEntry). file_name entry.path) (lists_total nat_cmp_total))

pub by_key_total : {F K : Type 0} {g : Shared F (Bor DirEntry × Unit {0}) K} {f : F} {cmp : K → K → Ordering} → IsTotalOrder cmp → (by : Comparison)
    → (key : DirEntry → K) × GivesKey g f key × (by ≡ on key cmp) → IsTotalOrder by
by_key_total total by is = subst IsTotal (sym is.2) (on_total is.0 total)
