-- Steps with the parts of a directory and the root.
use Rattle.std.proofs.Common.{◌≡◌, ℕ, List, [], ◌∷◌, ◌++◌, Option, None, refl, sym, ◌∙◌, ap}
use Rattle.walk_rest.specs.Plan.{Item, Plan}
use Rattle.walk_rest.specs.Rest.{Fault, Part, Rest, IsFaultIn, Cuts, Comes, ComesIn, Leaves, Moves, none, cut, come, leave, GivesFault, item_of_fault}

-- the upper part gives what is due next
pub comes_above : (root part : Part) (item : Option Item) (new : Rest) → part.faults ≡ [] → ComesIn (root ∷ []) part part.first part.left item new → Comes (root ∷ part ∷ []) item new
comes_above root part item new clean comes = record { below = root ∷ []; part = part; was = refl; faultless = clean; comes = comes }

-- it is cut
pub cuts_above : (root part : Part) (left : Plan) (fault : Fault) → IsFaultIn part.folder fault part.left left
    → Cuts (root ∷ part ∷ []) (root ∷ record part { left = left; faults = part.faults ++ fault ∷ [] } ∷ [])
cuts_above root part left fault met = record { below = root ∷ []; part = part; above = []; left = left; fault = fault; was = refl; met = met; now = refl }

-- its first fault is given
pub gives_above : (root part : Part) (fault : Fault) (after : List Fault) → part.faults ≡ fault ∷ after
    → GivesFault (root ∷ part ∷ []) (item_of_fault fault) (root ∷ record part { faults = after } ∷ [])
gives_above root part fault after due =
    record { below = root ∷ []; part = part; above = []; before = []; fault = fault; after = after; was = refl; due = due; given = refl; now = refl }

-- ---- where faults of the topmost part are due, nothing comes

abbrev pub top_faults : Rest → List Fault
top_faults [] = []
top_faults (part ∷ []) = part.faults
top_faults (part ∷ next ∷ parts) = top_faults (next ∷ parts)

top_snoc : (parts : Rest) (part : Part) → top_faults (parts ++ part ∷ []) ≡ part.faults
top_snoc [] part = refl
top_snoc (next ∷ []) part = refl
top_snoc (next ∷ more ∷ parts) part = top_snoc (more ∷ parts) part

pub no_item : (old : Rest) (item : Option Item) (new : Rest) (fault : Fault) (faults : List Fault) → top_faults old ≡ fault ∷ faults → Comes old item new → ⊥
no_item old item new fault faults due comes =
    let none_due : fault ∷ faults ≡ [] = sym due ∙ (ap top_faults comes.was ∙ (top_snoc comes.below comes.part ∙ comes.faultless)) in absurd (cc none_due)

no_leave : (old new : Rest) (fault : Fault) (faults : List Fault) → top_faults old ≡ fault ∷ faults → Leaves old new → ⊥
no_leave old new fault faults due leaves =
    let none_due : fault ∷ faults ≡ [] = sym due ∙ (ap top_faults leaves.was ∙ (top_snoc new leaves.part ∙ leaves.spent.faults)) in absurd (cc none_due)

-- no move without a cut
pub still : (n : ℕ) (old new : Rest) (fault : Fault) (faults : List Fault) → n ≡ 0 → top_faults old ≡ fault ∷ faults → Moves n old new → top_faults new ≡ fault ∷ faults
still n old new fault faults e due none = due
still n old new fault faults e due (cut moves cuts) = absurd (cc e)
still n old new fault faults e due (come {mid = mid} moves comes) = absurd (no_item mid None new fault faults (still n old mid fault faults e due moves) comes)
still n old new fault faults e due (leave {mid = mid} moves leaves) = absurd (no_leave mid new fault faults (still n old mid fault faults e due moves) leaves)
