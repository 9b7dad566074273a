-- Stamps of spots.
use Rattle.std.proofs.Common.{◌≡◌, ℕ, zero, suc, ◌+◌, ◌<◌, ◌≤◌, true, false, List, [], ◌∷◌, length, refl, ap, ap₂, eq-eqb, arith}
use Rattle.std.specs.Prelude.{◌==◌, replicate, slice_set, slice_index_or}
use Rattle.std.proofs.lemmas.Bool.{ne_eqb}
use Rattle.hir_core.specs.Pass.{was_visited}
use Rattle.hir_core.specs.Stamps.{visited_at, AllUpTo}

-- at the next stamp no spot was visited
pub next-unvisited : (now : ℕ) (stamps : List ℕ) → AllUpTo now stamps → visited_at (now + 1) stamps ≡ replicate (length stamps) false
next-unvisited now [] h = refl
next-unvisited now (s ∷ stamps) h =
    ap₂ (λ b bs. b ∷ bs) (ne_eqb s (now + 1) (λ e. omega (arith, h.0))) (next-unvisited now stamps h.1)

pub next-up_to : (now : ℕ) (stamps : List ℕ) → AllUpTo now stamps → AllUpTo (now + 1) stamps
next-up_to now [] h = tt
next-up_to now (s ∷ stamps) h = (omega (arith, h.0), next-up_to now stamps h.1)

-- nor is one where all stamps are 0
pub unset-unvisited : (n : ℕ) → visited_at 1 (replicate n 0) ≡ replicate n false
unset-unvisited zero = refl
unset-unvisited (suc n) = ap (λ bs. false ∷ bs) (unset-unvisited n)

pub unset-up_to : (n : ℕ) → AllUpTo 1 (replicate n 0)
unset-up_to zero = tt
unset-up_to (suc n) = (omega arith, unset-up_to n)

-- a visit sets the stamp
pub stamped-visited : (now : ℕ) (stamps : List ℕ) (q : ℕ) → visited_at now (slice_set stamps q now) ≡ slice_set (visited_at now stamps) q true
stamped-visited now [] q = refl
stamped-visited now (s ∷ stamps) zero = ap (λ b. b ∷ visited_at now stamps) (eq-eqb now now refl)
stamped-visited now (s ∷ stamps) (suc q) = ap (λ bs. (s == now) ∷ bs) (stamped-visited now stamps q)

pub stamped-up_to : (now : ℕ) (stamps : List ℕ) (q : ℕ) → AllUpTo now stamps → AllUpTo now (slice_set stamps q now)
stamped-up_to now [] q h = tt
stamped-up_to now (s ∷ stamps) zero h = (omega arith, h.1)
stamped-up_to now (s ∷ stamps) (suc q) h = (h.0, stamped-up_to now stamps q h.1)

-- the stamp of a spot says whether it was visited
pub stamp-says : (now : ℕ) (stamps : List ℕ) (q d : ℕ) → q < length stamps → was_visited (visited_at now stamps) q ≡ (slice_index_or stamps q d == now)
stamp-says now [] q d h = absurd (omega arith)
stamp-says now (s ∷ stamps) zero d h = refl
stamp-says now (s ∷ stamps) (suc q) d h = stamp-says now stamps q d (omega arith)

-- past the last spot none was visited
pub no-stamp : (now : ℕ) (stamps : List ℕ) (q : ℕ) → length stamps ≤ q → was_visited (visited_at now stamps) q ≡ false
no-stamp now [] q h = refl
no-stamp now (s ∷ stamps) zero h = absurd (omega arith)
no-stamp now (s ∷ stamps) (suc q) h = no-stamp now stamps q (omega arith)
