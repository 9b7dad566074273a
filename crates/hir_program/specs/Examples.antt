-- What worked examples speak of.
use Rattle.std.specs.Prelude.{ℕ, ◌==◌, ◌||◌, Bool, List, [], ◌∷◌, map, if◌then◌else◌}
use Rattle.std.specs.List.{range_with_len}
use Rattle.hir_program.specs.declared.scan.required.Required.{Required}
use Rattle.hir_program.specs.declared.spot.Spot.{Spot}
use Rattle.hir_program.specs.declared.spot.Spot.TheVariants as spot

-- a table that holds for the byte `a` alone
abbrev pub of_a : List Bool
of_a = map (λ b. b == 97) (range_with_len 0 256)

-- the program of `[ab]c`
abbrev pub a_or_b_then_c : List Spot
a_or_b_then_c = spot.Bytes 1 ((97, 98) ∷ []) ∷ spot.Bytes 2 ((99, 99) ∷ []) ∷ spot.Match ∷ []

-- which of its spots take a byte: bit 0 is that of `[ab]`, bit 1 that of `c`
abbrev pub takers : List ℕ
takers = map (λ b. if b == 97 || b == 98 then 1 else (if b == 99 then 2 else 0)) (range_with_len 0 256)

-- some of its spots, of which each match passes one, where these may be tried before
abbrev pub required : ℕ → ℕ → Required
required spots before = record { spots = spots; before = before }
