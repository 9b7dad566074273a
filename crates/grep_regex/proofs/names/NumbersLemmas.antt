-- The number of a name's group.
use Rattle.std.proofs.Common.{◌≡◌, ℕ, Bool, true, false, cond, List, [], ◌∷◌, Option, Some, refl}
use Rattle.std.specs.Prelude.{option_map}
use Rattle.std.specs.List.{find}
use Rattle.std.specs.Str.{bytes_eq}
use Rattle.grep_regex.specs.Matching.{with_numbers}
use Rattle.grep_regex.specs.Options.{number_of}
use Rattle.grep_regex.specs.declared.names.Named.{Named}

-- it has the name
abbrev pub is_named : List ℕ → Named → Bool
is_named name named = bytes_eq named.name name

-- the number of a name is that of the first group that has it
pub number-first : (names : List Named) (name : List ℕ) → number_of (with_numbers names) name ≡ option_map (λ named. named.group) (find (is_named name) names)
number-first [] name = refl
number-first (first ∷ rest) name = cases (is_named name first) (number_of (with_numbers rest) name) (find (is_named name) rest) (number-first rest name)
  where
    cases : (b : Bool) (more : Option ℕ) (found : Option Named) → more ≡ option_map (λ named. named.group) found
        → cond b (Some first.group) more ≡ option_map (λ named. named.group) (cond b (Some first) found)
    cases true more found same = refl
    cases false more found same = same
