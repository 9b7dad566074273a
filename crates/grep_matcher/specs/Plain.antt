-- Where a plain text stands.
use Rattle.std.specs.Prelude.{ℕ, ◌+◌, List, length, drop, Option, Some, None, nat_eq, if◌then◌else◌}
use Rattle.std.specs.List.{starts_with}

-- the end of `find` where it stands at a place
abbrev pub end_of_text : List ℕ → List ℕ → ℕ → Option ℕ
end_of_text haystack find place = if starts_with nat_eq (drop place haystack) find then Some (place + length find) else None
