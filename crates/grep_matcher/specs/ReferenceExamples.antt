-- Groups for the worked examples.
use Rattle.std.specs.Prelude.{ℕ, ◌==◌, List, [], Option, Some, None, codes, if◌then◌else◌}
use Rattle.std.specs.Str.{bytes_eq}

-- the group 2 is `xxx`, and any other is empty
abbrev pub texts : ℕ → List ℕ
texts i = if i == 2 then codes "xxx" else []

-- the group 2 is named `foo`
abbrev pub numbers : List ℕ → Option ℕ
numbers name = if bytes_eq name (codes "foo") then Some 2 else None
