-- Where lines start, and what the pattern that asks for that alone finds.
use Rattle.std.specs.Prelude.{ℕ, List, [], Option, Some, None, if◌then◌else◌}
use Rattle.hir_tree.specs.Looks.{holds}
use Rattle.hir_tree.specs.PlainText.{text_groups}
use Rattle.hir_tree.specs.declared.look.Look.TheVariants.{StartLF}

-- the place, where a line starts there
abbrev pub line_start_at : List ℕ → ℕ → Option ℕ
line_start_at text at = if holds StartLF text at then Some at else None

-- the groups of an empty match at the place, where a line starts there
abbrev pub line_start_found : ℕ → List ℕ → ℕ → Option (List (Option (ℕ × ℕ)))
line_start_found groups text at = if holds StartLF text at then Some (text_groups [] groups at) else None
