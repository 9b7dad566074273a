-- What worked examples speak of.
use Rattle.std.specs.Prelude.{ℕ, true, false, List, [], codes}
use Rattle.sd_plan.specs.Sha256.{sha256}
use Rattle.sd_plan.specs.declared.line.PlanLine.{PlanLine}

abbrev pub a_path : List ℕ
a_path = codes "/t/a.txt"

-- of a file in which `one` becomes `1`, twice
abbrev pub a_line : PlanLine
a_line = record { before = sha256 (codes "one two one"); after = sha256 (codes "1 two 1"); changed = true; replaced = 2; path = a_path }

-- of an empty file
abbrev pub empty_line : PlanLine
empty_line = record { before = sha256 []; after = sha256 []; changed = false; replaced = 0; path = a_path }
