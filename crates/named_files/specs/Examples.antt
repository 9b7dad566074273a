-- What worked examples speak of.
use Rattle.std.specs.Prelude.{ℕ, List, codes}

abbrev pub a_path : List ℕ
a_path = codes "/t/a.txt"

abbrev pub b_path : List ℕ
b_path = codes "/t/b.md"
