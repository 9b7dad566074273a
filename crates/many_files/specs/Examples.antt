-- What worked examples speak of.
use Rattle.std.specs.Prelude.{ℕ, List, [], ◌∷◌, codes, Some, None}
use Rattle.sd_io.specs.Tree.{NameList}
use Rattle.file_rewrite.specs.declared.fault.JobFault.TheVariants as job
use Rattle.many_files.specs.Turns.{Turn}

abbrev pub b_place : NameList
b_place = codes "t" ∷ codes "b.md" ∷ []

abbrev pub x_path : List ℕ
x_path = codes "/t/a/x"

abbrev pub y_path : List ℕ
y_path = codes "/t/b/y"

abbrev pub x_place : NameList
x_place = codes "t" ∷ codes "a" ∷ codes "x" ∷ []

abbrev pub no_name_for_x : Turn
no_name_for_x = record { path = x_path; place = x_place; fault = Some job.TempName; left = None }

abbrev pub y_is_done : Turn
y_is_done = record { path = y_path; place = codes "t" ∷ codes "b" ∷ codes "y" ∷ []; fault = None; left = None }
