-- What worked examples speak of.
use Rattle.std.specs.Prelude.{ℕ, List, [], ◌∷◌, codes}
use Rattle.sd_io.specs.Tree.{NameList, directory, file, Node}
use Rattle.sd_io.specs.declared.fault.DiskFault.TheVariants as disk
use Rattle.walk_rest.specs.Examples.{entry}
use Rattle.file_rewrite.specs.Examples.{a_place}
use Rattle.file_rewrite.specs.declared.fault.JobFault.TheVariants as job
use Rattle.many_files.specs.Examples.{b_place}
use Rattle.many_files.specs.Jobs.{Job}

-- a directory `t` with the files `a.txt` and `b.md`
abbrev pub t_nodes : List (NameList × Node)
t_nodes =
    entry [] directory 0 1
    ∷ entry (codes "t" ∷ []) directory 0 2
    ∷ entry a_place (file (codes "one two one") 416) 0 3
    ∷ entry b_place (file (codes "one") 416) 0 4
    ∷ []

abbrev pub txt : List (List ℕ)
txt = codes "*.txt" ∷ []

-- the disk failed at the file of this path
abbrev pub failed_at : List ℕ → List Job
failed_at path = (path, job.File disk.Failed) ∷ []
