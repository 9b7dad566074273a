-- A folder with two files that change, at moments of the change, and trees that no crash may leave.
use Rattle.std.specs.Prelude.{List, [], ◌∷◌, ◌++◌, codes}
use Rattle.sha2.specs.Sha256.{sha256}
use Rattle.sd_io.specs.Tree.{NameList, directory, file, Node, Tree}
use Rattle.sd_io.specs.Examples.{entry, tree_with}
use Rattle.journal_text.specs.declared.line.Line.{Line}
use Rattle.journal_text.specs.Journal.{text_of}
use Rattle.change_phases.specs.Between.{Work}

abbrev pub the_root : NameList
the_root = codes "t" ∷ []

abbrev pub x_place : NameList
x_place = codes "t" ∷ codes "x" ∷ []

abbrev pub y_place : NameList
y_place = codes "t" ∷ codes "y" ∷ []

abbrev pub x_stage : NameList
x_stage = codes "t" ∷ codes ".sd-0000.tmp" ∷ []

abbrev pub y_stage : NameList
y_stage = codes "t" ∷ codes ".sd-0001.tmp" ∷ []

abbrev pub journal_place : NameList
journal_place = codes "t" ∷ codes ".sd-journal" ∷ []

-- both files hold `one`
abbrev pub nodes_before : List (NameList × Node)
nodes_before =
    entry [] directory 1 ∷ entry the_root directory 2
    ∷ entry x_place (file (codes "one") 416) 3
    ∷ entry y_place (file (codes "one") 416) 4
    ∷ []

-- and are to hold `1`
abbrev pub the_work : Work
the_work = record { tree = tree_with nodes_before; root = the_root; files = (x_place, codes "1") ∷ (y_place, codes "1") ∷ [] }

abbrev pub the_lines : List Line
the_lines =
    record { digest = sha256 (codes "1"); number = 0; path = codes "/t/x" }
    ∷ record { digest = sha256 (codes "1"); number = 1; path = codes "/t/y" }
    ∷ []

-- what comes to stand there
abbrev pub x_new : NameList × Node
x_new = entry x_place (file (codes "1") 416) 7

abbrev pub y_new : NameList × Node
y_new = entry y_place (file (codes "1") 416) 8

abbrev pub x_staged : NameList × Node
x_staged = entry x_stage (file (codes "1") 416) 5

abbrev pub y_staged : NameList × Node
y_staged = entry y_stage (file (codes "1") 416) 6

abbrev pub the_journal : NameList × Node
the_journal = entry journal_place (file (text_of the_lines) 416) 9

-- the tree with these nodes in place of those before
abbrev pub with_nodes : List (NameList × Node) → Tree
with_nodes nodes = tree_with (nodes ++ nodes_before)

-- ---- moments of the change

abbrev pub one_stage : Tree
one_stage = with_nodes (entry x_stage (file (codes "?") 0) 5 ∷ [])

abbrev pub two_stages : Tree
two_stages = with_nodes (x_staged ∷ y_staged ∷ [])

abbrev pub named_journal : Tree
named_journal = with_nodes (x_staged ∷ y_staged ∷ the_journal ∷ [])

abbrev pub one_placed : Tree
one_placed = with_nodes (x_new ∷ x_staged ∷ y_staged ∷ the_journal ∷ [])

abbrev pub two_placed : Tree
two_placed = with_nodes (x_new ∷ y_new ∷ x_staged ∷ y_staged ∷ the_journal ∷ [])

abbrev pub removed_journal : Tree
removed_journal = with_nodes (x_new ∷ y_new ∷ x_staged ∷ y_staged ∷ [])

abbrev pub all_done : Tree
all_done = with_nodes (x_new ∷ y_new ∷ [])

-- ---- wrong trees

-- one file is new without a journal
abbrev pub half_without_journal : Tree
half_without_journal = with_nodes (x_new ∷ x_staged ∷ y_staged ∷ [])

-- a journal stands, and a stage doesn't
abbrev pub stage_missing : Tree
stage_missing = with_nodes (y_staged ∷ the_journal ∷ [])

-- or it holds other bytes
abbrev pub other_stage : Tree
other_stage = with_nodes (entry x_stage (file (codes "2") 416) 5 ∷ y_staged ∷ the_journal ∷ [])

-- a file is neither old nor new
abbrev pub other_file : Tree
other_file = with_nodes (entry x_place (file (codes "on") 416) 3 ∷ x_staged ∷ y_staged ∷ the_journal ∷ [])

-- a new file has another mode
abbrev pub other_mode : Tree
other_mode = with_nodes (entry x_place (file (codes "1") 0) 7 ∷ y_new ∷ [])

-- another file changed
abbrev pub another_file : Tree
another_file = with_nodes (entry (codes "t" ∷ codes "z" ∷ []) (file [] 416) 7 ∷ [])
