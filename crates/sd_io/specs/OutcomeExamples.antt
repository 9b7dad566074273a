-- Files and folders in which the examples of outcomes are.
use Rattle.std.specs.Prelude.{List, [], ◌∷◌, Option, Some, None, codes, if◌then◌else◌}
use Rattle.sd_io.specs.Tree.{NameList, Content, directory, file, Node}
use Rattle.sd_io.specs.Outcomes.{gone, this, any_file, Outcome, own, older, Outcomes, never_used, built, put, same_place, after_create, after_write, after_sync}

abbrev pub node : Content → Node
node content = record { content = content; dev = 1; ino = 1 }

abbrev pub old_file : Node
old_file = node (file (codes "old") 416)

abbrev pub new_file : Node
new_file = node (file (codes "new") 416)

abbrev pub the_folder : NameList
the_folder = codes "t" ∷ []

abbrev pub the_file : NameList
the_file = codes "t" ∷ codes "a" ∷ []

abbrev pub aside : NameList
aside = codes "t" ∷ codes "b" ∷ []

-- one file was built
abbrev pub at_first : Outcomes
at_first = put the_file (built old_file) (put the_folder (built (node directory)) (λ q. never_used))

-- a new file was written beside it
abbrev pub filled : Outcomes
filled = after_write aside (after_create aside at_first)

-- and put on the medium
abbrev pub filled_and_synced : Outcomes
filled_and_synced = after_sync aside new_file filled

-- the folder where the new file has taken the place of the old one
abbrev pub exchanged : NameList → Option Node
exchanged q = if same_place q aside then None else if same_place q the_file then Some new_file else Some (node directory)

-- three outcomes of one place
abbrev pub left_three : List Outcome
left_three = older gone ∷ own any_file ∷ own (this new_file) ∷ []
