-- Walks over name lists on the stack.
use Rattle.std.proofs.Common.{◌≡◌, ◌≢◌, ◌<◌, ◌+◌, arith, length, ℕ, List, [], ◌∷◌, ◌++◌, refl, sym, ap, ◌∙◌, Bool, true, false, cond, not, suc}
use Rattle.std.specs.Prelude.{Option, Some, None, IfSome, option_map, ◌==◌}
use Rattle.std.specs.Str.{bytes_eq}
use Rattle.std.specs.Ordering.{is_eq}
use Rattle.std.specs.Cmp.Lexicographic.{pointwise, pointwise_decides, bytes_decides, lists_ties, texts_ties}
use Rattle.std.specs.Map.{lookup}
use Rattle.std.specs.BTreeMap.{is_at}
use Rattle.std.specs.Option.{option_and_then}
use Rattle.std.proofs.lemmas.Option.{same_Some}
use Rattle.std.proofs.lemmas.Bool.Decides.{nat_tests}
use Rattle.sd_io.specs.Tree.{NameList, Name, Content, directory, link, file, other, Node, Tree, name_cmp, name_list_cmp, node_at, is_directory_at, is_directory_node, is_directory_content, file_at, file_node}
use Rattle.sd_io.specs.Paths.{Linking, through_node, steps, parent_of, is_up, is_dropped, kept, pieces_of, pieces_left, parts_of, reached_plain, plain_file}
use Rattle.mem_io.specs.declared.trail.Trail.{Trail, Top, Below'}
use Rattle.mem_io.specs.MemTrail.{names_of, plain_node}
use Rattle.sd_io.proofs.PathLemmas.{no_last}

-- without its last name a place is its folder
pub parent_of-append : (folder : NameList) (name : Name) → parent_of (folder ++ name ∷ []) ≡ folder
parent_of-append [] name = refl
parent_of-append (first ∷ []) name = refl
parent_of-append (first ∷ next ∷ more) name = ap (λ (q : NameList). first ∷ q) (parent_of-append (next ∷ more) name)

-- name lists tie where they are the same
tests_same : (q p : NameList) → is_eq (name_list_cmp q p) ≡ pointwise bytes_eq q p
tests_same q p = sym (lists_ties name_cmp texts_ties q p)

-- what is left finds what all entries do: it finds the node of the entry at the name list
pub found_here : (q p : NameList) (node : Node) (left rest all : List (NameList × Node)) → left ≡ (p, node) ∷ rest → p ≡ q → lookup (is_at (name_list_cmp q)) left ≡ lookup (is_at (name_list_cmp q)) all
    → Some node ≡ lookup (is_at (name_list_cmp q)) all
found_here q p node left rest all is e finds =
    let d = pointwise_decides bytes_decides q p in
    sym (ap (λ b. cond b (Some node) (lookup (is_at (name_list_cmp q)) rest)) (tests_same q p ∙ d.1 (sym e))) ∙ ap (lookup (is_at (name_list_cmp q))) (sym is) ∙ finds

-- what is not true is false
not_true : (b : Bool) → b ≢ true → b ≡ false
not_true true n = absurd (n refl)
not_true false n = refl

-- and it does so after an entry elsewhere is passed over
pub passed_over : (q p : NameList) (node : Node) (left rest all : List (NameList × Node)) → left ≡ (p, node) ∷ rest → p ≢ q → lookup (is_at (name_list_cmp q)) left ≡ lookup (is_at (name_list_cmp q)) all
    → lookup (is_at (name_list_cmp q)) rest ≡ lookup (is_at (name_list_cmp q)) all
passed_over q p node left rest all is n finds =
    let d = pointwise_decides bytes_decides q p in
    sym (ap (λ b. cond b (Some node) (lookup (is_at (name_list_cmp q)) rest)) (tests_same q p ∙ not_true (pointwise bytes_eq q p) (λ e. n (sym (d.0 e))))) ∙ ap (lookup (is_at (name_list_cmp q))) (sym is) ∙ finds

-- a trail below the top has a name
pub below_top : (t : Trail) → t ≢ Top → names_of t ≢ []
below_top Top n e = n refl
below_top (Below' p before name) n e = no_last (names_of before) name.now e

-- the bytes that are left, and one
abbrev pub left_of : Option (List ℕ) → ℕ
left_of None = 0
left_of (Some text) = length text + 1

-- less is left after a part is cut
pub less_left : (rest more : Option (List ℕ)) (text : List ℕ) (t : ℕ) → left_of rest ≡ t → rest ≡ Some text → IfSome more (λ r. length r < length text) → left_of more < t
less_left rest None text t is e shorter = let h : length text + 1 ≡ t = ap left_of (sym e) ∙ is in omega arith
less_left rest (Some r) text t is e shorter = let h : length text + 1 ≡ t = ap left_of (sym e) ∙ is in omega arith

module _ (tree : Tree) (at : NameList) (part : Name) where
  -- no link is followed
  plain : Linking
  plain folder target rest = None

  -- the last part, by its content
  last_content : (c : Content) (dev ino : ℕ) → node_at tree (at ++ part ∷ []) ≡ Some (record { content = c; dev = dev; ino = ino })
      → option_and_then (node_at tree) (through_node plain (λ next. Some next) false at part [] (Some (record { content = c; dev = dev; ino = ino }))) ≡ Some (record { content = c; dev = dev; ino = ino })
  last_content directory dev ino e = e
  last_content (link target) dev ino e = e
  last_content (file bytes mode) dev ino e = e
  last_content other dev ino e = e

  -- the last part leads to what stands there, a link among it
  last_node : (o : Option Node) → node_at tree (at ++ part ∷ []) ≡ o → option_and_then (node_at tree) (through_node plain (λ next. Some next) false at part [] o) ≡ o
  last_node None e = refl
  last_node (Some node) e = last_content node.content node.dev node.ino e

  -- from what is no directory more parts lead nowhere
  stuck_node : (next : Name) (more : List Name) → is_directory_at tree (at ++ part ∷ []) ≡ false → option_and_then (node_at tree) (steps tree plain false (at ++ part ∷ []) (next ∷ more)) ≡ None
  stuck_node next more e = rw e

  -- more parts, by the content
  more_content : (next : Name) (more : List Name) (c : Content) (dev ino : ℕ) → is_directory_at tree (at ++ part ∷ []) ≡ is_directory_content c
      → option_and_then (node_at tree) (through_node plain (λ place. steps tree plain false place (next ∷ more)) false at part (next ∷ more) (Some (record { content = c; dev = dev; ino = ino })))
      ≡ option_and_then (node_at tree) (steps tree plain false (at ++ part ∷ []) (next ∷ more))
  unfolding plain
  more_content next more directory dev ino e = refl
  more_content next more (link target) dev ino e = sym (stuck_node next more e)
  more_content next more (file bytes mode) dev ino e = refl
  more_content next more other dev ino e = refl

  -- more parts lead on from a directory alone
  more_nodes : (next : Name) (more : List Name) (o : Option Node) → node_at tree (at ++ part ∷ []) ≡ o
      → option_and_then (node_at tree) (through_node plain (λ place. steps tree plain false place (next ∷ more)) false at part (next ∷ more) o) ≡ option_and_then (node_at tree) (steps tree plain false (at ++ part ∷ []) (next ∷ more))
  more_nodes next more None e = sym (stuck_node next more (ap is_directory_node e))
  more_nodes next more (Some node) e = more_content next more node.content node.dev node.ino (ap is_directory_node e)

  -- a name leads on from a directory, whether something stands there or not
  pub plain_down : (parts : List Name) → is_directory_at tree at ≡ true → is_up part ≡ false → plain_node tree at (part ∷ parts) ≡ plain_node tree (at ++ part ∷ []) parts
  unfolding plain
  plain_down [] folder down = rw (folder, down) (last_node (node_at tree (at ++ part ∷ [])) refl)
  plain_down (next ∷ more) folder down = rw (folder, down) (more_nodes next more (node_at tree (at ++ part ∷ [])) refl)

-- a part is cut that says something
pub next_part : (rest more : Option (List ℕ)) (text part : List ℕ) → rest ≡ Some text → pieces_of text ≡ part ∷ pieces_left more → is_dropped part ≡ false → kept (pieces_left rest) ≡ part ∷ kept (pieces_left more)
next_part rest more text part is pieces says = ap (λ r. kept (pieces_left r)) is ∙ ap kept pieces ∙ ap (λ b. cond (not b) (part ∷ kept (pieces_left more)) (kept (pieces_left more))) says

-- a file is that of the node
file_of_node : (tree : Tree) (place : Option NameList) → option_and_then (file_at tree) place ≡ file_node (option_and_then (node_at tree) place)
file_of_node tree None = refl
file_of_node tree (Some place) = refl

-- the file that a path leads to is that of the node that its parts lead to
pub plain_file_is : (tree : Tree) (path : List ℕ) (o : Option Node) → bytes_eq path [] ≡ false → o ≡ plain_node tree [] (kept (pieces_of path)) → file_node o ≡ plain_file tree path
unfolding reached_plain parts_of
plain_file_is tree path o some is =
    ap file_node is ∙ sym (file_of_node tree (steps tree (λ folder target rest. None) false [] (kept (pieces_of path))))
    ∙ sym (ap (λ b. option_and_then (file_at tree) (cond b None (steps tree (λ folder target rest. None) false [] (kept (pieces_of path))))) some)

-- the empty path leads to none
pub no_file : (tree : Tree) (path : List ℕ) → bytes_eq path [] ≡ true → plain_file tree path ≡ None
unfolding reached_plain
no_file tree path empty = ap (λ b. option_and_then (file_at tree) (cond b None (steps tree (λ folder target rest. None) false [] (parts_of path)))) empty

-- a list with an element has a length
no_length : (n : ℕ) → (suc n == 0) ≡ false
no_length n = grind (arith, nat_tests)

-- the test of emptiness
pub empty_path : (path : List ℕ) (t : Bool) → t ≡ (length path == 0) → bytes_eq path [] ≡ t
empty_path [] t e = sym e
empty_path (b ∷ path) t e = sym (e ∙ no_length (length path))

-- bytes and mode are those of one file, or there is none
pub both_parts : (f : Option (List ℕ × ℕ)) (bytes : List ℕ) (mode : ℕ) → Some bytes ≡ option_map (λ (f : List ℕ × ℕ). f.0) f → Some mode ≡ option_map (λ (f : List ℕ × ℕ). f.1) f → Some (bytes, mode) ≡ f
both_parts None bytes mode b m = cc
both_parts (Some f) bytes mode b m = λ i. Some (same_Some _ _ b i, same_Some _ _ m i)

-- without bytes there is no file
pub no_bytes : (f : Option (List ℕ × ℕ)) → None ≡ option_map (λ (f : List ℕ × ℕ). f.0) f → f ≡ None
no_bytes None e = refl
no_bytes (Some f) e = cc
