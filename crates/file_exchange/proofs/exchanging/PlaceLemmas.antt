-- Where a file's path leads, and that reserved names are names.
use Rattle.std.proofs.Common.{◌≡◌, ◌≢◌, ℕ, ◌+◌, ◌/◌, ◌%◌, Bool, true, false, cond, List, [], ◌∷◌, ◌++◌, refl, sym, ◌∙◌, ap, subst, arith, ltb}
use Rattle.std.specs.Prelude.{Option, Some, None, IsSome, IsTrue, All, codes}
use Rattle.std.specs.List.{AllByRecursion}
use Rattle.std.specs.Option.{option_and_then}
use Rattle.std.proofs.lemmas.List.Elements.{All-from_recursion, All-cons, All-append, All-contains}
use Rattle.sd_io.specs.Tree.{Name, NameList, Node, Tree, IsTree, IsName, Content, directory, link, file, other, node_at, is_directory_node, is_directory_content, is_directory_at, file_node, file_content, file_at}
use Rattle.sd_io.specs.Paths.{parts_of, parent_of, reached, named}
use Rattle.sd_io.specs.Files.{path_text, file_of}
use Rattle.sd_io.specs.Lists.{directory_of}
use Rattle.sd_io.proofs.PathLemmas.{reached_file}
use Rattle.sd_io.proofs.PathTextLemmas.{text_names, text_directory, names_of}
use Rattle.file_exchange.specs.Reserved.{hex_digit, reserved_name, Free, FirstFree, IsFolderPath}
use Rattle.file_exchange.specs.Exchange.{IsFilePath, IsPathIn}

pub some_not_none : {A : Type 0} (o : Option A) → IsSome o → o ≢ None
some_not_none None s = λ e. cc
some_not_none (Some x) s = λ e. cc

-- ---- one path, at which a file stands

-- the place that a path names, where a file stands
pub record IsFileAt (tree : Tree) (path : List ℕ) (place : NameList) : Type 0 where
  pub names : named tree path ≡ Some place
  pub is_file : IsSome (file_at tree place)

-- a path that names a file leads to one
pub leads_to_file : (tree : Tree) (path : List ℕ) (place : NameList) → IsFileAt tree path place → file_of tree path ≡ None → ⊥
leads_to_file tree path place at none =
    some_not_none (file_at tree place) at.is_file (sym (ap (option_and_then (file_at tree)) (reached_file tree path true place at.names at.is_file)) ∙ none)

-- ---- the file's place

-- a place below the top is a name in its parent
pub parent_and_name : (place : NameList) → place ≢ [] → (name : Name) × (place ≡ parent_of place ++ name ∷ [])
parent_and_name [] below = absurd (below refl)
parent_and_name (name ∷ []) below = (name, refl)
parent_and_name (name ∷ next ∷ more) below =
    let rest = parent_and_name (next ∷ more) (λ e. cc) in
    (rest.0, ap (λ (q : NameList). name ∷ q) rest.1)

not_both : (o : Option Node) → is_directory_node o ≡ true → IsSome (file_node o) → ⊥
not_both None d f = cc
not_both (Some node) d f = by node.content d f
  where
    by : (c : Content) → is_directory_content c ≡ true → IsSome (file_content c) → ⊥
    by directory d f = cc
    by (link target) d f = cc
    by (file bytes mode) d f = cc
    by other d f = cc

-- the name that a path ends in, and its folder
pub record IsBeside (tree : Tree) (path : List ℕ) : Type 0 where
  pub name : Name
  pub place_is : parts_of path ≡ parent_of (parts_of path) ++ name ∷ []
  pub is_name : IsName name
  pub folder : IsTrue (is_directory_at tree (parent_of (parts_of path)))
  pub text : path ≡ path_text (parent_of (parts_of path) ++ name ∷ [])

pub last_name : (folder : NameList) (name : Name) → AllByRecursion IsName (folder ++ name ∷ []) → IsName name
last_name [] name are = are.0
last_name (first ∷ folder) name are = last_name folder name are.1

pub is_beside : (tree : Tree) (path : List ℕ) → IsPathIn tree path → IsBeside tree path
is_beside tree path it =
    let last = parent_and_name (parts_of path) it.below_top in
    record {
      name = last.0;
      place_is = last.1;
      is_name = last_name (parent_of (parts_of path)) last.0 (subst (AllByRecursion IsName) last.1 it.are_names);
      folder = it.folder;
      text = it.path_is ∙ ap path_text last.1;
    }

file_stands : (o : Option Node) → IsSome (file_node o) → IsSome o
file_stands None f = f
file_stands (Some node) f = refl

-- where a file's path leads, and what it names
pub record IsPlaced (tree : Tree) (path : List ℕ) : Type 0 where
  pub name : Name
  pub place_is : parts_of path ≡ parent_of (parts_of path) ++ name ∷ []
  pub is_name : IsName name
  pub folder : IsTrue (is_directory_at tree (parent_of (parts_of path)))
  pub text : path ≡ path_text (parent_of (parts_of path) ++ name ∷ [])
  pub names : named tree path ≡ Some (parts_of path)
  pub leads : reached tree path true ≡ Some (parts_of path)

pub placed : (tree : Tree) (path : List ℕ) → IsTree tree → IsFilePath tree path → IsPlaced tree path
placed tree path is it =
    let place = parts_of path in
    let below : place ≢ [] = λ e. not_both (node_at tree []) is.top (subst (λ (q : NameList). IsSome (file_at tree q)) e it.is_file) in
    let last = parent_and_name place below in
    let stands : IsSome (node_at tree (parent_of place ++ last.0 ∷ [])) = subst (λ (q : NameList). IsSome (node_at tree q)) last.1 (file_stands (node_at tree place) it.is_file) in
    let is_name = is.names (parent_of place) last.0 stands in
    let folder = is.parents (parent_of place) last.0 stands in
    let text : path ≡ path_text (parent_of place ++ last.0 ∷ []) = it.path_is ∙ ap path_text last.1 in
    let names : named tree path ≡ Some place = ap (named tree) text ∙ text_names tree is (parent_of place) last.0 folder is_name ∙ ap (λ (q : NameList). Some q) (sym last.1) in
    record {
      name = last.0;
      place_is = last.1;
      is_name = is_name;
      folder = folder;
      text = text;
      names = names;
      leads = reached_file tree path true place names it.is_file;
    }

-- a file's path is one of a name in a directory
pub file_path_in : (tree : Tree) (path : List ℕ) → IsTree tree → IsFilePath tree path → IsPathIn tree path
file_path_in tree path is it = record {
  path_is = it.path_is;
  below_top = λ e. not_both (node_at tree []) is.top (subst (λ (q : NameList). IsSome (file_at tree q)) e it.is_file);
  are_names = names_of tree is (parts_of path) (file_stands (node_at tree (parts_of path)) it.is_file);
  folder = (placed tree path is it).folder;
}

-- its folder's path leads to the folder
pub folder_leads : (tree : Tree) (path folder : List ℕ) → IsTree tree → IsFilePath tree path → IsFolderPath path folder → directory_of tree folder ≡ Some (parent_of (parts_of path))
folder_leads tree path folder is it of =
    let at = placed tree path is it in
    ap (directory_of tree) (of (parent_of (parts_of path)) at.name at.text at.is_name.no_slash) ∙ text_directory tree (parent_of (parts_of path)) is at.folder

-- ---- reserved names are names

-- the first free name is one
pub is_free : {tree : Tree} {folder place : NameList} → FirstFree tree folder place → Free tree folder place
is_free first = record { reserved = first.reserved; free = first.free }

digit_no_slash : (n : ℕ) → hex_digit n ≢ 47
digit_no_slash n = by (ltb n 10)
  where
    by : (b : Bool) → cond b (48 + n) (87 + n) ≢ 47
    by true e = omega arith
    by false e = omega arith

IsOther : ℕ → Type 0
IsOther b = b ≢ 47

before_digits : All IsOther (codes ".sd-")
unfolding IsOther
before_digits = All-from_recursion IsOther (codes ".sd-") ((λ e. cc), ((λ e. cc), ((λ e. cc), ((λ e. cc), tt))))

after_digits : All IsOther (codes ".tmp")
unfolding IsOther
after_digits = All-from_recursion IsOther (codes ".tmp") ((λ e. cc), ((λ e. cc), ((λ e. cc), ((λ e. cc), tt))))

no_slash_reserved : (n : ℕ) → All IsOther (reserved_name n)
unfolding IsOther
no_slash_reserved n =
    let d4 = All-cons IsOther (hex_digit (n % 16)) (codes ".tmp") (digit_no_slash (n % 16)) after_digits in
    let d3 = All-cons IsOther (hex_digit (n / 16 % 16)) (hex_digit (n % 16) ∷ codes ".tmp") (digit_no_slash (n / 16 % 16)) d4 in
    let d2 = All-cons IsOther (hex_digit (n / 256 % 16)) (hex_digit (n / 16 % 16) ∷ hex_digit (n % 16) ∷ codes ".tmp") (digit_no_slash (n / 256 % 16)) d3 in
    All-append IsOther (codes ".sd-") (hex_digit (n / 4096) ∷ hex_digit (n / 256 % 16) ∷ hex_digit (n / 16 % 16) ∷ hex_digit (n % 16) ∷ codes ".tmp") before_digits
    (All-cons IsOther (hex_digit (n / 4096)) (hex_digit (n / 256 % 16) ∷ hex_digit (n / 16 % 16) ∷ hex_digit (n % 16) ∷ codes ".tmp") (digit_no_slash (n / 4096)) d2)

pub reserved_is_name : (n : ℕ) → IsName (reserved_name n)
unfolding IsOther
reserved_is_name n = record {
  nonempty = λ e. cc;
  no_slash = λ slash. All-contains IsOther (reserved_name n) 47 (no_slash_reserved n) slash refl;
  not_dot = λ e. cc;
  not_dots = λ e. cc;
}
