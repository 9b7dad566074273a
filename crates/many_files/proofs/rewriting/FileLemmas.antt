-- The next of the files.
use Rattle.std.proofs.Common.{◌≡◌, ℕ, ◌+◌, ◌<◌, List, [], ◌∷◌, ◌++◌, take, length, get_or, refl, sym, ◌∙◌, ap, subst, arith, Less, Equal}
use Rattle.std.specs.Prelude.{Option, Some, None, IsSome, is_some, Contains, true}
use Rattle.std.specs.List.Sorted.{IsStrictlySortedBy}
use Rattle.std.specs.Cmp.{IsTotalOrder, tied_itself, nat_cmp_total}
use Rattle.std.specs.Cmp.Lexicographic.{lists_total}
use Rattle.std.proofs.lemmas.List.{get_or_default, get_or-take, get_or-map, length-take-le, length-map, take_more}
use Rattle.std.proofs.lemmas.List.Elements.{Contains-get_or}
use Rattle.std.proofs.lemmas.Map.Keys.{Less-from_sorted}
use Rattle.sd_io.specs.Tree.{NameList, Node, Tree, name_cmp, name_list_cmp, node_at, file_node, file_at, IsNonemptyFile}
use Rattle.sd_io.specs.Paths.{reached}
use Rattle.many_files.specs.Files.{ListsFiles}

name_total : IsTotalOrder name_cmp
name_total = lists_total nat_cmp_total

place_total : IsTotalOrder name_list_cmp
place_total = lists_total name_total

-- the place of a list in order isn't among those before it
not_before : (places : List NameList) (n : ℕ) → IsStrictlySortedBy name_list_cmp places → n < length places → Contains (take n places) (get_or places n []) → ⊥
not_before places n sorted lt (k, short, is) =
    let place = get_or places n [] in
    let size : length (take n places) ≡ n = length-take-le n places (omega arith) in
    let before : k < n = omega arith in
    let there : get_or places k [] ≡ place = get_or_default places k [] place (omega arith) ∙ sym (get_or-take n places k place before) ∙ is in
    let less : name_list_cmp (get_or places k []) place ≡ Less = Less-from_sorted name_list_cmp places k n [] sorted before lt in
    let tied : name_list_cmp place place ≡ Equal = tied_itself place_total place in
    let less' : name_list_cmp place place ≡ Less = subst (λ (q : NameList). name_list_cmp q place ≡ Less) there less in
    cc

-- the next of the files: its path leads to its place, and it isn't among those before it
pub record IsNextFile (tree : Tree) (places : List NameList) (n : ℕ) (path : List ℕ) : Type 0 where
  pub place : NameList
  pub leads : reached tree path true ≡ Some place
  pub is_file : IsNonemptyFile tree place
  pub more : take (n + 1) places ≡ take n places ++ place ∷ []
  pub is_new : Contains (take n places) place → ⊥

-- there are as many paths as places
pub as_many : (tree : Tree) (paths : List (List ℕ)) (places : List NameList) → ListsFiles tree paths places → length paths ≡ length places
as_many tree paths places are =
    sym (length-map paths (λ path. reached tree path true)) ∙ ap length are.lead ∙ length-map places (λ place. Some place)

pub next_file : (tree : Tree) (paths : List (List ℕ)) (places : List NameList) (n : ℕ) (path : List ℕ) → ListsFiles tree paths places → n < length paths → path ≡ get_or paths n path
    → IsNextFile tree places n path
next_file tree paths places n path are lt read =
    let size = as_many tree paths places are in
    let short : n < length places = omega arith in
    let leads_to = λ (p : List ℕ). reached tree p true in
    let as_some = λ (place : NameList). Some place in
    record {
      place = get_or places n [];
      leads =
          ap leads_to read ∙ sym (get_or-map leads_to paths n path None lt) ∙ ap (λ (list : List (Option NameList)). get_or list n None) are.lead
          ∙ get_or-map as_some places n [] None short;
      is_file = are.are_files (get_or places n []) (Contains-get_or places n [] short);
      more = take_more places n [] short;
      is_new = not_before places n are.in_order short;
    }

-- ---- files

-- nothing is no file
pub free_no_file : (tree : Tree) (q : NameList) → node_at tree q ≡ None → IsSome (file_at tree q) → ⊥
free_no_file tree q free file = (let none : file_at tree q ≡ None = ap file_node free in cc)

pub a_file : (tree : Tree) (q : NameList) → IsNonemptyFile tree q → IsSome (file_at tree q)
a_file tree q (byte, bytes, mode, e) = ap is_some e

file_stands_node : (o : Option Node) → IsSome (file_node o) → IsSome o
file_stands_node None f = f
file_stands_node (Some node) f = refl

pub file_stands : (tree : Tree) (q : NameList) → IsSome (file_at tree q) → IsSome (node_at tree q)
file_stands tree q f = file_stands_node (node_at tree q) f

-- a node that stands in both trees is the same file
pub same_nonempty : (old new : Tree) (q : NameList) → node_at new q ≡ node_at old q → IsNonemptyFile old q → IsNonemptyFile new q
same_nonempty old new q same (byte, bytes, mode, e) = (byte, bytes, mode, ap file_node same ∙ e)
