-- Where something stands in the tree of a demo.
use Rattle.std.proofs.Common.{◌≡◌, ℕ, zero, suc, ◌+◌, ◌<◌, Bool, true, false, cond}
use Rattle.std.proofs.Common.{List, [], map, ◌⊎◌, inl, inr, refl, sym, ap, ◌∙◌, arith}
use Rattle.std.specs.Prelude.{◌||◌, Option, Some, None, IsSome, find}
use Rattle.std.specs.List.{list_any, range_with_len}
use Rattle.std.specs.Cmp.Lexicographic.{pointwise_decides, bytes_decides}
use Rattle.std.proofs.lemmas.Option.{same_Some}
use Rattle.sd_io.specs.Tree.{NameList, Content, directory, link, file, other, Node, Tree, file_node, file_content, node_at}
use Rattle.sd_io.specs.Outcomes.{same_place, content_of}
use Rattle.sd_io.specs.Paths.{reached}
use Rattle.sd_io.specs.Files.{path_text}
use Rattle.sd_io.proofs.PathTextLemmas.{text_no_link}
use Rattle.demo_tree.specs.Demo.{DemoFile, demo_place, demo_folder, demo_file, demo_files}
use Rattle.demo_tree.specs.Demo.{folder_content, file_or_folder, demo_content, demo_bytes, demo_mode, IsDemo}
use Rattle.demo_tree.proofs.ContentLemmas.{demo_there}

same_from : (p q : NameList) → same_place p q ≡ true → p ≡ q
same_from p q e = (pointwise_decides bytes_decides p q).0 e

-- ---- which file or folder it is

-- the file of a number in the range
abbrev IsFileIn : NameList → ℕ → DemoFile → Type 0
IsFileIn q high f = (k : ℕ) × (k < high) × (q ≡ (demo_file k).place) × (f ≡ demo_file k)

found_file : (q : NameList) (a n : ℕ) (f : DemoFile) → find (λ found. same_place q found.place) (map demo_file (range_with_len a n)) ≡ Some f
    → IsFileIn q (a + n) f
found_file q a zero f e = cc
found_file q a (suc n) f e = by (same_place q (demo_file a).place) refl (found_file q (a + 1) n f) e
  where
    by : (b : Bool) → same_place q (demo_file a).place ≡ b
        → (find (λ found. same_place q found.place) (map demo_file (range_with_len (a + 1) n)) ≡ Some f → IsFileIn q (a + 1 + n) f)
        → cond b (Some (demo_file a)) (find (λ found. same_place q found.place) (map demo_file (range_with_len (a + 1) n))) ≡ Some f → IsFileIn q (a + suc n) f
    by true here later e = (a, omega arith, same_from q (demo_file a).place here, sym (same_Some (demo_file a) f e))
    by false away later e = let (k, low, is, one) = later e in (k, omega arith, is, one)

abbrev IsFolderIn : NameList → ℕ → Type 0
IsFolderIn q high = (k : ℕ) × (k < high) × (q ≡ demo_folder k)

found_folder : (q : NameList) (a n : ℕ) → list_any (same_place q) (map demo_folder (range_with_len a n)) ≡ true → IsFolderIn q (a + n)
found_folder q a zero e = cc
found_folder q a (suc n) e = by (same_place q (demo_folder a)) refl (found_folder q (a + 1) n) e
  where
    by : (b : Bool) → same_place q (demo_folder a) ≡ b
        → (list_any (same_place q) (map demo_folder (range_with_len (a + 1) n)) ≡ true → IsFolderIn q (a + 1 + n))
        → (b || list_any (same_place q) (map demo_folder (range_with_len (a + 1) n))) ≡ true → IsFolderIn q (a + suc n)
    by true here later e = (a, omega arith, same_from q (demo_folder a) here)
    by false away later e = let (k, low, is) = later e in (k, omega arith, is)

-- it is the top, `/demo` or the folder of a file
abbrev pub IsFolder : ℕ → NameList → Type 0
IsFolder n q = (q ≡ []) ⊎ (q ≡ demo_place) ⊎ ((k : ℕ) × (k < n) × (q ≡ demo_folder k))

-- a directory of a demo, or a file
abbrev pub StandsSo : ℕ → NameList → Content → Type 0
StandsSo n q content = ((content ≡ directory) × IsFolder n q) ⊎ ((k : ℕ) × (k < n) × (q ≡ (demo_file k).place) × (content ≡ file (demo_bytes k) demo_mode))

pub stands_so : (n : ℕ) (q : NameList) (content : Content) → demo_content n q ≡ Some content → StandsSo n q content
stands_so n q content e = by (find (λ found. same_place q found.place) (demo_files n)) refl e
  where
    folder : (top demo any : Bool) → same_place q [] ≡ top → same_place q demo_place ≡ demo
        → list_any (same_place q) (map demo_folder (range_with_len 0 n)) ≡ any
        → cond (top || (demo || any)) (Some directory) None ≡ Some content → StandsSo n q content
    folder true demo any t d f e = inl (sym (same_Some directory content e), inl (same_from q [] t))
    folder false true any t d f e = inl (sym (same_Some directory content e), inr (inl (same_from q demo_place d)))
    folder false false true t d f e = let (k, low, is) = found_folder q 0 n f in inl (sym (same_Some directory content e), inr (inr (k, omega arith, is)))
    folder false false false t d f e = cc

    by : (o : Option DemoFile) → find (λ found. same_place q found.place) (demo_files n) ≡ o → file_or_folder o (folder_content n q) ≡ Some content
        → StandsSo n q content
    by (Some f) is e =
        let (k, low, place, one) = found_file q 0 n f is in
        inr (k, omega arith, place, sym (same_Some (file f.bytes demo_mode) content e) ∙ ap (λ (g : DemoFile). file g.bytes demo_mode) one)
    by None is e = folder (same_place q []) (same_place q demo_place) (list_any (same_place q) (map demo_folder (range_with_len 0 n))) refl refl refl e

-- ---- contents of nodes

pub content_there : (o : Option Node) → IsSome o → (content : Content) × (content_of o ≡ Some content)
content_there None stands = cc
content_there (Some node) stands = (node.content, refl)

pub node_there : (o : Option Node) (content : Content) → content_of o ≡ Some content → (node : Node) × (o ≡ Some node) × (node.content ≡ content)
node_there None content e = cc
node_there (Some node) content e = (node, refl, same_Some node.content content e)

file_content_is : (content : Content) (bytes : List ℕ) (mode : ℕ) → file_content content ≡ Some (bytes, mode) → content ≡ file bytes mode
file_content_is directory bytes mode e = cc
file_content_is (link target) bytes mode e = cc
file_content_is (file held kept) bytes mode e = let same = same_Some (held, kept) (bytes, mode) e in λ i. file (same i).0 (same i).1
file_content_is other bytes mode e = cc

pub file_there : (o : Option Node) (bytes : List ℕ) (mode : ℕ) → file_node o ≡ Some (bytes, mode) → content_of o ≡ Some (file bytes mode)
file_there None bytes mode e = cc
file_there (Some node) bytes mode e = ap (λ (c : Content). Some c) (file_content_is node.content bytes mode e)

-- ---- the root

pub demo_leads : (n : ℕ) (tree : Tree) → IsDemo n tree → reached tree (path_text demo_place) true ≡ Some demo_place
demo_leads n tree demo =
    let (node, stands, is) = node_there (node_at tree demo_place) directory (demo.holds demo_place ∙ demo_there n) in
    text_no_link tree demo_place true node demo.is_tree stands (λ target e. cc (sym is ∙ e))
