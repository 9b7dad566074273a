-- What stands in the tree of a demo, and in that of the next number.
use Rattle.std.proofs.Common.{◌≡◌, ◌≢◌, ℕ, zero, suc, ◌+◌, ◌-◌, ◌%◌, ◌<◌, ◌≤◌, Bool, true, false, cond}
use Rattle.std.proofs.Common.{eqb, [], ◌∷◌, ◌++◌, map, refl, sym, ap, ◌∙◌, ◌⊎◌, inl, inr, arith}
use Rattle.std.specs.Prelude.{◌||◌, Option, Some, None, find, codes}
use Rattle.std.specs.Option.{option_or}
use Rattle.std.specs.List.{list_any, range_with_len}
use Rattle.std.specs.Cmp.Lexicographic.{pointwise_decides, bytes_decides}
use Rattle.std.proofs.lemmas.Bool.{eqb-true, eqb-false}
use Rattle.std.proofs.lemmas.List.Folds.{find-append, list_any-append}
use Rattle.std.proofs.lemmas.List.FromFn.{map-range_with_len_more}
use Rattle.sd_io.specs.Tree.{NameList, Content, directory, file}
use Rattle.sd_io.specs.Outcomes.{same_place}
use Rattle.demo_tree.specs.Demo.{DemoFile, demo_place, demo_folder, demo_file, demo_files}
use Rattle.demo_tree.specs.Demo.{folder_content, file_or_folder, demo_content, demo_bytes, demo_mode, digits_of}
use Rattle.demo_tree.proofs.building.NameLemmas.{folders_differ, files_differ}

-- ---- places

pub one_place : (q : NameList) → same_place q q ≡ true
one_place q = (pointwise_decides bytes_decides q q).1 refl

pub other_place : (p q : NameList) → p ≢ q → same_place p q ≡ false
other_place p q ne = by (same_place p q) refl
  where
    by : (b : Bool) → same_place p q ≡ b → same_place p q ≡ false
    by true e = absurd (ne ((pointwise_decides bytes_decides p q).0 e))
    by false e = e

-- ---- of the numbers in a range

pub no_file_in : (q : NameList) (a n : ℕ) → ((k : ℕ) → a ≤ k → k < a + n → q ≢ (demo_file k).place)
    → find (λ found. same_place q found.place) (map demo_file (range_with_len a n)) ≡ None
no_file_in q a zero none = refl
no_file_in q a (suc n) none =
    ap (λ b. cond b (Some (demo_file a)) (find (λ found. same_place q found.place) (map demo_file (range_with_len (a + 1) n))))
    (other_place q (demo_file a).place (none a (omega arith) (omega arith)))
    ∙ no_file_in q (a + 1) n (λ k low lower. none k (omega arith) (omega arith))

pub no_folder_in : (q : NameList) (a n : ℕ) → ((k : ℕ) → a ≤ k → k < a + n → q ≢ demo_folder k)
    → list_any (same_place q) (map demo_folder (range_with_len a n)) ≡ false
no_folder_in q a zero none = refl
no_folder_in q a (suc n) none =
    ap (λ b. b || list_any (same_place q) (map demo_folder (range_with_len (a + 1) n))) (other_place q (demo_folder a) (none a (omega arith) (omega arith)))
    ∙ no_folder_in q (a + 1) n (λ k low lower. none k (omega arith) (omega arith))

-- ---- the files and folders of the next number

files_more : (n : ℕ) (q : NameList) → find (λ found. same_place q found.place) (demo_files (n + 1))
    ≡ option_or (find (λ found. same_place q found.place) (demo_files n)) (cond (same_place q (demo_file n).place) (Some (demo_file n)) None)
files_more n q =
    ap (find (λ found. same_place q found.place)) (map-range_with_len_more demo_file 0 n n (omega arith))
    ∙ find-append (λ found. same_place q found.place) (demo_files n) (demo_file n ∷ [])

folders_more : (n : ℕ) (q : NameList) → list_any (same_place q) (map demo_folder (range_with_len 0 (n + 1)))
    ≡ (list_any (same_place q) (map demo_folder (range_with_len 0 n)) || (same_place q (demo_folder n) || false))
folders_more n q =
    ap (list_any (same_place q)) (map-range_with_len_more demo_folder 0 n n (omega arith))
    ∙ list_any-append (same_place q) (map demo_folder (range_with_len 0 n)) (demo_folder n ∷ [])

none_more : {X : Type 0} (o : Option X) → option_or o None ≡ o
none_more None = refl
none_more (Some x) = refl

or_false : (b : Bool) → (b || false) ≡ b
or_false true = refl
or_false false = refl

or_true : (b : Bool) → (b || true) ≡ true
or_true true = refl
or_true false = refl

-- what stands where
content_by : Option DemoFile → Bool → Bool → Bool → Option Content
content_by found top demo folder = file_or_folder found (cond (top || (demo || folder)) (Some directory) None)

module _ (n : ℕ) where
  -- all other places are as before
  pub others_as_before : (q : NameList) → q ≢ (demo_file n).place → q ≢ demo_folder n → demo_content (n + 1) q ≡ demo_content n q
  unfolding content_by
  others_as_before q no_file no_folder = λ i. content_by (files i) (same_place q []) (same_place q demo_place) (folders i)
    where
      files : find (λ found. same_place q found.place) (demo_files (n + 1)) ≡ find (λ found. same_place q found.place) (demo_files n)
      files =
          files_more n q
          ∙ ap (λ b. option_or (find (λ found. same_place q found.place) (demo_files n)) (cond b (Some (demo_file n)) None))
          (other_place q (demo_file n).place no_file)
          ∙ none_more (find (λ found. same_place q found.place) (demo_files n))

      folders : list_any (same_place q) (map demo_folder (range_with_len 0 (n + 1))) ≡ list_any (same_place q) (map demo_folder (range_with_len 0 n))
      folders =
          folders_more n q
          ∙ ap (λ b. list_any (same_place q) (map demo_folder (range_with_len 0 n)) || (b || false)) (other_place q (demo_folder n) no_folder)
          ∙ or_false (list_any (same_place q) (map demo_folder (range_with_len 0 n)))

  -- the next number has the next file
  pub next_file : demo_content n (demo_file n).place ≡ None → demo_content (n + 1) (demo_file n).place ≡ Some (file (demo_bytes n) demo_mode)
  next_file free = ap (λ found. file_or_folder found (folder_content (n + 1) q)) (
      files_more n q
      ∙ ap (λ b. option_or (find (λ found. same_place q found.place) (demo_files n)) (cond b (Some (demo_file n)) None)) (one_place q)
      ∙ ap (λ found. option_or found (Some (demo_file n))) (no_found (find (λ found. same_place q found.place) (demo_files n)) (folder_content n q) free)
      )
    where
      q : NameList
      q = (demo_file n).place

      no_found : (found : Option DemoFile) (folder : Option Content) → file_or_folder found folder ≡ None → found ≡ None
      no_found None folder e = refl
      no_found (Some there) folder e = cc

  -- and its folder
  pub next_folder : demo_content (n + 1) (demo_folder n) ≡ Some directory
  next_folder = λ i. file_or_folder (files i) (cond (folders i) (Some directory) None)
    where
      files : find (λ found. same_place (demo_folder n) found.place) (demo_files (n + 1)) ≡ None
      files = no_file_in (demo_folder n) 0 (n + 1) (λ k low lower e. cc)

      folders : list_any (same_place (demo_folder n)) (map demo_folder (range_with_len 0 (n + 1))) ≡ true
      folders =
          folders_more n (demo_folder n)
          ∙ ap (λ b. list_any (same_place (demo_folder n)) (map demo_folder (range_with_len 0 n)) || (b || false)) (one_place (demo_folder n))
          ∙ or_true (list_any (same_place (demo_folder n)) (map demo_folder (range_with_len 0 n)))

  -- `/demo` stands in each
  pub demo_there : demo_content n demo_place ≡ Some directory
  demo_there = ap (λ found. file_or_folder found (Some directory)) (no_file_in demo_place 0 n (λ k low lower e. cc))

  -- the folder of one of the first sixteen files isn't there yet
  pub folder_free : n < 16 → demo_content n (demo_folder n) ≡ None
  folder_free low = λ i. file_or_folder (files i) (cond (folders i) (Some directory) None)
    where
      files : find (λ found. same_place (demo_folder n) found.place) (demo_files n) ≡ None
      files = no_file_in (demo_folder n) 0 n (λ k low lower e. cc)

      folders : list_any (same_place (demo_folder n)) (map demo_folder (range_with_len 0 n)) ≡ false
      folders = no_folder_in (demo_folder n) 0 n (λ k _ below e. let same = folders_differ n k low (omega arith) e in omega arith)

  -- nor is the next file
  pub file_free : n < 100000000 → demo_content n (demo_file n).place ≡ None
  file_free low = λ i. file_or_folder (files i) (cond (folders i) (Some directory) None)
    where
      files : find (λ found. same_place (demo_file n).place found.place) (demo_files n) ≡ None
      files = no_file_in (demo_file n).place 0 n (λ k _ below e. let same = files_differ n k low (omega arith) e in omega arith)

      folders : list_any (same_place (demo_file n).place) (map demo_folder (range_with_len 0 n)) ≡ false
      folders = no_folder_in (demo_file n).place 0 n (λ k low lower e. cc)

pub split_eq : (a k : ℕ) → (a ≡ k) ⊎ (a ≢ k)
split_eq a k = by (eqb a k) refl
  where
    by : (b : Bool) → eqb a k ≡ b → (a ≡ k) ⊎ (a ≢ k)
    by true e = inl (eqb-true a k e)
    by false e = inr (eqb-false a k e)

-- a folder stands from its sixteenth number on
folder_in : (q : NameList) (a n k : ℕ) → a ≤ k → k < a + n → q ≡ demo_folder k → list_any (same_place q) (map demo_folder (range_with_len a n)) ≡ true
folder_in q a zero k low lower is = absurd (omega arith)
folder_in q a (suc n) k low lower is = elim (split_eq a k) [
  | inl here ↦
      ap (λ b. b || list_any (same_place q) (map demo_folder (range_with_len (a + 1) n))) (ap (same_place q) (ap demo_folder here ∙ sym is) ∙ one_place q)
  | inr away ↦
      ap (λ b. same_place q (demo_folder a) || b) (folder_in q (a + 1) n k (omega arith) (omega arith) is) ∙ or_true (same_place q (demo_folder a))
]

pub folder_again : (n : ℕ) → 16 ≤ n → demo_content n (demo_folder n) ≡ Some directory
folder_again n high = λ i. file_or_folder (files i) (cond (folders i) (Some directory) None)
  where
    files : find (λ found. same_place (demo_folder n) found.place) (demo_files n) ≡ None
    files = no_file_in (demo_folder n) 0 n (λ k low lower e. cc)

    same : n % 16 ≡ (n - 16) % 16
    same = omega arith

    folders : list_any (same_place (demo_folder n)) (map demo_folder (range_with_len 0 n)) ≡ true
    folders = folder_in (demo_folder n) 0 n (n - 16) (omega arith) (omega arith) (ap (λ m. codes "demo" ∷ (codes "d" ++ digits_of m 2) ∷ []) same)
