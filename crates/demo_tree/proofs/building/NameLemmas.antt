-- The names of a demo's folders and files: where their paths lead, and that no two files have one.
use Rattle.std.proofs.Common.{◌≡◌, ℕ, ◌%◌, ◌<◌, Bool, true, false}
use Rattle.std.proofs.Common.{[], ◌∷◌, ◌++◌, cond, eqb, take, drop, refl, ap, ◌∙◌, arith}
use Rattle.std.specs.Prelude.{All, codes}
use Rattle.std.specs.List.{AllByRecursion}
use Rattle.std.proofs.lemmas.Bool.{ne_eqb}
use Rattle.std.proofs.lemmas.List.Elements.{All-from_recursion}
use Rattle.std.proofs.lemmas.List.Splits.{slice_split_none, slice_split_at}
use Rattle.sd_io.specs.Tree.{Name, NameList}
use Rattle.sd_io.specs.Paths.{parts_of, kept}
use Rattle.sd_io.specs.Files.{path_text}
use Rattle.demo_tree.specs.Demo.{digits_of, digit_at, demo_place, demo_folder, demo_name, demo_file}
use Rattle.demo_tree.proofs.building.DigitLemmas.{digits_tell}

-- ---- no name holds a `/`

abbrev IsNoSlash : ℕ → Type 0
IsNoSlash b = eqb b 47 ≡ false

no_slash_digit : (n k : ℕ) → IsNoSlash (digit_at n k)
no_slash_digit n k = ne_eqb (digit_at n k) 47 (λ e. absurd (omega arith))

no_slash_ending : (md : Bool) → AllByRecursion IsNoSlash (cond md (codes ".md") (codes ".txt"))
no_slash_ending true = (refl, (refl, (refl, tt)))
no_slash_ending false = (refl, (refl, (refl, (refl, tt))))

no_slash_folder : (i : ℕ) → All IsNoSlash (codes "d" ++ digits_of (i % 16) 2)
no_slash_folder i = All-from_recursion IsNoSlash (codes "d" ++ digits_of (i % 16) 2) (refl, (no_slash_digit (i % 16) 1, (no_slash_digit (i % 16) 0, tt)))

no_slash_file : (i : ℕ) → All IsNoSlash (demo_name i)
no_slash_file i = All-from_recursion IsNoSlash (demo_name i) (
  refl,
  (
    no_slash_digit i 7,
    (
      no_slash_digit i 6,
      (
        no_slash_digit i 5,
        (
          no_slash_digit i 4,
          (
            no_slash_digit i 3,
            (
              no_slash_digit i 2,
              (
                no_slash_digit i 1,
                (
                  no_slash_digit i 0,
                  no_slash_ending (eqb (i % 3) 2),
                ),
              ),
            ),
          ),
        ),
      ),
    ),
  ),
)

-- ---- the parts of their paths

pub demo_parts : parts_of (codes "/demo") ≡ demo_place
unfolding parts_of
demo_parts = refl

pub folder_parts : (i : ℕ) → parts_of (path_text (demo_folder i)) ≡ demo_folder i
unfolding parts_of
folder_parts i = ap (λ pieces. kept ([] ∷ codes "demo" ∷ pieces)) (slice_split_none (λ b. eqb b 47) (codes "d" ++ digits_of (i % 16) 2) (no_slash_folder i))

pub file_parts : (i : ℕ) → parts_of (path_text (demo_file i).place) ≡ (demo_file i).place
unfolding parts_of
file_parts i =
    ap (λ pieces. kept ([] ∷ codes "demo" ∷ pieces)) (slice_split_at (λ b. eqb b 47) (codes "d" ++ digits_of (i % 16) 2) 47 (demo_name i)
    (no_slash_folder i) refl)
    ∙ ap (λ pieces. kept ([] ∷ codes "demo" ∷ (codes "d" ++ digits_of (i % 16) 2) ∷ pieces)) (slice_split_none (λ b. eqb b 47) (demo_name i) (no_slash_file i))

-- ---- no two are one

last_name : NameList → Name
last_name [] = []
last_name (name ∷ []) = name
last_name (name ∷ next ∷ names) = last_name (next ∷ names)

pub folders_differ : (i j : ℕ) → i < 16 → j < 16 → demo_folder i ≡ demo_folder j → i ≡ j
unfolding last_name
folders_differ i j low lower e =
    let digits : digits_of (i % 16) 2 ≡ digits_of (j % 16) 2 = ap (λ q. drop 1 (last_name q)) e in
    let same : i % 16 ≡ j % 16 = digits_tell 2 (i % 16) (j % 16) (omega arith) (omega arith) digits in
    omega arith

pub files_differ : (i j : ℕ) → i < 100000000 → j < 100000000 → (demo_file i).place ≡ (demo_file j).place → i ≡ j
unfolding last_name
files_differ i j low lower e = digits_tell 8 i j low lower (ap (λ q. take 8 (drop 1 (last_name q))) e)
