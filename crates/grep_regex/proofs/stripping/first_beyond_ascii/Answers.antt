use Rattle.std.proofs.Common.{rules, tests, sym, ◌≡◌, ◌<◌, ℕ, nat_lt, Bool, true, false, cond, List, [], ◌∷◌, Option, Some, None, IfSome, refl, ap, arith}
use Rattle.std.specs.Prelude.{not, option_map}
use Rattle.std.specs.List.{find}
use Rattle.std.proofs.lemmas.Bool.Decides.{nat_tests}
use Rattle.std.proofs.lemmas.Iterator.{YieldsList-from_slice}
use Rattle.std.proofs.lemmas.Iterator.Consumers.{YieldsList-from_copied}
use Rattle.std.proofs.lemmas.Iterator.Search.{find_from_yields_List}
use Rattle.std.proofs.lemmas.List.Elements.{All-from_recursion, recursion_from_All}
use Rattle.std.proofs.lemmas.Option.{none-some, same_Some}
use Rattle.grep_regex.specs.Building.{IsBeyondAscii}
use Rattle.grep_regex.proofs.stripping.first_beyond_ascii.Goals as goal

-- the first that isn't below 128
first-beyond : (bytes : List ℕ) (b : ℕ) → find (λ n. not (nat_lt n 128)) bytes ≡ Some b → IsBeyondAscii bytes b
first-beyond [] b e = absurd (none-some b e)
first-beyond (n ∷ bytes) b e = cases (first-beyond bytes b) (nat_lt n 128) refl e
  where
    cases : (find (λ n. not (nat_lt n 128)) bytes ≡ Some b → IsBeyondAscii bytes b) → (t : Bool) → nat_lt n 128 ≡ t
        → cond (not t) (Some n) (find (λ n. not (nat_lt n 128)) bytes) ≡ Some b → IsBeyondAscii (n ∷ bytes) b
    cases later true k e =
        let rest = later e in record {
          before = n ∷ rest.before;
          behind = rest.behind;
          all = ap (λ xs. n ∷ xs) rest.all;
          ascii = All-from_recursion (λ m. m < 128) (n ∷ rest.before) (grind (arith, nat_tests), recursion_from_All (λ m. m < 128) rest.before rest.ascii);
          beyond = rest.beyond;
        }
    cases later false k e =
        let same : n ≡ b = same_Some n b e in record {
          before = [];
          behind = bytes;
          all = ap (λ m. m ∷ bytes) same;
          ascii = All-from_recursion (λ m. m < 128) [] tt;
          beyond = grind (arith, nat_tests);
        }

pub returns-clause-beyond : goal.returns-clause-beyond
returns-clause-beyond c = cases c.find.result found
  where
    bytes : List ℕ
    bytes = c.args.bytes.now

    found : option_map (λ (b : ℕ). b) c.find.result ≡ find (λ n. not (nat_lt n 128)) bytes
    found =
        find_from_yields_List (λ n. not (nat_lt n 128)) _ _ c.find.result c.find.ensures.ran (YieldsList-from_copied (YieldsList-from_slice bytes cc))
        (λ x b q k. search (rules, tests))

    cases : (o : Option ℕ) → option_map (λ (b : ℕ). b) o ≡ find (λ n. not (nat_lt n 128)) bytes → IfSome o (IsBeyondAscii bytes)
    cases None e = tt
    cases (Some b) e = first-beyond bytes b (sym e)
