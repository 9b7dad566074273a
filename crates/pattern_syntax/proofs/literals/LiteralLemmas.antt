-- Items that are literal characters or sets.
use Rattle.std.proofs.Common.{◌≡◌, ◌<◌, ◌≤◌, ℕ, ◌+◌, Bool, true, false, List, [], ◌∷◌, ◌++◌, ◌==◌, ◌||◌, ◌&&◌, nat_le, if◌then◌else◌, length, drop, get_or, Option, Some, None, Result, Ok, Err, IfOk, sym, ap, ◌∙◌, subst, append_assoc, arith}
use Rattle.std.proofs.Math.ListN.{drop_of_length-le}
use Rattle.std.proofs.lemmas.List.{append-nil}
use Rattle.std.proofs.lemmas.Bool.{and_from}
use Rattle.std.proofs.lemmas.Bool.Decides.{nat_tests}
use Rattle.regex_class.specs.declared.Class.{Class}
use Rattle.regex_class.specs.Ranges.{in_range, in_ranges, HasExactly}
use Rattle.pattern_syntax.specs.declared.flags.Flags.{Flags}
use Rattle.pattern_syntax.specs.declared.readings.Literals.{Literals}
use Rattle.pattern_syntax.specs.Sets.{closed, folds_with_another}
use Rattle.pattern_syntax.specs.Atom.{Atom, single_of}
use Rattle.pattern_syntax.specs.Class.{atom_set, listed}
use Rattle.pattern_syntax.specs.Syntax.{atom}
use Rattle.pattern_syntax.specs.SetTree.{SetTree, literal}
use Rattle.pattern_syntax.specs.Reads.{at_depth, class_tree, one_tree, literal_bytes, single_part}
use Rattle.pattern_syntax.specs.Readers.{IsSet, HasLiterals}
use Rattle.pattern_syntax.specs.Singles.{literal_tree}
use Rattle.pattern_syntax.proofs.BlanksLemmas.{cut_at}
use Rattle.pattern_syntax.proofs.RangesLemmas.{same_set}
use Rattle.pattern_syntax.proofs.sets.MemberLemmas.{same_members}

pub ok_on : {A E : Type 0} (P Q : A → Type 0) → ((a : A) → P a → Q a) → (r : Result A E) → IfOk r P → IfOk r Q
ok_on P Q f (Ok a) h = f a h
ok_on P Q f (Err e) h = tt

-- ---- classes of the code

in_one : (c x : ℕ) → ((nat_le c x && nat_le x c) || false) ≡ (x == c)
in_one c x = grind (arith, nat_tests)

one_range : (c x : ℕ) → in_ranges ((c, c) ∷ []) x ≡ (x == c)
unfolding in_ranges in_range
one_range c x = in_one c x

is_other : (c x : ℕ) → c ≤ 0x10_FFFF → 0x10_FFFF < x → (x == c) ≡ false
is_other c x p q = grind (arith, nat_tests)

pub one_set : (class : Class) (c : ℕ) → c ≤ 0x10_FFFF → HasExactly class.ranges.items (in_ranges ((c, c) ∷ [])) → IsSet class (λ d. d == c)
one_set class c within has = same_members class (λ d. d == c) (λ x low. has x low ∙ one_range c x) (λ x above. is_other c x within above)

in_two : (c d x : ℕ) → ((nat_le c x && nat_le x c) || ((nat_le d x && nat_le x d) || false)) ≡ ((x == c) || (x == d))
in_two c d x = grind (arith, nat_tests)

two_ranges : (c d x : ℕ) → in_ranges ((c, c) ∷ (d, d) ∷ []) x ≡ ((x == c) || (x == d))
unfolding in_ranges in_range
two_ranges c d x = in_two c d x

neither : (c d x : ℕ) → c ≤ 0x10_FFFF → d ≤ 0x10_FFFF → 0x10_FFFF < x → ((x == c) || (x == d)) ≡ false
neither c d x p q r = grind (arith, nat_tests)

pub two_set : (class : Class) (c d : ℕ) → c ≤ 0x10_FFFF → d ≤ 0x10_FFFF → HasExactly class.ranges.items (in_ranges ((c, c) ∷ (d, d) ∷ []))
    → IsSet class (λ x. (x == c) || (x == d))
two_set class c d p q has = same_members class (λ x. (x == c) || (x == d)) (λ x low. has x low ∙ two_ranges c d x) (λ x above. neither c d x p q above)

pub no_set : (ranges : List (ℕ × ℕ)) → ranges ≡ [] → (c : ℕ) → in_ranges ranges c ≡ false
unfolding in_ranges
no_set ranges e c = ap (λ rs. in_ranges rs c) e

-- ---- trees

abbrev either_tree : Flags → ℕ → List ℕ → Bool → SetTree
either_tree k c bytes b = if b then class_tree k (closed k (λ d. d == c)) else literal bytes

pub own_tree : (k : Flags) (c : ℕ) (bytes : List ℕ) → (k.folds && folds_with_another k c) ≡ false → literal bytes ≡ literal_tree k c bytes
own_tree k c bytes e = sym (ap (either_tree k c bytes) e)

pub alike_tree : (k : Flags) (c : ℕ) (bytes : List ℕ) (one alike : Class) → k.folds ≡ true → folds_with_another k c ≡ true → IsSet one (λ d. d == c)
    → IsSet alike (closed k (in_ranges one.ranges.items)) → class_tree k (in_ranges alike.ranges.items) ≡ literal_tree k c bytes
alike_tree k c bytes one alike folds another is same =
    ap (class_tree k) (same_set _ _ same ∙ ap (closed k) (same_set _ _ is))
    ∙ sym (ap (either_tree k c bytes) (and_from k.folds (folds_with_another k c) folds another))

pub member_part : (k : Flags) (a : Atom) (c : ℕ) (bytes : List ℕ) → single_of a ≡ Some c → literal_bytes k a c ≡ bytes
    → at_depth 0 (literal_tree k c bytes) ≡ single_part k (atom a)
member_part k a c bytes s b = ap (λ z. at_depth 0 (literal_tree k c z)) (sym b) ∙ ap (λ o. at_depth 0 (one_tree k a o)) (sym s)

pub member_literals : (a : Atom) (o : Option ℕ) (literals : Literals) → single_of a ≡ o → HasLiterals literals (listed o) → HasLiterals literals (listed (single_of a))
member_literals a o literals s h = subst (λ z. HasLiterals literals (listed z)) (sym s) h

pub set_part : (k : Flags) (a : Atom) (class : Class) → single_of a ≡ None → IsSet class (atom_set k a)
    → at_depth 0 (class_tree k (in_ranges class.ranges.items)) ≡ single_part k (atom a)
set_part k a class s is = ap (λ z. at_depth 0 (class_tree k z)) (same_set _ _ is) ∙ ap (λ o. at_depth 0 (one_tree k a o)) (sym s)

-- ---- bytes

-- one more was moved
pub moved : (done all : List ℕ) (i d : ℕ) → i < length all → done ++ drop i all ≡ all → (done ++ get_or all i d ∷ []) ++ drop (i + 1) all ≡ all
moved done all i d within e = append_assoc done (get_or all i d ∷ []) (drop (i + 1) all) ∙ ap (λ z. done ++ z) (sym (cut_at all i d within)) ∙ e

pub all_moved : (done all : List ℕ) (i : ℕ) → length all ≤ i → done ++ drop i all ≡ all → done ≡ all
all_moved done all i past e = sym (append-nil done) ∙ ap (λ z. done ++ z) (sym (drop_of_length-le all past)) ∙ e
