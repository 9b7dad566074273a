-- Single items.
use Rattle.std.proofs.Common.{◌≡◌, ◌<◌, ℕ, ◌+◌, Bool, true, false, List, [], ◌∷◌, ◌++◌, ◌==◌, ◌||◌, ◌&&◌, not, length, drop, encode_utf8, Option, Some, None, refl, sym, ap, ◌∙◌, subst, arith}
use Rattle.hir_tree.specs.declared.look.Look.{Look}
use Rattle.regex_class.specs.Ranges.{in_ranges}
use Rattle.pattern_syntax.specs.declared.flags.Flags.{Flags}
use Rattle.pattern_syntax.specs.declared.readings.BracketClass.{BracketClass}
use Rattle.pattern_syntax.specs.declared.readings.Item.{Item}
use Rattle.pattern_syntax.specs.declared.readings.Member.{Member}
use Rattle.pattern_syntax.specs.Atom.{Atom, character, escaped, control, coded, braced, octal, perl, category, category_braced, write_atom, FineAtom, single_of}
use Rattle.pattern_syntax.specs.Class.{Head, Inside, write_head, write_inside, FineHead, FineInside, class_depth, head_literals, inside_literals, is_blank_start, listed}
use Rattle.pattern_syntax.specs.Syntax.{Single, atom, dot, caret, dollar, look as look_at, class, Edge, write_single, FineAlone, FineLook, FineSingle, is_special, edge_of}
use Rattle.pattern_syntax.specs.SetTree.{looks}
use Rattle.pattern_syntax.specs.Reads.{at_depth, class_tree, line_end, single_part, single_literals}
use Rattle.pattern_syntax.specs.Readers.{EscapeAt, IsEscape, IsMember, IsEscapeRead, ClassAt, IsClassRead, SingleAt, IsSingleRead, HasLiterals, part_of}
use Rattle.pattern_syntax.specs.Singles.{EdgeAt, IsEdgeRead, IsAnyEdge, IsSign, IsSignRead, IsCharacterRead, literal_tree}
use Rattle.pattern_syntax.proofs.BlanksLemmas.{head}
use Rattle.pattern_syntax.proofs.RangesLemmas.{same_set}

pub look_single : (k : Flags) (text : List ℕ) (at next : ℕ) (read : Look) (item : Item) → EdgeAt k text at read next → part_of item ≡ at_depth 0 (looks read)
    → HasLiterals item.literals [] → SingleAt k text at item next
look_single k text at next read item e p l = record {
  single = look_at e.edge;
  goes_on = e.goes_on;
  written = e.written;
  fine = e.fine;
  part = p ∙ ap (λ z. at_depth 0 (looks z)) e.is;
  literals = l;
}

alone : (k : Flags) (a : Atom) (t : List ℕ) → IsEscape a → FineAtom k a t → FineAlone k a t
alone k (character c) t i f = absurd i
alone k _ t i f = f

pub escape_single : (k : Flags) (text : List ℕ) (at next : ℕ) (read : Member) (item : Item) → EscapeAt k text at read next
    → ((a : Atom) → IsMember k a read → part_of item ≡ single_part k (atom a)) → ((a : Atom) → IsMember k a read → HasLiterals item.literals (listed (single_of a)))
    → SingleAt k text at item next
escape_single k text at next read item e p l = record {
  single = atom e.atom;
  goes_on = e.goes_on;
  written = e.written;
  fine = alone k e.atom (drop next text) e.escapes e.fine;
  part = p e.atom e.is;
  literals = l e.atom e.is;
}

pub class_single : (k : Flags) (text : List ℕ) (at next : ℕ) (read : BracketClass) (item : Item) → ClassAt k text at read next
    → part_of item ≡ at_depth read.depth (class_tree k (in_ranges read.set.ranges.items)) → item.literals ≡ read.literals → SingleAt k text at item next
class_single k text at next read item e p l = record {
  single = class e.head e.inside;
  goes_on = e.goes_on;
  written = e.written;
  fine = (e.fine_head, e.fine_inside);
  part =
      p ∙ ap (λ d. at_depth d (class_tree k (in_ranges read.set.ranges.items))) e.depth
      ∙ ap (λ s. at_depth (class_depth e.head e.inside) (class_tree k s)) (same_set _ _ e.members);
  literals = subst (λ z. HasLiterals z (head_literals e.head ++ inside_literals e.inside)) (sym l) e.literals;
}

pub character_single : (k : Flags) (text : List ℕ) (at : ℕ) (item : Item) (c : ℕ) (bytes : List ℕ) → drop at text ≡ c ∷ drop (at + 1) text → at < length text
    → (is_special c || is_blank_start k c) ≡ false → bytes ≡ encode_utf8 c → part_of item ≡ at_depth 0 (literal_tree k c bytes)
    → HasLiterals item.literals (c ∷ []) → SingleAt k text at item (at + 1)
character_single k text at item c bytes here within plain b p l = record {
  single = atom (character c);
  goes_on = (omega arith, omega arith);
  written = here;
  fine = plain;
  part = p ∙ ap (λ z. at_depth 0 (literal_tree k c z)) b;
  literals = l;
}

pub sign_single : (k : Flags) (text : List ℕ) (at : ℕ) (item : Item) (c : ℕ) (s : Single) → drop at text ≡ c ∷ drop (at + 1) text → at < length text
    → ((t : List ℕ) → write_single s t ≡ c ∷ t) → ((t : List ℕ) → FineSingle k s t) → part_of item ≡ single_part k s
    → HasLiterals item.literals (single_literals s) → SingleAt k text at item (at + 1)
sign_single k text at item c s here within writes fine p l = record {
  single = s;
  goes_on = (omega arith, omega arith);
  written = here ∙ sym (writes (drop (at + 1) text));
  fine = fine (drop (at + 1) text);
  part = p;
  literals = l;
}

head_is : (w v t : List ℕ) (c d : ℕ) → w ≡ c ∷ v → w ≡ d ∷ t → c ≡ d
head_is w v t c d e q = ap head (sym e ∙ q)

pub no_sign : (w v : List ℕ) (c : ℕ) → w ≡ c ∷ v → (c ≡ 46 → ⊥) → (c ≡ 94 → ⊥) → (c ≡ 36 → ⊥) → (s : Single) (t : List ℕ) → IsSign s → w ≡ write_single s t → ⊥
no_sign w v c e a b d dot t i q = a (head_is w v t c 46 e q)
no_sign w v c e a b d caret t i q = b (head_is w v t c 94 e q)
no_sign w v c e a b d dollar t i q = d (head_is w v t c 36 e q)
no_sign w v c e a b d _ t i q = absurd i

pub no_single : (k : Flags) (w : List ℕ) → ((s : Single) (t : List ℕ) → IsSign s → w ≡ write_single s t → ⊥)
    → ((e : Edge) (t : List ℕ) → Unit {0} → w ≡ (edge_of e).0 ++ t → FineLook e t → ⊥)
    → ((a : Atom) (t : List ℕ) → IsEscape a → w ≡ write_atom a t → FineAtom k a t → ⊥)
    → ((h : Head) (p : Inside) (t : List ℕ) → w ≡ write_head h (write_inside p t) → FineHead k h (write_inside p t) → FineInside k p t → ⊥)
    → ((c : ℕ) (t : List ℕ) → w ≡ c ∷ t → (is_special c || is_blank_start k c) ≡ false → ⊥)
    → (s : Single) (t : List ℕ) → w ≡ write_single s t → FineSingle k s t → ⊥
no_single k w signs edges escapes classes plain (atom (character c)) t q f = plain c t q f
no_single k w signs edges escapes classes plain (atom (escaped c)) t q f = escapes (escaped c) t tt q f
no_single k w signs edges escapes classes plain (atom (control c)) t q f = escapes (control c) t tt q f
no_single k w signs edges escapes classes plain (atom (coded c ds)) t q f = escapes (coded c ds) t tt q f
no_single k w signs edges escapes classes plain (atom (braced c bs ds cs)) t q f = escapes (braced c bs ds cs) t tt q f
no_single k w signs edges escapes classes plain (atom (octal ds)) t q f = escapes (octal ds) t tt q f
no_single k w signs edges escapes classes plain (atom (perl c)) t q f = escapes (perl c) t tt q f
no_single k w signs edges escapes classes plain (atom (category c bs d)) t q f = escapes (category c bs d) t tt q f
no_single k w signs edges escapes classes plain (atom (category_braced c bs ds cs)) t q f = escapes (category_braced c bs ds cs) t tt q f
no_single k w signs edges escapes classes plain dot t q f = signs dot t tt q
no_single k w signs edges escapes classes plain caret t q f = signs caret t tt q
no_single k w signs edges escapes classes plain dollar t q f = signs dollar t tt q
no_single k w signs edges escapes classes plain (look_at e) t q f = edges e t tt q f
no_single k w signs edges escapes classes plain (class h p) t q f = classes h p t q f.0 f.1

-- where nothing else stands, what is read of a character is all
pub last_read : (k : Flags) (text : List ℕ) (at : ℕ) → IsSignRead k text at None → IsEdgeRead IsAnyEdge k text at None → IsEscapeRead k text at None
    → IsClassRead k text at None → (read : Option (Item × ℕ)) → IsCharacterRead k text at read → IsSingleRead k text at read
last_read k text at signs edges escapes classes (Some read) plain = plain
last_read k text at signs edges escapes classes None plain = no_single k (drop at text) signs edges escapes classes plain

-- ---- what a `.` doesn't take

abbrev ends_by : Bool → Bool → ℕ → Bool
ends_by all crlf x = not all && ((x == 10) || (crlf && (x == 13)))

or_false : (b : Bool) → (b || false) ≡ b
or_false true = refl
or_false false = refl

pub no_ends : (k : Flags) (x : ℕ) → k.dot_all ≡ true → line_end k x ≡ false
no_ends k x all = ap (λ b. ends_by b k.crlf x) all

pub both_ends : (k : Flags) (x : ℕ) → k.dot_all ≡ false → k.crlf ≡ true → line_end k x ≡ ((x == 10) || (x == 13))
both_ends k x all crlf = ap (λ b. ends_by b k.crlf x) all ∙ ap (λ b. ends_by false b x) crlf

pub one_end : (k : Flags) (x : ℕ) → k.dot_all ≡ false → k.crlf ≡ false → line_end k x ≡ (x == 10)
one_end k x all crlf = ap (λ b. ends_by b k.crlf x) all ∙ ap (λ b. ends_by false b x) crlf ∙ or_false (x == 10)
