-- How a class goes on behind white space, at a member, at a name, at a nested class, and at the end of the text.
use Rattle.std.specs.Prelude.{is_some}
use Rattle.std.proofs.Common.{◌≡◌, ℕ, Bool, true, false, not, ◌&&◌, ◌||◌, ◌==◌, ◌⊎◌, inl, inr, ⊎_elim, List, [], ◌∷◌, ◌++◌, codes, Option, Some, None, refl, sym, ap, ◌∙◌, subst, eqb-true, true≢false}
use Rattle.std.proofs.lemmas.Bool.{and_parts, and_from, or_cases}
use Rattle.ucd_props.proofs.Computing.{ucd_props}
use Rattle.unicode.specs.Binary.{is_white_space}
use Rattle.pattern_syntax.specs.declared.flags.Flags.{Flags}
use Rattle.pattern_syntax.specs.Flags.{Blank, white, comment, write_blanks, FineBlanks, has, begins, rest, seen}
use Rattle.pattern_syntax.specs.Sets.{ascii_names, value_of}
use Rattle.pattern_syntax.specs.Atom.{Atom, character, escaped, control, coded, braced, octal, perl, category, category_braced, write_atom, FineAtom, single_of}
use Rattle.pattern_syntax.specs.Class.{Head, Inside, close, pass, one, range, named, nested, operation, write_inside, write_head, write_name, FineInside, FineHead, FineMember, FineSecond, fits, in_order, is_member, is_second, is_blank_start, makes_range, begins_name}
use Rattle.pattern_syntax.specs.ClassProgress.{ClassLevel, start, whole_class, AfterClass, RestClass, leave_class}
use Rattle.pattern_syntax.specs.ClassReading.{IsAtomAt, begins_member, behind_dash}
use Rattle.pattern_syntax.specs.Readers.{IsEscape}
use Rattle.pattern_syntax.proofs.BlanksLemmas.{head, tail, IsClear, seen_behind, two, apart, bracket_clear, dash_clear}
use Rattle.pattern_syntax.proofs.ClassSteps.{atom_member, range_member, name_member, GoesOn, closes, passes, ones, ranges, names, nests, operates, goes_on, came_pass, came_one, came_range}
use Rattle.pattern_syntax.proofs.ClassMoves.{IsNoBlank, first, no_blank, not_blank, no_atom, no_member, no_operation, not_in, name_first, member_starts, clear_first, slash_no_blank, second_no_blank, range_makes, op_char, written_op, op_no_blank, op_no_open, op_no_slash, op_twice, parts_of_member, spaces_on}
use Rattle.pattern_syntax.proofs.laws.OneAtomLemmas.{one_escape}
use Rattle.pattern_syntax.proofs.laws.OneClassLemmas.{escape_first, one_head, one_name, name_begins}
use Rattle.pattern_syntax.proofs.classes.PassedLemmas.{blanks_seen, seen_same, seen_blank, first_fine, rest_fine, written_first}

-- ---- one atom stands at the head of a text

abbrev pub IsCharacterAt : List ℕ → Atom → List ℕ → Type 0
IsCharacterAt w a t = (c : ℕ) × (a ≡ character c) × (w ≡ c ∷ t) × ((c == 92) ≡ false)

abbrev pub IsEscapeAt : Flags → List ℕ → Atom → List ℕ → Type 0
IsEscapeAt k w a t = IsEscape a × (w ≡ write_atom a t) × FineAtom k a t

pub sort : (k : Flags) (w : List ℕ) (a : Atom) (t : List ℕ) → IsAtomAt k w a t → IsCharacterAt w a t ⊎ IsEscapeAt k w a t
sort k w (character c) t h = inl (c, refl, h.0, h.1)
sort k w (escaped c) t h = inr (tt, h.0, h.1)
sort k w (control c) t h = inr (tt, h.0, h.1)
sort k w (coded c ds) t h = inr (tt, h.0, h.1)
sort k w (braced c bs ds cs) t h = inr (tt, h.0, h.1)
sort k w (octal ds) t h = inr (tt, h.0, h.1)
sort k w (perl c) t h = inr (tt, h.0, h.1)
sort k w (category c bs d) t h = inr (tt, h.0, h.1)
sort k w (category_braced c bs ds cs) t h = inr (tt, h.0, h.1)

not_escape : (k : Flags) (w : List ℕ) (a b : Atom) (t u : List ℕ) → IsCharacterAt w a t → IsEscapeAt k w b u → ⊥
not_escape k w a b t u (c, is, e, slash) (escape, f, fine) = apart c 92 slash (ap head (sym e ∙ f) ∙ escape_first b u escape)

pub one_atom : (k : Flags) (w : List ℕ) (a b : Atom) (t u : List ℕ) → IsAtomAt k w a t → IsAtomAt k w b u → (a ≡ b) × (t ≡ u)
one_atom k w a b t u x y =
    ⊎_elim
    (λ (p : IsCharacterAt w a t). ⊎_elim
    (λ (q : IsCharacterAt w b u). let e : p.0 ∷ t ≡ q.0 ∷ u = sym p.2 ∙ q.2 in (p.1 ∙ ap character (ap head e) ∙ sym q.1, ap tail e))
    (λ (q : IsEscapeAt k w b u). absurd (not_escape k w a b t u p q))
    (sort k w b u y))
    (λ (p : IsEscapeAt k w a t). ⊎_elim
    (λ (q : IsCharacterAt w b u). absurd (not_escape k w b a u t q p))
    (λ (q : IsEscapeAt k w b u). one_escape k a b t u p.0 q.0 (sym p.1 ∙ q.1) p.2 q.2)
    (sort k w b u y))
    (sort k w a t x)

pub member_stands : (k : Flags) (a : Atom) (t w : List ℕ) → FineMember k a t → w ≡ write_atom a t → IsAtomAt k w a t
member_stands k (character c) t w f e = (e, not_in c 92 (codes "[]\\") (parts_of_member k c t f).0 refl)
member_stands k (escaped c) t w f e = (e, f)
member_stands k (control c) t w f e = (e, f)
member_stands k (coded c ds) t w f e = (e, f)
member_stands k (braced c bs ds cs) t w f e = (e, f)
member_stands k (octal ds) t w f e = (e, f)
member_stands k (perl c) t w f e = (e, f)
member_stands k (category c bs d) t w f e = (e, f)
member_stands k (category_braced c bs ds cs) t w f e = (e, f)

pub second_stands : (k : Flags) (a : Atom) (t w : List ℕ) → FineSecond k a t → w ≡ write_atom a t → IsAtomAt k w a t
second_stands k (character c) t w f e = (e, not_in c 92 (codes "[]\\-") (two (has c (codes "[]\\-")) (is_blank_start k c) f).0 refl)
second_stands k (escaped c) t w f e = (e, f)
second_stands k (control c) t w f e = (e, f)
second_stands k (coded c ds) t w f e = (e, f)
second_stands k (braced c bs ds cs) t w f e = (e, f)
second_stands k (octal ds) t w f e = (e, f)
second_stands k (perl c) t w f e = (e, f)
second_stands k (category c bs d) t w f e = (e, f)
second_stands k (category_braced c bs ds cs) t w f e = (e, f)

pub atom_written : (k : Flags) (a : Atom) (t w : List ℕ) → IsAtomAt k w a t → w ≡ write_atom a t
atom_written k (character c) t w h = h.0
atom_written k (escaped c) t w h = h.0
atom_written k (control c) t w h = h.0
atom_written k (coded c ds) t w h = h.0
atom_written k (braced c bs ds cs) t w h = h.0
atom_written k (octal ds) t w h = h.0
atom_written k (perl c) t w h = h.0
atom_written k (category c bs d) t w h = h.0
atom_written k (category_braced c bs ds cs) t w h = h.0

member_by : (k : Flags) (c : ℕ) (t : List ℕ) (b : Bool) → b ≡ false → (b || is_member k c t) ≡ true → is_member k c t ≡ true
member_by k c t false e h = h
member_by k c t true e h = absurd (true≢false e)

-- a member may begin there, and so the atom there is one
pub stands_member : (k : Flags) (a : Atom) (t w : List ℕ) → begins_member k w ≡ true → IsAtomAt k w a t → FineMember k a t
stands_member k (character c) t w b h = member_by k c t (c == 92) h.1 (subst (λ w. begins_member k w ≡ true) h.0 b)
stands_member k (escaped c) t w b h = h.1
stands_member k (control c) t w b h = h.1
stands_member k (coded c ds) t w b h = h.1
stands_member k (braced c bs ds cs) t w b h = h.1
stands_member k (octal ds) t w b h = h.1
stands_member k (perl c) t w b h = h.1
stands_member k (category c bs d) t w b h = h.1
stands_member k (category_braced c bs ds cs) t w b h = h.1

-- a second end may begin there
pub stands_second : (k : Flags) (a : Atom) (t w : List ℕ) → ((c : ℕ) → w ≡ c ∷ t → (c == 92) ≡ false → is_second k c ≡ true) → IsAtomAt k w a t → FineSecond k a t
stands_second k (character c) t w b h = b c h.0 h.1
stands_second k (escaped c) t w b h = h.1
stands_second k (control c) t w b h = h.1
stands_second k (coded c ds) t w b h = h.1
stands_second k (braced c bs ds cs) t w b h = h.1
stands_second k (octal ds) t w b h = h.1
stands_second k (perl c) t w b h = h.1
stands_second k (category c bs d) t w b h = h.1
stands_second k (category_braced c bs ds cs) t w b h = h.1

-- ---- white space

open_clear : is_white_space 91 ≡ false
unfolding ucd_props
open_clear = refl

pub open_no_blank : IsNoBlank 91
open_no_blank = (open_clear, refl)

member_no_blank : (k : Flags) (a : Atom) (t : List ℕ) → FineMember k a t → k.spaces ≡ true → IsNoBlank (first a)
member_no_blank k a t f on =
    ⊎_elim
    (λ slash. subst IsNoBlank (sym slash) slash_no_blank)
    (λ m. no_blank k (first a) (parts_of_member k (first a) t m).1 on)
    (member_starts k a t f)

name_clear : (negated : Bool) (name t : List ℕ) → IsClear (write_name negated name t)
name_clear true name t = open_no_blank
name_clear false name t = open_no_blank

-- the rest of a class behind its blanks
abbrev BehindBlanks : Flags → Inside → List ℕ → Type 0
BehindBlanks k p v =
    (q : Inside) × FineInside k q v × (seen k (write_inside p v) ≡ write_inside q v) × ((l : ClassLevel) → whole_class k l p ≡ whole_class k l q)

stays : (k : Flags) (p : Inside) (v : List ℕ) → FineInside k p v → (k.spaces ≡ true → IsClear (write_inside p v)) → BehindBlanks k p v
stays k p v f clear = (p, f, seen_same k (write_inside p v) clear, λ l. refl)

behind_blanks : (k : Flags) (p : Inside) (v : List ℕ) → FineInside k p v → BehindBlanks k p v
behind_blanks k (pass b p) v f =
    let more = behind_blanks k p v f.1 in (more.0, more.1, seen_blank k b (write_inside p v) f.0 ∙ more.2, more.3)
behind_blanks k close v f = stays k close v f (λ on. (bracket_clear, refl))
behind_blanks k (one a p) v f = stays k (one a p) v f (λ on. clear_first a (write_inside p v) (member_no_blank k a (write_inside p v) f.0 on))
behind_blanks k (range a bs cs b p) v f = stays k (range a bs cs b p) v f (λ on. clear_first a _ (member_no_blank k a _ f.0 on))
behind_blanks k (named negated name p) v f = stays k (named negated name p) v f (λ on. name_clear negated name (write_inside p v))
behind_blanks k (nested h q p) v f = stays k (nested h q p) v f (λ on. open_no_blank)
behind_blanks k (operation o p) v f =
    stays k (operation o p) v f (λ on. subst IsClear (sym (written_op o (write_inside p v))) (op_no_blank o))

-- ---- the end of the text

abbrev is_filled : List ℕ → Bool
is_filled [] = false
is_filled (c ∷ t) = true

atom_filled : (a : Atom) (t : List ℕ) → is_filled (write_atom a t) ≡ true
atom_filled (character c) t = refl
atom_filled (escaped c) t = refl
atom_filled (control c) t = refl
atom_filled (coded c ds) t = refl
atom_filled (braced c bs ds cs) t = refl
atom_filled (octal ds) t = refl
atom_filled (perl c) t = refl
atom_filled (category c bs d) t = refl
atom_filled (category_braced c bs ds cs) t = refl

pub no_atom_at_end : (a : Atom) (t : List ℕ) → [] ≡ write_atom a t → ⊥
no_atom_at_end a t e = true≢false (sym (atom_filled a t) ∙ ap is_filled (sym e))

inside_filled : (p : Inside) (v : List ℕ) → is_filled (write_inside p v) ≡ true
inside_filled close v = refl
inside_filled (pass (white c) p) v = refl
inside_filled (pass (comment cs) p) v = refl
inside_filled (one a p) v = atom_filled a (write_inside p v)
inside_filled (range a bs cs b p) v = atom_filled a _
inside_filled (named true name p) v = refl
inside_filled (named false name p) v = refl
inside_filled (nested h q p) v = refl
inside_filled (operation o p) v = ap is_filled (written_op o (write_inside p v))

in_order_single : (a b : Option ℕ) → in_order a b ≡ true → is_some a ≡ true
in_order_single (Some a) b h = refl
in_order_single None b h = absurd (true≢false (sym h))

pub in_order_second : (a b : Option ℕ) → in_order a b ≡ true → is_some b ≡ true
in_order_second (Some a) (Some b) h = refl
in_order_second (Some a) None h = absurd (true≢false (sym h))
in_order_second None b h = absurd (true≢false (sym h))

pub range_parts : (a b c : Bool) → (a && b && c) ≡ true → (a ≡ true) × (b ≡ true) × (c ≡ true)
range_parts true true true h = (refl, refl, refl)
range_parts true true false h = absurd (true≢false (sym h))
range_parts true false c h = absurd (true≢false (sym h))
range_parts false b c h = absurd (true≢false (sym h))

-- the second end of a range stands behind the `-`
pub second_written : (k : Flags) (bs cs : List Blank) (b : Atom) (t u : List ℕ) → FineBlanks k bs (codes "-" ++ write_blanks cs (write_atom b u))
    → FineBlanks k cs (write_atom b u) → FineSecond k b u → t ≡ write_blanks bs (codes "-" ++ write_blanks cs (write_atom b u)) → behind_dash k t ≡ write_atom b u
second_written k bs cs b t u f g s e =
    let v = write_blanks cs (write_atom b u) in
    ap (λ w. seen k (rest (seen k w))) e
    ∙ ap (λ w. seen k (rest w)) (seen_behind k bs (45 ∷ v) f (λ on. (dash_clear, refl)))
    ∙ seen_behind k cs (write_atom b u) g (λ on. clear_first b u (second_no_blank k b u s on))

dash_by : (w : List ℕ) → begins 45 w ≡ true → w ≡ 45 ∷ rest w
dash_by [] h = absurd (true≢false (sym h))
dash_by (c ∷ t) h = ap (λ c. c ∷ t) (eqb-true c 45 h)

module _ (F : Type 0) (k : Flags) (after : AfterClass F) (l : ClassLevel) (found : F) where
  -- white space is passed over
  pub pass_on : (w : List ℕ) → RestClass F k after l w found → RestClass F k after l (seen k w) found
  pass_on w (p, v, f, e, s) =
      let there = behind_blanks k p v f in
      (there.0, v, there.1, ap (seen k) e ∙ there.2, subst (λ a. after a v found) (there.3 l) s)

  came_blanks : (bs : List Blank) (t : List ℕ) → FineBlanks k bs t → RestClass F k after l t found → RestClass F k after l (write_blanks bs t) found
  came_blanks [] t f r = r
  came_blanks (b ∷ bs) t f r =
      subst (λ w. RestClass F k after l w found) (sym (written_first b bs t))
      (came_pass F k after l b (write_blanks bs t) found (first_fine k b bs t f) (came_blanks bs t (rest_fine k b bs t f) r))

  pub pass_back : (w : List ℕ) → RestClass F k after l (seen k w) found → RestClass F k after l w found
  pass_back w r =
      let blanks = blanks_seen k w in
      subst (λ w. RestClass F k after l w found) (sym blanks.1) (came_blanks blanks.0 (seen k w) blanks.2 r)

  -- no class goes on at the end of the text
  pub end_stuck : RestClass F k after l [] found → ⊥
  end_stuck (p, v, f, e, s) = true≢false (sym (inside_filled p v) ∙ ap is_filled (sym e))

  name_of : (negated : Bool) (name t w v : List ℕ) → is_some (value_of ascii_names name) ≡ true → w ≡ write_name negated name t → w ≡ 91 ∷ v
      → GoesOn F k after l w found → RestClass F k after (name_member k negated name l) t found
  name_of negated name t w v known q o (closes u e s) = absurd (apart 91 93 refl (ap head (sym o ∙ e)))
  name_of negated name t w v known q o (passes b u f e x) = absurd (not_blank k b u w 91 v open_no_blank f e o)
  name_of negated name t w v known q o (ones a u f e x) = absurd (no_atom k a u w 91 v refl (no_member k 91 91 v refl refl) f.0 e o)
  name_of negated name t w v known q o (ranges a bs cs b u f e x) = absurd (no_atom k a _ w 91 v refl (no_member k 91 91 v refl refl) f.0 e o)
  name_of negated name t w v known q o (names m other u f e x) =
      let same = one_name m negated other name u t f known (sym e ∙ q) in
      subst (λ m. RestClass F k after (name_member k m name l) t found) same.0
      (subst (λ n. RestClass F k after (name_member k m n l) t found) same.1
      (subst (λ t. RestClass F k after (name_member k m other l) t found) same.2 x))
  name_of negated name t w v known q o (nests h u none f e x) =
      absurd (true≢false (sym (name_begins negated name t known) ∙ ap begins_name (sym q) ∙ none))
  name_of negated name t w v known q o (operates p u e x) = absurd (apart (op_char p) 91 (op_no_open p) (ap head (sym (written_op p u) ∙ sym e ∙ o)))

  -- a name that is known is one
  pub name_on : (negated : Bool) (name t w v : List ℕ) → is_some (value_of ascii_names name) ≡ true → w ≡ write_name negated name t → w ≡ 91 ∷ v
      → RestClass F k after l w found → RestClass F k after (name_member k negated name l) t found
  name_on negated name t w v known q o r = name_of negated name t w v known q o (goes_on F k after l w found r)

  nest_of : (h : Head) (t w v : List ℕ) → begins_name w ≡ false → FineHead k h t → w ≡ write_head h t → w ≡ 91 ∷ v → GoesOn F k after l w found
      → RestClass F k (leave_class F k (is_some h.negated) l after) (start h) t found
  nest_of h t w v none fine q o (closes u e s) = absurd (apart 91 93 refl (ap head (sym o ∙ e)))
  nest_of h t w v none fine q o (passes b u f e x) = absurd (not_blank k b u w 91 v open_no_blank f e o)
  nest_of h t w v none fine q o (ones a u f e x) = absurd (no_atom k a u w 91 v refl (no_member k 91 91 v refl refl) f.0 e o)
  nest_of h t w v none fine q o (ranges a bs cs b u f e x) = absurd (no_atom k a _ w 91 v refl (no_member k 91 91 v refl refl) f.0 e o)
  nest_of h t w v none fine q o (names m other u f e x) = absurd (true≢false (sym (name_begins m other u f) ∙ ap begins_name (sym e) ∙ none))
  nest_of h t w v none fine q o (nests g u apart f e x) =
      let same = one_head k g h u t f fine (sym e ∙ q) in
      subst (λ g. RestClass F k (leave_class F k (is_some g.negated) l after) (start g) t found) same.0
      (subst (λ t. RestClass F k (leave_class F k (is_some g.negated) l after) (start g) t found) same.1 x)
  nest_of h t w v none fine q o (operates p u e x) = absurd (apart (op_char p) 91 (op_no_open p) (ap head (sym (written_op p u) ∙ sym e ∙ o)))

  -- a `[` that begins no name begins a nested class
  pub nest_on : (h : Head) (t w v : List ℕ) → begins_name w ≡ false → FineHead k h t → w ≡ write_head h t → w ≡ 91 ∷ v → RestClass F k after l w found
      → RestClass F k (leave_class F k (is_some h.negated) l after) (start h) t found
  nest_on h t w v none fine q o r = nest_of h t w v none fine q o (goes_on F k after l w found r)

  -- the second end of a range, and the rest
  abbrev pub SecondGoesOn : Atom → List ℕ → Type 0
  SecondGoesOn a t =
      (b : Atom) × ((u : List ℕ) × (FineSecond k b u × (behind_dash k t ≡ write_atom b u) × (fits k b ≡ true) × (in_order (single_of a) (single_of b) ≡ true)
      × RestClass F k after (range_member a b l) u found))

  -- how a member goes on, which begins a range or doesn't
  abbrev pub MemberGoesOn : Atom → List ℕ → Bool → Type 0
  MemberGoesOn a t true = SecondGoesOn a t
  MemberGoesOn a t false = RestClass F k after (atom_member k a l) t found

  abbrev pub begins_range : Atom → List ℕ → Bool
  begins_range a t = is_some (single_of a) && makes_range k t

  -- the atom that stands there, and how it goes on
  abbrev pub AtomGoesOn : List ℕ → Type 0
  AtomGoesOn w = (a : Atom) × ((t : List ℕ) × (IsAtomAt k w a t × (fits k a ≡ true) × MemberGoesOn a t (begins_range a t)))

  one_by : (a : Atom) (t : List ℕ) (m : Bool) → m ≡ false → RestClass F k after (atom_member k a l) t found → MemberGoesOn a t m
  one_by a t true off x = absurd (true≢false off)
  one_by a t false off x = x

  range_by : (a : Atom) (t : List ℕ) (m : Bool) → m ≡ true → SecondGoesOn a t → MemberGoesOn a t m
  range_by a t true on x = x
  range_by a t false on x = absurd (true≢false (sym on))

  member_of : (d : ℕ) (v w : List ℕ) → (d ≡ 92) ⊎ (is_member k d v ≡ true) → w ≡ d ∷ v → GoesOn F k after l w found → AtomGoesOn w
  member_of d v w m q (closes u e s) =
      let h : d ≡ 93 = ap head (sym q ∙ e) in absurd (⊎_elim (λ slash. apart 93 92 refl (sym h ∙ slash)) (λ is. no_member k d 93 v refl h is) m)
  member_of d v w m q (passes b t f e x) =
      absurd (⊎_elim
      (λ slash. not_blank k b t w 92 v slash_no_blank f e (q ∙ ap (λ d. d ∷ v) slash))
      (λ is. not_blank k b t w d v (no_blank k d (parts_of_member k d v is).1 (spaces_on k b t f)) f e q)
      m)
  member_of d v w m q (ones a t f e x) = (a, (t, (member_stands k a t w f.0 e, f.1, one_by a t (begins_range a t) f.2 x)))
  member_of d v w m q (ranges a bs cs b t f e x) =
      let behind = write_blanks bs (codes "-" ++ write_blanks cs (write_atom b t)) in
      let parts = range_parts (fits k a) (fits k b) (in_order (single_of a) (single_of b)) f.4 in
      let second = second_written k bs cs b behind t f.1 f.2 f.3 refl in (
        a,
        (
          behind,
          (
            member_stands k a behind w f.0 e,
            parts.0,
            range_by a behind (begins_range a behind)
                (and_from (is_some (single_of a)) (makes_range k behind) (in_order_single (single_of a) (single_of b) parts.2) (range_makes k a bs cs b t f))
                (b, (t, (f.3, second, parts.1, parts.2, x))),
          ),
        ),
      )
  member_of d v w m q (names negated name t f e x) =
      let h : d ≡ 91 = ap head (sym q ∙ e) ∙ name_first negated name t in
      absurd (⊎_elim (λ slash. apart 91 92 refl (sym h ∙ slash)) (λ is. no_member k d 91 v refl h is) m)
  member_of d v w m q (nests h t f g e x) =
      let same : d ≡ 91 = ap head (sym q ∙ e) in absurd (⊎_elim (λ slash. apart 91 92 refl (sym same ∙ slash)) (λ is. no_member k d 91 v refl same is) m)
  member_of d v w m q (operates o t e x) =
      let same : d ∷ v ≡ op_char o ∷ op_char o ∷ t = sym q ∙ e ∙ written_op o t in
      absurd (⊎_elim
      (λ slash. apart (op_char o) 92 (op_no_slash o) (sym (ap head same) ∙ slash))
      (λ is. no_operation k d (op_char o) v t (op_twice o t) same is)
      m)

  starts_by : (d : ℕ) (v : List ℕ) → ((d == 92) || is_member k d v) ≡ true → (d ≡ 92) ⊎ (is_member k d v ≡ true)
  starts_by d v h = ⊎_elim (λ slash. inl (eqb-true d 92 slash)) (λ is. inr is) (or_cases (d == 92) (is_member k d v) h)

  member_in : (w u : List ℕ) → w ≡ u → begins_member k u ≡ true → RestClass F k after l w found → AtomGoesOn w
  member_in w [] e b r = absurd (true≢false (sym b))
  member_in w (d ∷ v) e b r = member_of d v w (starts_by d v b) e (goes_on F k after l w found r)

  -- where a member may begin an atom stands
  pub member_on : (w : List ℕ) → begins_member k w ≡ true → RestClass F k after l w found → AtomGoesOn w
  member_on w b r = member_in w w refl b r

  -- and back
  pub one_back : (a : Atom) (t w : List ℕ) → begins_member k w ≡ true → IsAtomAt k w a t → fits k a ≡ true → begins_range a t ≡ false
      → RestClass F k after (atom_member k a l) t found → RestClass F k after l w found
  one_back a t w b stands fit none r =
      subst (λ w. RestClass F k after l w found) (sym (atom_written k a t w stands))
      (came_one F k after l a t found (stands_member k a t w b stands, fit, none) r)

  pub range_back : (a b : Atom) (t u w : List ℕ) → begins_member k w ≡ true → IsAtomAt k w a t → fits k a ≡ true → makes_range k t ≡ true
      → FineSecond k b u → behind_dash k t ≡ write_atom b u → fits k b ≡ true → in_order (single_of a) (single_of b) ≡ true
      → RestClass F k after (range_member a b l) u found → RestClass F k after l w found
  range_back a b t u w starts stands fit makes second written fit_too ordered r =
      let near = blanks_seen k t in
      let far = blanks_seen k (rest (seen k t)) in
      let dashed : seen k t ≡ 45 ∷ rest (seen k t) =
      dash_by (seen k t) (and_parts (begins 45 (seen k t)) (not (begins 45 (seen k (rest (seen k t))) || begins 93 (seen k (rest (seen k t))))) makes).0 in
      let behind : rest (seen k t) ≡ write_blanks far.0 (write_atom b u) = far.1 ∙ ap (write_blanks far.0) written in
      let dash : seen k t ≡ 45 ∷ write_blanks far.0 (write_atom b u) = dashed ∙ ap (λ w. 45 ∷ w) behind in
      let whole : t ≡ write_blanks near.0 (45 ∷ write_blanks far.0 (write_atom b u)) = near.1 ∙ ap (write_blanks near.0) dash in
      subst (λ w. RestClass F k after l w found) (sym (atom_written k a t w stands ∙ ap (write_atom a) whole))
      (came_range F k after l a near.0 far.0 b u found (
        subst (FineMember k a) whole (stands_member k a t w starts stands),
        subst (FineBlanks k near.0) dash near.2,
        subst (FineBlanks k far.0) written far.2,
        second,
        and_from (fits k a && fits k b) (in_order (single_of a) (single_of b)) (and_from (fits k a) (fits k b) fit fit_too) ordered,
      ) r)
