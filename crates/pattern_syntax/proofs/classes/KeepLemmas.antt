-- What the steps of the reading keep.
use Rattle.std.specs.Prelude.{is_some}
use Rattle.std.proofs.Common.{◌≡◌, ◌<◌, ◌≤◌, ℕ, zero, suc, ◌+◌, Bool, true, false, ◌&&◌, List, [], ◌∷◌, ◌++◌, drop, length, map, get_or, None, refl, sym, ap, ◌∙◌, subst, arith}
use Rattle.std.proofs.lemmas.Bool.{and_from}
use Rattle.std.proofs.lemmas.List.{map-append}
use Rattle.std.proofs.Math.ListN.{drop_of_length-le}
use Rattle.pattern_syntax.specs.declared.flags.Flags.{Flags}
use Rattle.pattern_syntax.specs.declared.readings.BracketClass.{BracketClass}
use Rattle.pattern_syntax.specs.declared.readings.Literals.{Literals}
use Rattle.pattern_syntax.specs.declared.classes.open_class.OpenClass.{OpenClass}
use Rattle.pattern_syntax.specs.declared.classes.steps.Reading.{Reading}
use Rattle.pattern_syntax.specs.Flags.{seen}
use Rattle.pattern_syntax.specs.Sets.{ascii_names, value_of}
use Rattle.pattern_syntax.specs.Atom.{Atom, write_atom, single_of}
use Rattle.pattern_syntax.specs.Class.{Head, close, Operation, write_head, write_inside, write_name, write_operation, FineHead, FineInside, FineSecond, fits, in_order, makes_range, begins_name, head_literals, inside_literals}
use Rattle.pattern_syntax.specs.ClassProgress.{ClassPart, ClassLevel, start, literals_in, whole_class, with_member, bracketed, with_operation, AfterClass, RestClass, leave_class}
use Rattle.pattern_syntax.specs.ClassReading.{Frame, framed, frame_of, level_of, code_part, Found, last, after_all, Goes, Continues, Advances, Ends, ClassFrom, Begun, IsAtomAt, begins_member, behind_dash}
use Rattle.pattern_syntax.specs.Readers.{ClassAt, IsClassRead, GoesOnTo}
use Rattle.pattern_syntax.proofs.BlanksLemmas.{cut_at}
use Rattle.pattern_syntax.proofs.ClassSteps.{atom_member, range_member, name_member, in_append, came_close, came_name, came_nest, came_operation}
use Rattle.pattern_syntax.proofs.ClassMoves.{close_on, operation_on}
use Rattle.pattern_syntax.proofs.laws.OneClassLemmas.{one_head}
use Rattle.pattern_syntax.proofs.classes.MoveLemmas.{one_atom, second_stands, pass_on, pass_back, end_stuck, name_on, nest_on, SecondGoesOn, MemberGoesOn, begins_range, AtomGoesOn, member_on, one_back, range_back}

-- what a slice reads at an index is there
pub read_at : (xs : List ℕ) (i r : ℕ) → i < length xs → r ≡ get_or xs i r → get_or xs i 0 ≡ r
read_at [] i r h e = absurd (omega arith)
read_at (x ∷ xs) zero r h e = sym e
read_at (x ∷ xs) (suc i) r h e = read_at xs i r (omega arith) e

pub here : (text : List ℕ) (i c : ℕ) → i < length text → get_or text i 0 ≡ c → drop i text ≡ c ∷ drop (i + 1) text
here text i c h e = cut_at text i 0 h ∙ ap (λ c. c ∷ drop (i + 1) text) e

after_more : (k : Flags) (after : Bool → AfterClass Found) (fs : List Frame) (f : Frame)
    → after_all k after (fs ++ f ∷ []) ≡ (λ negated. leave_class Found k negated f.level (after_all k after fs f.negated))
after_more k after [] f = refl
after_more k after (g ∷ fs) f = after_more k (λ negated. leave_class Found k negated g.level (after g.negated)) fs f

moved : (k : Flags) (fs gs : List Frame) (f g : Frame) (t u : List ℕ) (found : Found) → fs ≡ gs → f ≡ g → t ≡ u → Goes k fs f t found → Goes k gs g u found
moved k fs gs f g t u found a b c x =
    subst (λ fs. Goes k fs g u found) a (subst (λ f. Goes k fs f u found) b (subst (λ t. Goes k fs f t found) c x))

abbrev pub outer_of : Reading → List Frame
outer_of s = map frame_of s.outer.items

abbrev after_of : Flags → Reading → AfterClass Found
after_of k s = after_all k (last k) (outer_of s) s.class.negated

module _ (k : Flags) (text : List ℕ) where
  pub pass_keeps : (s t : Reading) → outer_of t ≡ outer_of s → frame_of t.class ≡ frame_of s.class → drop t.at text ≡ seen k (drop s.at text)
      → s.at < t.at → t.at ≤ length text → Advances k text s t
  unfolding Goes
  pass_keeps s t a b c more within = record {
    on = λ found x. moved k _ _ _ _ _ _ found (sym a) (sym b) (sym c) (pass_on Found k (after_of k s) (level_of s.class) found (drop s.at text) x);
    back = λ found x. pass_back Found k (after_of k s) (level_of s.class) found (drop s.at text) (moved k _ _ _ _ _ _ found a b c x);
    more = more;
    within = within;
  }

  same_atom : (s : Reading) (l : ClassLevel) (found : Found) (w t : List ℕ) (a : Atom) → IsAtomAt k w a t → AtomGoesOn Found k (after_of k s) l found w
      → MemberGoesOn Found k (after_of k s) l found a t (begins_range Found k (after_of k s) l found a t)
  same_atom s l found w t a stands (b, (u, (other, fit, more))) =
      let same = one_atom k w b a u t other stands in
      subst (λ a. MemberGoesOn Found k (after_of k s) l found a t (begins_range Found k (after_of k s) l found a t)) same.0
      (subst (λ t. MemberGoesOn Found k (after_of k s) l found b t (begins_range Found k (after_of k s) l found b t)) same.1 more)

  pub one_keeps : (s t : Reading) (a : Atom) → outer_of t ≡ outer_of s → frame_of t.class ≡ framed s.class.negated (atom_member k a (level_of s.class))
      → begins_member k (drop s.at text) ≡ true → IsAtomAt k (drop s.at text) a (drop t.at text) → fits k a ≡ true
      → (is_some (single_of a) && makes_range k (drop t.at text)) ≡ false → GoesOnTo text s.at t.at → Advances k text s t
  unfolding Goes
  one_keeps s t a o f starts stands fit none goes = record {
    on = λ found x.
        moved k _ _ _ _ _ _ found (sym o) (sym f) refl
        (subst (MemberGoesOn Found k (after_of k s) (level_of s.class) found a (drop t.at text)) none
        (same_atom s (level_of s.class) found (drop s.at text) (drop t.at text) a stands
        (member_on Found k (after_of k s) (level_of s.class) found (drop s.at text) starts x)));
    back = λ found x.
        one_back Found k (after_of k s) (level_of s.class) found a (drop t.at text) (drop s.at text) starts stands fit none (moved k _ _ _ _ _ _ found o f refl x);
    more = goes.0;
    within = goes.1;
  }

  -- no atom that may be a member stands there
  pub member_stuck : (s : Reading) → begins_member k (drop s.at text) ≡ true
      → ((a : Atom) (t : List ℕ) → IsAtomAt k (drop s.at text) a t → fits k a ≡ true → ⊥) → (found : Found) → Continues k text s found → ⊥
  unfolding Goes
  member_stuck s starts none found x =
      let there = member_on Found k (after_of k s) (level_of s.class) found (drop s.at text) starts x in none there.0 there.1.0 there.1.1.0 there.1.1.1

  second_in : (s : Reading) (a : Atom) (behind : ℕ) (found : Found) → begins_member k (drop s.at text) ≡ true
      → IsAtomAt k (drop s.at text) a (drop behind text) → is_some (single_of a) ≡ true → makes_range k (drop behind text) ≡ true
      → Continues k text s found → SecondGoesOn Found k (after_of k s) (level_of s.class) found a (drop behind text)
  unfolding Goes
  second_in s a behind found starts stands single makes x =
      subst (MemberGoesOn Found k (after_of k s) (level_of s.class) found a (drop behind text)) (and_from (is_some (single_of a)) (makes_range k (drop behind text)) single makes)
      (same_atom s (level_of s.class) found (drop s.at text) (drop behind text) a stands
      (member_on Found k (after_of k s) (level_of s.class) found (drop s.at text) starts x))

  same_second : (s : Reading) (a b : Atom) (behind : ℕ) (u : List ℕ) (found : Found) → FineSecond k b u → behind_dash k (drop behind text) ≡ write_atom b u
      → SecondGoesOn Found k (after_of k s) (level_of s.class) found a (drop behind text)
      → RestClass Found k (after_of k s) (range_member a b (level_of s.class)) u found
  same_second s a b behind u found second written (c, (v, (fine, other, fit, ordered, more))) =
      let w = behind_dash k (drop behind text) in
      let same = one_atom k w c b v u (second_stands k c v w fine other) (second_stands k b u w second written) in
      subst (λ b. RestClass Found k (after_of k s) (range_member a b (level_of s.class)) u found) same.0
      (subst (λ u. RestClass Found k (after_of k s) (range_member a c (level_of s.class)) u found) same.1 more)

  pub range_keeps : (s t : Reading) (a b : Atom) (behind : ℕ) → outer_of t ≡ outer_of s
      → frame_of t.class ≡ framed s.class.negated (range_member a b (level_of s.class)) → begins_member k (drop s.at text) ≡ true
      → IsAtomAt k (drop s.at text) a (drop behind text) → fits k a ≡ true → is_some (single_of a) ≡ true → makes_range k (drop behind text) ≡ true
      → FineSecond k b (drop t.at text) → behind_dash k (drop behind text) ≡ write_atom b (drop t.at text) → fits k b ≡ true
      → in_order (single_of a) (single_of b) ≡ true → s.at < t.at → t.at ≤ length text → Advances k text s t
  unfolding Goes
  range_keeps s t a b behind o f starts stands fit single makes second written fit_too ordered more within = record {
    on = λ found x.
        moved k _ _ _ _ _ _ found (sym o) (sym f) refl
        (same_second s a b behind (drop t.at text) found second written (second_in s a behind found starts stands single makes x));
    back = λ found x.
        range_back Found k (after_of k s) (level_of s.class) found a b (drop behind text) (drop t.at text) (drop s.at text) starts stands fit makes
        second written fit_too ordered (moved k _ _ _ _ _ _ found o f refl x);
    more = more;
    within = within;
  }

  -- no second end stands there that ends the range
  pub range_stuck : (s : Reading) (a : Atom) (behind : ℕ) → begins_member k (drop s.at text) ≡ true → IsAtomAt k (drop s.at text) a (drop behind text)
      → is_some (single_of a) ≡ true → makes_range k (drop behind text) ≡ true
      → ((b : Atom) (u : List ℕ) → behind_dash k (drop behind text) ≡ write_atom b u → FineSecond k b u → fits k b ≡ true
      → in_order (single_of a) (single_of b) ≡ true → ⊥)
      → (found : Found) → Continues k text s found → ⊥
  range_stuck s a behind starts stands single makes none found x =
      let there = second_in s a behind found starts stands single makes x in
      none there.0 there.1.0 there.1.1.1 there.1.1.0 there.1.1.2 there.1.1.3

  pub name_keeps : (s t : Reading) (negated : Bool) (name : List ℕ) → outer_of t ≡ outer_of s
      → frame_of t.class ≡ framed s.class.negated (name_member k negated name (level_of s.class)) → s.at < length text → get_or text s.at 0 ≡ 91
      → is_some (value_of ascii_names name) ≡ true → drop s.at text ≡ write_name negated name (drop t.at text) → GoesOnTo text s.at t.at → Advances k text s t
  unfolding Goes
  name_keeps s t negated name o f lt is known written goes = record {
    on = λ found x.
        moved k _ _ _ _ _ _ found (sym o) (sym f) refl
        (name_on Found k (after_of k s) (level_of s.class) found negated name (drop t.at text) (drop s.at text) (drop (s.at + 1) text) known written
        (here text s.at 91 lt is) x);
    back = λ found x.
        subst (λ w. RestClass Found k (after_of k s) (level_of s.class) w found) (sym written)
        (came_name Found k (after_of k s) (level_of s.class) negated name (drop t.at text) found known (moved k _ _ _ _ _ _ found o f refl x));
    more = goes.0;
    within = goes.1;
  }

  pushed : (s t : Reading) → t.outer.items ≡ s.outer.items ++ s.class ∷ [] → outer_of t ≡ outer_of s ++ frame_of s.class ∷ []
  pushed s t e = ap (map frame_of) e ∙ map-append frame_of s.outer.items (s.class ∷ [])

  pub nest_keeps : (s t : Reading) (h : Head) → t.outer.items ≡ s.outer.items ++ s.class ∷ [] → frame_of t.class ≡ framed (is_some h.negated) (start h)
      → s.at < length text → get_or text s.at 0 ≡ 91 → begins_name (drop s.at text) ≡ false → FineHead k h (drop t.at text)
      → drop s.at text ≡ write_head h (drop t.at text) → GoesOnTo text s.at t.at → Advances k text s t
  unfolding Goes
  nest_keeps s t h o f lt is none fine written goes =
      let more = after_more k (last k) (outer_of s) (frame_of s.class) in record {
        on = λ found x.
            moved k _ _ _ _ _ _ found (sym (pushed s t o)) (sym f) refl
            (subst (λ (after : Bool → AfterClass Found). RestClass Found k (after (is_some h.negated)) (start h) (drop t.at text) found) (sym more)
            (nest_on Found k (after_of k s) (level_of s.class) found h (drop t.at text) (drop s.at text) (drop (s.at + 1) text) none fine written
            (here text s.at 91 lt is) x));
        back = λ found x.
            subst (λ w. RestClass Found k (after_of k s) (level_of s.class) w found) (sym written)
            (came_nest Found k (after_of k s) (level_of s.class) h (drop t.at text) found (ap begins_name (sym written) ∙ none) fine
            (subst (λ (after : Bool → AfterClass Found). RestClass Found k (after (is_some h.negated)) (start h) (drop t.at text) found) more
            (moved k _ _ _ _ _ _ found (pushed s t o) f refl x)));
        more = goes.0;
        within = goes.1;
      }

  pub operate_keeps : (s t : Reading) (o : Operation) → outer_of t ≡ outer_of s → frame_of t.class ≡ framed s.class.negated (with_operation k o (level_of s.class))
      → drop s.at text ≡ write_operation o (drop t.at text) → GoesOnTo text s.at t.at → Advances k text s t
  unfolding Goes
  operate_keeps s t o a f written goes = record {
    on = λ found x.
        moved k _ _ _ _ _ _ found (sym a) (sym f) refl
        (operation_on Found k (after_of k s) (level_of s.class) found o (drop t.at text)
        (subst (λ w. RestClass Found k (after_of k s) (level_of s.class) w found) written x));
    back = λ found x.
        subst (λ w. RestClass Found k (after_of k s) (level_of s.class) w found) (sym written)
        (came_operation Found k (after_of k s) (level_of s.class) o (drop t.at text) found (moved k _ _ _ _ _ _ found a f refl x));
    more = goes.0;
    within = goes.1;
  }

  -- a nested class ends
  pub close_keeps : (s t : Reading) (outer : List OpenClass) (o : OpenClass) (ended : BracketClass) → s.at < length text → get_or text s.at 0 ≡ 93
      → s.outer.items ≡ outer ++ o ∷ [] → outer_of t ≡ map frame_of outer → t.at ≡ s.at + 1
      → code_part ended ≡ bracketed k s.class.negated (whole_class k (level_of s.class) close)
      → frame_of t.class ≡ framed o.negated (with_member (code_part ended).set (code_part ended).depth (code_part ended).literals (level_of o)) → Advances k text s t
  unfolding Goes
  close_keeps s t outer o ended lt is split same place part f =
      let v = drop (s.at + 1) text in
      let cut : drop s.at text ≡ 93 ∷ v = here text s.at 93 lt is in
      let frames : outer_of s ≡ map frame_of outer ++ frame_of o ∷ [] = ap (map frame_of) split ∙ map-append frame_of outer (o ∷ []) in
      let after = after_all k (last k) (map frame_of outer) o.negated in
      let more : after_all k (last k) (outer_of s) ≡ (λ negated. leave_class Found k negated (level_of o) after) =
      ap (after_all k (last k)) frames ∙ after_more k (last k) (map frame_of outer) (frame_of o) in
      let behind : drop t.at text ≡ v = ap (λ i. drop i text) place in record {
        on = λ found x.
            moved k _ _ _ _ _ _ found (sym same) (sym f) (sym behind)
            (subst (λ (a : ClassPart). RestClass Found k after (with_member a.set a.depth a.literals (level_of o)) v found) (sym part)
            (subst (λ (next : Bool → AfterClass Found). next s.class.negated (whole_class k (level_of s.class) close) v found) more
            (close_on Found k (after_of k s) (level_of s.class) found v
            (subst (λ w. RestClass Found k (after_of k s) (level_of s.class) w found) cut x))));
        back = λ found x.
            subst (λ w. RestClass Found k (after_of k s) (level_of s.class) w found) (sym cut)
            (came_close Found k (after_of k s) (level_of s.class) v found
            (subst (λ (next : Bool → AfterClass Found). next s.class.negated (whole_class k (level_of s.class) close) v found) (sym more)
            (subst (λ (a : ClassPart). RestClass Found k after (with_member a.set a.depth a.literals (level_of o)) v found) part
            (moved k _ _ _ _ _ _ found same f behind x))));
        more = omega arith;
        within = omega arith;
      }

  -- the outermost class ends
  pub close_ends : (s : Reading) (ended : BracketClass) → s.at < length text → get_or text s.at 0 ≡ 93 → s.outer.items ≡ []
      → code_part ended ≡ bracketed k s.class.negated (whole_class k (level_of s.class) close) → Ends k text s ended (s.at + 1)
  unfolding Goes
  close_ends s ended lt is none part =
      let v = drop (s.at + 1) text in
      let found : Found = (code_part ended, v) in record {
        found =
            moved k _ _ _ _ _ _ found (sym (ap (map frame_of) none)) refl (sym (here text s.at 93 lt is))
            (came_close Found k (last k s.class.negated) (level_of s.class) v found (ap (λ (a : ClassPart). let f : Found = (a, v) in f) part));
        goes_on = (omega arith, omega arith);
      }

  -- ---- the whole class

  came_back : (at : ℕ) (s : Reading) (h : Head) (found : Found) → FineHead k h (drop s.at text) → drop at text ≡ write_head h (drop s.at text)
      → RestClass Found k (last k (is_some h.negated)) (start h) (drop s.at text) found → ClassFrom k text at found
  came_back at s h found fine written (p, v, f, e, is) =
      let behind : v ≡ found.1 = sym (ap (λ (f : Found). f.1) is) in
      let there : drop s.at text ≡ write_inside p found.1 = e ∙ ap (write_inside p) behind in record {
        head = h;
        inside = p;
        written = written ∙ ap (write_head h) there;
        fine_head = subst (FineHead k h) there fine;
        fine_inside = subst (FineInside k p) behind f;
        part = ap (λ (f : Found). f.0) is;
      }

  pub begun : (at : ℕ) (s : Reading) (h : Head) → s.outer.items ≡ [] → frame_of s.class ≡ framed (is_some h.negated) (start h) → FineHead k h (drop s.at text)
      → drop at text ≡ write_head h (drop s.at text) → GoesOnTo text at s.at → Begun k text at s
  unfolding Goes
  begun at s h none f fine written goes = record {
    on = λ found x.
        let same = one_head k x.head h (write_inside x.inside found.1) (drop s.at text) x.fine_head fine (sym x.written ∙ written) in
        let part : found ≡ (bracketed k (is_some h.negated) (whole_class k (start h) x.inside), found.1) =
        ap (λ (a : ClassPart). let f : Found = (a, found.1) in f) (x.part ∙ ap (λ h. bracketed k (is_some h.negated) (whole_class k (start h) x.inside)) same.0) in
        moved k _ _ _ _ _ _ found (sym (ap (map frame_of) none)) (sym f) refl (x.inside, found.1, x.fine_inside, sym same.1, part);
    back = λ found x. came_back at s h found fine written (moved k _ _ _ _ _ _ found (ap (map frame_of) none) f refl x);
    more = goes.0;
    within = goes.1;
  }

  pub begun_ends : (at : ℕ) (s : Reading) (class : BracketClass) (next : ℕ) → Begun k text at s → Ends k text s class next → ClassAt k text at class next
  begun_ends at s class next b e =
      let found = b.back (code_part class, drop next text) e.found in
      let literals : class.literals ≡ literals_in (head_literals found.head ++ inside_literals found.inside) =
      ap (λ (a : ClassPart). a.literals) found.part ∙ sym (in_append (head_literals found.head) (inside_literals found.inside)) in record {
        head = found.head;
        inside = found.inside;
        goes_on = (omega (arith, b.more, e.goes_on.0), e.goes_on.1);
        written = found.written;
        fine_head = found.fine_head;
        fine_inside = found.fine_inside;
        members = λ c. ap (λ (a : ClassPart). a.set c) found.part;
        depth = ap (λ (a : ClassPart). a.depth) found.part;
        literals = (ap (λ (l : Literals). l.any) literals, ap (λ (l : Literals). l.uppercase) literals);
      }

  pub begun_stuck : (at : ℕ) (s : Reading) → Begun k text at s → ((found : Found) → Continues k text s found → ⊥) → IsClassRead k text at None
  begun_stuck at s b none h p t written fine inside =
      let found : Found = (bracketed k (is_some h.negated) (whole_class k (start h) p), t) in
      none found (b.on found (record { head = h; inside = p; written = written; fine_head = fine; fine_inside = inside; part = refl }))

  pub at_end : (s : Reading) → length text ≤ s.at → (found : Found) → Continues k text s found → ⊥
  unfolding Goes
  at_end s past found x =
      end_stuck Found k (after_of k s) (level_of s.class) found
      (subst (λ w. RestClass Found k (after_of k s) (level_of s.class) w found) (drop_of_length-le text past) x)
