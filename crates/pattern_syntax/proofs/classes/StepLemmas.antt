-- The steps at members, ranges and names.
use Rattle.std.specs.Prelude.{is_some}
use Rattle.std.proofs.Common.{◌≡◌, ◌<◌, ◌≤◌, ℕ, Bool, true, false, ◌&&◌, List, [], ◌∷◌, ◌++◌, drop, length, get_or, Some, None, refl, sym, ap, ap₂, ◌∙◌, leb-true, le-leb, arith}
use Rattle.regex_class.specs.declared.Class.{Class}
use Rattle.regex_class.specs.Ranges.{in_ranges}
use Rattle.pattern_syntax.specs.declared.flags.Flags.{Flags}
use Rattle.pattern_syntax.specs.declared.classes.members.ClassMember.TheVariants as class_member
use Rattle.pattern_syntax.specs.declared.classes.steps.Reading.{Reading}
use Rattle.pattern_syntax.specs.Sets.{Set}
use Rattle.pattern_syntax.specs.Atom.{Atom, single_of}
use Rattle.pattern_syntax.specs.Class.{fits, in_order, makes_range, atom_set, range_set, matches_one, listed}
use Rattle.pattern_syntax.specs.ClassProgress.{ClassLevel, literals_in, with_member}
use Rattle.pattern_syntax.specs.ClassReading.{framed, frame_of, level_of, Found, Continues, Advances, IsAtomAt, begins_member, behind_dash, MemberAt, NameAt, SecondAt, IsSecondRead}
use Rattle.pattern_syntax.specs.Readers.{IsSet}
use Rattle.pattern_syntax.proofs.RangesLemmas.{same_set}
use Rattle.pattern_syntax.proofs.ClassSteps.{atom_member, range_member}
use Rattle.pattern_syntax.proofs.classes.KeepLemmas.{outer_of, one_keeps, range_keeps, range_stuck, name_keeps}
use Rattle.pattern_syntax.proofs.classes.MoveLemmas.{one_atom, second_stands, in_order_second}
use Rattle.pattern_syntax.proofs.classes.UnionLemmas.{single_set}

no_more : (b : Bool) → (b && false) ≡ false
no_more true = refl
no_more false = refl

many_level : (k : Flags) (a : Atom) (set : Class) (l : ClassLevel) → single_of a ≡ None → IsSet set (atom_set k a)
    → with_member (in_ranges set.ranges.items) 0 (literals_in []) l ≡ atom_member k a l
many_level k a set l e h =
    ap (λ (s : Set). with_member s 0 (literals_in []) l) (same_set _ _ h) ∙ ap (λ one. with_member (atom_set k a) 0 (literals_in (listed one)) l) (sym e)

single_level : (k : Flags) (a : Atom) (c : ℕ) (l : ClassLevel) → single_of a ≡ Some c
    → with_member (matches_one (Some c)) 0 (literals_in (c ∷ [])) l ≡ atom_member k a l
single_level k a c l e =
    ap (λ (s : Set). with_member s 0 (literals_in (c ∷ [])) l) (sym (single_set k a c e)) ∙ ap (λ one. with_member (atom_set k a) 0 (literals_in (listed one)) l) (sym e)

range_level : (a b : Atom) (c d : ℕ) (l : ClassLevel) → single_of a ≡ Some c → single_of b ≡ Some d
    → with_member (range_set (Some c) (Some d)) 0 (literals_in (c ∷ d ∷ [])) l ≡ range_member a b l
range_level a b c d l e f = ap₂ (λ x y. with_member (range_set x y) 0 (literals_in (listed x ++ listed y)) l) (sym e) (sym f)

module _ (k : Flags) (text : List ℕ) where
  pub many_keeps : (s t : Reading) (set : Class) → MemberAt k text s.at (class_member.Many set) t.at → begins_member k (drop s.at text) ≡ true → outer_of t ≡ outer_of s
      → frame_of t.class ≡ framed s.class.negated (with_member (in_ranges set.ranges.items) 0 (literals_in []) (level_of s.class)) → Advances k text s t
  many_keeps s t set m starts o f =
      one_keeps k text s t m.atom o (f ∙ ap (framed s.class.negated) (many_level k m.atom set (level_of s.class) m.is.0 m.is.1)) starts m.stands m.fits
      (ap (λ one. is_some one && makes_range k (drop t.at text)) m.is.0) m.goes_on

  pub single_keeps : (s t : Reading) (c : ℕ) → MemberAt k text s.at (class_member.Single c) t.at → begins_member k (drop s.at text) ≡ true
      → makes_range k (drop t.at text) ≡ false → outer_of t ≡ outer_of s
      → frame_of t.class ≡ framed s.class.negated (with_member (matches_one (Some c)) 0 (literals_in (c ∷ [])) (level_of s.class)) → Advances k text s t
  single_keeps s t c m starts none o f =
      one_keeps k text s t m.atom o (f ∙ ap (framed s.class.negated) (single_level k m.atom c (level_of s.class) m.is)) starts m.stands m.fits
      (ap (λ b. is_some (single_of m.atom) && b) none ∙ no_more (is_some (single_of m.atom))) m.goes_on

  pub pair_keeps : (s t : Reading) (a : Atom) (low high behind : ℕ) → SecondAt k text behind high t.at → begins_member k (drop s.at text) ≡ true
      → IsAtomAt k (drop s.at text) a (drop behind text) → fits k a ≡ true → single_of a ≡ Some low → makes_range k (drop behind text) ≡ true → low ≤ high
      → s.at < behind → outer_of t ≡ outer_of s
      → frame_of t.class ≡ framed s.class.negated (with_member (range_set (Some low) (Some high)) 0 (literals_in (low ∷ high ∷ [])) (level_of s.class)) → Advances k text s t
  pair_keeps s t a low high behind second starts stands fit single makes le more o f =
      range_keeps k text s t a second.atom behind o (f ∙ ap (framed s.class.negated) (range_level a second.atom low high (level_of s.class) single second.is))
      starts stands fit (ap is_some single) makes second.fine second.written second.fits (ap₂ in_order single second.is ∙ le-leb low high le)
      (omega (arith, second.goes_on.0)) second.goes_on.1

  pub unpaired_stuck : (s : Reading) (a : Atom) (low behind : ℕ) → IsSecondRead k text behind None → begins_member k (drop s.at text) ≡ true
      → IsAtomAt k (drop s.at text) a (drop behind text) → single_of a ≡ Some low → makes_range k (drop behind text) ≡ true
      → (found : Found) → Continues k text s found → ⊥
  unpaired_stuck s a low behind none starts stands single makes =
      range_stuck k text s a behind starts stands (ap is_some single) makes
      (λ b u written fine fit ordered. none b u written fine fit (in_order_second (single_of a) (single_of b) ordered))

  pub reversed_stuck : (s : Reading) (a : Atom) (low high behind next : ℕ) → SecondAt k text behind high next → high < low → begins_member k (drop s.at text) ≡ true
      → IsAtomAt k (drop s.at text) a (drop behind text) → single_of a ≡ Some low → makes_range k (drop behind text) ≡ true
      → (found : Found) → Continues k text s found → ⊥
  reversed_stuck s a low high behind next second lt starts stands single makes =
      range_stuck k text s a behind starts stands (ap is_some single) makes
      (λ b u written fine fit ordered.
      let w = behind_dash k (drop behind text) in
      let same = one_atom k w b second.atom u (drop next text) (second_stands k b u w fine written) (second_stands k second.atom (drop next text) w second.fine second.written) in
      let rises : low ≤ high =
      leb-true low high (ap₂ in_order (sym single) (sym second.is ∙ ap single_of (sym same.0)) ∙ ordered) in
      absurd (omega arith))

  pub named_keeps : (s t : Reading) (set : Class) → NameAt k text s.at set t.at → s.at < length text → get_or text s.at 0 ≡ 91 → outer_of t ≡ outer_of s
      → frame_of t.class ≡ framed s.class.negated (with_member (in_ranges set.ranges.items) 0 (literals_in []) (level_of s.class)) → Advances k text s t
  named_keeps s t set n lt is o f =
      name_keeps k text s t n.negated n.name o (f ∙ ap (λ (m : Set). framed s.class.negated (with_member m 0 (literals_in []) (level_of s.class))) (same_set _ _ n.members))
      lt is n.known n.written n.goes_on
