-- What the parts of the code read.
use Rattle.std.proofs.Common.{◌≡◌, ◌<◌, ◌≤◌, ⊎_elim, ℕ, suc, ◌+◌, ◌-◌, Bool, true, false, ◌==◌, ◌&&◌, ◌||◌, not, nat_lt, List, [], ◌∷◌, ◌++◌, codes, drop, take, length, get_or, Option, Some, None, refl, sym, ap, ap₂, ◌∙◌, subst, true≢false, eqb-true, eq-eqb, arith}
use Rattle.std.specs.Option.{is_some, unwrap_or}
use Rattle.std.proofs.lemmas.Bool.{and_parts}
use Rattle.std.proofs.lemmas.List.{length-drop, drop-drop, take_all, append_cancel_right}
use Rattle.std.proofs.Math.ListN.{drop_of_length-le}
use Rattle.pattern_syntax.specs.declared.flags.Flags.{Flags}
use Rattle.pattern_syntax.specs.declared.readings.Member.{Member}
use Rattle.pattern_syntax.specs.declared.readings.Member.TheVariants as member
use Rattle.pattern_syntax.specs.declared.classes.heads.ClassHead.{ClassHead}
use Rattle.pattern_syntax.specs.declared.classes.members.ClassMember.TheVariants as class_member
use Rattle.regex_class.specs.declared.Class.{Class}
use Rattle.regex_class.specs.Ranges.{in_ranges}
use Rattle.pattern_syntax.specs.Flags.{Blank, write_blanks, FineBlanks, has, begins, rest, seen, is_nil}
use Rattle.pattern_syntax.specs.Sets.{ascii_names, value_of, ascii_set, negated_if, complement, is_any}
use Rattle.pattern_syntax.specs.Atom.{Atom, character, write_atom, FineAtom, single_of, escaped, control, coded, braced, octal, perl, category, category_braced}
use Rattle.pattern_syntax.specs.Class.{write_after, write_dashes, FineCaret, FineDashes, FineBracket, fits, is_member, is_second, is_blank_start, makes_range, begins_name}
use Rattle.pattern_syntax.specs.ClassReading.{NextAt, IsNextRead, HeadAt, NameAt, IsNameOpen, open_name, after_letters, IsAtomAt, MemberAt, IsMemberRead, SecondAt, IsSecondRead, behind_dash, begins_member}
use Rattle.pattern_syntax.specs.Readers.{IsEscape, EscapeAt, IsEscapeRead, IsSet}
use Rattle.pattern_syntax.proofs.BlanksLemmas.{head, tail, apart}
use Rattle.pattern_syntax.proofs.ClassMoves.{first, written_first, second_starts}
use Rattle.pattern_syntax.proofs.classes.HeadLemmas.{FineSoFar, write_one_more, fine_one_more, fine_dashes}
use Rattle.pattern_syntax.proofs.classes.KeepLemmas.{here}
use Rattle.pattern_syntax.proofs.classes.MoveLemmas.{sort, IsCharacterAt, IsEscapeAt, one_atom, second_stands, stands_second, atom_written, no_atom_at_end}
use Rattle.pattern_syntax.proofs.classes.NameLemmas.{name_small, written_name, named_there, behind_name, caret_after}
use Rattle.pattern_syntax.proofs.classes.PassedLemmas.{blanks_seen, seen_short, seen_start}

pub differs : (c d : ℕ) → (c ≡ d → ⊥) → (c == d) ≡ false
differs c d h = elim (c == d) as (λ b. (c == d) ≡ b → (c == d) ≡ false) [ true ↦ λ e. absurd (h (eqb-true c d e)) | false ↦ λ e. e ] refl

-- a text that goes on has a place for it
pub goes_within : (text : List ℕ) (i c : ℕ) (t : List ℕ) → i ≤ length text → drop i text ≡ c ∷ t → i < length text
goes_within text i c t le e =
    let long : length (drop i text) ≡ suc (length t) = ap length e in
    omega (arith, length-drop i text)

-- ---- what is passed over

pub onward : (k : Flags) (text : List ℕ) (at place : ℕ) → at ≤ length text → place ≤ length text → drop place text ≡ seen k (drop at text) → at ≤ place
onward k text at place le within e =
    let short : length (drop place text) ≤ length (drop at text) = subst (λ w. length w ≤ length (drop at text)) (sym e) (seen_short k (drop at text)) in
    omega (arith, length-drop place text, length-drop at text)

pub next_at : (k : Flags) (text : List ℕ) (at place c : ℕ) → at ≤ length text → place < length text → drop place text ≡ seen k (drop at text)
    → get_or text place 0 ≡ c → NextAt k text at c (place + 1)
next_at k text at place c le lt e is =
    let blanks = blanks_seen k (drop at text) in
    let cut : seen k (drop at text) ≡ c ∷ drop (place + 1) text = sym e ∙ here text place c lt is in
    let more : at ≤ place = onward k text at place le (omega arith) e in record {
      blanks = blanks.0;
      goes_on = (omega arith, omega arith);
      written = blanks.1 ∙ ap (write_blanks blanks.0) cut;
      fine = subst (FineBlanks k blanks.0) cut blanks.2;
    }

-- ---- heads

-- a character comes next, or doesn't
abbrev Follows : Flags → ℕ → Option (List Blank) → List ℕ → Type 0
Follows k c None t = begins c (seen k t) ≡ false
Follows k c (Some bs) t = FineBlanks k bs (c ∷ t)

record AfterAt (k : Flags) (text : List ℕ) (at c : ℕ) (is : Bool) (next : ℕ) : Type 0 where
  blanks : Option (List Blank)
  is_there : is ≡ is_some blanks
  written : drop at text ≡ write_after blanks (c ∷ []) (drop next text)
  fine : Follows k c blanks (drop next text)
  onward : at ≤ next
  within : next ≤ length text

abbrev pub place_or : Option ℕ → ℕ → ℕ
place_or (Some next) at = next
place_or None at = at

after_at : (k : Flags) (text : List ℕ) (at c : ℕ) (read : Option ℕ) → at ≤ length text → IsNextRead k text at c read → AfterAt k text at c (is_some read) (place_or read at)
after_at k text at c (Some next) le r = record {
  blanks = Some r.blanks;
  is_there = refl;
  written = r.written;
  fine = r.fine;
  onward = omega (arith, r.goes_on.0);
  within = r.goes_on.1;
}
after_at k text at c None le r = record { blanks = None; is_there = refl; written = refl; fine = r; onward = omega arith; within = le }

pub same_or : (o : Option ℕ) (d : ℕ) → unwrap_or o d ≡ place_or o d
same_or (Some x) d = refl
same_or None d = refl

-- so many `-` were read between two places
pub record DashesTo (k : Flags) (text : List ℕ) (at place count : ℕ) : Type 0 where
  pub dashes : List (List Blank)
  pub as_many : count ≡ length dashes
  pub written : drop at text ≡ write_dashes dashes (drop place text)
  pub fine : FineSoFar k dashes (drop place text)
  pub onward : at + count ≤ place
  pub within : place ≤ length text

one_longer : {A : Type 0} (xs : List A) (x : A) → length (xs ++ x ∷ []) ≡ length xs + 1
one_longer [] x = refl
one_longer (y ∷ xs) x = let more : length (xs ++ x ∷ []) ≡ length xs + 1 = one_longer xs x in omega arith

pub dashes_more : (k : Flags) (text : List ℕ) (at place next count : ℕ) → DashesTo k text at place count → NextAt k text place 45 next
    → DashesTo k text at next (count + 1)
dashes_more k text at place next count d n = record {
  dashes = d.dashes ++ n.blanks ∷ [];
  as_many = ap (λ m. m + 1) d.as_many ∙ sym (one_longer d.dashes n.blanks);
  written = d.written ∙ ap (write_dashes d.dashes) n.written ∙ sym (write_one_more d.dashes n.blanks (drop next text));
  fine = fine_one_more k d.dashes n.blanks (drop next text) (subst (FineSoFar k d.dashes) n.written d.fine) n.fine;
  onward = omega (arith, d.onward, n.goes_on.0);
  within = n.goes_on.1;
}

-- a `]` is looked for where no `-` stands
abbrev pub BracketRead : Flags → List ℕ → ℕ → ℕ → Option ℕ → Type 0
BracketRead k text place count read = (count ≡ 0 → IsNextRead k text place 93 read) × ((count ≡ 0 → ⊥) → read ≡ None)

bracket_by : (k : Flags) (ds : List (List Blank)) (blanks : Option (List Blank)) (t : List ℕ) → (is_nil ds ≡ true → Follows k 93 blanks t)
    → (is_nil ds ≡ false → blanks ≡ None) → FineBracket k (is_nil ds) blanks t
bracket_by k [] None t f g = f refl
bracket_by k [] (Some bs) t f g = f refl
bracket_by k (d ∷ ds) None t f g = tt
bracket_by k (d ∷ ds) (Some bs) t f g = absurd (true≢false (ap is_some (g refl)))

caret_by : (k : Flags) (blanks : Option (List Blank)) (t : List ℕ) → Follows k 94 blanks t → FineCaret k blanks t
caret_by k None t f = f
caret_by k (Some bs) t f = f

abbrev code_head : Bool → ℕ → Bool → ClassHead
code_head negated dashes bracket = record { negated = negated; dashes = dashes; bracket = bracket }

no_bracket_at : (k : Flags) (text : List ℕ) (at : ℕ) → at ≤ length text → (b : Bool) (next : ℕ) → (read : Option ℕ) → read ≡ None
    → (bracket : Option (List Blank)) × ((is_some read ≡ is_some bracket) × (bracket ≡ None) × (drop at text ≡ write_after bracket (codes "]") (drop (place_or read at) text))
    × (at ≤ place_or read at) × (place_or read at ≤ length text))
no_bracket_at k text at le b next (Some n) e = absurd (true≢false (ap is_some e))
no_bracket_at k text at le b next None e = (None, (refl, refl, refl, omega arith, le))

-- the bracket behind the `-`
record BracketAt (k : Flags) (text : List ℕ) (place : ℕ) (ds : List (List Blank)) (read : Option ℕ) : Type 0 where
  blanks : Option (List Blank)
  is_there : is_some read ≡ is_some blanks
  written : drop place text ≡ write_after blanks (codes "]") (drop (place_or read place) text)
  fine : FineBracket k (is_nil ds) blanks (drop (place_or read place) text)
  onward : place ≤ place_or read place
  within : place_or read place ≤ length text

bracket_at : (k : Flags) (text : List ℕ) (place : ℕ) (ds : List (List Blank)) (read : Option ℕ) → place ≤ length text
    → BracketRead k text place (length ds) read → BracketAt k text place ds read
bracket_at k text place [] read le b =
    let r = after_at k text place 93 read le (b.0 refl) in record {
      blanks = r.blanks;
      is_there = r.is_there;
      written = r.written;
      fine = bracket_by k [] r.blanks (drop (place_or read place) text) (λ e. r.fine) (λ e. absurd (true≢false e));
      onward = r.onward;
      within = r.within;
    }
bracket_at k text place (d ∷ ds) read le b =
    let none = no_bracket_at k text place le false 0 read (b.1 (λ e. cc)) in record {
      blanks = none.0;
      is_there = none.1.0;
      written = none.1.2;
      fine = bracket_by k (d ∷ ds) none.0 (drop (place_or read place) text) (λ e. absurd (true≢false (sym e))) (λ e. none.1.1);
      onward = none.1.3;
      within = none.1.4;
    }

pub head_read : (k : Flags) (text : List ℕ) (at : ℕ) (caret bracket : Option ℕ) (first place count next : ℕ) (negates brackets : Bool) → at < length text → get_or text at 0 ≡ 91
    → IsNextRead k text (at + 1) 94 caret → first ≡ place_or caret (at + 1) → DashesTo k text first place count → begins 45 (seen k (drop place text)) ≡ false
    → BracketRead k text place count bracket → next ≡ place_or bracket place
    → negates ≡ is_some caret → brackets ≡ is_some bracket → HeadAt k text at (code_head negates count brackets) next
head_read k text at caret bracket first place count next negates brackets lt is c start d none b end e f =
    let negated = after_at k text (at + 1) 94 caret (omega arith) c in
    let close = bracket_at k text place d.dashes bracket d.within (subst (λ n. BracketRead k text place n bracket) d.as_many b) in
    let moved : drop (place_or caret (at + 1)) text ≡ write_dashes d.dashes (write_after close.blanks (codes "]") (drop next text)) =
    ap (λ i. drop i text) (sym start) ∙ d.written ∙ ap (write_dashes d.dashes) (close.written ∙ ap (λ i. write_after close.blanks (codes "]") (drop i text)) (sym end)) in
    let behind : drop place text ≡ write_after close.blanks (codes "]") (drop next text) =
    close.written ∙ ap (λ i. write_after close.blanks (codes "]") (drop i text)) (sym end) in record {
      head = record { negated = negated.blanks; dashes = d.dashes; bracket = close.blanks };
      is = (e ∙ negated.is_there, d.as_many, f ∙ close.is_there);
      goes_on = (omega (arith, negated.onward, d.onward, close.onward), omega (arith, close.within));
      written = here text at 91 lt is ∙ ap (λ w. 91 ∷ w) (negated.written ∙ ap (write_after negated.blanks (codes "^")) moved);
      fine = (
        caret_by k negated.blanks _ (subst (Follows k 94 negated.blanks) moved negated.fine),
        subst (FineDashes k d.dashes) behind (fine_dashes k d.dashes (drop place text) d.fine none),
        subst (λ i. FineBracket k (is_nil d.dashes) close.blanks (drop i text)) (sym end) close.fine,
      );
    }

-- ---- names

to_false : (b : Bool) → (b ≡ true → ⊥) → b ≡ false
to_false false h = refl
to_false true h = absurd (h refl)

-- the letters of a name stand behind its opening
letters_are : (m n : Bool) (name t u : List ℕ) → is_some (value_of ascii_names name) ≡ true → (m ≡ false → begins 94 u ≡ false)
    → open_name m u ≡ open_name n (name ++ (58 ∷ t)) → (m ≡ n) × (u ≡ name ++ (58 ∷ t))
letters_are true true name t u known f e = (refl, ap (λ w. tail (tail (tail w))) e)
letters_are false false name t u known f e = (refl, ap (λ w. tail (tail w)) e)
letters_are true false name t u known f e = absurd (caret_after name t u (name_small name known) (ap (λ w. tail (tail w)) (sym e)))
letters_are false true name t u known f e =
    absurd (true≢false (sym (eq-eqb 94 94 refl) ∙ ap (begins 94) (ap (λ w. tail (tail w)) (sym e)) ∙ f refl))

-- where the letters end nothing ends the name
pub name_unended : (text : List ℕ) (at start end : ℕ) (negated : Bool) → IsNameOpen text at (Some (negated, start)) → drop end text ≡ after_letters (drop start text)
    → ((t : List ℕ) → drop end text ≡ 58 ∷ 93 ∷ t → ⊥) → begins_name (drop at text) ≡ false
name_unended text at start end negated o e none =
    to_false (begins_name (drop at text)) (λ h.
    let there = named_there (drop at text) h in
    let same = letters_are negated there.0 there.1 (93 ∷ there.2) (drop start text) there.4 o.1 (sym o.0 ∙ there.3 ∙ written_name there.0 there.1 there.2) in
    none there.2 (e ∙ ap after_letters same.1 ∙ behind_name there.1 (93 ∷ there.2) (name_small there.1 there.4)))

-- what stands between the opening and the end is no name
pub name_unknown : (text name : List ℕ) (at start end : ℕ) (negated : Bool) → IsNameOpen text at (Some (negated, start))
    → drop end text ≡ after_letters (drop start text) → drop start text ≡ name ++ drop end text → is_some (value_of ascii_names name) ≡ false
    → begins_name (drop at text) ≡ false
name_unknown text name at start end negated o e cut unknown =
    to_false (begins_name (drop at text)) (λ h.
    let there = named_there (drop at text) h in
    let same = letters_are negated there.0 there.1 (93 ∷ there.2) (drop start text) there.4 o.1 (sym o.0 ∙ there.3 ∙ written_name there.0 there.1 there.2) in
    let behind : drop end text ≡ 58 ∷ 93 ∷ there.2 = e ∙ ap after_letters same.1 ∙ behind_name there.1 (93 ∷ there.2) (name_small there.1 there.4) in
    let letters : name ≡ there.1 = append_cancel_right name there.1 (58 ∷ 93 ∷ there.2) (ap (λ w. name ++ w) (sym behind) ∙ sym cut ∙ same.1) in
    true≢false (sym there.4 ∙ ap (λ n. is_some (value_of ascii_names n)) (sym letters) ∙ unknown))

pub name_found : (k : Flags) (text name : List ℕ) (at start end : ℕ) (negated : Bool) (set : Class) → IsNameOpen text at (Some (negated, start))
    → drop start text ≡ name ++ drop end text → drop end text ≡ 58 ∷ 93 ∷ drop (end + 2) text → start ≤ end → end + 2 ≤ length text
    → is_some (value_of ascii_names name) ≡ true → IsSet set (negated_if negated k (ascii_set name)) → NameAt k text at set (end + 2)
name_found k text name at start end negated set o cut ends le within known members = record {
  negated = negated;
  name = name;
  known = known;
  goes_on = (omega (arith, o.2), within);
  written = o.0 ∙ ap (open_name negated) (cut ∙ ap (λ w. name ++ w) ends) ∙ sym (written_name negated name (drop (end + 2) text));
  members = members;
}

-- ---- operations

and_none : (a : Bool) → (a && false) ≡ false
and_none true = refl
and_none false = refl

pub operation_end : (text : List ℕ) (at : ℕ) → at < length text → at + 1 ≡ length text → (c : ℕ) (t : List ℕ) → drop at text ≡ c ∷ t
    → (has c (codes "&-~") && begins c t) ≡ false
operation_end text at lt past c t e =
    let behind : t ≡ [] = ap tail (sym e ∙ here text at (get_or text at 0) lt refl) ∙ drop_of_length-le text (omega arith) in
    ap (λ w. has c (codes "&-~") && begins c w) behind ∙ and_none (has c (codes "&-~"))

pub operation_other : (text : List ℕ) (at c d : ℕ) → at + 1 < length text → get_or text at 0 ≡ c → get_or text (at + 1) 0 ≡ d → (d ≡ c → ⊥) → (e : ℕ) (t : List ℕ)
    → drop at text ≡ e ∷ t → (has e (codes "&-~") && begins e t) ≡ false
operation_other text at c d lt is follows other e t q =
    let lt_too : at < length text = omega arith in
    let same : c ∷ drop (at + 1) text ≡ e ∷ t = sym (here text at c lt_too is) ∙ q in
    let behind : t ≡ d ∷ drop (at + 1 + 1) text = sym (ap tail same) ∙ here text (at + 1) d lt follows in
    ap (λ w. has e (codes "&-~") && begins e w) behind
    ∙ ap (λ b. has e (codes "&-~") && b) (differs d e (λ f. other (f ∙ sym (ap head same))))
    ∙ and_none (has e (codes "&-~"))

-- ---- members

pub plain_single : (k : Flags) (text : List ℕ) (at c : ℕ) → at < length text → get_or text at 0 ≡ c → (c ≡ 92 → ⊥) → (k.unicode || nat_lt c 128) ≡ true
    → MemberAt k text at (class_member.Single c) (at + 1)
plain_single k text at c lt is other fit = record {
  atom = character c;
  goes_on = (omega arith, omega arith);
  stands = (here text at c lt is, differs c 92 other);
  fits = fit;
  is = refl;
}

escape_stands : (k : Flags) (w : List ℕ) (a : Atom) (t : List ℕ) → IsEscape a → w ≡ write_atom a t → FineAtom k a t → IsAtomAt k w a t
escape_stands k w (character c) t h e f = absurd h
escape_stands k w (escaped c) t h e f = (e, f)
escape_stands k w (control c) t h e f = (e, f)
escape_stands k w (coded c ds) t h e f = (e, f)
escape_stands k w (braced c bs ds cs) t h e f = (e, f)
escape_stands k w (octal ds) t h e f = (e, f)
escape_stands k w (perl c) t h e f = (e, f)
escape_stands k w (category c bs d) t h e f = (e, f)
escape_stands k w (category_braced c bs ds cs) t h e f = (e, f)

stands_at : (k : Flags) (text : List ℕ) (at next : ℕ) (read : Member) (e : EscapeAt k text at read next) → IsAtomAt k (drop at text) e.atom (drop next text)
stands_at k text at next read e = escape_stands k (drop at text) e.atom (drop next text) e.escapes e.written e.fine

pub escape_unfit : (k : Flags) (text : List ℕ) (at next c : ℕ) → EscapeAt k text at (member.Character c) next → (k.unicode || nat_lt c 128) ≡ false
    → IsMemberRead k text at None
escape_unfit k text at next c e unfit a t stands fit =
    let same = one_atom k (drop at text) a e.atom t (drop next text) stands (stands_at k text at next (member.Character c) e) in
    true≢false (sym fit ∙ ap (fits k) same.0 ∙ ap (λ b. k.unicode || b) e.is.2 ∙ unfit)

pub escape_none : (k : Flags) (text : List ℕ) (at : ℕ) → at < length text → get_or text at 0 ≡ 92 → IsEscapeRead k text at None → IsMemberRead k text at None
escape_none k text at lt is none a t stands fit =
    ⊎_elim
    (λ (p : IsCharacterAt (drop at text) a t). apart p.0 92 p.3 (ap head (sym p.2 ∙ here text at 92 lt is)))
    (λ (p : IsEscapeAt k (drop at text) a t). none a t p.0 p.1 p.2)
    (sort k (drop at text) a t stands)

-- ---- second ends

neither : (a b : Bool) → not (a || b) ≡ true → (a ≡ false) × (b ≡ false)
neither false false h = (refl, refl)
neither false true h = absurd (true≢false (sym h))
neither true b h = absurd (true≢false (sym h))

-- no `-` and no `]` follows the `-`
pub behind_makes : (k : Flags) (t : List ℕ) → makes_range k t ≡ true
    → (begins 45 (seen k t) ≡ true) × (begins 45 (behind_dash k t) ≡ false) × (begins 93 (behind_dash k t) ≡ false)
behind_makes k t h =
    let further = behind_dash k t in
    let parts = and_parts (begins 45 (seen k t)) (not (begins 45 further || begins 93 further)) h in
    let none = neither (begins 45 further) (begins 93 further) parts.1 in (parts.0, none.0, none.1)

begins_here : (c : ℕ) (w : List ℕ) → begins c w ≡ true → w ≡ c ∷ tail w
begins_here c [] h = absurd (true≢false (sym h))
begins_here c (d ∷ t) h = ap (λ d. d ∷ t) (eqb-true d c h)

tail_rest : (w : List ℕ) → tail w ≡ rest w
tail_rest [] = refl
tail_rest (c ∷ t) = refl

-- the places behind the `-`
pub dash_place : (k : Flags) (text : List ℕ) (at dash : ℕ) → at ≤ length text → dash ≤ length text → drop dash text ≡ seen k (drop at text)
    → makes_range k (drop at text) ≡ true → (dash < length text) × (at ≤ dash) × (drop (dash + 1) text ≡ rest (seen k (drop at text)))
dash_place k text at dash le within e makes =
    let cut : drop dash text ≡ 45 ∷ tail (seen k (drop at text)) = e ∙ begins_here 45 (seen k (drop at text)) (behind_makes k (drop at text) makes).0 in
    let lt : dash < length text = goes_within text dash 45 _ within cut in
    let behind : drop (dash + 1) text ≡ tail (drop dash text) = sym (ap tail (here text dash (get_or text dash 0) lt refl)) in
    (lt, onward k text at dash le within e, behind ∙ ap tail e ∙ tail_rest (seen k (drop at text)))

no_second_char : (c : ℕ) → (c ≡ 91 → ⊥) → (c ≡ 93 → ⊥) → (c ≡ 92 → ⊥) → (c ≡ 45 → ⊥) → has c (codes "[]\\-") ≡ false
no_second_char c f g h i =
    ap₂ (λ x y. x || y) (differs 91 c (λ e. f (sym e)))
    (ap₂ (λ x y. x || y) (differs 93 c (λ e. g (sym e)))
    (ap₂ (λ x y. x || y) (differs 92 c (λ e. h (sym e))) (ap (λ x. x || false) (differs 45 c (λ e. i (sym e))))))

second_by : (k : Flags) (v : List ℕ) (c : ℕ) (t : List ℕ) → seen k v ≡ c ∷ t → (c ≡ 91 → ⊥) → (c == 92) ≡ false → (c == 45) ≡ false → (c == 93) ≡ false
    → is_second k c ≡ true
second_by k v c t e open_bracket slash dash bracket =
    ap₂ (λ x y. not x && not y)
    (no_second_char c open_bracket (apart c 93 bracket) (apart c 92 slash) (apart c 45 dash))
    (seen_start k v c t e)

pub second_read : (k : Flags) (text : List ℕ) (at place c next : ℕ) → at < place → place < length text → makes_range k (drop at text) ≡ true
    → drop place text ≡ behind_dash k (drop at text) → (get_or text place 0 ≡ 91 → ⊥) → MemberAt k text place (class_member.Single c) next → SecondAt k text at c next
second_read k text at place c next more lt makes e other m =
    let w = behind_dash k (drop at text) in
    let none = behind_makes k (drop at text) makes in
    let stands : IsAtomAt k w m.atom (drop next text) = subst (λ w. IsAtomAt k w m.atom (drop next text)) e m.stands in record {
      atom = m.atom;
      goes_on = (omega (arith, m.goes_on.0), m.goes_on.1);
      written = atom_written k m.atom (drop next text) w stands;
      fine = stands_second k m.atom (drop next text) w
          (λ d q slash. second_by k (rest (seen k (drop at text))) d (drop next text) q
          (λ is. other (ap head (sym (here text place (get_or text place 0) lt refl) ∙ e ∙ q) ∙ is))
          slash
          (sym (ap (begins 45) q) ∙ none.1) (sym (ap (begins 93) q) ∙ none.2))
          stands;
      fits = m.fits;
      is = m.is;
    }

pub second_past : (k : Flags) (text : List ℕ) (at place : ℕ) → length text ≤ place → drop place text ≡ behind_dash k (drop at text) → IsSecondRead k text at None
second_past k text at place past e b t written fine fit single = no_atom_at_end b t (sym (drop_of_length-le text past) ∙ e ∙ written)

pub second_open : (k : Flags) (text : List ℕ) (at place : ℕ) → place < length text → get_or text place 0 ≡ 91 → drop place text ≡ behind_dash k (drop at text)
    → IsSecondRead k text at None
second_open k text at place lt is e b t written fine fit single =
    let begun : first b ≡ 91 = sym (written_first b t) ∙ ap head (sym written ∙ sym e ∙ here text place 91 lt is) in
    ⊎_elim
    (λ slash. apart 91 92 refl (sym begun ∙ slash))
    (λ second. true≢false (sym second ∙ ap (is_second k) begun))
    (second_starts k b t fine)

pub second_none : (k : Flags) (text : List ℕ) (at place : ℕ) → drop place text ≡ behind_dash k (drop at text) → IsMemberRead k text place None → IsSecondRead k text at None
second_none k text at place e none b t written fine fit single =
    none b t (second_stands k b t (drop place text) fine (e ∙ written)) fit

pub second_many : (k : Flags) (text : List ℕ) (at place next : ℕ) (set : Class) → drop place text ≡ behind_dash k (drop at text)
    → MemberAt k text place (class_member.Many set) next → IsSecondRead k text at None
second_many k text at place next set e m b t written fine fit single =
    let same = one_atom k (drop place text) b m.atom t (drop next text) (second_stands k b t (drop place text) fine (e ∙ written)) m.stands in
    true≢false (sym single ∙ ap (λ a. is_some (single_of a)) same.0 ∙ ap is_some m.is.0)

-- ---- where a member may begin

not_in_three : (c : ℕ) → (c ≡ 91 → ⊥) → (c ≡ 93 → ⊥) → (c ≡ 92 → ⊥) → has c (codes "[]\\") ≡ false
not_in_three c f g h =
    ap₂ (λ x y. x || y) (differs 91 c (λ e. f (sym e)))
    (ap₂ (λ x y. x || y) (differs 93 c (λ e. g (sym e))) (ap (λ x. x || false) (differs 92 c (λ e. h (sym e)))))

member_by : (c : ℕ) (t : List ℕ) (k : Flags) (b : Bool) → (c == 92) ≡ b → (c ≡ 91 → ⊥) → (c ≡ 93 → ⊥) → is_blank_start k c ≡ false
    → (has c (codes "&-~") && begins c t) ≡ false → (b || is_member k c t) ≡ true
member_by c t k true slash f g clear none = refl
member_by c t k false slash f g clear none =
    ap₂ (λ x y. x && not y) (ap₂ (λ x y. not x && not y) (not_in_three c f g (apart c 92 slash)) clear) none

-- neither white space, nor a bracket, nor an operation stands there
pub member_starts_at : (k : Flags) (text : List ℕ) (at c : ℕ) → at < length text → get_or text at 0 ≡ c → (c ≡ 91 → ⊥) → (c ≡ 93 → ⊥)
    → drop at text ≡ seen k (drop at text) → ((c : ℕ) (t : List ℕ) → drop at text ≡ c ∷ t → (has c (codes "&-~") && begins c t) ≡ false)
    → begins_member k (drop at text) ≡ true
member_starts_at k text at c lt is f g same none =
    let cut : drop at text ≡ c ∷ drop (at + 1) text = here text at c lt is in
    ap (begins_member k) cut
    ∙ member_by c (drop (at + 1) text) k (c == 92) refl f g (seen_start k (drop at text) c (drop (at + 1) text) (sym same ∙ cut)) (none c (drop (at + 1) text) cut)

-- ---- the end of a name

-- a slice up to the end of the text
pub slice_rest : (text : List ℕ) (end : ℕ) → take (length text - end) (drop end text) ≡ drop end text
slice_rest text end =
    let short : length (drop end text) ≤ length text - end = omega (arith, length-drop end text) in take_all (length text - end) (drop end text) short

pub name_ends : (text : List ℕ) (end : ℕ) (s : List ℕ) → s ≡ drop end text → s ≡ (58 ∷ 93 ∷ []) ++ drop 2 s → drop end text ≡ 58 ∷ 93 ∷ drop (end + 2) text
name_ends text end s q e = sym q ∙ e ∙ ap (λ w. 58 ∷ 93 ∷ drop 2 w) q ∙ ap (λ w. 58 ∷ 93 ∷ w) (drop-drop 2 end text)

pub two_within : (text : List ℕ) (end a b : ℕ) (t : List ℕ) → end ≤ length text → drop end text ≡ a ∷ b ∷ t → end + 2 ≤ length text
two_within text end a b t le e =
    let long : length (drop end text) ≡ suc (suc (length t)) = ap length e in
    omega (arith, length-drop end text)

pub name_plain : (k : Flags) (negated : Bool) (name : List ℕ) (set : Class) → negated ≡ false → IsSet set (ascii_set name)
    → IsSet set (negated_if negated k (ascii_set name))
name_plain k negated name set e h c = h c ∙ ap (λ b. negated_if b k (ascii_set name) c) (sym e)

pub name_negated : (k : Flags) (negated : Bool) (name : List ℕ) (set others : Class) → negated ≡ true → IsSet set (ascii_set name)
    → IsSet others (complement k (in_ranges set.ranges.items)) → IsSet others (negated_if negated k (ascii_set name))
name_negated k negated name set others e h f c =
    f c ∙ ap (λ (b : Bool). is_any k c && not b) (h c) ∙ ap (λ b. negated_if b k (ascii_set name) c) (sym e)
