-- What stands behind `(?` is written one way.
use Rattle.std.proofs.Common.{◌≡◌, ℕ, ◌+◌, ◌<◌, ◌≤◌, Bool, true, false, not, List, [], ◌∷◌, ◌++◌, ◌==◌, ◌||◌, Option, Some, None, length, drop, refl, sym, ap, ap₂, ◌∙◌, subst, ⊎_elim, true≢false, arith, append_assoc, length-append, length-drop, unwrap_or}
use Rattle.std.proofs.lemmas.Bool.{and_parts, eqb-true, or_cases, or_from, leb-true, false_from_ne_true}
use Rattle.std.proofs.lemmas.Str.{encode_ascii}
use Rattle.std.specs.Char.{is_ascii_alphabetic, is_ascii_digit, is_ascii_lowercase, is_ascii_uppercase}
use Rattle.std.specs.Prelude.{nat_le}
use Rattle.std.specs.Str.{encode_utf8_all}
use Rattle.std.specs.List.{slice_range, list_all}
use Rattle.pattern_syntax.specs.declared.flags.Flags.{Flags}
use Rattle.pattern_syntax.specs.declared.readings.Opening.{Opening}
use Rattle.pattern_syntax.specs.declared.readings.Opening.TheVariants as opening
use Rattle.pattern_syntax.specs.Flags.{FlagList, write_off, write_flags, FineFlags, begins, is_nil}
use Rattle.pattern_syntax.specs.Sets.{is_ascii_word}
use Rattle.pattern_syntax.specs.Syntax.{is_name, write_p}
use Rattle.pattern_syntax.specs.Runs.{is_flag, comes}
use Rattle.pattern_syntax.specs.OpeningReaders.{ends_flags, FlagsAt, IsFlagsRead, IsAngleRead, NameAt, NamedAt, IsNamedRead, Marked, sets, plain, called, write_marked, FineMarked, IsMarked, MarkedAt, IsMarkedRead, IsFlagged, IsFlaggedRead}
use Rattle.pattern_syntax.proofs.BlanksLemmas.{apart}
use Rattle.pattern_syntax.proofs.SameBlanks.{head, tail}
use Rattle.pattern_syntax.proofs.runs.RunLemmas.{RunAt, NextIs, next_is, one_run}
use Rattle.pattern_syntax.proofs.flag_lists.DistinctLemmas.{all_left, letters_are_flags}
use Rattle.pattern_syntax.proofs.flag_lists.FlagListLemmas.{whole_flags, one_flags}
use Rattle.std.specs.Option.{option_map_or}

-- ---- a flag list is no name

angle_comes : (p : Bool) (t : List ℕ) → comes (λ c. (c == 80) || (c == 60)) (write_p p (60 ∷ t)) ≡ true
angle_comes true t = refl
angle_comes false t = refl

neither : (c d : ℕ) → (c == d) ≡ true → ((d == 80) || (d == 60)) ≡ false → ((c == 80) || (c == 60)) ≡ false
neither c d e h = ap (λ c. (c == 80) || (c == 60)) (eqb-true c d e) ∙ h

end_no_angle : (t : List ℕ) → ends_flags t ≡ true → comes (λ c. (c == 80) || (c == 60)) t ≡ false
end_no_angle [] h = refl
end_no_angle (c ∷ t) h = ⊎_elim (λ e. neither c 58 e refl) (λ e. neither c 41 e refl) (or_cases (c == 58) (c == 41) h)

off_no_angle : (o : Option (List ℕ)) (t : List ℕ) → ends_flags t ≡ true → comes (λ c. (c == 80) || (c == 60)) (write_off o t) ≡ false
off_no_angle None t h = end_no_angle t h
off_no_angle (Some cs) t h = refl

not_flag : (c d : ℕ) → is_flag c ≡ true → is_flag d ≡ false → (c == d) ≡ false
not_flag c d h n = false_from_ne_true (c == d) (λ e. true≢false (sym h ∙ ap is_flag (eqb-true c d e) ∙ n))

flags_no_angle : (cs : List ℕ) (o : Option (List ℕ)) (t : List ℕ) → list_all is_flag cs ≡ true → ends_flags t ≡ true → comes (λ c. (c == 80) || (c == 60)) (cs ++ write_off o t) ≡ false
flags_no_angle [] o t a h = off_no_angle o t h
flags_no_angle (c ∷ cs) o t a h =
    let flag = (and_parts (is_flag c) (list_all is_flag cs) a).0 in or_from (c == 80) (c == 60) (not_flag c 80 flag refl) (not_flag c 60 flag refl)

pub list_no_angle : (l : FlagList) (t : List ℕ) (p : Bool) (v : List ℕ) → FineFlags l → ends_flags t ≡ true → write_flags l t ≡ write_p p (60 ∷ v) → ⊥
list_no_angle l t p v f h e =
    true≢false
    (sym (angle_comes p v) ∙ sym (ap (comes (λ c. (c == 80) || (c == 60))) e)
    ∙ flags_no_angle l.on l.off t (all_left is_flag l.on (unwrap_or l.off []) (letters_are_flags (l.on ++ unwrap_or l.off []) f.0)) h)

-- ---- names

pub one_p : (p q : Bool) (t u : List ℕ) → write_p p (60 ∷ t) ≡ write_p q (60 ∷ u) → (p ≡ q) × (t ≡ u)
one_p true true t u e = (refl, ap (λ z. tail (tail z)) e)
one_p false false t u e = (refl, ap tail e)
one_p true false t u e = absurd (apart 80 60 refl (ap head e))
one_p false true t u e = absurd (apart 60 80 refl (ap head e))

pub name_word : (cs : List ℕ) → is_name cs ≡ true → list_all is_ascii_word cs ≡ true
name_word [] h = absurd (true≢false (sym h))
name_word (c ∷ cs) h = (and_parts (not (is_ascii_digit c)) (list_all is_ascii_word (c ∷ cs)) h).1

pub named_before : (name t : List ℕ) → (name ++ (62 ∷ [])) ++ t ≡ name ++ (62 ∷ t)
named_before name t = append_assoc name (62 ∷ []) t

pub one_name : (a b s t : List ℕ) → is_name a ≡ true → is_name b ≡ true → a ++ (62 ∷ s) ≡ b ++ (62 ∷ t) → (a ≡ b) × (s ≡ t)
one_name a b s t f g e =
    let same = one_run is_ascii_word a b (62 ∷ s) (62 ∷ t) (name_word a f) (name_word b g) refl refl e in (same.0, ap tail same.1)

word_below : (c : ℕ) → is_ascii_word c ≡ true → c < 128
word_below c h =
    ⊎_elim
    (λ either.
    ⊎_elim
    (λ d. let most : c ≤ 57 = leb-true c 57 (and_parts (nat_le 48 c) (nat_le c 57) d).1 in omega arith)
    (λ l.
    ⊎_elim
    (λ u. let most : c ≤ 90 = leb-true c 90 (and_parts (nat_le 65 c) (nat_le c 90) u).1 in omega arith)
    (λ u. let most : c ≤ 122 = leb-true c 122 (and_parts (nat_le 97 c) (nat_le c 122) u).1 in omega arith)
    (or_cases (is_ascii_uppercase c) (is_ascii_lowercase c) l))
    (or_cases (is_ascii_digit c) (is_ascii_alphabetic c) either))
    (λ e. let same : c ≡ 95 = eqb-true c 95 e in omega arith)
    (or_cases (is_ascii_digit c || is_ascii_alphabetic c) (c == 95) h)

-- the bytes of an ASCII word are its characters
pub word_bytes : (cs : List ℕ) → list_all is_ascii_word cs ≡ true → encode_utf8_all cs ≡ cs
word_bytes [] h = refl
word_bytes (c ∷ cs) h =
    let parts = and_parts (is_ascii_word c) (list_all is_ascii_word cs) h in
    ap₂ (λ x y. x ++ y) (encode_ascii c (word_below c parts.0)) (word_bytes cs parts.1)

-- ---- what stands behind `(?`

pub one_marked : (m n : Marked) (s t : List ℕ) → FineMarked m → FineMarked n → write_marked m s ≡ write_marked n t → (m ≡ n) × (s ≡ t)
one_marked (sets l) (sets p) s t f g e =
    let same = one_flags l p (41 ∷ s) (41 ∷ t) (whole_flags l (41 ∷ s) f.0 refl) (whole_flags p (41 ∷ t) g.0 refl) e in (ap sets same.0, ap tail same.1)
one_marked (plain l) (plain p) s t f g e =
    let same = one_flags l p (58 ∷ s) (58 ∷ t) (whole_flags l (58 ∷ s) f refl) (whole_flags p (58 ∷ t) g refl) e in (ap plain same.0, ap tail same.1)
one_marked (sets l) (plain p) s t f g e =
    let same = one_flags l p (41 ∷ s) (58 ∷ t) (whole_flags l (41 ∷ s) f.0 refl) (whole_flags p (58 ∷ t) g refl) e in absurd (apart 41 58 refl (ap head same.1))
one_marked (plain l) (sets p) s t f g e =
    let same = one_flags l p (58 ∷ s) (41 ∷ t) (whole_flags l (58 ∷ s) f refl) (whole_flags p (41 ∷ t) g.0 refl) e in absurd (apart 58 41 refl (ap head same.1))
one_marked (sets l) (called p name) s t f g e = absurd (list_no_angle l (41 ∷ s) p ((name ++ (62 ∷ [])) ++ t) f.0 refl e)
one_marked (plain l) (called p name) s t f g e = absurd (list_no_angle l (58 ∷ s) p ((name ++ (62 ∷ [])) ++ t) f refl e)
one_marked (called p name) (sets l) s t f g e = absurd (list_no_angle l (41 ∷ t) p ((name ++ (62 ∷ [])) ++ s) g.0 refl (sym e))
one_marked (called p name) (plain l) s t f g e = absurd (list_no_angle l (58 ∷ t) p ((name ++ (62 ∷ [])) ++ s) g refl (sym e))
one_marked (called p name) (called q word) s t f g e =
    let same = one_p p q ((name ++ (62 ∷ [])) ++ s) ((word ++ (62 ∷ [])) ++ t) e in
    let more = one_name name word s t f g (sym (named_before name s) ∙ same.1 ∙ named_before word t) in
    (ap (λ z. called z name) same.0 ∙ ap (λ z. called q z) more.0, more.1)

-- ---- at a place

pub name_at : (text : List ℕ) (at end : ℕ) → RunAt is_ascii_word text at end → at ≤ end → begins 62 (drop end text) ≡ true → is_name (slice_range text at end) ≡ true
    → NameAt text at (slice_range text at end) (end + 1)
name_at text at end r onward h f =
    let mark : NextIs 62 text end = next_is 62 text end h in
    let within : end < length text = mark.within in
    record { goes_on = ((omega arith), (omega arith)); written = r.written ∙ ap (λ z. slice_range text at end ++ z) mark.written; fine = f }

pub same_name : (text : List ℕ) (at end : ℕ) → RunAt is_ascii_word text at end → (name t : List ℕ) → drop at text ≡ name ++ (62 ∷ t) → is_name name ≡ true
    → (name ≡ slice_range text at end) × (62 ∷ t ≡ drop end text)
same_name text at end r name t e f = one_run is_ascii_word name (slice_range text at end) (62 ∷ t) (drop end text) (name_word name f) r.passes refl r.stops (sym e ∙ r.written)

pub no_name_end : (text : List ℕ) (at end : ℕ) → RunAt is_ascii_word text at end → begins 62 (drop end text) ≡ false
    → (name t : List ℕ) → drop at text ≡ name ++ (62 ∷ t) → is_name name ≡ true → ⊥
no_name_end text at end r h name t e f = true≢false (ap (begins 62) (same_name text at end r name t e f).1 ∙ h)

pub no_name_word : (text : List ℕ) (at end : ℕ) → RunAt is_ascii_word text at end → is_name (slice_range text at end) ≡ false
    → (name t : List ℕ) → drop at text ≡ name ++ (62 ∷ t) → is_name name ≡ true → ⊥
no_name_word text at end r h name t e f = true≢false (sym f ∙ ap is_name (same_name text at end r name t e f).0 ∙ h)

-- a list with no letters takes no place
letters_by : (on : List ℕ) (o : Option (List ℕ)) (t : List ℕ) → option_map_or is_nil o false ≡ false → length t < length (on ++ write_off o t) → is_nil (on ++ unwrap_or o []) ≡ false
letters_by [] None t f lt = absurd (omega arith)
letters_by [] (Some []) t f lt = absurd (true≢false f)
letters_by [] (Some (c ∷ cs)) t f lt = refl
letters_by (c ∷ on) o t f lt = refl

none_by : (on : List ℕ) (o : Option (List ℕ)) (t : List ℕ) → option_map_or is_nil o false ≡ false → length (on ++ write_off o t) ≡ length t → is_nil (on ++ unwrap_or o []) ≡ true
none_by [] None t f e = refl
none_by [] (Some []) t f e = absurd (true≢false f)
none_by [] (Some (c ∷ cs)) t f e = absurd (omega (arith, length-append cs t))
none_by (c ∷ on) None t f e = absurd (omega (arith, length-append on t))
none_by (c ∷ on) (Some cs) t f e = absurd (omega (arith, length-append on (45 ∷ (cs ++ t)), length-append cs t))

other_end : (a b : Bool) → (a || b) ≡ true → a ≡ false → b ≡ true
other_end true b h n = absurd (true≢false n)
other_end false b h n = h

some_letters : (l : FlagList) (t : List ℕ) → FineFlags l → length t < length (write_flags l t) → is_nil (l.on ++ unwrap_or l.off []) ≡ false
some_letters l t f lt = letters_by l.on l.off t f.1 lt

pub plain_at : (k : Flags) (text : List ℕ) (at end : ℕ) (applied : Flags) → FlagsAt k text at applied end → begins 58 (drop end text) ≡ true
    → MarkedAt k text at (opening.Plain applied) (end + 1)
plain_at k text at end applied p h =
    let mark : NextIs 58 text end = next_is 58 text end h in
    let within : end < length text = mark.within in
    let onward : at ≤ end = p.onward in
    record {
      marked = plain p.list;
      is = p.applied;
      goes_on = ((omega arith), (omega arith));
      written = p.written ∙ ap (write_flags p.list) mark.written;
      fine = p.fine;
    }

pub sets_at : (k : Flags) (text : List ℕ) (at end : ℕ) (applied : Flags) → FlagsAt k text at applied end → begins 58 (drop end text) ≡ false → (end ≡ at → ⊥)
    → MarkedAt k text at (opening.Sets applied) (end + 1)
sets_at k text at end applied p h some =
    let closes : begins 41 (drop end text) ≡ true = other_end (begins 58 (drop end text)) (begins 41 (drop end text)) p.ends h in
    let mark : NextIs 41 text end = next_is 41 text end closes in
    let within : end < length text = mark.within in
    let onward : at ≤ end = p.onward in
    let long : length (drop at text) ≡ length (write_flags p.list (drop end text)) = ap length p.written in
    record {
      marked = sets p.list;
      is = p.applied;
      goes_on = ((omega arith), (omega arith));
      written = p.written ∙ ap (write_flags p.list) mark.written;
      fine = (p.fine, some_letters p.list (drop end text) p.fine (omega (arith, length-drop at text, length-drop end text)));
    }

-- a list without letters opens nothing
pub no_letters : (k : Flags) (text : List ℕ) (at end : ℕ) (applied : Flags) → FlagsAt k text at applied end → begins 58 (drop end text) ≡ false → end ≡ at
    → (m : Marked) (t : List ℕ) → IsFlagged m → drop at text ≡ write_marked m t → FineMarked m → ⊥
no_letters k text at end applied p h same (called b name) t i e f = i
no_letters k text at end applied p h same (plain l) t i e f =
    let one = one_flags p.list l (drop end text) (58 ∷ t) (whole_flags p.list (drop end text) p.fine p.ends) (whole_flags l (58 ∷ t) f refl) (sym p.written ∙ e) in
    true≢false (sym (ap (begins 58) one.1) ∙ h)
no_letters k text at end applied p h same (sets l) t i e f =
    let one = one_flags p.list l (drop end text) (41 ∷ t) (whole_flags p.list (drop end text) p.fine p.ends) (whole_flags l (41 ∷ t) f.0 refl) (sym p.written ∙ e) in
    let long : length (drop at text) ≡ length (write_flags p.list (drop end text)) = ap length p.written in
    let none : is_nil (p.list.on ++ unwrap_or p.list.off []) ≡ true =
    none_by p.list.on p.list.off (drop end text) p.fine.1 (omega (arith, length-drop at text, length-drop end text)) in
    true≢false (sym none ∙ ap (λ (l : FlagList). is_nil (l.on ++ unwrap_or l.off [])) one.0 ∙ f.1)

-- no flag list, nothing that has one
pub no_flagged : (k : Flags) (text : List ℕ) (at : ℕ) → IsFlagsRead k text at None
    → (m : Marked) (t : List ℕ) → IsFlagged m → drop at text ≡ write_marked m t → FineMarked m → ⊥
no_flagged k text at none (called b name) t i e f = i
no_flagged k text at none (plain l) t i e f = none l (58 ∷ t) e f refl
no_flagged k text at none (sets l) t i e f = none l (41 ∷ t) e f.0 refl

-- ---- names at a place

pub angle_behind_p : (text : List ℕ) (at angle : ℕ) → NextIs 80 text at → angle ≡ at + 1 → NextIs 60 text angle → IsAngleRead text at (Some (angle + 1))
angle_behind_p text at angle p same m =
    let within : angle < length text = m.within in
    (true, ((omega arith), (omega arith)), p.written ∙ ap (λ z. 80 ∷ z) (ap (λ i. drop i text) (sym same) ∙ m.written))

pub angle_alone : (text : List ℕ) (at angle : ℕ) → angle ≡ at → NextIs 60 text angle → IsAngleRead text at (Some (angle + 1))
angle_alone text at angle same m =
    let within : angle < length text = m.within in
    (false, ((omega arith), (omega arith)), ap (λ i. drop i text) (sym same) ∙ m.written)

pub no_angle_behind_p : (text : List ℕ) (at angle : ℕ) → NextIs 80 text at → angle ≡ at + 1 → begins 60 (drop angle text) ≡ false
    → (p : Bool) (t : List ℕ) → drop at text ≡ write_p p (60 ∷ t) → ⊥
no_angle_behind_p text at angle m same h true t e =
    true≢false (sym (ap (begins 60) (ap (λ i. drop i text) same ∙ ap tail (sym m.written ∙ e))) ∙ h)
no_angle_behind_p text at angle m same h false t e = apart 80 60 refl (ap head (sym m.written ∙ e))

pub no_angle_alone : (text : List ℕ) (at angle : ℕ) → begins 80 (drop at text) ≡ false → angle ≡ at → begins 60 (drop angle text) ≡ false
    → (p : Bool) (t : List ℕ) → drop at text ≡ write_p p (60 ∷ t) → ⊥
no_angle_alone text at angle n same h true t e = true≢false (sym (ap (begins 80) e) ∙ n)
no_angle_alone text at angle n same h false t e = true≢false (sym (ap (begins 60) (ap (λ i. drop i text) same ∙ e)) ∙ h)

pub named_at : (text : List ℕ) (at end : ℕ) (name : List ℕ) → RunAt is_ascii_word text at end → at ≤ end → begins 62 (drop end text) ≡ true
    → is_name (slice_range text at end) ≡ true → name ≡ encode_utf8_all (slice_range text at end) → NamedAt text at (opening.Named name) (end + 1)
named_at text at end name r onward h f e = record {
  name = name;
  is = refl;
  stands = subst (λ n. NameAt text at n (end + 1)) (sym (e ∙ word_bytes (slice_range text at end) r.passes)) (name_at text at end r onward h f);
}

-- no name behind `<` or `P<`
no_named : (text : List ℕ) (at start : ℕ) → IsAngleRead text at (Some start) → IsNamedRead text start None → (m : Marked) (t : List ℕ) → drop at text ≡ write_marked m t
    → FineMarked m → ⊥
no_named text at start angle none (sets l) t e f = list_no_angle l (41 ∷ t) angle.0 (drop start text) f.0 refl (sym e ∙ angle.2)
no_named text at start angle none (plain l) t e f = list_no_angle l (58 ∷ t) angle.0 (drop start text) f refl (sym e ∙ angle.2)
no_named text at start angle none (called p name) t e f =
    let same = one_p angle.0 p (drop start text) ((name ++ (62 ∷ [])) ++ t) (sym angle.2 ∙ e) in none name t (same.1 ∙ named_before name t) f

-- a name behind `<` or `P<`
pub named_marked : (k : Flags) (text : List ℕ) (at start : ℕ) → IsAngleRead text at (Some start) → (r : Option (Opening × ℕ)) → IsNamedRead text start r → IsMarkedRead k text at r
named_marked k text at start angle (Some read) n = record {
  marked = called angle.0 n.name;
  is = subst (λ o. IsMarked k (called angle.0 n.name) o) (sym n.is) refl;
  goes_on = (let a : at < start = angle.1.0 in let b : start < read.1 = n.stands.goes_on.0 in omega arith, n.stands.goes_on.1);
  written = angle.2 ∙ ap (λ z. write_p angle.0 (60 ∷ z)) (n.stands.written ∙ sym (named_before n.name (drop read.1 text)));
  fine = n.stands.fine;
}
named_marked k text at start angle None none = λ m t e f. no_named text at start angle none m t e f

no_marked : (k : Flags) (text : List ℕ) (at : ℕ) → IsAngleRead text at None → IsFlaggedRead k text at None → (m : Marked) (t : List ℕ) → drop at text ≡ write_marked m t
    → FineMarked m → ⊥
no_marked k text at angle none (sets l) t e f = none (sets l) t tt e f
no_marked k text at angle none (plain l) t e f = none (plain l) t tt e f
no_marked k text at angle none (called p name) t e f = angle p ((name ++ (62 ∷ [])) ++ t) e

-- no `<` or `P<`
pub flagged_marked : (k : Flags) (text : List ℕ) (at : ℕ) → IsAngleRead text at None → (r : Option (Opening × ℕ)) → IsFlaggedRead k text at r → IsMarkedRead k text at r
flagged_marked k text at angle (Some read) f = f
flagged_marked k text at angle None none = λ m t e f. no_marked k text at angle none m t e f
