-- Flag lists are written one way.
use Rattle.std.proofs.Common.{◌≡◌, ℕ, ◌+◌, ◌-◌, ◌<◌, ◌≤◌, Bool, true, false, not, List, [], ◌∷◌, ◌++◌, ◌==◌, Option, Some, None, length, take, drop, refl, sym, ap, ◌∙◌, ⊎_elim, true≢false, arith, append_assoc, length-append, length-drop, unwrap_or}
use Rattle.std.proofs.lemmas.Bool.{and_from, both_ways, eqb-true, or_cases}
use Rattle.std.proofs.lemmas.List.{take_at}
use Rattle.std.specs.List.{slice_range, list_all}
use Rattle.pattern_syntax.specs.declared.flags.Flags.{Flags}
use Rattle.pattern_syntax.specs.Flags.{FlagList, write_off, write_flags, FineFlags, are_letters, begins, set_flags, is_nil}
use Rattle.pattern_syntax.specs.Runs.{is_flag, comes}
use Rattle.pattern_syntax.specs.OpeningReaders.{are_distinct, off_ends, IsOffRead, ends_flags, FlagsAt}
use Rattle.pattern_syntax.proofs.BlanksLemmas.{two}
use Rattle.pattern_syntax.proofs.SameBlanks.{tail}
use Rattle.pattern_syntax.proofs.runs.RunLemmas.{RunAt, next_is, one_run}
use Rattle.pattern_syntax.proofs.flag_lists.DistinctLemmas.{distinct_skip, all_left, all_right, all_both, letters_are_flags, letters_are_distinct, letters_from}
use Rattle.std.specs.Option.{option_map_or}

-- letters of flags, all that come next
pub record WholeFlags (l : FlagList) (t : List ℕ) : Type 0 where
  pub on : list_all is_flag l.on ≡ true
  pub off : list_all is_flag (unwrap_or l.off []) ≡ true
  pub ends : off_ends l.off t ≡ true

on_ends : (o : Option (List ℕ)) (t : List ℕ) → off_ends o t ≡ true → comes is_flag (write_off o t) ≡ false
on_ends None t h = (two (comes is_flag t) (begins 45 t) h).0
on_ends (Some cs) t h = refl

no_flag : (b : Bool) → not b ≡ true → b ≡ false
no_flag false h = refl
no_flag true h = absurd (true≢false (sym h))

one_off : (o p : Option (List ℕ)) (t u : List ℕ) → list_all is_flag (unwrap_or o []) ≡ true → list_all is_flag (unwrap_or p []) ≡ true → off_ends o t ≡ true → off_ends p u ≡ true
    → write_off o t ≡ write_off p u → (o ≡ p) × (t ≡ u)
one_off None None t u a b x y e = (refl, e)
one_off None (Some ds) t u a b x y e = absurd (true≢false (sym (ap (begins 45) e) ∙ (two (comes is_flag t) (begins 45 t) x).1))
one_off (Some cs) None t u a b x y e = absurd (true≢false (ap (begins 45) e ∙ (two (comes is_flag u) (begins 45 u) y).1))
one_off (Some cs) (Some ds) t u a b x y e =
    let same = one_run is_flag cs ds t u a b (no_flag (comes is_flag t) x) (no_flag (comes is_flag u) y) (ap tail e) in (ap Some same.0, same.1)

abbrev pub list_of : List ℕ → Option (List ℕ) → FlagList
list_of on off = record { on = on; off = off }

pub one_flags : (l m : FlagList) (t u : List ℕ) → WholeFlags l t → WholeFlags m u → write_flags l t ≡ write_flags m u → (l ≡ m) × (t ≡ u)
one_flags l m t u f g e =
    let a = one_run is_flag l.on m.on (write_off l.off t) (write_off m.off u) f.on g.on (on_ends l.off t f.ends) (on_ends m.off u g.ends) e in
    let b = one_off l.off m.off t u f.off g.off f.ends g.ends a.1 in
    (ap (λ z. list_of z l.off) a.0 ∙ ap (λ z. list_of m.on z) b.0, b.1)

end_by : (c d : ℕ) → (c == d) ≡ true → is_flag d ≡ false → (d == 45) ≡ false → (is_flag c ≡ false) × ((c == 45) ≡ false)
end_by c d e f n = let same = eqb-true c d e in (ap is_flag same ∙ f, ap (λ c. c == 45) same ∙ n)

ends_clear : (t : List ℕ) → ends_flags t ≡ true → (comes is_flag t ≡ false) × (begins 45 t ≡ false)
ends_clear [] h = absurd (true≢false (sym h))
ends_clear (c ∷ t) h = ⊎_elim (λ e. end_by c 58 e refl refl) (λ e. end_by c 41 e refl refl) (or_cases (c == 58) (c == 41) h)

off_done : (o : Option (List ℕ)) (t : List ℕ) → ends_flags t ≡ true → off_ends o t ≡ true
off_done None t h = let clear = ends_clear t h in and_from (not (comes is_flag t)) (not (begins 45 t)) (ap not clear.0) (ap not clear.1)
off_done (Some cs) t h = ap not (ends_clear t h).0

pub whole_flags : (l : FlagList) (t : List ℕ) → FineFlags l → ends_flags t ≡ true → WholeFlags l t
whole_flags l t f h =
    let flags = letters_are_flags (l.on ++ unwrap_or l.off []) f.0 in
    record { on = all_left is_flag l.on (unwrap_or l.off []) flags; off = all_right is_flag l.on (unwrap_or l.off []) flags; ends = off_done l.off t h }

-- ---- the flag list at a place

-- its letters, before a `-` and behind it
pub record ListAt (text : List ℕ) (at dash end : ℕ) : Type 0 where
  pub list : FlagList
  pub written : drop at text ≡ write_flags list (drop end text)
  pub whole : WholeFlags list (drop end text)
  pub on_is : list.on ≡ slice_range text at dash
  pub off_is : unwrap_or list.off [] ≡ slice_range text (dash + 1) end
  pub off_written : drop dash text ≡ write_off list.off (drop end text)

pub list_at : (text : List ℕ) (at dash end : ℕ) → RunAt is_flag text at dash → IsOffRead text dash end → ListAt text at dash end
list_at text at dash end r o = record {
  list = list_of (slice_range text at dash) o.off;
  written = r.written ∙ ap (λ z. slice_range text at dash ++ z) o.written;
  whole = record { on = r.passes; off = o.letters; ends = o.ends r.stops };
  on_is = refl;
  off_is = o.letters_are;
  off_written = o.written;
}

-- a fine list at the place is that one
pub same_list : (text : List ℕ) (at dash end : ℕ) → (p : ListAt text at dash end) → (l : FlagList) (t : List ℕ) → drop at text ≡ write_flags l t
    → FineFlags l → ends_flags t ≡ true → (p.list ≡ l) × (drop end text ≡ t)
same_list text at dash end p l t e f h = one_flags p.list l (drop end text) t p.whole (whole_flags l t f h) (sym p.written ∙ e)

none_behind_dash : (o : Option (List ℕ)) (t u : List ℕ) → t ≡ write_off o u → length t ≡ length u + 1 → option_map_or is_nil o false ≡ true
none_behind_dash None t u e l = let same : length t ≡ length u = ap length e in absurd (omega arith)
none_behind_dash (Some []) t u e l = refl
none_behind_dash (Some (c ∷ cs)) t u e l =
    let long : length t ≡ length (write_off (Some (c ∷ cs)) u) = ap length e in absurd (omega (arith, length-append cs u))

some_behind_dash : (o : Option (List ℕ)) (t u : List ℕ) → t ≡ write_off o u → (length t ≡ length u + 1 → ⊥) → option_map_or is_nil o false ≡ false
some_behind_dash None t u e n = refl
some_behind_dash (Some []) t u e n = let long : length t ≡ length (write_off (Some []) u) = ap length e in absurd (n (omega arith))
some_behind_dash (Some (c ∷ cs)) t u e n = refl

pub no_letters_off : (text : List ℕ) (at dash end : ℕ) → (p : ListAt text at dash end) → end ≤ length text → end ≡ dash + 1 → option_map_or is_nil p.list.off false ≡ true
no_letters_off text at dash end p le e =
    none_behind_dash p.list.off (drop dash text) (drop end text) p.off_written (omega (arith, length-drop dash text, length-drop end text))

pub letters_off : (text : List ℕ) (at dash end : ℕ) → (p : ListAt text at dash end) → end ≤ length text → dash ≤ end → (end ≡ dash + 1 → ⊥) → option_map_or is_nil p.list.off false ≡ false
letters_off text at dash end p le onward n =
    some_behind_dash p.list.off (drop dash text) (drop end text) p.off_written (λ e. n (omega (arith, length-drop dash text, length-drop end text, e)))

abbrev with_dash : Option (List ℕ) → List ℕ
with_dash None = []
with_dash (Some cs) = 45 ∷ cs

dash_before : (o : Option (List ℕ)) (t : List ℕ) → write_off o t ≡ with_dash o ++ t
dash_before None t = refl
dash_before (Some cs) t = refl

distinct_dash : (on : List ℕ) (o : Option (List ℕ)) → list_all is_flag on ≡ true → list_all is_flag (unwrap_or o []) ≡ true → are_distinct (on ++ with_dash o) ≡ are_distinct (on ++ unwrap_or o [])
distinct_dash on None a b = refl
distinct_dash on (Some cs) a b = distinct_skip on cs a b

-- the letters stand once where all that is written does
pub distinct_at : (text : List ℕ) (at dash end : ℕ) → (p : ListAt text at dash end) → at ≤ end → end ≤ length text
    → are_distinct (slice_range text at end) ≡ are_distinct (p.list.on ++ unwrap_or p.list.off [])
distinct_at text at dash end p onward within =
    let cs = p.list.on ++ with_dash p.list.off in
    let split : drop at text ≡ cs ++ drop end text =
    p.written ∙ ap (λ z. p.list.on ++ z) (dash_before p.list.off (drop end text)) ∙ sym (append_assoc p.list.on (with_dash p.list.off) (drop end text)) in
    let long : length (drop at text) ≡ length (cs ++ drop end text) = ap length split in
    let size : length cs ≡ end - at = omega (arith, length-drop at text, length-drop end text, length-append cs (drop end text), long) in
    let same : slice_range text at end ≡ cs = ap (take (end - at)) split ∙ take_at cs (drop end text) (end - at) size in
    ap are_distinct same ∙ distinct_dash p.list.on p.list.off p.whole.on p.whole.off

ends_within : (text : List ℕ) (end : ℕ) → ends_flags (drop end text) ≡ true → end < length text
ends_within text end h =
    ⊎_elim (λ e. (next_is 58 text end e).within) (λ e. (next_is 41 text end e).within) (or_cases (begins 58 (drop end text)) (begins 41 (drop end text)) h)

-- nothing stands between a place and one before it
pub none_between : (text : List ℕ) (dash end : ℕ) → end ≡ dash → slice_range text (dash + 1) end ≡ []
none_between text dash end e = ap (λ n. take n (drop (dash + 1) text)) (let none : end - (dash + 1) ≡ 0 = omega arith in none)

pub flags_at : (k : Flags) (text : List ℕ) (at dash end : ℕ) (read : Flags) → (p : ListAt text at dash end) → at ≤ dash → dash ≤ end
    → ends_flags (drop end text) ≡ true → (end ≡ dash + 1 → ⊥) → are_distinct (slice_range text at end) ≡ true
    → read ≡ set_flags false (slice_range text (dash + 1) end) (set_flags true (slice_range text at dash) k) → FlagsAt k text at read end
flags_at k text at dash end read p a b ends some distinct applied =
    let within = ends_within text end ends in
    let first : at ≤ end = omega arith in
    let last : end ≤ length text = omega arith in
    record {
      list = p.list;
      onward = first;
      within = within;
      written = p.written;
      fine = (
        letters_from (p.list.on ++ unwrap_or p.list.off []) (all_both is_flag p.list.on (unwrap_or p.list.off []) p.whole.on p.whole.off)
            (sym (distinct_at text at dash end p first last) ∙ distinct),
        letters_off text at dash end p last b some,
      );
      ends = ends;
      applied =
          applied ∙ ap (λ z. set_flags false z (set_flags true (slice_range text at dash) k)) (sym p.off_is)
          ∙ ap (λ z. set_flags false (unwrap_or p.list.off []) (set_flags true z k)) (sym p.on_is);
    }

-- ---- where no list stands

pub no_list_end : (text : List ℕ) (at dash end : ℕ) → ListAt text at dash end → ends_flags (drop end text) ≡ false
    → (l : FlagList) (t : List ℕ) → drop at text ≡ write_flags l t → FineFlags l → ends_flags t ≡ true → ⊥
no_list_end text at dash end p n l t e f h = both_ways (ends_flags t) (sym (ap ends_flags (same_list text at dash end p l t e f h).1) ∙ n) h

pub no_list_off : (text : List ℕ) (at dash end : ℕ) → ListAt text at dash end → end ≤ length text → end ≡ dash + 1
    → (l : FlagList) (t : List ℕ) → drop at text ≡ write_flags l t → FineFlags l → ends_flags t ≡ true → ⊥
no_list_off text at dash end p le last l t e f h =
    both_ways (option_map_or is_nil p.list.off false) (ap (λ (l : FlagList). option_map_or is_nil l.off false) (same_list text at dash end p l t e f h).0 ∙ f.1) (no_letters_off text at dash end p le last)

pub no_list_twice : (text : List ℕ) (at dash end : ℕ) → ListAt text at dash end → at ≤ end → end ≤ length text → are_distinct (slice_range text at end) ≡ false
    → (l : FlagList) (t : List ℕ) → drop at text ≡ write_flags l t → FineFlags l → ends_flags t ≡ true → ⊥
no_list_twice text at dash end p onward le twice l t e f h =
    both_ways (are_distinct (p.list.on ++ unwrap_or p.list.off [])) (sym (distinct_at text at dash end p onward le) ∙ twice)
    (letters_are_distinct (p.list.on ++ unwrap_or p.list.off [])
    (ap (λ (l : FlagList). are_letters (l.on ++ unwrap_or l.off [])) (same_list text at dash end p l t e f h).0 ∙ f.0))
