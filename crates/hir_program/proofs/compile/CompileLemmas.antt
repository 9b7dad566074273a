-- A core that is appended to a program stands in it.
use Rattle.std.proofs.Common.{◌≡◌, ℕ, suc, ◌+◌, ◌-◌, ◌<◌, ◌≤◌, Bool, true, false, List, [], ◌∷◌, ◌++◌, map, drop, get_or, drop-cons, add-one, length, length-append, append-nil, append_assoc, replicate, option_map, Result, Ok, Err, OnOk, if◌then◌else◌, refl, sym, ap, subst, ◌∙◌, add_comm, arith}
use Rattle.std.proofs.lemmas.Grind.{common_steps}
use Rattle.std.proofs.Math.ListN.{drop_of_length-le}
use Rattle.hir_tree.specs.Core.{Core, empty, byte_in, char_in, look, group, pair, pair_all, choice, choice_all, copies, none, optional, plus, up_to, numbers}
use Rattle.hir_tree.specs.declared.look.Look.{Look}
use Rattle.hir_program.specs.Laid.{Lays, LaysEmpties, LaysFirst, Waits, IsProgram, GivesPreferred}
use Rattle.hir_program.specs.Program.{spot_at, ClosesFall}
use Rattle.hir_tree.specs.Runs.{begin, first, preferred}
use Rattle.hir_program.specs.declared.spot.Spot.{Spot}
use Rattle.hir_program.specs.declared.spot.Spot.TheVariants as spot
use Rattle.hir_tree.proofs.CoreNumbersLemmas.{some_numbers}
use Rattle.hir_program.proofs.PlacedLemmas.{program-runs}
use Rattle.hir_program.proofs.size.SizeLemmas.{copies_on, up_to_on, up_to_last}
use Rattle.hir_program.proofs.compile.PlacingLemmas.{Same, Placed-same, program-falls}

-- the place that was pushed
pushed_at : (old : List Spot) (s : Spot) (n : ℕ) → length old ≡ n → spot_at (old ++ s ∷ []) n ≡ s
pushed_at old s n e = grind (arith, common_steps)

-- the places below it
pushed_below : (old : List Spot) (s : Spot) (q : ℕ) → q < length old → spot_at (old ++ s ∷ []) q ≡ spot_at old q
pushed_below old s q lt = grind (arith, common_steps)

-- the places of two that were pushed
pushed_first : (old : List Spot) (s t : Spot) → spot_at (old ++ s ∷ t ∷ []) (length old) ≡ s
pushed_first old s t = grind (arith, common_steps)

-- the second of them
pushed_second : (old : List Spot) (s t : Spot) → spot_at (old ++ s ∷ t ∷ []) (length old + 1) ≡ t
pushed_second old s t = grind (arith, common_steps)

-- the places below them
pushed_two_below : (old : List Spot) (s t : Spot) (q : ℕ) → q < length old → spot_at (old ++ s ∷ t ∷ []) q ≡ spot_at old q
pushed_two_below old s t q lt = grind (arith, common_steps)

-- the first n spots are the same
abbrev pub SameBelow : ℕ → List Spot → List Spot → Type 0
SameBelow n old new = (q : ℕ) → q < n → spot_at new q ≡ spot_at old q

-- one spot was pushed
record Pushed (old new : List Spot) (s : Spot) : Type 0 where
  size : length new ≡ length old + 1
  kept : SameBelow (length old) old new
  here : spot_at new (length old) ≡ s

-- what is known after a push
pushed : (old new : List Spot) (s : Spot) → new ≡ old ++ s ∷ [] → Pushed old new s
pushed old new s e = record {
  size = omega (arith, ap length e, length-append old (s ∷ []));
  kept = λ q lt. ap (λ xs. spot_at xs q) e ∙ pushed_below old s q lt;
  here = ap (λ xs. spot_at xs (length old)) e ∙ pushed_at old s (length old) refl;
}

-- two spots were pushed
record PushedTwo (old new : List Spot) (s t : Spot) : Type 0 where
  size : length new ≡ length old + 2
  kept : SameBelow (length old) old new
  here : spot_at new (length old) ≡ s
  after : spot_at new (length old + 1) ≡ t

-- what is known after two
pushed_two : (old new : List Spot) (s t : Spot) → new ≡ old ++ s ∷ t ∷ [] → PushedTwo old new s t
pushed_two old new s t e = record {
  size = omega (arith, ap length e, length-append old (s ∷ t ∷ []));
  kept = λ q lt. ap (λ xs. spot_at xs q) e ∙ pushed_two_below old s t q lt;
  here = ap (λ xs. spot_at xs (length old)) e ∙ pushed_first old s t;
  after = ap (λ xs. spot_at xs (length old + 1)) e ∙ pushed_second old s t;
}

-- a spot that takes a byte was pushed
pub lays_bytes : (old new : List Spot) (f : ℕ) (set : List (ℕ × ℕ)) → new ≡ old ++ spot.Bytes f set ∷ [] → Lays old new f (byte_in set)
lays_bytes old new f set e = let one = pushed old new (spot.Bytes f set) e in record { size = one.size; kept = one.kept; placed = one.here }

-- a spot that takes a character was pushed
pub lays_chars : (old new : List Spot) (f : ℕ) (set : List (ℕ × ℕ)) → new ≡ old ++ spot.Chars f set ∷ [] → Lays old new f (char_in set)
lays_chars old new f set e = let one = pushed old new (spot.Chars f set) e in record { size = one.size; kept = one.kept; placed = one.here }

-- a spot that goes on was pushed
pub lays_empty : (old new : List Spot) (f : ℕ) → new ≡ old ++ spot.Jump f ∷ [] → Lays old new f empty
lays_empty old new f e = let one = pushed old new (spot.Jump f) e in record { size = one.size; kept = one.kept; placed = one.here }

-- a spot that looks was pushed
pub lays_look : (old new : List Spot) (f : ℕ) (l : Look) → new ≡ old ++ spot.Look l f ∷ [] → Lays old new f (look l)
lays_look old new f l e = let one = pushed old new (spot.Look l f) e in record { size = one.size; kept = one.kept; placed = one.here }

-- a spot that goes nowhere was pushed
pub lays_none : (old new : List Spot) (f : ℕ) → new ≡ old ++ spot.Fail ∷ [] → Lays old new f none
lays_none old new f e = let one = pushed old new spot.Fail e in record { size = one.size; kept = one.kept; placed = one.here }

-- both ends of a group were pushed, and its body was laid
pub lays_group : (old one new : List Spot) (f n i : ℕ) (a : Core) → length old ≡ n → one ≡ old ++ spot.Open (n + 2) ∷ spot.Close i f ∷ []
    → Lays one new (n + 1) a → Lays old new f (group i a)
lays_group old one new f n i a at e l =
    let two = pushed_two old one (spot.Open (n + 2)) (spot.Close i f) e in record {
      size = omega (arith, two.size, l.size);
      kept = λ q lt. l.kept q (omega (arith, two.size)) ∙ two.kept q lt;
      placed = (
        l.kept (length old) (omega (arith, two.size)) ∙ two.here ∙ ap (λ k. spot.Open (k + 2)) (sym at),
        l.kept (length old + 1) (omega (arith, two.size)) ∙ two.after,
        (rw (two.size, ← at) at l.placed),
      );
    }

-- both spots of a plus were pushed, and its body was laid
pub lays_plus : (old one new : List Spot) (f n : ℕ) (greedy : Bool) (a : Core) → length old ≡ n
    → one ≡ old ++ spot.Jump (n + 2) ∷ (if greedy then spot.Split (n + 2) f else spot.Split f (n + 2)) ∷ []
    → Lays one new (n + 1) a → Lays old new f (plus greedy a)
lays_plus old one new f n greedy a at e l =
    let again : ℕ → Spot = λ k. if greedy then spot.Split (k + 2) f else spot.Split f (k + 2) in
    let two = pushed_two old one (spot.Jump (n + 2)) (again n) e in record {
      size = omega (arith, two.size, l.size);
      kept = λ q lt. l.kept q (omega (arith, two.size)) ∙ two.kept q lt;
      placed = (
        l.kept (length old) (omega (arith, two.size)) ∙ two.here ∙ ap (λ k. spot.Jump (k + 2)) (sym at),
        l.kept (length old + 1) (omega (arith, two.size)) ∙ two.after ∙ ap again (sym at),
        (rw (two.size, ← at) at l.placed),
      );
    }

-- the first part of a pair was laid
pub waits_pair : (old one two : List Spot) (next n m : ℕ) (a b : Core) → length old ≡ n → m ≡ n + 1 + numbers a
    → one ≡ old ++ spot.Jump (n + 1) ∷ [] → Lays one two m a → Waits old two next (pair a b) b
waits_pair old one two next n m a b at to e l =
    let entry = pushed old one (spot.Jump (n + 1)) e in
    let ends : length two ≡ length old + 1 + numbers a = omega (arith, entry.size, l.size) in
    let to_here : m ≡ length old + 1 + numbers a = omega arith in record {
      size = omega (arith, ends);
      whole = λ final r. record {
        size = omega (arith, ends, r.size);
        kept = λ q lt. r.kept q (omega (arith, ends)) ∙ l.kept q (omega (arith, entry.size)) ∙ entry.kept q lt;
        placed = (
          r.kept (length old) (omega (arith, ends)) ∙ l.kept (length old) (omega (arith, entry.size)) ∙ entry.here ∙ ap (λ k. spot.Jump (k + 1)) (sym at),
          Placed-same two final a (length old + 1) (length old + 1 + numbers a) (λ q lo hi. r.kept q (omega (arith, ends)))
              (rw (entry.size, to_here) at l.placed),
          (rw ends at r.placed),
        );
      };
    }

-- the first part of a choice was laid
pub waits_choice : (old one two : List Spot) (next n m : ℕ) (a b : Core) → length old ≡ n → m ≡ n + 1 + numbers a
    → one ≡ old ++ spot.Split (n + 1) m ∷ [] → Lays one two next a → Waits old two next (choice a b) b
waits_choice old one two next n m a b at to e l =
    let entry = pushed old one (spot.Split (n + 1) m) e in
    let ends : length two ≡ length old + 1 + numbers a = omega (arith, entry.size, l.size) in
    let to_here : m ≡ length old + 1 + numbers a = omega arith in record {
      size = omega (arith, ends);
      whole = λ final r. record {
        size = omega (arith, ends, r.size);
        kept = λ q lt. r.kept q (omega (arith, ends)) ∙ l.kept q (omega (arith, entry.size)) ∙ entry.kept q lt;
        placed = (
          r.kept (length old) (omega (arith, ends)) ∙ l.kept (length old) (omega (arith, entry.size)) ∙ entry.here
              ∙ ap (λ k. spot.Split (k + 1) m) (sym at) ∙ ap (spot.Split (length old + 1)) to_here,
          Placed-same two final a (length old + 1) next (λ q lo hi. r.kept q (omega (arith, ends))) (rw entry.size at l.placed),
          (rw ends at r.placed),
        );
      };
    }

-- nothing was appended yet
pub waits_start : (old : List Spot) (next : ℕ) (core : Core) → Waits old old next core core
waits_start old next core = record { size = refl; whole = λ final l. l }

-- more was appended, and a smaller part waits
pub waits_on : (old now new : List Spot) (next : ℕ) (core part rest : Core) → Waits old now next core part → Waits now new next part rest
    → Waits old new next core rest
waits_on old now new next core part rest w v = record {
  size = omega (arith, w.size, v.size);
  whole = λ final l. w.whole final (v.whole final l);
}

-- what stands from a place on begins with the element there
drop_here : {A : Type 0} (xs : List A) (i : ℕ) (d : A) → i < length xs → drop i xs ≡ get_or xs i d ∷ drop (i + 1) xs
drop_here xs i d within = rw add-one (drop-cons xs i d within)

drop_element : {A : Type 0} (xs : List A) (i : ℕ) (d x : A) → i < length xs → x ≡ get_or xs i d → drop i xs ≡ x ∷ drop (i + 1) xs
drop_element xs i d x within e = drop_here xs i d within ∙ ap (λ y. y ∷ drop (i + 1) xs) (sym e)

-- what is left of a row, where it has several parts
row_on : {A : Type 0} (f : A → Core) (xs : List A) (i : ℕ) (d x : A) → i + 1 < length xs → x ≡ get_or xs i d
    → pair_all (map f (drop i xs)) ≡ pair (f x) (pair_all (map f (drop (i + 1) xs)))
row_on f xs i d x within is =
    let after : drop (i + 1) xs ≡ get_or xs (i + 1) d ∷ drop (i + 1 + 1) xs = drop_here xs (i + 1) d within in
    let here : drop i xs ≡ x ∷ drop (i + 1) xs = drop_element xs i d x (omega arith) is in
    rw here (rw after refl)

pub row_holds : {A : Type 0} (f : A → Core) (xs : List A) (i : ℕ) (d x : A) → i + 1 < length xs → x ≡ get_or xs i d
    → numbers (f x) + 2 ≤ numbers (pair_all (map f (drop i xs)))
row_holds f xs i d x within is = omega (arith, ap numbers (row_on f xs i d x within is), some_numbers (pair_all (map f (drop (i + 1) xs))))

-- the first part of what is left of a row was laid, and others follow
pub waits_row : {A : Type 0} (f : A → Core) (xs : List A) (i : ℕ) (d x : A) (old now new : List Spot) (next : ℕ) (core : Core) → i + 1 < length xs
    → x ≡ get_or xs i d → LaysFirst now new (f x) → Waits old now next core (pair_all (map f (drop i xs)))
    → Waits old new next core (pair_all (map f (drop (i + 1) xs)))
waits_row f xs i d x old now new next core within is laid w =
    let rest = pair_all (map f (drop (i + 1) xs)) in
    waits_on old now new next core (pair (f x) rest) rest (rw (row_on f xs i d x within is) at w) (laid next rest)

-- the last part of a row was laid
pub lays_row : {A : Type 0} (f : A → Core) (xs : List A) (i : ℕ) (d x : A) (old now new : List Spot) (next : ℕ) (core : Core) → i + 1 ≡ length xs
    → x ≡ get_or xs i d → Waits old now next core (pair_all (map f (drop i xs))) → Lays now new next (f x) → Lays old new next core
lays_row f xs i d x old now new next core last is w l =
    let here : drop i xs ≡ x ∷ drop (i + 1) xs = drop_element xs i d x (omega arith) is in
    let after : drop (i + 1) xs ≡ [] = drop_of_length-le xs (omega arith) in
    let alone : pair_all (map f (drop i xs)) ≡ f x = rw (here, after) refl in
    w.whole new (rw alone l)

-- what is left of a choice
choices_on : {A : Type 0} (f : A → Core) (xs : List A) (i : ℕ) (d x : A) → i < length xs → x ≡ get_or xs i d
    → choice_all (map f (drop i xs)) ≡ choice (f x) (choice_all (map f (drop (i + 1) xs)))
choices_on f xs i d x within is =
    let here : drop i xs ≡ x ∷ drop (i + 1) xs = drop_element xs i d x within is in
    rw here refl

pub choices_hold : {A : Type 0} (f : A → Core) (xs : List A) (i : ℕ) (d x : A) → i < length xs → x ≡ get_or xs i d
    → numbers (f x) + 2 ≤ numbers (choice_all (map f (drop i xs)))
choices_hold f xs i d x within is = omega (arith, ap numbers (choices_on f xs i d x within is), some_numbers (choice_all (map f (drop (i + 1) xs))))

-- the first part of what is left of a choice was laid
pub waits_choices : {A : Type 0} (f : A → Core) (xs : List A) (i : ℕ) (d x : A) (old now new : List Spot) (next : ℕ) (core : Core) → i < length xs
    → x ≡ get_or xs i d → ((b : Core) → Waits now new next (choice (f x) b) b) → Waits old now next core (choice_all (map f (drop i xs)))
    → Waits old new next core (choice_all (map f (drop (i + 1) xs)))
waits_choices f xs i d x old now new next core within is laid w =
    let rest = choice_all (map f (drop (i + 1) xs)) in
    waits_on old now new next core (choice (f x) rest) rest (rw (choices_on f xs i d x within is) at w) (laid rest)

-- a part that may be left out was laid, which is preferred
pub lays_greedy : (greedy : Bool) (old one two new : List Spot) (next n m : ℕ) (a : Core) → greedy ≡ true → length old ≡ n → m ≡ n + 1 + numbers a
    → one ≡ old ++ spot.Split (n + 1) m ∷ [] → Lays one two next a → Lays two new next empty → Lays old new next (optional greedy a)
lays_greedy greedy old one two new next n m a is at to e l r =
    rw is ((waits_choice old one two next n m a empty at to e l).whole new r)

-- a part that may be left out was laid, and leaving it out is preferred
pub lays_lazy : (greedy : Bool) (old one two new : List Spot) (next n m : ℕ) (a : Core) → greedy ≡ false → length old ≡ n → m ≡ n + 1 + 1
    → one ≡ old ++ spot.Split (n + 1) m ∷ [] → Lays one two next empty → Lays two new next a → Lays old new next (optional greedy a)
lays_lazy greedy old one two new next n m a is at to e l r =
    rw is ((waits_choice old one two next n m empty a at to e l).whole new r)

-- What was appended waits for the last part of a core that so many empties end: once the part and the empties are laid, the core is.
pub record WaitsEmpties (old now : List Spot) (next count : ℕ) (core part : Core) : Type 0 where
  pub size : length now + numbers part + count ≡ length old + numbers core
  pub whole : (mid final : List Spot) → Lays now mid next part → LaysEmpties count mid final next → Lays old final next core

-- nothing was appended yet
pub empties_start : (old : List Spot) (next : ℕ) (core : Core) → WaitsEmpties old old next 0 core core
empties_start old next core = record {
  size = omega arith;
  whole = λ mid final l e. subst (λ spots. Lays old spots next core) (sym (e ∙ append-nil mid)) l;
}

-- the split of a part that may be left out was pushed, and one empty more is to come
pub empties_in : (old now one : List Spot) (next n m count more : ℕ) (core a : Core) → WaitsEmpties old now next count core (choice a empty)
    → length now ≡ n → m ≡ n + 1 + numbers a → one ≡ now ++ spot.Split (n + 1) m ∷ [] → more ≡ count + 1
    → WaitsEmpties old one next more core a
empties_in old now one next n m count more core a w at to e one_more =
    let entry = pushed now one (spot.Split (n + 1) m) e in record {
      size = omega (arith, entry.size, w.size);
      whole = λ mid final l ends.
          let after : List Spot = mid ++ spot.Jump next ∷ [] in
          let counted : more ≡ suc count = omega arith in
          let here = (waits_choice now one mid next n m a empty at to e l).whole after (lays_empty mid after next refl) in
          w.whole after final here
          (ends ∙ ap (λ k. mid ++ replicate k (spot.Jump next)) counted ∙ sym (append_assoc mid (spot.Jump next ∷ []) (replicate count (spot.Jump next))));
    }

-- more was appended, and a smaller part waits
pub empties_on : (old now new : List Spot) (next count : ℕ) (core part rest : Core) → WaitsEmpties old now next count core part
    → Waits now new next part rest → WaitsEmpties old new next count core rest
empties_on old now new next count core part rest w v = record {
  size = omega (arith, w.size, v.size);
  whole = λ mid final l. w.whole mid final (v.whole mid l);
}

-- one more copy was laid
pub waits_copies : (old now new : List Spot) (next left : ℕ) (core a b : Core) → 0 < left → LaysFirst now new a
    → Waits old now next core (copies left a b) → Waits old new next core (copies (left - 1) a b)
waits_copies old now new next left core a b some laid w =
    waits_on old now new next core (pair a (copies (left - 1) a b)) (copies (left - 1) a b) (rw (copies_on left a b some) at w) (laid next (copies (left - 1) a b))

-- one more part was laid that may be left out, which is preferred
pub waits_lazy : (old now one new : List Spot) (next left : ℕ) (core a : Core) → 1 < left
    → ((b : Core) → Waits now one next (optional false b) b) → LaysFirst one new a
    → Waits old now next core (up_to false left a) → Waits old new next core (up_to false (left - 1) a)
waits_lazy old now one new next left core a some out laid w =
    let rest = up_to false (left - 1) a in
    waits_on old one new next core (pair a rest) rest
    (waits_on old now one next core (optional false (pair a rest)) (pair a rest) (rw (up_to_on false left a some) at w) (out (pair a rest)))
    (laid next rest)

-- the last part was laid that may be left out
pub lays_last : (old now one new : List Spot) (next left : ℕ) (core a : Core) → left ≡ 1 → ((b : Core) → Waits now one next (optional false b) b)
    → Waits old now next core (up_to false left a) → Lays one new next a → Lays old new next core
lays_last old now one new next left core a last out w l = w.whole new (rw (up_to_last false left a last) ((out a).whole new l))

-- one more part was laid that may be left out, where taking it is preferred
pub waits_greedy : (old now one new : List Spot) (next n m count left : ℕ) (core a : Core) → 1 < left → left ≤ count → length now ≡ n
    → m ≡ n + 2 + numbers a + numbers (up_to true (left - 1) a) → one ≡ now ++ spot.Split (n + 1) m ∷ [] → LaysFirst one new a
    → WaitsEmpties old now next (count - left) core (up_to true left a) → WaitsEmpties old new next (count - (left - 1)) core (up_to true (left - 1) a)
waits_greedy old now one new next n m count left core a some within at to e laid w =
    let rest = up_to true (left - 1) a in
    empties_on old one new next (count - (left - 1)) core (pair a rest) rest
    (empties_in old now one next n m (count - left) (count - (left - 1)) core (pair a rest) (rw (up_to_on true left a some) at w) at (omega arith) e (omega arith))
    (laid next rest)

-- the last part was laid, and all that is taken where one is left out
pub lays_empties : (old now one mid new : List Spot) (next n m count left : ℕ) (core a : Core) → left ≡ 1 → 0 < count → length now ≡ n
    → m ≡ n + 1 + numbers a → one ≡ now ++ spot.Split (n + 1) m ∷ [] → WaitsEmpties old now next (count - left) core (up_to true left a)
    → Lays one mid next a → LaysEmpties count mid new next → Lays old new next core
lays_empties old now one mid new next n m count left core a last some at to e w l ends =
    (empties_in old now one next n m (count - left) count core a (rw (up_to_last true left a last) at w) at to e (omega arith)).whole mid new l ends

-- what holds where there is a value
pub on_ok : {T E P Q : Type 0} (r : Result T E) → (P → Q) → OnOk r P → OnOk r Q
on_ok (Ok v) f p = f p
on_ok (Err e) f p = tt

pub length_pushed : (old new : List Spot) (s : Spot) → new ≡ old ++ s ∷ [] → length new ≡ length old + 1
length_pushed old new s e = (pushed old new s e).size

-- a core that was appended to the ends of group 0, with the match after it
pub program-placed : (start old new : List Spot) (core : Core) → start ≡ spot.Open 2 ∷ spot.Close 0 (numbers core + 2) ∷ []
    → Lays start old 1 core → new ≡ old ++ spot.Match ∷ [] → IsProgram core new
program-placed start old new core at_start more e =
    let two : length start ≡ 2 = ap length at_start in
    let long : length old ≡ 2 + numbers core = omega (arith, more.size) in
    let same : Same old new 0 (2 + numbers core) = λ q lo hi. ap (λ xs. spot_at xs q) e ∙ pushed_below old spot.Match q (omega arith) in
    record {
      size = omega (arith, ap length e, length-append old (spot.Match ∷ []));
      placed = (
        same 0 (omega arith) (omega arith) ∙ more.kept 0 (omega arith) ∙ ap (λ xs. spot_at xs 0) at_start,
        same 1 (omega arith) (omega arith) ∙ more.kept 1 (omega arith) ∙ ap (λ xs. spot_at xs 1) at_start
            ∙ ap (λ n. spot.Close 0 n) (add_comm (numbers core) 2),
        Placed-same old new core 2 1 (λ q lo hi. same q (omega arith) (omega arith)) (rw two at more.placed),
      );
      ends = ap (λ xs. spot_at xs (2 + numbers core)) e ∙ pushed_at old spot.Match (2 + numbers core) long;
    }

-- in a program the ends of groups fall
pub program-closes : (spots : List Spot) (core : Core) → IsProgram core spots → ClosesFall spots
program-closes spots core p = program-falls spots (group 0 core) p.size p.placed p.ends

-- the first run of a program is the preferred match
pub program-preferred : (spots : List Spot) (core : Core) → IsProgram core spots → GivesPreferred core spots
unfolding preferred
program-preferred spots core p text at groups within =
    ap (λ rs. option_map (λ r. r.groups) (first rs))
    (program-runs text spots (program-closes spots core p) (group 0 core) p.placed p.ends (begin at groups) within)
