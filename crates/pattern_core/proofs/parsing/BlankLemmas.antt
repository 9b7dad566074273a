-- White space and comments before what is read.
use Rattle.std.proofs.Common.{◌≡◌, ◌≤◌, ℕ, Bool, true, false, List, [], ◌∷◌, ◌++◌, ◌==◌, ◌||◌, ◌&&◌, length, length-append, eqb-true, refl, sym, ap, ◌∙◌, subst, true≢false, arith}
use Rattle.ucd_props.proofs.Computing.{ucd_props}
use Rattle.unicode.specs.Binary.{is_white_space}
use Rattle.pattern_syntax.proofs.BlanksLemmas.{number_sign, passed_white, passed_clear, left_comment, left_line, left_on}
use Rattle.pattern_syntax.proofs.SameBlanks.{head, tail, IsClear, same_line}
use Rattle.pattern_syntax.specs.declared.flags.Flags.{Flags}
use Rattle.pattern_syntax.specs.Flags.{Blank, FlagList, white, comment, write_blanks, FineBlanks, has, ends_line, passed, after_line, seen, seen_if}
use Rattle.pattern_syntax.specs.Atom.{character, escaped, control, coded, braced, octal, perl, category, category_braced}
use Rattle.pattern_syntax.specs.Syntax.{Single, atom, dot, caret, dollar, look, class, text_start, text_end, edge, no_edge, word_start, word_end, half_start, half_end, left, right, Kind, numbered, named, flagged, write_single, write_kind, FineSingle, is_special}
use Rattle.pattern_syntax.specs.Reads.{Part, Found}
use Rattle.pattern_core.specs.Progress.{Gathered, Level, Frame, After, last, Rest, leave, after_all}
use Rattle.pattern_core.proofs.parsing.StepLemmas.{Goes, ends, bars, passes, sets, items, opens, goes, came_pass, write_set}

-- a text that follows a group's end
abbrev pub IsStop : List ℕ → Type 0
IsStop [] = Unit {0}
IsStop (c ∷ u) = c ≡ 41

abbrev pub Stops : After → Type 0
Stops after = (a : Part) (n : Gathered) (u : List ℕ) (found : Found) → after a n u found → IsStop u

stops_last : Stops last
stops_last a n u found s = subst IsStop (sym s.0) tt

pub stops_leave : (f : Frame) (after : After) → Stops (leave f after)
stops_leave f after a n u found s = subst IsStop (sym s.1) refl

stops_of : (after : After) (fs : List Frame) → Stops after → Stops (after_all after fs)
stops_of after [] h = h
stops_of after (f ∷ fs) h = stops_of (leave f after) fs (stops_leave f after)

pub stops : (fs : List Frame) → Stops (after_all last fs)
stops fs = stops_of last fs stops_last

-- one more open group, the innermost
pub after_more : (after : After) (fs : List Frame) (f : Frame) → after_all after (fs ++ f ∷ []) ≡ leave f (after_all after fs)
after_more after [] f = refl
after_more after (g ∷ fs) f = after_more (leave g after) fs f

or_left : (a b : Bool) → (a || b) ≡ false → a ≡ false
or_left false b h = refl
or_left true b h = h

or_right : (a b : Bool) → (a || b) ≡ false → b ≡ false
or_right false b h = h
or_right true b h = absurd (true≢false h)

stop_clear : (u : List ℕ) → IsStop u → IsClear u
unfolding ucd_props
stop_clear [] s = tt
stop_clear (c ∷ u) s = subst (λ c. IsClear (c ∷ u)) (sym s) (refl, refl)

pub single_clear : (k : Flags) (s : Single) (t : List ℕ) → k.spaces ≡ true → FineSingle k s t → IsClear (write_single s t)
unfolding ucd_props
single_clear k (atom (character d)) t x f =
    let h : (is_white_space d || (d == 35)) ≡ false = sym (ap (λ b. b && (is_white_space d || (d == 35))) x) ∙ or_right (is_special d) _ f in
    (or_left (is_white_space d) (d == 35) h, or_right (is_white_space d) (d == 35) h)
single_clear k (atom (escaped c)) t x f = (refl, refl)
single_clear k (atom (control c)) t x f = (refl, refl)
single_clear k (atom (coded c ds)) t x f = (refl, refl)
single_clear k (atom (braced c bs ds cs)) t x f = (refl, refl)
single_clear k (atom (octal ds)) t x f = (refl, refl)
single_clear k (atom (perl c)) t x f = (refl, refl)
single_clear k (atom (category c bs d)) t x f = (refl, refl)
single_clear k (atom (category_braced c bs ds cs)) t x f = (refl, refl)
single_clear k dot t x f = (refl, refl)
single_clear k caret t x f = (refl, refl)
single_clear k dollar t x f = (refl, refl)
single_clear k (look text_start) t x f = (refl, refl)
single_clear k (look text_end) t x f = (refl, refl)
single_clear k (look edge) t x f = (refl, refl)
single_clear k (look no_edge) t x f = (refl, refl)
single_clear k (look word_start) t x f = (refl, refl)
single_clear k (look word_end) t x f = (refl, refl)
single_clear k (look half_start) t x f = (refl, refl)
single_clear k (look half_end) t x f = (refl, refl)
single_clear k (look left) t x f = (refl, refl)
single_clear k (look right) t x f = (refl, refl)
single_clear k (class h p) t x f = (refl, refl)

pub open_clear : (m : Kind) (t : List ℕ) → IsClear (write_kind m t)
unfolding ucd_props
open_clear numbered t = (refl, refl)
open_clear (named bs p name) t = (refl, refl)
open_clear (flagged bs l) t = (refl, refl)

pub bar_clear : (t : List ℕ) → IsClear (124 ∷ t)
unfolding ucd_props
bar_clear t = (refl, refl)

pub set_clear : (bs : List Blank) (l : FlagList) (t : List ℕ) → IsClear (write_set bs l t)
unfolding ucd_props
set_clear bs l t = (refl, refl)

pub close_clear : (t : List ℕ) → IsClear (41 ∷ t)
unfolding ucd_props
close_clear t = (refl, refl)

-- a blank is not clear
pub not_clear : (k : Flags) (b : Blank) (t : List ℕ) → FineBlanks k (b ∷ []) t → IsClear (write_blanks (b ∷ []) t) → ⊥
not_clear k (white c) t f x = true≢false (sym f.1 ∙ x.0)
not_clear k (comment cs) t f x = true≢false x.1

pub spaces_on : (k : Flags) (b : Blank) (t : List ℕ) → FineBlanks k (b ∷ []) t → k.spaces ≡ true
spaces_on k (white c) t f = f.0
spaces_on k (comment cs) t f = f.0

same_blank : (k : Flags) (b d : Blank) (t u : List ℕ) → FineBlanks k (b ∷ []) t → FineBlanks k (d ∷ []) u
    → write_blanks (b ∷ []) t ≡ write_blanks (d ∷ []) u → t ≡ u
same_blank k (white c) (white d) t u f g e = ap tail e
same_blank k (white c) (comment ds) t u f g e = absurd (true≢false (sym f.1 ∙ ap is_white_space (ap head e) ∙ number_sign))
same_blank k (comment ds) (white c) t u f g e = absurd (true≢false (sym g.1 ∙ ap is_white_space (ap head (sym e)) ∙ number_sign))
same_blank k (comment c) (comment d) t u f g e = (same_line c d t u f.1 g.1 f.2 g.2 (ap tail e)).1

module _ (after : After) (stop : Stops after) (k : Flags) (n : Gathered) where
  pass_of : (l : Level) (b : Blank) (t : List ℕ) (found : Found) → FineBlanks k (b ∷ []) t → (w : List ℕ) → w ≡ write_blanks (b ∷ []) t
      → Goes after k n l w found → Rest after k n l t found
  pass_of l b t found f w q (ends s) = absurd (not_clear k b t f (subst IsClear q (stop_clear w (stop _ _ _ _ s))))
  pass_of l b t found f w q (bars u e x) = absurd (not_clear k b t f (subst IsClear (sym e ∙ q) (bar_clear u)))
  pass_of l b t found f w q (passes d u g e x) = subst (λ t. Rest after k n l t found) (same_blank k d b u t g f (sym e ∙ q)) x
  pass_of l b t found f w q (sets bs m u g h i e x) = absurd (not_clear k b t f (subst IsClear (sym e ∙ q) (set_clear bs m u)))
  pass_of l b t found f w q (items s u g e x) = absurd (not_clear k b t f (subst IsClear (sym e ∙ q) (single_clear k s u (spaces_on k b t f) g)))
  pass_of l b t found f w q (opens m u g e x) = absurd (not_clear k b t f (subst IsClear (sym e ∙ q) (open_clear m u)))

  pass_on : (l : Level) (b : Blank) (t : List ℕ) (found : Found) → FineBlanks k (b ∷ []) t
      → Rest after k n l (write_blanks (b ∷ []) t) found → Rest after k n l t found
  pass_on l b t found f r = pass_of l b t found f (write_blanks (b ∷ []) t) refl (goes after k n l (write_blanks (b ∷ []) t) found r)

  first_fine : (b : Blank) (bs : List Blank) (t : List ℕ) → FineBlanks k (b ∷ bs) t → FineBlanks k (b ∷ []) (write_blanks bs t)
  first_fine (white c) bs t f = (f.0, f.1, tt)
  first_fine (comment cs) bs t f = (f.0, f.1, f.2, tt)

  rest_fine : (b : Blank) (bs : List Blank) (t : List ℕ) → FineBlanks k (b ∷ bs) t → FineBlanks k bs t
  rest_fine (white c) bs t f = f.2
  rest_fine (comment cs) bs t f = f.3

  written_first : (b : Blank) (bs : List Blank) (t : List ℕ) → write_blanks (b ∷ bs) t ≡ write_blanks (b ∷ []) (write_blanks bs t)
  written_first (white c) bs t = refl
  written_first (comment cs) bs t = refl

  -- all blanks
  pub pass_all : (l : Level) (bs : List Blank) (t : List ℕ) (found : Found) → FineBlanks k bs t
      → Rest after k n l (write_blanks bs t) found → Rest after k n l t found
  pass_all l [] t found f r = r
  pass_all l (b ∷ bs) t found f r =
      pass_all l bs t found (rest_fine b bs t f)
      (pass_on l b (write_blanks bs t) found (first_fine b bs t f) (subst (λ w. Rest after k n l w found) (written_first b bs t) r))

  pub came_all : (l : Level) (bs : List Blank) (t : List ℕ) (found : Found) → FineBlanks k bs t
      → Rest after k n l t found → Rest after k n l (write_blanks bs t) found
  came_all l [] t found f r = r
  came_all l (b ∷ bs) t found f r =
      subst (λ w. Rest after k n l w found) (sym (written_first b bs t))
      (came_pass after k n l b (write_blanks bs t) found (first_fine b bs t f) (came_all l bs t found (rest_fine b bs t f) r))

-- ---- what is seen of a text

-- a text is blanks and something clear behind them
record Split (k : Flags) (w seen_part : List ℕ) : Type 0 where
  pub blanks : List Blank
  pub fine : FineBlanks k blanks seen_part
  pub written : w ≡ write_blanks blanks seen_part
  pub clear : IsClear seen_part

-- so is one that begins within a comment, once that is at its end
record SplitLine (k : Flags) (w seen_part : List ℕ) : Type 0 where
  pub line : List ℕ
  pub blanks : List Blank
  pub one_line : has 10 line ≡ false
  pub ends : ends_line (write_blanks blanks seen_part) ≡ true
  pub fine : FineBlanks k blanks seen_part
  pub written : w ≡ line ++ write_blanks blanks seen_part
  pub clear : IsClear seen_part

newline_white : is_white_space 10 ≡ true
unfolding ucd_props
newline_white = refl

module _ (k : Flags) (on : k.spaces ≡ true) where
  split_comment : (c : ℕ) (t : List ℕ) → (c == 35) ≡ true → SplitLine k t (after_line t) → Split k (c ∷ t) (passed (c ∷ t))
  split_comment c t h s = subst (Split k (c ∷ t)) (sym (left_comment c t h)) (record {
    blanks = comment s.line ∷ s.blanks;
    fine = (on, s.one_line, s.ends, s.fine);
    written = ap (λ d. d ∷ t) (eqb-true c 35 h) ∙ ap (λ t. 35 ∷ t) s.written;
    clear = s.clear;
  })

  split_white : (c : ℕ) (t : List ℕ) → is_white_space c ≡ true → Split k t (passed t) → Split k (c ∷ t) (passed (c ∷ t))
  split_white c t h s = subst (Split k (c ∷ t)) (sym (passed_white c t h)) (record {
    blanks = white c ∷ s.blanks;
    fine = (on, h, s.fine);
    written = ap (λ t. c ∷ t) s.written;
    clear = s.clear;
  })

  split_clear : (c : ℕ) (t : List ℕ) → IsClear (c ∷ t) → Split k (c ∷ t) (passed (c ∷ t))
  split_clear c t h = subst (Split k (c ∷ t)) (sym (passed_clear (c ∷ t) h)) (record { blanks = []; fine = tt; written = refl; clear = h })

  split_first : (c : ℕ) (t : List ℕ) (a b : Bool) → (c == 35) ≡ a → is_white_space c ≡ b → Split k t (passed t) → SplitLine k t (after_line t)
      → Split k (c ∷ t) (passed (c ∷ t))
  split_first c t true b e f s m = split_comment c t e m
  split_first c t false true e f s m = split_white c t f s
  split_first c t false false e f s m = split_clear c t (f, e)

  split_line : (c : ℕ) (t : List ℕ) (a : Bool) → (c == 10) ≡ a → Split k t (passed t) → SplitLine k t (after_line t) → SplitLine k (c ∷ t) (after_line (c ∷ t))
  split_line c t true e s m = subst (SplitLine k (c ∷ t)) (sym (left_line c t e)) (record {
    line = [];
    blanks = white c ∷ s.blanks;
    one_line = refl;
    ends = e;
    fine = (on, ap is_white_space (eqb-true c 10 e) ∙ newline_white, s.fine);
    written = ap (λ t. c ∷ t) s.written;
    clear = s.clear;
  })
  split_line c t false e s m = subst (SplitLine k (c ∷ t)) (sym (left_on c t e)) (record {
    line = c ∷ m.line;
    blanks = m.blanks;
    one_line = ap (λ b. b || has 10 m.line) e ∙ m.one_line;
    ends = m.ends;
    fine = m.fine;
    written = ap (λ t. c ∷ t) m.written;
    clear = m.clear;
  })

  splits : (w : List ℕ) → Split k w (passed w) × SplitLine k w (after_line w)
  splits [] = (
    record { blanks = []; fine = tt; written = refl; clear = tt },
    record { line = []; blanks = []; one_line = refl; ends = refl; fine = tt; written = refl; clear = tt },
  )
  splits (c ∷ t) =
      let more = splits t in
      (split_first c t (c == 35) (is_white_space c) refl refl more.0 more.1, split_line c t (c == 10) refl more.0 more.1)

-- a text is blanks and what is seen behind them
pub record Seen (k : Flags) (w seen_part : List ℕ) : Type 0 where
  pub blanks : List Blank
  pub fine : FineBlanks k blanks seen_part
  pub written : w ≡ write_blanks blanks seen_part
  pub clear : k.spaces ≡ true → IsClear seen_part

seen_by : (k : Flags) (w : List ℕ) (b : Bool) → k.spaces ≡ b → Seen k w (seen_if b w)
seen_by k w true e = let s = (splits k e w).0 in record { blanks = s.blanks; fine = s.fine; written = s.written; clear = λ _. s.clear }
seen_by k w false e = record { blanks = []; fine = tt; written = refl; clear = λ h. absurd (true≢false (sym h ∙ e)) }

pub seen_split : (k : Flags) (w : List ℕ) → Seen k w (seen k w)
seen_split k w = seen_by k w k.spaces refl

seen_once : (k : Flags) (w : List ℕ) (b : Bool) → k.spaces ≡ b → seen_if b (seen_if b w) ≡ seen_if b w
seen_once k w true e = passed_clear (passed w) (splits k e w).0.clear
seen_once k w false e = refl

-- what is seen is seen behind nothing
pub seen_again : (k : Flags) (w : List ℕ) → seen k (seen k w) ≡ seen k w
seen_again k w = seen_once k w k.spaces refl

length_blanks : (bs : List Blank) (t : List ℕ) → length t ≤ length (write_blanks bs t)
length_blanks [] t = omega arith
length_blanks (white c ∷ bs) t = let more = length_blanks bs t in omega arith
length_blanks (comment cs ∷ bs) t = let more = length_blanks bs t in omega (arith, length-append cs (write_blanks bs t))

pub length_seen : (k : Flags) (w : List ℕ) → length (seen k w) ≤ length w
length_seen k w =
    let s = seen_split k w in
    let more = length_blanks s.blanks (seen k w) in
    let same = ap length s.written in omega arith

module _ (after : After) (stop : Stops after) (k : Flags) (n : Gathered) (l : Level) (w : List ℕ) (found : Found) where
  -- what is passed over changes nothing
  pub seen_on : Rest after k n l w found → Rest after k n l (seen k w) found
  seen_on r =
      let s = seen_split k w in
      pass_all after stop k n l s.blanks (seen k w) found s.fine (subst (λ w. Rest after k n l w found) s.written r)

  pub seen_back : Rest after k n l (seen k w) found → Rest after k n l w found
  seen_back r =
      let s = seen_split k w in
      subst (λ w. Rest after k n l w found) (sym s.written) (came_all after stop k n l s.blanks (seen k w) found s.fine r)
