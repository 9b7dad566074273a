-- A reading goes on with the token that stands at its place.
use Rattle.std.proofs.Common.{◌≡◌, ℕ, Bool, true, false, List, [], ◌∷◌, ◌||◌, codes, not, ◌⊎◌, inl, inr, eqb-true, refl, sym, ap, ◌∙◌, subst, true≢false}
use Rattle.ucd_props.proofs.Computing.{ucd_props}
use Rattle.pattern_syntax.proofs.BlanksLemmas.{apart}
use Rattle.pattern_syntax.specs.Readers.{OpensGroup}
use Rattle.pattern_syntax.proofs.SameBlanks.{head, tail, IsClear}
use Rattle.pattern_syntax.specs.declared.flags.Flags.{Flags}
use Rattle.pattern_syntax.specs.Flags.{apply, Blank, write_blanks, white, comment, FineBlanks, has, begins, seen, is_nil}
use Rattle.pattern_syntax.specs.Atom.{character, escaped, control, coded, braced, octal, perl, category, category_braced}
use Rattle.pattern_syntax.specs.Syntax.{Single, atom, dot, caret, dollar, look, class, text_start, text_end, edge, no_edge, word_start, word_end, half_start, half_end, left, right, Count, optional, star, plus, exactly, at_least, between, Kind, numbered, named, flagged, inside_flags, write_single, write_kind, write_count, FineSingle, FineKind, is_special}
use Rattle.pattern_syntax.specs.SetTree.{empty}
use Rattle.pattern_syntax.specs.Reads.{Found, at_depth, no_parts, single_part, single_literals}
use Rattle.pattern_syntax.specs.Tokens as token
use Rattle.pattern_syntax.specs.Tokens.{Token, write_token, FineToken, FineOpen}
use Rattle.pattern_core.specs.Parsing.{is_other}
use Rattle.pattern_core.proofs.EscapeLemmas.{has_all}
use Rattle.pattern_core.specs.Progress.{Gathered, with_group, with_literals, Level, push, close_branch, fresh, whole, After, Rest, RestItem, leave}
use Rattle.pattern_core.proofs.parsing.StepLemmas.{Goes, ends, bars, passes, sets, items, opens, goes, frame, came_end, came_bar, came_set, came_item, came_open}
use Rattle.pattern_core.proofs.parsing.BlankLemmas.{IsStop, Stops, stops_leave, spaces_on, not_clear, single_clear, open_clear, bar_clear, set_clear, close_clear, pass_all, seen_on}

-- a token begins so
abbrev starts_token : List ℕ → Bool
starts_token [] = false
starts_token (c ∷ t) = not (is_special c) || has c (codes "\\.^$[|()")

or_first : (a b : Bool) → (a || b) ≡ false → a ≡ false
or_first false b h = refl
or_first true b h = h

-- no `|` and no parenthesis begins an item
other_char : (c : ℕ) (b : Bool) → has c (codes "|()") ≡ b → is_special c ≡ false → b ≡ false
other_char c false e h = refl
other_char c true e h = absurd (true≢false (sym (has_all is_special (codes "|()") c refl e) ∙ h))

pub single_starts : (k : Flags) (s : Single) (t : List ℕ) → FineSingle k s t
    → (starts_token (write_single s t) ≡ true) × (is_other (head (write_single s t)) ≡ true)
single_starts k (atom (character c)) t f =
    let plain = or_first (is_special c) _ f in
    (ap (λ b. not b || has c (codes "\\.^$[|()")) plain, ap not (other_char c (has c (codes "|()")) refl plain))
single_starts k (atom (escaped c)) t f = (refl, refl)
single_starts k (atom (control c)) t f = (refl, refl)
single_starts k (atom (coded c ds)) t f = (refl, refl)
single_starts k (atom (braced c bs ds cs)) t f = (refl, refl)
single_starts k (atom (octal ds)) t f = (refl, refl)
single_starts k (atom (perl c)) t f = (refl, refl)
single_starts k (atom (category c bs d)) t f = (refl, refl)
single_starts k (atom (category_braced c bs ds cs)) t f = (refl, refl)
single_starts k dot t f = (refl, refl)
single_starts k caret t f = (refl, refl)
single_starts k dollar t f = (refl, refl)
single_starts k (look text_start) t f = (refl, refl)
single_starts k (look text_end) t f = (refl, refl)
single_starts k (look edge) t f = (refl, refl)
single_starts k (look no_edge) t f = (refl, refl)
single_starts k (look word_start) t f = (refl, refl)
single_starts k (look word_end) t f = (refl, refl)
single_starts k (look half_start) t f = (refl, refl)
single_starts k (look half_end) t f = (refl, refl)
single_starts k (look left) t f = (refl, refl)
single_starts k (look right) t f = (refl, refl)
single_starts k (class h p) t f = (refl, refl)

kind_starts : (m : Kind) (t : List ℕ) → starts_token (write_kind m t) ≡ true
kind_starts numbered t = refl
kind_starts (named bs p name) t = refl
kind_starts (flagged bs l) t = refl

pub token_starts : (k : Flags) (a : Token) (t : List ℕ) → FineToken k a t → starts_token (write_token a t) ≡ true
token_starts k token.bar t f = refl
token_starts k (token.set bs l) t f = refl
token_starts k (token.item s) t f = (single_starts k s t f).0
token_starts k (token.opens m) t f = kind_starts m t
token_starts k token.closes t f = refl

token_clear : (k : Flags) (a : Token) (t : List ℕ) → k.spaces ≡ true → FineToken k a t → IsClear (write_token a t)
token_clear k token.bar t x f = bar_clear t
token_clear k (token.set bs l) t x f = set_clear bs l t
token_clear k (token.item s) t x f = single_clear k s t x f
token_clear k (token.opens m) t x f = open_clear m t
token_clear k token.closes t x f = close_clear t

stop_starts : (w : List ℕ) → IsStop w → is_nil w ≡ false → starts_token w ≡ true
stop_starts [] s h = absurd (true≢false h)
stop_starts (c ∷ u) s h = subst (λ c. starts_token (c ∷ u) ≡ true) (sym s) refl

pub count_clear : (m : Count) (t : List ℕ) → IsClear (write_count m t)
unfolding ucd_props
count_clear optional t = (refl, refl)
count_clear star t = (refl, refl)
count_clear plus t = (refl, refl)
count_clear (exactly a) t = (refl, refl)
count_clear (at_least a) t = (refl, refl)
count_clear (between a b) t = (refl, refl)

count_starts : (m : Count) (t : List ℕ) → (starts_token (write_count m t) ≡ false) × (is_nil (write_count m t) ≡ false)
count_starts optional t = (refl, refl)
count_starts star t = (refl, refl)
count_starts plus t = (refl, refl)
count_starts (exactly a) t = (refl, refl)
count_starts (at_least a) t = (refl, refl)
count_starts (between a b) t = (refl, refl)

begins_is : (c : ℕ) (w : List ℕ) → begins c w ≡ true → w ≡ c ∷ tail w
begins_is c [] h = absurd (true≢false (sym h))
begins_is c (d ∷ w) h = ap (λ d. d ∷ w) (eqb-true d c h)

is_stop_of : (w : List ℕ) → IsStop w → (w ≡ []) ⊎ (w ≡ 41 ∷ tail w)
is_stop_of [] s = inl refl
is_stop_of (c ∷ w) s = inr (ap (λ c. c ∷ w) s)

-- how a reading goes on behind a token
abbrev pub Behind : After → Flags → Gathered → Level → Token → List ℕ → Found → Type 0
Behind after k n l token.bar t found = Rest after k n (close_branch l) t found
Behind after k n l (token.set bs f) t found = Rest after (apply f k) n (push (at_depth 0 empty) l) t found
Behind after k n l (token.item s) t found = RestItem after k (with_literals (single_literals s) n) l (single_part k s) t found
Behind after k n l (token.opens m) t found = Rest (leave (frame m k n.groups l) after) (inside_flags m k) (with_group m n) fresh t found
Behind after k n l token.closes t found = after (whole l (no_parts ∷ [])) n (41 ∷ t) found

-- at one place stands at most one token
abbrev pub OneToken : Type 0
OneToken = (k : Flags) (a b : Token) (s t : List ℕ) → write_token a s ≡ write_token b t → FineToken k a s → FineToken k b t → (a ≡ b) × (s ≡ t)

module _ (after : After) (stop : Stops after) (k : Flags) (n : Gathered) (l : Level) where
  no_start : (w : List ℕ) (found : Found) → IsClear w → starts_token w ≡ false → is_nil w ≡ false → Goes after k n l w found → ⊥
  no_start w found c s h (ends x) = true≢false (sym (stop_starts w (stop _ _ _ _ x) h) ∙ s)
  no_start w found c s h (bars u e x) = true≢false (sym (ap starts_token e) ∙ s)
  no_start w found c s h (passes b u f e x) = not_clear k b u f (subst IsClear e c)
  no_start w found c s h (sets bs m u f g i e x) = true≢false (sym (ap starts_token e) ∙ s)
  no_start w found c s h (items a u f e x) = true≢false (sym (ap starts_token e ∙ (single_starts k a u f).0) ∙ s)
  no_start w found c s h (opens m u f e x) = true≢false (sym (ap starts_token e ∙ kind_starts m u) ∙ s)

  no_count : (m : Count) (t : List ℕ) (found : Found) → Rest after k n l (write_count m t) found → ⊥
  no_count m t found r =
      let w = write_count m t in
      let starts = count_starts m t in no_start w found (count_clear m t) starts.0 starts.1 (goes after k n l w found r)

  -- no rest begins with a repetition
  pub no_repetition : (bs : List Blank) (m : Count) (t : List ℕ) (found : Found) → FineBlanks k bs (write_count m t)
      → Rest after k n l (write_blanks bs (write_count m t)) found → ⊥
  no_repetition bs m t found f r = no_count m t found (pass_all after stop k n l bs (write_count m t) found f r)

  no_mark_by : (w : List ℕ) (found : Found) (b : Bool) → begins 63 w ≡ b → Rest after k n l w found → begins 63 w ≡ false
  no_mark_by w found false e r = e
  no_mark_by w found true e r = absurd (no_count optional (tail w) found (subst (λ w. Rest after k n l w found) (begins_is 63 w e) r))

  pub no_mark : (w : List ℕ) (found : Found) → Rest after k n l w found → begins 63 w ≡ false
  no_mark w found r = no_mark_by w found (begins 63 w) refl r

  pub no_mark_seen : (w : List ℕ) (found : Found) → Rest after k n l w found → begins 63 (seen k w) ≡ false
  no_mark_seen w found r = no_mark (seen k w) found (seen_on after stop k n l w found r)

fine_open : (k : Flags) (m : Kind) (t : List ℕ) → FineKind k m → begins 63 (seen (inside_flags m k) t) ≡ false → FineOpen k m t
fine_open k numbered t f h = h
fine_open k (named bs p name) t f h = f
fine_open k (flagged bs l) t f h = f

fine_kind : (k : Flags) (m : Kind) (t : List ℕ) → FineOpen k m t → FineKind k m
fine_kind k numbered t f = tt
fine_kind k (named bs p name) t f = f
fine_kind k (flagged bs l) t f = f

blank_nil : (b : Blank) (t : List ℕ) → is_nil (write_blanks (b ∷ []) t) ≡ false
blank_nil (white c) t = refl
blank_nil (comment cs) t = refl

module _ (after : After) (stop : Stops after) (k : Flags) (n : Gathered) (l : Level) where
  -- what a rest begins with
  data Starts (w : List ℕ) (found : Found) : Type 0 where
    finishes : w ≡ [] → after (whole l (no_parts ∷ [])) n [] found → Starts w found
    blank : (b : Blank) (t : List ℕ) → FineBlanks k (b ∷ []) t → w ≡ write_blanks (b ∷ []) t → Starts w found
    begins_with : (a : Token) (t : List ℕ) → FineToken k a t → w ≡ write_token a t → Behind after k n l a t found → Starts w found

  stop_starts_with : (w : List ℕ) (found : Found) → after (whole l (no_parts ∷ [])) n w found → (w ≡ []) ⊎ (w ≡ 41 ∷ tail w) → Starts w found
  stop_starts_with w found x (inl e) = finishes e (subst (λ w. after (whole l (no_parts ∷ [])) n w found) e x)
  stop_starts_with w found x (inr e) = begins_with token.closes (tail w) tt e (subst (λ w. after (whole l (no_parts ∷ [])) n w found) e x)

  starts_of : (w : List ℕ) (found : Found) → Goes after k n l w found → Starts w found
  starts_of w found (ends x) = stop_starts_with w found x (is_stop_of w (stop _ _ _ _ x))
  starts_of w found (bars u e x) = begins_with token.bar u tt e x
  starts_of w found (passes b u f e x) = blank b u f e
  starts_of w found (sets bs m u f g h e x) = begins_with (token.set bs m) u (f, g, h) e x
  starts_of w found (items s u f e x) = begins_with (token.item s) u f e x
  starts_of w found (opens m u f e x) =
      let inner = frame m k n.groups l in
      begins_with (token.opens m) u
      (fine_open k m u f (no_mark_seen (leave inner after) (stops_leave inner after) (inside_flags m k) (with_group m n) fresh u found x)) e x

  starts : (w : List ℕ) (found : Found) → Rest after k n l w found → Starts w found
  starts w found r = starts_of w found (goes after k n l w found r)

  token_of : OneToken → (a : Token) (t : List ℕ) (found : Found) → FineToken k a t → (w : List ℕ) → w ≡ write_token a t → Starts w found → Behind after k n l a t found
  token_of one a t found f w q (finishes e x) = absurd (true≢false (sym (token_starts k a t f) ∙ ap starts_token (sym q ∙ e)))
  token_of one a t found f w q (blank b u g e) =
      absurd (not_clear k b u g (subst IsClear (sym q ∙ e) (token_clear k a t (spaces_on k b u g) f)))
  token_of one a t found f w q (begins_with b u g e x) =
      let same = one k b a u t (sym e ∙ q) g f in
      subst (λ t. Behind after k n l a t found) same.1 (subst (λ b. Behind after k n l b u found) same.0 x)

  -- the token at the place is read
  pub token_on : OneToken → (a : Token) (t : List ℕ) (found : Found) → FineToken k a t → Rest after k n l (write_token a t) found → Behind after k n l a t found
  token_on one a t found f r = token_of one a t found f (write_token a t) refl (starts (write_token a t) found r)

  pub token_back : (a : Token) (t : List ℕ) (found : Found) → FineToken k a t → Behind after k n l a t found → Rest after k n l (write_token a t) found
  token_back token.bar t found f x = came_bar after k n l t found x
  token_back (token.set bs m) t found f x = came_set after k n l bs m t found f.0 f.1 f.2 x
  token_back (token.item s) t found f x = came_item after k n l s t found f x
  token_back (token.opens m) t found f x = came_open after k n l m t found (fine_kind k m t f) x
  token_back token.closes t found f x = came_end after k n l (41 ∷ t) found x

  no_token_of : (w : List ℕ) (found : Found) → (k.spaces ≡ true → IsClear w) → is_nil w ≡ false
      → ((a : Token) (t : List ℕ) → w ≡ write_token a t → FineToken k a t → ⊥) → Starts w found → ⊥
  no_token_of w found c h none (finishes e x) = true≢false (sym (ap is_nil e) ∙ h)
  no_token_of w found c h none (blank b u g e) = not_clear k b u g (subst IsClear e (c (spaces_on k b u g)))
  no_token_of w found c h none (begins_with a u g e x) = none a u e g

  -- where no token stands nothing is read
  pub no_token : (w : List ℕ) (found : Found) → (k.spaces ≡ true → IsClear w) → is_nil w ≡ false
      → ((a : Token) (t : List ℕ) → w ≡ write_token a t → FineToken k a t → ⊥) → Rest after k n l w found → ⊥
  no_token w found c h none r = no_token_of w found c h none (starts w found r)

  at_end_of : (w : List ℕ) (found : Found) → w ≡ [] → Starts w found → after (whole l (no_parts ∷ [])) n [] found
  at_end_of w found q (finishes e x) = x
  at_end_of w found q (blank b u g e) = absurd (true≢false (sym (ap is_nil (sym e ∙ q)) ∙ blank_nil b u))
  at_end_of w found q (begins_with a u g e x) = absurd (true≢false (sym (token_starts k a u g) ∙ ap starts_token (sym e ∙ q)))

  pub at_end : (found : Found) → Rest after k n l [] found → after (whole l (no_parts ∷ [])) n [] found
  at_end found r = at_end_of [] found refl (starts [] found r)

-- what begins with `(` opens a group or sets flags
pub opens_group : (k : Flags) (a : Token) (w t : List ℕ) → head w ≡ 40 → w ≡ write_token a t → FineToken k a t → OpensGroup a
opens_group k token.bar w t h e f = apart 40 124 refl (sym h ∙ ap head e)
opens_group k (token.set bs l) w t h e f = tt
opens_group k (token.item s) w t h e f =
    true≢false (sym (single_starts k s t f).1 ∙ ap is_other (sym (ap head e) ∙ h))
opens_group k (token.opens m) w t h e f = tt
opens_group k token.closes w t h e f = apart 40 41 refl (sym h ∙ ap head e)

kind_head : (m : Kind) (t : List ℕ) → head (write_kind m t) ≡ 40
kind_head numbered t = refl
kind_head (named bs p name) t = refl
kind_head (flagged bs l) t = refl

-- what begins with no `|` and no parenthesis is an item
pub no_item : (k : Flags) (a : Token) (w t : List ℕ) → is_other (head w) ≡ true → w ≡ write_token a t → FineToken k a t
    → ((s : Single) (u : List ℕ) → w ≡ write_single s u → FineSingle k s u → ⊥) → ⊥
no_item k token.bar w t h e f none = true≢false (sym h ∙ ap is_other (ap head e))
no_item k (token.set bs l) w t h e f none = true≢false (sym h ∙ ap is_other (ap head e))
no_item k (token.item s) w t h e f none = none s t e f
no_item k (token.opens m) w t h e f none = true≢false (sym h ∙ ap is_other (ap head e ∙ kind_head m t))
no_item k token.closes w t h e f none = true≢false (sym h ∙ ap is_other (ap head e))
