-- How a reading goes on with a text, place by place.
use Rattle.std.proofs.Common.{◌≡◌, ◌<◌, ◌+◌, ℕ, zero, suc, List, [], ◌∷◌, ◌++◌, drop, length, get_or, drop-cons, add-one, refl, sym, ap, ◌∙◌, subst, true≢false, arith}
use Rattle.pattern_syntax.specs.declared.flags.Flags.{Flags}
use Rattle.pattern_syntax.specs.Flags.{seen, is_nil}
use Rattle.pattern_syntax.specs.Syntax.{Single, Repeated, write_single, FineSingle}
use Rattle.pattern_syntax.specs.Reads.{Part, Found, Reads, no_parts, single_part, single_literals, repeat}
use Rattle.pattern_syntax.specs.Tokens as token
use Rattle.pattern_syntax.specs.Tokens.{Token, write_token, FineToken, write_repeated, FineRepeated}
use Rattle.pattern_syntax.proofs.SameBlanks.{tail, IsClear}
use Rattle.pattern_core.specs.Progress.{Gathered, Frame, Progress, finished, whole, in_group, After, last, Rest, RestItem, leave, after_all, GoesOn, GoesOnBehind}
use Rattle.pattern_core.specs.Parsing.{Same, SameBehind, SomeRepeated, IsAtToken, behind_item, noted, within, behind_token, outside}
use Rattle.pattern_core.proofs.parsing.StepLemmas.{whole_end, came_end, frame}
use Rattle.pattern_core.proofs.parsing.BlankLemmas.{stops, after_more, seen_on, seen_back, seen_split}
use Rattle.pattern_core.proofs.parsing.TokenLemmas.{OneToken, Behind, token_on, token_back, no_token, at_end}
use Rattle.pattern_core.proofs.parsing.RepeatLemmas.{OneRepeated, repeat_on, repeat_back, done_on, done_back}

abbrev after_of : Progress → After
after_of p = after_all last p.frames

-- a `|`, `(?flags)`, or the opening of a group
abbrev pub IsMove : Token → Type 0
IsMove (token.item s) = ⊥
IsMove token.closes = ⊥
IsMove _ = Unit {0}

module _ (p : Progress) where
  move_on : (a : Token) (t : List ℕ) (found : Found) → IsMove a → Behind (after_of p) p.flags p.gathered p.level a t found → GoesOn (behind_token a p) t found
  move_on token.bar t found m x = x
  move_on (token.set bs f) t found m x = x
  move_on (token.opens kind) t found m x =
      let q = within kind p in
      subst (λ after. Rest after q.flags q.gathered q.level t found) (sym (after_more last p.frames (frame kind p.flags p.gathered.groups p.level))) x
  move_on (token.item s) t found m x = absurd m
  move_on token.closes t found m x = absurd m

  move_back : (a : Token) (t : List ℕ) (found : Found) → IsMove a → GoesOn (behind_token a p) t found → Behind (after_of p) p.flags p.gathered p.level a t found
  move_back token.bar t found m x = x
  move_back (token.set bs f) t found m x = x
  move_back (token.opens kind) t found m x =
      let q = within kind p in
      subst (λ after. Rest after q.flags q.gathered q.level t found) (after_more last p.frames (frame kind p.flags p.gathered.groups p.level)) x
  move_back (token.item s) t found m x = absurd m
  move_back token.closes t found m x = absurd m

  read_on : OneToken → (a : Token) (w t : List ℕ) (found : Found) → w ≡ write_token a t → FineToken p.flags a t → GoesOn p w found
      → Behind (after_of p) p.flags p.gathered p.level a t found
  read_on one a w t found e f x =
      token_on (after_of p) (stops p.frames) p.flags p.gathered p.level one a t found f (subst (λ w. GoesOn p w found) e x)

  read_back_to : (a : Token) (w t : List ℕ) (found : Found) → w ≡ write_token a t → FineToken p.flags a t
      → Behind (after_of p) p.flags p.gathered p.level a t found → GoesOn p w found
  read_back_to a w t found e f x =
      subst (λ w. GoesOn p w found) (sym e) (token_back (after_of p) (stops p.frames) p.flags p.gathered p.level a t found f x)

module _ (text : List ℕ) (p : Progress) (at to : ℕ) where
  pub moved_same : OneToken → (a : Token) → IsMove a → drop at text ≡ write_token a (drop to text) → FineToken p.flags a (drop to text)
      → Same text p at (behind_token a p) to
  moved_same one a m e f = record {
    on = λ found x. move_on p a (drop to text) found m (read_on p one a (drop at text) (drop to text) found e f x);
    back = λ found x. read_back_to p a (drop at text) (drop to text) found e f (move_back p a (drop to text) found m x);
  }

  pub blanks_same : drop to text ≡ seen p.flags (drop at text) → Same text p at p to
  blanks_same e = record {
    on = λ found x. subst (λ w. GoesOn p w found) (sym e) (seen_on (after_of p) (stops p.frames) p.flags p.gathered p.level (drop at text) found x);
    back = λ found x. seen_back (after_of p) (stops p.frames) p.flags p.gathered p.level (drop at text) found (subst (λ w. GoesOn p w found) e x);
  }

  -- an item is read, and then its repetitions up to a place
  pub item_same : OneToken → (s : Single) → drop at text ≡ write_single s (drop to text) → FineSingle p.flags s (drop to text)
      → (q : Progress) (place : ℕ) → SameBehind text (noted (single_literals s) p) (single_part p.flags s) to q place → Same text p at q place
  item_same one s e f q place same = record {
    on = λ found x. same.on found (read_on p one (token.item s) (drop at text) (drop to text) found e f x);
    back = λ found x. read_back_to p (token.item s) (drop at text) (drop to text) found e f (same.back found x);
  }

abbrev rest_behind : After → Progress → Frame → Part → List ℕ → Found → Type 0
rest_behind after p f a t found = RestItem after f.flags p.gathered f.level (in_group f.kind f.before a) t found

module _ (text : List ℕ) (p : Progress) (at to : ℕ) (fs : List Frame) (f : Frame) (are : p.frames ≡ fs ++ f ∷ []) where
  left_after : after_of p ≡ leave f (after_all last fs)
  left_after = ap (after_all last) are ∙ after_more last fs f

  leave_on : (t : List ℕ) (found : Found) → Behind (after_of p) p.flags p.gathered p.level token.closes t found
      → GoesOnBehind (outside fs f p) (in_group f.kind f.before (finished p.level)) t found
  leave_on t found x =
      let y = subst (λ (after : After). after (whole p.level (no_parts ∷ [])) p.gathered (41 ∷ t) found) left_after x in
      subst (λ a. rest_behind (after_all last fs) p f a t found) (whole_end p.level)
      (subst (λ u. rest_behind (after_all last fs) p f (whole p.level (no_parts ∷ [])) u found) (sym (ap tail y.1)) y.2)

  leave_back : (t : List ℕ) (found : Found) → GoesOnBehind (outside fs f p) (in_group f.kind f.before (finished p.level)) t found
      → Behind (after_of p) p.flags p.gathered p.level token.closes t found
  leave_back t found x =
      subst (λ (after : After). after (whole p.level (no_parts ∷ [])) p.gathered (41 ∷ t) found) (sym left_after)
      (t, refl, subst (λ a. rest_behind (after_all last fs) p f a t found) (sym (whole_end p.level)) x)

  -- a group ends, and then its repetitions are read up to a place
  pub left_same : OneToken → drop at text ≡ 41 ∷ drop to text → (q : Progress) (place : ℕ)
      → SameBehind text (outside fs f p) (in_group f.kind f.before (finished p.level)) to q place → Same text p at q place
  left_same one e q place same = record {
    on = λ found x. same.on found (leave_on (drop to text) found (read_on p one token.closes (drop at text) (drop to text) found e tt x));
    back = λ found x. read_back_to p token.closes (drop at text) (drop to text) found e tt (leave_back (drop to text) found (same.back found x));
  }

  -- at the end of the text a group is open
  pub open_at_end : drop at text ≡ [] → (found : Found) → GoesOn p (drop at text) found → ⊥
  open_at_end e found x =
      let y = at_end (after_of p) (stops p.frames) p.flags p.gathered p.level found (subst (λ w. GoesOn p w found) e x) in
      let z = subst (λ (after : After). after (whole p.level (no_parts ∷ [])) p.gathered [] found) left_after y in
      true≢false (ap is_nil z.1)

module _ (text : List ℕ) (p : Progress) (at : ℕ) where
  abbrev last_of_all : Found → List ℕ → After → Type 0
  last_of_all found u after = after (whole p.level (no_parts ∷ [])) p.gathered u found

  pub left_none : OneToken → p.frames ≡ [] → (to : ℕ) → drop at text ≡ 41 ∷ drop to text → (found : Found) → GoesOn p (drop at text) found → ⊥
  left_none one are to e found x =
      let y = read_on p one token.closes (drop at text) (drop to text) found e tt x in
      let z = subst (last_of_all found (41 ∷ drop to text)) (ap (after_all last) are) y in
      true≢false (sym (ap is_nil z.0))

  -- at a token's place stands none
  pub no_token_at : at < length text → IsAtToken p.flags (drop at text)
      → ((a : Token) (t : List ℕ) → drop at text ≡ write_token a t → FineToken p.flags a t → ⊥) → (found : Found) → GoesOn p (drop at text) found → ⊥
  no_token_at h clear none found x =
      let s = seen_split p.flags (drop at text) in
      no_token (after_of p) (stops p.frames) p.flags p.gathered p.level (drop at text) found (λ on. subst IsClear clear (s.clear on))
      (ap is_nil (drop-cons text at 0 h)) none x

abbrev found_as : Part → Gathered → Found
found_as a n = record { part = a; groups = n.groups; names = n.names; literals = n.literals }

-- the whole pattern is read
pub whole_read : (k : Flags) (text : List ℕ) (p : Progress) → p.frames ≡ []
    → ((found : Found) → GoesOn p [] found → Reads k text found) → Reads k text (found_as (finished p.level) p.gathered)
whole_read k text p are back =
    back (found_as (finished p.level) p.gathered)
    (came_end (after_of p) p.flags p.gathered p.level [] (found_as (finished p.level) p.gathered)
    (subst (λ (after : After). after (whole p.level (no_parts ∷ [])) p.gathered [] (found_as (finished p.level) p.gathered)) (sym (ap (after_all last) are))
    (refl, ap (λ a. found_as a p.gathered) (sym (whole_end p.level)))))

module _ (text : List ℕ) (p : Progress) (a : Part) (at to : ℕ) where
  pub none_repeated : SomeRepeated text p a at a at
  none_repeated = record { on = λ found x. x; back = λ found x. x }

  pub one_more_repeated : OneRepeated → (b : Part) (place : ℕ) (r : Repeated) → SomeRepeated text p a at b to
      → drop to text ≡ write_repeated r (drop place text) → FineRepeated p.flags r (drop place text)
      → SomeRepeated text p a at (repeat p.flags (r ∷ []) b) place
  one_more_repeated one b place r some e f = record {
    on = λ found x. repeat_on (after_of p) (stops p.frames) p.flags p.gathered one p.level b r (drop place text) found f
        (subst (λ w. GoesOnBehind p b w found) e (some.on found x));
    back = λ found x. some.back found (subst (λ w. GoesOnBehind p b w found) (sym e)
        (repeat_back (after_of p) (stops p.frames) p.flags p.gathered p.level b r (drop place text) found f x));
  }

  pub all_repeated : (b : Part) → SomeRepeated text p a at b to
      → ((r : Repeated) (u : List ℕ) → drop to text ≡ write_repeated r u → FineRepeated p.flags r u → ⊥) → SameBehind text p a at (behind_item b p) to
  all_repeated b some none = record {
    on = λ found x. done_on (after_of p) (stops p.frames) p.flags p.gathered p.level b (drop to text) found none (some.on found x);
    back = λ found x. some.back found (done_back (after_of p) (stops p.frames) p.flags p.gathered p.level b (drop to text) found x);
  }

pub same_on : (text : List ℕ) (p q r : Progress) (i j k : ℕ) → Same text p i q j → Same text q j r k → Same text p i r k
same_on text p q r i j k s t = record { on = λ found x. t.on found (s.on found x); back = λ found x. s.back found (t.back found x) }

-- one character further
pub cut_at : (text : List ℕ) (i c : ℕ) → i < length text → get_or text i 0 ≡ c → drop i text ≡ c ∷ drop (i + 1) text
cut_at text i c h e = rw add-one (drop-cons text i 0 h) ∙ ap (λ d. d ∷ drop (i + 1) text) e

-- the character that was read at a place
pub read_at : (text : List ℕ) (i c : ℕ) → i < length text → c ≡ get_or text i c → get_or text i 0 ≡ c
read_at [] i c h e = absurd (omega arith)
read_at (d ∷ text) zero c h e = sym e
read_at (d ∷ text) (suc i) c h e = read_at text i c (omega arith) e
