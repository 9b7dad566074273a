-- Where runs lead.
use Rattle.std.proofs.Common.{◌≡◌, ℕ, zero, suc, ◌+◌, ◌-◌, ◌<◌, ◌≤◌, Bool, true, false, cond, inl, inr, List, [], ◌∷◌, ◌++◌, length, Option, Some, None, if◌then◌else◌, refl, sym, ap, ◌∙◌, eq-eqb, length-drop, length-append, arith}
use Rattle.std.specs.Prelude.{drop, encode_utf8, option_map}
use Rattle.std.specs.List.{flat_map, AllByRecursion}
use Rattle.std.proofs.lemmas.Bool.{cases_lt, cond-true, cond-false, or_left, or_right}
use Rattle.std.proofs.lemmas.Str.{length-encode, len_utf8_bounds}
use Rattle.std.proofs.lemmas.Option.{slice_get_within, none-some, same_Some}
use Rattle.bstr.specs.Utf8.{decoded}
use Rattle.bstr.proofs.lemmas.SoundLemmas.{SpellsChar-decoded}
use Rattle.hir_tree.specs.Core.{Core, empty, byte_in, char_in, look, group, pair, choice, none, plus, numbers}
use Rattle.hir_tree.specs.Looks.{holds}
use Rattle.hir_tree.specs.Sides.{byte_after, char_after}
use Rattle.hir_tree.specs.Runs.{Run, Step, moved, mark, set_group, is_seen, visit, rounds_or_end, after, in_set, size_in, byte_size, char_size, as_list, take_size, runs}
use Rattle.hir_tree.proofs.ListLemmas.{All-append, All-flat_map, All-map, All-weaker, flat_map-cong}

-- s follows r within the text, and nothing that was seen is forgotten where no byte was taken
pub record GoesOn (text : List ℕ) (r s : Run) : Type 0 where
  pub forward : r.at ≤ s.at
  pub within : s.at ≤ length text
  pub kept : s.at ≡ r.at → (m : ℕ) → is_seen m r.seen ≡ true → is_seen m s.seen ≡ true

abbrev pub AllGoOn : List ℕ → Run → List Run → Type 0
AllGoOn text r = AllByRecursion (GoesOn text r)

-- each run that follows goes on
abbrev pub Forward : List ℕ → Step → Type 0
Forward text step = (r : Run) → r.at ≤ length text → AllGoOn text r (step r)

pub seen_more : (n m : ℕ) (seen : List ℕ) → is_seen m seen ≡ true → is_seen m (n ∷ seen) ≡ true
seen_more n m seen h = or_right _ _ h

pub seen_self : (n : ℕ) (seen : List ℕ) → is_seen n (n ∷ seen) ≡ true
seen_self n seen = or_left _ _ (eq-eqb n n refl)

pub GoesOn-self : (text : List ℕ) (r : Run) → r.at ≤ length text → GoesOn text r r
GoesOn-self text r h = record { forward = omega arith; within = h; kept = λ _ m k. k }

pub GoesOn-then : (text : List ℕ) (r s t : Run) → GoesOn text r s → GoesOn text s t → GoesOn text r t
GoesOn-then text r s t g h = record {
  forward = omega (arith, g.forward, h.forward);
  within = h.within;
  kept = λ e m k. h.kept (omega (arith, g.forward, h.forward, e)) m (g.kept (omega (arith, g.forward, h.forward, e)) m k);
}

GoesOn-mark : (text : List ℕ) (n : ℕ) (r s : Run) → GoesOn text (mark n r) s → GoesOn text r s
GoesOn-mark text n r s g = record { forward = g.forward; within = g.within; kept = λ e m k. g.kept e m (seen_more n m r.seen k) }

GoesOn-set_group : (text : List ℕ) (i start : ℕ) (r s : Run) → GoesOn text r s → GoesOn text r (set_group i start s)
GoesOn-set_group text i start r s g = record { forward = g.forward; within = g.within; kept = g.kept }

-- a step that is seen, or one that is not
pub visit-seen : (n : ℕ) (next : Step) (r : Run) → is_seen n r.seen ≡ true → visit n next r ≡ []
visit-seen n next r h = cond-true _ _ _ h

pub visit-new : (n : ℕ) (next : Step) (r : Run) → is_seen n r.seen ≡ false → visit n next r ≡ next (mark n r)
visit-new n next r h = cond-false _ _ _ h

pub visit-All : (P : Run → Type 0) (n : ℕ) (next : Step) (r : Run) → (is_seen n r.seen ≡ false → AllByRecursion P (next (mark n r)))
    → AllByRecursion P (visit n next r)
visit-All P n next r h = cases (is_seen n r.seen) h
  where
    cases : (b : Bool) → (b ≡ false → AllByRecursion P (next (mark n r))) → AllByRecursion P (cond b [] (next (mark n r)))
    cases true k = tt
    cases false k = k refl

pub visit-cong : (n : ℕ) (f g : Step) (r : Run) → (is_seen n r.seen ≡ false → f (mark n r) ≡ g (mark n r)) → visit n f r ≡ visit n g r
visit-cong n f g r h = cases (is_seen n r.seen) h
  where
    cases : (b : Bool) → (b ≡ false → f (mark n r) ≡ g (mark n r)) → cond b [] (f (mark n r)) ≡ cond b [] (g (mark n r))
    cases true k = refl
    cases false k = k refl

pub Forward-visit : (text : List ℕ) (n : ℕ) (next : Step) → Forward text next → Forward text (visit n next)
Forward-visit text n next f r h =
    visit-All (GoesOn text r) n next r (λ _. All-weaker (GoesOn text (mark n r)) (GoesOn text r) _ (f (mark n r) h) (GoesOn-mark text n r))

pub All-rounds_or_end : (P : Run → Type 0) (greedy : Bool) (rounds : List Run) (r : Run) → AllByRecursion P rounds → P r → AllByRecursion P (rounds_or_end greedy rounds r)
All-rounds_or_end P true rounds r h k = All-append P rounds (r ∷ []) h (k, tt)
All-rounds_or_end P false rounds r h k = (k, h)

Forward-flat_map : (text : List ℕ) (f g : Step) → Forward text f → Forward text g → Forward text (λ r. flat_map g (f r))
Forward-flat_map text f g ff fg r h =
    All-flat_map (GoesOn text r) (GoesOn text r) g (f r) (ff r h)
    (λ s on. All-weaker (GoesOn text s) (GoesOn text r) _ (fg s on.within) (λ t more. GoesOn-then text r s t on more))

pub Forward-after : (text : List ℕ) (greedy : Bool) (again : ℕ) (body : Step) → Forward text body → (n : ℕ) → Forward text (after greedy again body n)
unfolding after
Forward-after text greedy again body f zero = λ r h. tt
Forward-after text greedy again body f (suc n) =
    Forward-visit text again _ (λ s h. All-rounds_or_end (GoesOn text s) greedy _ s
    (Forward-flat_map text body (after greedy again body n) f (Forward-after text greedy again body f n) s h) (GoesOn-self text s h))

-- what takes bytes takes at least one, within the text
abbrev pub TakesWithin : List ℕ → (ℕ → Option ℕ) → Type 0
TakesWithin text size = (at k : ℕ) → size at ≡ Some k → (0 < k) × (at + k ≤ length text)

Forward-take_size : (text : List ℕ) (size : ℕ → Option ℕ) → TakesWithin text size → Forward text (take_size size)
Forward-take_size text size within r h = cases (size r.at) refl
  where
    cases : (o : Option ℕ) → size r.at ≡ o → AllGoOn text r (as_list (option_map (λ k. moved k r) o))
    cases None e = tt
    cases (Some k) e =
        let b : (0 < k) × (r.at + k ≤ length text) = within r.at k e in
        (record { forward = omega arith; within = b.1; kept = λ e. absurd (omega arith) }, tt)

-- a size is that of a member that stands there
pub size_in-parts : (set : List (ℕ × ℕ)) (size : ℕ) (c : Option ℕ) (k : ℕ) → size_in set size c ≡ Some k
    → (m : ℕ) × (c ≡ Some m) × (in_set set m ≡ true) × (size ≡ k)
size_in-parts set size None k e = absurd (none-some k e)
size_in-parts set size (Some m) k e = cases (in_set set m) refl e
  where
    cases : (b : Bool) → in_set set m ≡ b → (if b then Some size else None) ≡ Some k → (n : ℕ) × (Some m ≡ Some n) × (in_set set n ≡ true) × (size ≡ k)
    cases true is e = (m, refl, is, same_Some _ _ e)
    cases false is e = absurd (none-some k e)

pub byte_size-within : (set : List (ℕ × ℕ)) (text : List ℕ) → TakesWithin text (byte_size set text)
unfolding byte_size
byte_size-within set text at k e =
    let parts = size_in-parts set 1 (byte_after text at) k e in
    let one : 1 ≡ k = parts.3 in
    let lt : at < length text = slice_get_within text at parts.0 parts.1 in
    (omega arith, omega arith)

-- the bytes of a character that begins at a place
char_within : (text rest : List ℕ) (at c size k : ℕ) → drop at text ≡ encode_utf8 c ++ rest → length (encode_utf8 c) ≡ size → size ≡ k
    → (0 < k) × (at + k ≤ length text)
char_within text rest at c size k bytes width same =
    let some : 0 < length (encode_utf8 c) = omega (arith, length-encode c, (len_utf8_bounds c).0) in
    (omega arith, omega (arith, ap length bytes, length-drop at text, length-append (encode_utf8 c) rest))

pub char_size-within : (set : List (ℕ × ℕ)) (text : List ℕ) → TakesWithin text (char_size set text)
unfolding char_size
char_size-within set text at k e =
    let parts = size_in-parts set (decoded (drop at text)).size (char_after text at) k e in
    let spelt = SpellsChar-decoded (drop at text) parts.0 parts.1 in
    char_within text _ at parts.0 _ k spelt.bytes spelt.width parts.3

pub runs-Forward : (text : List ℕ) (core : Core) (n : ℕ) → Forward text (runs text core n)
unfolding runs
runs-Forward text empty n = Forward-visit text n (λ s. s ∷ []) (λ r h. (GoesOn-self text r h, tt))
runs-Forward text (byte_in set) n = Forward-visit text n _ (Forward-take_size text _ (byte_size-within set text))
runs-Forward text (char_in set) n = Forward-visit text n _ (Forward-take_size text _ (char_size-within set text))
runs-Forward text (look l) n = Forward-visit text n _ (λ r h. cases r h (holds l text r.at))
  where
    cases : (r : Run) → r.at ≤ length text → (b : Bool) → AllGoOn text r (if b then r ∷ [] else [])
    cases r h true = (GoesOn-self text r h, tt)
    cases r h false = tt
runs-Forward text (group i a) n =
    Forward-visit text n _ (λ r h. All-map (GoesOn text r) (GoesOn text r) _ _ (runs-Forward text a (n + 2) r h) (λ s. GoesOn-set_group text i r.at r s))
runs-Forward text (pair a b) n =
    Forward-visit text n _ (Forward-flat_map text _ _ (runs-Forward text a (n + 1)) (runs-Forward text b (n + 1 + numbers a)))
runs-Forward text (choice a b) n =
    Forward-visit text n _ (λ r h. All-append (GoesOn text r) _ _ (runs-Forward text a (n + 1) r h) (runs-Forward text b (n + 1 + numbers a) r h))
runs-Forward text none n = Forward-visit text n (λ s. []) (λ r h. tt)
runs-Forward text (plus greedy a) n =
    Forward-visit text n _ (Forward-flat_map text _ _ (runs-Forward text a (n + 2))
    (Forward-after text greedy (n + 1) _ (runs-Forward text a (n + 2)) (length text + 1)))

pub after-shut : (greedy : Bool) (again : ℕ) (body : Step) (n : ℕ) (r : Run) → is_seen again r.seen ≡ true → after greedy again body n r ≡ []
unfolding after
after-shut greedy again body zero r h = refl
after-shut greedy again body (suc n) r h = cond-true _ _ _ h

-- the number of rounds does not matter once there is one more than there are bytes left
pub after-rounds : (text : List ℕ) (greedy : Bool) (again : ℕ) (body : Step) → Forward text body → (m n : ℕ) (r : Run) → r.at ≤ length text
    → length text - r.at < m → length text - r.at < n → after greedy again body m r ≡ after greedy again body n r
unfolding after
after-rounds text greedy again body f zero n r h lm ln = absurd (omega arith)
after-rounds text greedy again body f (suc m) zero r h lm ln = absurd (omega arith)
after-rounds text greedy again body f (suc m) (suc n) r h lm ln =
    visit-cong again (λ s. rounds_or_end greedy (flat_map (after greedy again body m) (body s)) s)
    (λ s. rounds_or_end greedy (flat_map (after greedy again body n) (body s)) s) r (λ new. ap (λ rounds. rounds_or_end greedy rounds (mark again r))
    (flat_map-cong (GoesOn text (mark again r)) _ _ (body (mark again r)) (f (mark again r) h)
    (λ s g. elim (cases_lt r.at s.at) [
      | inl more ↦ after-rounds text greedy again body f m n s g.within (omega (arith, g.within)) (omega (arith, g.within))
      | inr less ↦
          let same : is_seen again s.seen ≡ true = g.kept (omega (arith, g.forward)) again (seen_self again r.seen) in
          after-shut greedy again body m s same ∙ sym (after-shut greedy again body n s same)
    ])))

-- what follows a round is one more and what follows that, or an end, with no count of rounds
pub after-eq : (text : List ℕ) (greedy : Bool) (again : ℕ) (body : Step) → Forward text body → (r : Run) → r.at ≤ length text
    → after greedy again body (length text + 1) r
    ≡ visit again (λ s. rounds_or_end greedy (flat_map (after greedy again body (length text + 1)) (body s)) s) r
unfolding after
after-eq text greedy again body f r h =
    after-rounds text greedy again body f (length text + 1) (suc (length text + 1)) r h (omega arith) (omega arith)
