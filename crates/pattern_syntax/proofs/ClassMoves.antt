-- How a class goes on is decided by what stands there.
use Rattle.std.specs.Prelude.{is_some}
use Rattle.std.proofs.Common.{◌≡◌, ℕ, Bool, true, false, not, ◌&&◌, ◌||◌, ◌==◌, ◌⊎◌, inl, inr, ⊎_elim, List, [], ◌∷◌, ◌++◌, codes, refl, sym, ap, ap₂, ◌∙◌, subst, eqb-true, true≢false}
use Rattle.unicode.specs.Binary.{is_white_space}
use Rattle.pattern_syntax.specs.declared.flags.Flags.{Flags}
use Rattle.pattern_syntax.specs.Flags.{Blank, white, comment, write_blanks, FineBlanks, has, begins, rest, seen}
use Rattle.pattern_syntax.specs.Atom.{Atom, character, escaped, control, coded, braced, octal, perl, category, category_braced, write_atom, single_of}
use Rattle.pattern_syntax.specs.Class.{close, Operation, both, minus, either, write_name, write_operation, FineMember, FineSecond, is_member, is_second, is_blank_start, makes_range}
use Rattle.pattern_syntax.specs.ClassProgress.{ClassLevel, whole_class, with_operation, AfterClass, RestClass}
use Rattle.pattern_syntax.proofs.BlanksLemmas.{head, tail, IsClear, seen_behind, three, two, apart, no_or_left, no_or_right, bracket_clear, dash_clear, slash_clear, and_clear, tilde_clear}
use Rattle.pattern_syntax.proofs.ClassSteps.{atom_member, range_member, FineRange, GoesOn, closes, passes, ones, ranges, names, nests, operates, goes_on}

-- the first character of an atom
abbrev pub first : Atom → ℕ
first (character c) = c
first _ = 92

pub written_first : (a : Atom) (t : List ℕ) → head (write_atom a t) ≡ first a
written_first (character c) t = refl
written_first (escaped c) t = refl
written_first (control c) t = refl
written_first (coded c ds) t = refl
written_first (braced c bs ds cs) t = refl
written_first (octal ds) t = refl
written_first (perl c) t = refl
written_first (category c bs d) t = refl
written_first (category_braced c bs ds cs) t = refl

-- a `\`, or a character that is a member there
pub member_starts : (k : Flags) (a : Atom) (w : List ℕ) → FineMember k a w → (first a ≡ 92) ⊎ (is_member k (first a) w ≡ true)
member_starts k (character c) w f = inr f
member_starts k (escaped c) w f = inl refl
member_starts k (control c) w f = inl refl
member_starts k (coded c ds) w f = inl refl
member_starts k (braced c bs ds cs) w f = inl refl
member_starts k (octal ds) w f = inl refl
member_starts k (perl c) w f = inl refl
member_starts k (category c bs d) w f = inl refl
member_starts k (category_braced c bs ds cs) w f = inl refl

pub second_starts : (k : Flags) (a : Atom) (w : List ℕ) → FineSecond k a w → (first a ≡ 92) ⊎ (is_second k (first a) ≡ true)
second_starts k (character c) w f = inr f
second_starts k (escaped c) w f = inl refl
second_starts k (control c) w f = inl refl
second_starts k (coded c ds) w f = inl refl
second_starts k (braced c bs ds cs) w f = inl refl
second_starts k (octal ds) w f = inl refl
second_starts k (perl c) w f = inl refl
second_starts k (category c bs d) w f = inl refl
second_starts k (category_braced c bs ds cs) w f = inl refl

-- nothing that is passed over begins with it, where white space is ignored
abbrev pub IsNoBlank : ℕ → Type 0
IsNoBlank c = (is_white_space c ≡ false) × ((c == 35) ≡ false)

no_blank_by : (c : ℕ) (b : Bool) → (b && (is_white_space c || (c == 35))) ≡ false → b ≡ true → IsNoBlank c
no_blank_by c true h e = (no_or_left (is_white_space c) (c == 35) h, no_or_right (is_white_space c) (c == 35) h)
no_blank_by c false h e = absurd (true≢false (sym e))

pub no_blank : (k : Flags) (c : ℕ) → is_blank_start k c ≡ false → k.spaces ≡ true → IsNoBlank c
no_blank k c h e = no_blank_by c k.spaces h e

-- an atom's text begins with its first character
pub clear_first : (a : Atom) (t : List ℕ) → IsNoBlank (first a) → IsClear (write_atom a t)
clear_first (character c) t f = f
clear_first (escaped c) t f = f
clear_first (control c) t f = f
clear_first (coded c ds) t f = f
clear_first (braced c bs ds cs) t f = f
clear_first (octal ds) t f = f
clear_first (perl c) t f = f
clear_first (category c bs d) t f = f
clear_first (category_braced c bs ds cs) t f = f

begins_first : (d : ℕ) (a : Atom) (t : List ℕ) → begins d (write_atom a t) ≡ (first a == d)
begins_first d (character c) t = refl
begins_first d (escaped c) t = refl
begins_first d (control c) t = refl
begins_first d (coded c ds) t = refl
begins_first d (braced c bs ds cs) t = refl
begins_first d (octal ds) t = refl
begins_first d (perl c) t = refl
begins_first d (category c bs e) t = refl
begins_first d (category_braced c bs ds cs) t = refl

pub slash_no_blank : IsNoBlank 92
slash_no_blank = (slash_clear, refl)

pub second_no_blank : (k : Flags) (b : Atom) (t : List ℕ) → FineSecond k b t → k.spaces ≡ true → IsNoBlank (first b)
second_no_blank k b t f on =
    ⊎_elim
    (λ slash. subst IsNoBlank (sym slash) slash_no_blank)
    (λ fine. no_blank k (first b) (two (has (first b) (codes "[]\\-")) (is_blank_start k (first b)) fine).1 on)
    (second_starts k b t f)

-- which characters a test on a list leaves out
not_in_by : (c d : ℕ) (cs : List ℕ) (b : Bool) → (c == d) ≡ b → has c cs ≡ false → has d cs ≡ true → b ≡ false
not_in_by c d cs false q h e = refl
not_in_by c d cs true q h e = absurd (true≢false (sym e ∙ ap (λ z. has z cs) (sym (eqb-true c d q)) ∙ h))

pub not_in : (c d : ℕ) (cs : List ℕ) → has c cs ≡ false → has d cs ≡ true → (c == d) ≡ false
not_in c d cs h e = not_in_by c d cs (c == d) refl h e

second_is_none : (k : Flags) (b : Atom) (t : List ℕ) (d : ℕ) → (92 == d) ≡ false → has d (codes "[]\\-") ≡ true → FineSecond k b t → begins d (write_atom b t) ≡ false
second_is_none k b t d e m f =
    begins_first d b t
    ∙ ⊎_elim
    (λ slash. ap (λ c. c == d) slash ∙ e)
    (λ fine. not_in (first b) d (codes "[]\\-") (two (has (first b) (codes "[]\\-")) (is_blank_start k (first b)) fine).0 m)
    (second_starts k b t f)

abbrev looks_on : List ℕ → List ℕ → Bool
looks_on after further = begins 45 after && not (begins 45 further || begins 93 further)

-- rules 3 and 4: where a range is written the test says so
pub range_makes : (k : Flags) (a : Atom) (bs cs : List Blank) (b : Atom) (t : List ℕ) → FineRange k a bs cs b t
    → makes_range k (write_blanks bs (codes "-" ++ write_blanks cs (write_atom b t))) ≡ true
range_makes k a bs cs b t f =
    let v = write_blanks cs (write_atom b t) in
    let near : seen k (write_blanks bs (45 ∷ v)) ≡ 45 ∷ v = seen_behind k bs (45 ∷ v) f.1 (λ on. (dash_clear, refl)) in
    let far : seen k v ≡ write_atom b t = seen_behind k cs (write_atom b t) f.2 (λ on. clear_first b t (second_no_blank k b t f.3 on)) in
    ap (λ w. looks_on w (seen k (rest w))) near
    ∙ ap (λ w. looks_on (45 ∷ v) w) far
    ∙ ap₂ (λ x y. not (x || y)) (second_is_none k b t 45 refl refl f.3) (second_is_none k b t 93 refl refl f.3)

-- the atom that stands there: an escape, or the character itself
atom_here : (k : Flags) (a : Atom) (t w : List ℕ) (d : ℕ) (v : List ℕ) → FineMember k a t → w ≡ write_atom a t → w ≡ d ∷ v
    → (d ≡ 92) ⊎ ((a ≡ character d) × (t ≡ v) × (is_member k d v ≡ true))
atom_here k (character c) t w d v f e q =
    let h : c ≡ d = ap head (sym e ∙ q) in
    let r : t ≡ v = ap tail (sym e ∙ q) in
    inr (ap character h, r, subst (λ c. is_member k c v ≡ true) h (subst (λ t. is_member k c t ≡ true) r f))
atom_here k (escaped c) t w d v f e q = inl (ap head (sym q ∙ e))
atom_here k (control c) t w d v f e q = inl (ap head (sym q ∙ e))
atom_here k (coded c ds) t w d v f e q = inl (ap head (sym q ∙ e))
atom_here k (braced c bs ds cs) t w d v f e q = inl (ap head (sym q ∙ e))
atom_here k (octal ds) t w d v f e q = inl (ap head (sym q ∙ e))
atom_here k (perl c) t w d v f e q = inl (ap head (sym q ∙ e))
atom_here k (category c bs g) t w d v f e q = inl (ap head (sym q ∙ e))
atom_here k (category_braced c bs ds cs) t w d v f e q = inl (ap head (sym q ∙ e))

-- no atom stands there
pub no_atom : (k : Flags) (a : Atom) (t w : List ℕ) (d : ℕ) (v : List ℕ) → (d == 92) ≡ false → (is_member k d v ≡ true → ⊥)
    → FineMember k a t → w ≡ write_atom a t → w ≡ d ∷ v → ⊥
no_atom k a t w d v slash none f e q = ⊎_elim (λ s. apart d 92 slash s) (λ m. none m.2) (atom_here k a t w d v f e q)

pub not_blank : (k : Flags) (b : Blank) (t w : List ℕ) (d : ℕ) (v : List ℕ) → IsNoBlank d → FineBlanks k (b ∷ []) t → w ≡ write_blanks (b ∷ []) t → w ≡ d ∷ v → ⊥
not_blank k (white c) t w d v clear f e q = true≢false (sym f.1 ∙ ap is_white_space (ap head (sym e ∙ q)) ∙ clear.0)
not_blank k (comment cs) t w d v clear f e q = apart d 35 clear.1 (ap head (sym q ∙ e))

pub spaces_on : (k : Flags) (b : Blank) (t : List ℕ) → FineBlanks k (b ∷ []) t → k.spaces ≡ true
spaces_on k (white c) t f = f.0
spaces_on k (comment cs) t f = f.0

-- what a member is not
abbrev pub parts_of_member : (k : Flags) (d : ℕ) (v : List ℕ) → is_member k d v ≡ true
    → (has d (codes "[]\\") ≡ false) × (is_blank_start k d ≡ false) × ((has d (codes "&-~") && begins d v) ≡ false)
parts_of_member k d v m = three (has d (codes "[]\\")) (is_blank_start k d) (has d (codes "&-~") && begins d v) m

pub no_member : (k : Flags) (d c : ℕ) (v : List ℕ) → has c (codes "[]\\") ≡ true → d ≡ c → is_member k d v ≡ true → ⊥
no_member k d c v bad same m = true≢false (sym bad ∙ ap (λ z. has z (codes "[]\\")) (sym same) ∙ (parts_of_member k d v m).0)

pub no_operation : (k : Flags) (d c : ℕ) (v t : List ℕ) → (has c (codes "&-~") && begins c (c ∷ t)) ≡ true → d ∷ v ≡ c ∷ c ∷ t → is_member k d v ≡ true → ⊥
no_operation k d c v t bad same m =
    let h : d ≡ c = ap head same in
    let r : v ≡ c ∷ t = ap tail same in
    true≢false (sym bad ∙ ap₂ (λ z w. has z (codes "&-~") && begins z w) (sym h) (sym r) ∙ (parts_of_member k d v m).2)

abbrev pub op_char : Operation → ℕ
op_char both = 38
op_char minus = 45
op_char either = 126

pub written_op : (o : Operation) (v : List ℕ) → write_operation o v ≡ op_char o ∷ op_char o ∷ v
written_op both v = refl
written_op minus v = refl
written_op either v = refl

pub op_no_blank : (o : Operation) → IsNoBlank (op_char o)
op_no_blank both = (and_clear, refl)
op_no_blank minus = (dash_clear, refl)
op_no_blank either = (tilde_clear, refl)

pub op_no_slash : (o : Operation) → (op_char o == 92) ≡ false
op_no_slash both = refl
op_no_slash minus = refl
op_no_slash either = refl

pub op_no_bracket : (o : Operation) → (op_char o == 93) ≡ false
op_no_bracket both = refl
op_no_bracket minus = refl
op_no_bracket either = refl

pub op_no_open : (o : Operation) → (op_char o == 91) ≡ false
op_no_open both = refl
op_no_open minus = refl
op_no_open either = refl

pub op_twice : (o : Operation) (t : List ℕ) → (has (op_char o) (codes "&-~") && begins (op_char o) (op_char o ∷ t)) ≡ true
op_twice both t = refl
op_twice minus t = refl
op_twice either t = refl

op_same : (o p : Operation) → op_char o ≡ op_char p → o ≡ p
op_same both both e = refl
op_same both minus e = absurd (apart 38 45 refl e)
op_same both either e = absurd (apart 38 126 refl e)
op_same minus both e = absurd (apart 45 38 refl e)
op_same minus minus e = refl
op_same minus either e = absurd (apart 45 126 refl e)
op_same either both e = absurd (apart 126 38 refl e)
op_same either minus e = absurd (apart 126 45 refl e)
op_same either either e = refl

pub name_first : (negated : Bool) (name t : List ℕ) → head (write_name negated name t) ≡ 91
name_first true name t = refl
name_first false name t = refl

module _ (F : Type 0) (k : Flags) (after : AfterClass F) (l : ClassLevel) (found : F) where
  close_of : (v w : List ℕ) → w ≡ 93 ∷ v → GoesOn F k after l w found → after (whole_class k l close) v found
  close_of v w q (closes u e s) = subst (λ u. after (whole_class k l close) u found) (ap tail (sym e ∙ q)) s
  close_of v w q (passes b t f e x) = absurd (not_blank k b t w 93 v (bracket_clear, refl) f e q)
  close_of v w q (ones a t f e x) = absurd (no_atom k a t w 93 v refl (no_member k 93 93 v refl refl) f.0 e q)
  close_of v w q (ranges a bs cs b t f e x) = absurd (no_atom k a _ w 93 v refl (no_member k 93 93 v refl refl) f.0 e q)
  close_of v w q (names negated name t f e x) = absurd (apart 91 93 refl (sym (name_first negated name t) ∙ ap head (sym e ∙ q)))
  close_of v w q (nests h t f g e x) = absurd (apart 91 93 refl (ap head (sym e ∙ q)))
  close_of v w q (operates o t e x) = absurd (apart (op_char o) 93 (op_no_bracket o) (ap head (sym (written_op o t) ∙ sym e ∙ q)))

  -- a `]` ends the class
  pub close_on : (v : List ℕ) → RestClass F k after l (93 ∷ v) found → after (whole_class k l close) v found
  close_on v r = close_of v (93 ∷ v) refl (goes_on F k after l (93 ∷ v) found r)

  operation_of : (o : Operation) (v w : List ℕ) → w ≡ op_char o ∷ op_char o ∷ v → GoesOn F k after l w found → RestClass F k after (with_operation k o l) v found
  operation_of o v w q (closes u e s) = absurd (apart (op_char o) 93 (op_no_bracket o) (ap head (sym q ∙ e)))
  operation_of o v w q (passes b t f e x) = absurd (not_blank k b t w (op_char o) (op_char o ∷ v) (op_no_blank o) f e q)
  operation_of o v w q (ones a t f e x) =
      absurd (no_atom k a t w (op_char o) (op_char o ∷ v) (op_no_slash o) (no_operation k (op_char o) (op_char o) (op_char o ∷ v) v (op_twice o v) refl) f.0 e q)
  operation_of o v w q (ranges a bs cs b t f e x) =
      absurd (no_atom k a _ w (op_char o) (op_char o ∷ v) (op_no_slash o) (no_operation k (op_char o) (op_char o) (op_char o ∷ v) v (op_twice o v) refl) f.0 e q)
  operation_of o v w q (names negated name t f e x) = absurd (apart (op_char o) 91 (op_no_open o) (ap head (sym q ∙ e) ∙ name_first negated name t))
  operation_of o v w q (nests h t f g e x) = absurd (apart (op_char o) 91 (op_no_open o) (ap head (sym q ∙ e)))
  operation_of o v w q (operates p t e x) =
      let same : op_char p ∷ op_char p ∷ t ≡ op_char o ∷ op_char o ∷ v = sym (written_op p t) ∙ sym e ∙ q in
      subst (λ o. RestClass F k after (with_operation k o l) v found) (op_same p o (ap head same))
      (subst (λ t. RestClass F k after (with_operation k p l) t found) (ap tail (ap tail same)) x)

  -- rule 2: `&&`, `--` and `~~` where a member may begin
  pub operation_on : (o : Operation) (v : List ℕ) → RestClass F k after l (write_operation o v) found → RestClass F k after (with_operation k o l) v found
  operation_on o v r = operation_of o v (write_operation o v) (written_op o v) (goes_on F k after l (write_operation o v) found r)

  abbrev pub RangeGoesOn : ℕ → List ℕ → Type 0
  RangeGoesOn d v =
      (bs : List Blank) × ((cs : List Blank) × ((b : Atom) × ((t : List ℕ)
      × (FineRange k (character d) bs cs b t × (v ≡ write_blanks bs (codes "-" ++ write_blanks cs (write_atom b t))) × RestClass F k after (range_member (character d) b l) t found))))

  -- how a character goes on
  abbrev pub CharacterGoesOn : ℕ → List ℕ → Bool → Type 0
  CharacterGoesOn d v true = RangeGoesOn d v
  CharacterGoesOn d v false = RestClass F k after (atom_member k (character d) l) v found

  one_by : (d : ℕ) (v : List ℕ) (m : Bool) → makes_range k v ≡ m → m ≡ false → RestClass F k after (atom_member k (character d) l) v found → CharacterGoesOn d v m
  one_by d v true e off x = absurd (true≢false off)
  one_by d v false e off x = x

  range_by : (d : ℕ) (v : List ℕ) (m : Bool) → m ≡ true → RangeGoesOn d v → CharacterGoesOn d v m
  range_by d v true on x = x
  range_by d v false on x = absurd (true≢false (sym on))

  character_of : (d : ℕ) (v w : List ℕ) → is_member k d v ≡ true → w ≡ d ∷ v → GoesOn F k after l w found → CharacterGoesOn d v (makes_range k v)
  character_of d v w m q (closes u e s) = absurd (no_member k d 93 v refl (ap head (sym q ∙ e)) m)
  character_of d v w m q (passes b t f e x) = absurd (not_blank k b t w d v (no_blank k d (parts_of_member k d v m).1 (spaces_on k b t f)) f e q)
  character_of d v w m q (ones a t f e x) =
      ⊎_elim
      (λ slash. absurd (no_member k d 92 v refl slash m))
      (λ here.
      one_by d v (makes_range k v) refl
      (sym (ap₂ (λ a t. is_some (single_of a) && makes_range k t) here.0 here.1) ∙ f.2)
      (subst (λ a. RestClass F k after (atom_member k a l) v found) here.0 (subst (λ t. RestClass F k after (atom_member k a l) t found) here.1 x)))
      (atom_here k a t w d v f.0 e q)
  character_of d v w m q (ranges a bs cs b t f e x) =
      ⊎_elim
      (λ slash. absurd (no_member k d 92 v refl slash m))
      (λ here.
      range_by d v (makes_range k v)
      (ap (makes_range k) (sym here.1) ∙ range_makes k a bs cs b t f)
      (bs, (cs, (b, (t, (subst (λ a. FineRange k a bs cs b t) here.0 f, sym here.1, subst (λ a. RestClass F k after (range_member a b l) t found) here.0 x))))))
      (atom_here k a _ w d v f.0 e q)
  character_of d v w m q (names negated name t f e x) = absurd (no_member k d 91 v refl (ap head (sym q ∙ e) ∙ name_first negated name t) m)
  character_of d v w m q (nests h t f g e x) = absurd (no_member k d 91 v refl (ap head (sym q ∙ e)) m)
  character_of d v w m q (operates o t e x) = absurd (no_operation k d (op_char o) v t (op_twice o t) (sym q ∙ e ∙ written_op o t) m)

  -- rules 3 to 5: a character that is a member begins a range exactly where the test says so
  pub character_on : (d : ℕ) (v : List ℕ) → is_member k d v ≡ true → RestClass F k after l (d ∷ v) found → CharacterGoesOn d v (makes_range k v)
  character_on d v m r = character_of d v (d ∷ v) m refl (goes_on F k after l (d ∷ v) found r)
