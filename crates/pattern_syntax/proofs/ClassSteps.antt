-- One step of a reading of a class, both ways.
use Rattle.std.specs.Prelude.{is_some}
use Rattle.std.proofs.Common.{◌≡◌, ℕ, ◌+◌, max, Bool, true, false, ◌&&◌, ◌||◌, not, List, [], ◌∷◌, ◌++◌, codes, refl, sym, ap, ap₂, ◌∙◌, subst, arith}
use Rattle.std.specs.List.{list_any}
use Rattle.unicode.specs.Binary.{is_uppercase}
use Rattle.regex_class.proofs.RangesLemmas.{or_assoc}
use Rattle.pattern_syntax.specs.declared.readings.Literals.{Literals}
use Rattle.pattern_syntax.specs.declared.flags.Flags.{Flags}
use Rattle.pattern_syntax.specs.Flags.{Blank, write_blanks, FineBlanks, is_nil}
use Rattle.pattern_syntax.specs.Sets.{Set, negated_if, ascii_names, ascii_set, value_of}
use Rattle.pattern_syntax.specs.Atom.{Atom, write_atom, single_of}
use Rattle.pattern_syntax.specs.Class.{Head, Inside, close, pass, one, range, named, nested, operation, Operation, write_inside, write_head, write_name, write_operation, FineInside, FineHead, FineMember, FineSecond, fits, makes_range, in_order, begins_name, head_literals, atom_set, range_set, inside_set, inside_depth, inside_literals, listed}
use Rattle.pattern_syntax.specs.ClassProgress.{ClassPart, ClassLevel, start, literals_in, in_both, part_of, whole_class, with_member, bracketed, with_operation, AfterClass, RestClass, leave_class}

max_zero : (d : ℕ) → max d 0 ≡ d
max_zero d = omega arith

-- a member of a level
abbrev pub atom_member : Flags → Atom → ClassLevel → ClassLevel
atom_member k a l = with_member (atom_set k a) 0 (literals_in (listed (single_of a))) l

abbrev pub range_member : Atom → Atom → ClassLevel → ClassLevel
range_member a b l = with_member (range_set (single_of a) (single_of b)) 0 (literals_in (listed (single_of a) ++ listed (single_of b))) l

abbrev pub name_member : Flags → Bool → List ℕ → ClassLevel → ClassLevel
name_member k negated name l = with_member (negated_if negated k (ascii_set name)) 0 (literals_in []) l

abbrev pub write_range : Atom → List Blank → List Blank → Atom → List ℕ → List ℕ
write_range a bs cs b t = write_atom a (write_blanks bs (codes "-" ++ write_blanks cs (write_atom b t)))

-- all that a range asks for but its rest
abbrev pub FineRange : Flags → Atom → List Blank → List Blank → Atom → List ℕ → Type 0
FineRange k a bs cs b w =
    let v = write_blanks cs (write_atom b w) in
    FineMember k a (write_blanks bs (codes "-" ++ v)) × FineBlanks k bs (codes "-" ++ v) × FineBlanks k cs (write_atom b w) × FineSecond k b w
    × ((fits k a && fits k b && in_order (single_of a) (single_of b)) ≡ true)

abbrev pub FineOne : Flags → Atom → List ℕ → Type 0
FineOne k a w = FineMember k a w × (fits k a ≡ true) × ((is_some (single_of a) && makes_range k w) ≡ false)

-- LITERALS
abbrev literals_as : Bool → Bool → Literals
literals_as any uppercase = record { any = any; uppercase = uppercase }

nil_append : (cs ds : List ℕ) → not (is_nil (cs ++ ds)) ≡ (not (is_nil cs) || not (is_nil ds))
nil_append [] ds = refl
nil_append (c ∷ cs) ds = refl

any_append : (f : ℕ → Bool) (cs ds : List ℕ) → list_any f (cs ++ ds) ≡ (list_any f cs || list_any f ds)
any_append f [] ds = refl
any_append f (c ∷ cs) ds = ap (λ b. f c || b) (any_append f cs ds) ∙ or_assoc (f c) (list_any f cs) (list_any f ds)

-- those of two lists are those of either
pub in_append : (cs ds : List ℕ) → literals_in (cs ++ ds) ≡ in_both (literals_in cs) (literals_in ds)
in_append cs ds = ap₂ literals_as (nil_append cs ds) (any_append is_uppercase cs ds)

in_three : (a b c : Literals) → in_both a (in_both b c) ≡ in_both (in_both a b) c
in_three a b c = ap₂ literals_as (or_assoc a.any b.any c.any) (or_assoc a.uppercase b.uppercase c.uppercase)

-- those of a part that is read further
in_more : (l : Literals) (cs ds : List ℕ) → in_both l (literals_in (cs ++ ds)) ≡ in_both (in_both l (literals_in cs)) (literals_in ds)
in_more l cs ds = ap (in_both l) (in_append cs ds) ∙ in_three l (literals_in cs) (literals_in ds)

same_part : (s : Set) (d e : ℕ) (cs ds : Literals) → d ≡ e → cs ≡ ds → part_of s d cs ≡ part_of s e ds
same_part s d e cs ds f g = ap (λ d. part_of s d cs) f ∙ ap (λ cs. part_of s e cs) g

-- one member more is read first
whole_member : (k : Flags) (s : Set) (cs : List ℕ) (l : ClassLevel) (p : Inside)
    → part_of (inside_set k l.waiting (λ c. l.union c || s c) p) (inside_depth l.left (l.count + 1) l.deepest p) (in_both l.literals (literals_in (cs ++ inside_literals p)))
    ≡ whole_class k (with_member s 0 (literals_in cs) l) p
whole_member k s cs l p =
    same_part _ _ _ _ _ (ap (λ d. inside_depth l.left (l.count + 1) d p) (sym (max_zero l.deepest))) (in_more l.literals cs (inside_literals p))

module _ (F : Type 0) where
  -- how the rest of a class begins
  pub data GoesOn (k : Flags) (after : AfterClass F) (l : ClassLevel) (w : List ℕ) (found : F) : Type 0 where
    closes : (v : List ℕ) → w ≡ codes "]" ++ v → after (whole_class k l close) v found → GoesOn k after l w found
    passes : (b : Blank) (t : List ℕ) → FineBlanks k (b ∷ []) t → w ≡ write_blanks (b ∷ []) t → RestClass F k after l t found → GoesOn k after l w found
    ones : (a : Atom) (t : List ℕ) → FineOne k a t → w ≡ write_atom a t → RestClass F k after (atom_member k a l) t found → GoesOn k after l w found
    ranges : (a : Atom) (bs cs : List Blank) (b : Atom) (t : List ℕ) → FineRange k a bs cs b t → w ≡ write_range a bs cs b t
        → RestClass F k after (range_member a b l) t found → GoesOn k after l w found
    names : (negated : Bool) (name t : List ℕ) → is_some (value_of ascii_names name) ≡ true → w ≡ write_name negated name t
        → RestClass F k after (name_member k negated name l) t found → GoesOn k after l w found
    nests : (h : Head) (t : List ℕ) → begins_name w ≡ false → FineHead k h t → w ≡ write_head h t
        → RestClass F k (leave_class F k (is_some h.negated) l after) (start h) t found → GoesOn k after l w found
    operates : (o : Operation) (t : List ℕ) → w ≡ write_operation o t → RestClass F k after (with_operation k o l) t found → GoesOn k after l w found

  moved : (after : AfterClass F) (a b : ClassPart) (v : List ℕ) (found : F) → a ≡ b → after a v found → after b v found
  moved after a b v found e s = subst (λ b. after b v found) e s

  whole_nested : (k : Flags) (h : Head) (q p : Inside) (l : ClassLevel)
      → whole_class k l (nested h q p)
      ≡ whole_class k (with_member (bracketed k (is_some h.negated) (whole_class k (start h) q)).set (bracketed k (is_some h.negated) (whole_class k (start h) q)).depth (bracketed k (is_some h.negated) (whole_class k (start h) q)).literals l) p
  whole_nested k h q p l =
      same_part _ _ _ _ _ refl
      (in_more l.literals (head_literals h ++ inside_literals q) (inside_literals p)
      ∙ ap (λ both. in_both (in_both l.literals both) (literals_in (inside_literals p))) (in_append (head_literals h) (inside_literals q)))

  goes_of : (k : Flags) (after : AfterClass F) (l : ClassLevel) (w : List ℕ) (found : F) (p : Inside) (v : List ℕ) → FineInside k p v → w ≡ write_inside p v
      → after (whole_class k l p) v found → GoesOn k after l w found
  goes_of k after l w found close v f e s = closes v e s
  goes_of k after l w found (pass b p) v f e s = passes b (write_inside p v) f.0 e (p, v, f.1, refl, s)
  goes_of k after l w found (one a p) v f e s =
      ones a (write_inside p v) (f.0, f.1, f.2) e (p, v, f.3, refl, moved after _ _ v found (whole_member k (atom_set k a) (listed (single_of a)) l p) s)
  goes_of k after l w found (range a bs cs b p) v f e s =
      ranges a bs cs b (write_inside p v) (f.0, f.1, f.2, f.3, f.4) e (
        p,
        v,
        f.5,
        refl,
        moved after _ _ v found (whole_member k (range_set (single_of a) (single_of b)) (listed (single_of a) ++ listed (single_of b)) l p) s,
      )
  goes_of k after l w found (named negated name p) v f e s =
      names negated name (write_inside p v) f.0 e (p, v, f.1, refl, moved after _ _ v found (whole_member k (negated_if negated k (ascii_set name)) [] l p) s)
  goes_of k after l w found (nested h q p) v f e s =
      nests h (write_inside q (write_inside p v)) (subst (λ w. begins_name w ≡ false) (sym e) f.0) f.1 e
      (q, write_inside p v, f.2, refl, (p, v, f.3, refl, moved after _ _ v found (whole_nested k h q p l) s))
  goes_of k after l w found (operation o p) v f e s = operates o (write_inside p v) e (p, v, f, refl, s)

  pub goes_on : (k : Flags) (after : AfterClass F) (l : ClassLevel) (w : List ℕ) (found : F) → RestClass F k after l w found → GoesOn k after l w found
  goes_on k after l w found (p, v, f, e, s) = goes_of k after l w found p v f e s

  -- AND BACK
  pub came_close : (k : Flags) (after : AfterClass F) (l : ClassLevel) (v : List ℕ) (found : F) → after (whole_class k l close) v found
      → RestClass F k after l (codes "]" ++ v) found
  came_close k after l v found s = (close, v, tt, refl, s)

  pub came_pass : (k : Flags) (after : AfterClass F) (l : ClassLevel) (b : Blank) (t : List ℕ) (found : F) → FineBlanks k (b ∷ []) t
      → RestClass F k after l t found → RestClass F k after l (write_blanks (b ∷ []) t) found
  came_pass k after l b t found fine (p, v, f, e, s) = (pass b p, v, (subst (FineBlanks k (b ∷ [])) e fine, f), ap (write_blanks (b ∷ [])) e, s)

  pub came_one : (k : Flags) (after : AfterClass F) (l : ClassLevel) (a : Atom) (t : List ℕ) (found : F) → FineOne k a t
      → RestClass F k after (atom_member k a l) t found → RestClass F k after l (write_atom a t) found
  came_one k after l a t found fine (p, v, f, e, s) =
      let fine' = subst (FineOne k a) e fine in (
        one a p,
        v,
        (fine'.0, fine'.1, fine'.2, f),
        ap (write_atom a) e,
        moved after _ _ v found (sym (whole_member k (atom_set k a) (listed (single_of a)) l p)) s,
      )

  pub came_range : (k : Flags) (after : AfterClass F) (l : ClassLevel) (a : Atom) (bs cs : List Blank) (b : Atom) (t : List ℕ) (found : F) → FineRange k a bs cs b t
      → RestClass F k after (range_member a b l) t found → RestClass F k after l (write_range a bs cs b t) found
  came_range k after l a bs cs b t found fine (p, v, f, e, s) =
      let fine' = subst (FineRange k a bs cs b) e fine in (
        range a bs cs b p,
        v,
        (fine'.0, fine'.1, fine'.2, fine'.3, fine'.4, f),
        ap (write_range a bs cs b) e,
        moved after _ _ v found (sym (whole_member k (range_set (single_of a) (single_of b)) (listed (single_of a) ++ listed (single_of b)) l p)) s,
      )

  pub came_name : (k : Flags) (after : AfterClass F) (l : ClassLevel) (negated : Bool) (name t : List ℕ) (found : F) → is_some (value_of ascii_names name) ≡ true
      → RestClass F k after (name_member k negated name l) t found → RestClass F k after l (write_name negated name t) found
  came_name k after l negated name t found fine (p, v, f, e, s) = (
    named negated name p,
    v,
    (fine, f),
    ap (write_name negated name) e,
    moved after _ _ v found (sym (whole_member k (negated_if negated k (ascii_set name)) [] l p)) s,
  )

  pub came_nest : (k : Flags) (after : AfterClass F) (l : ClassLevel) (h : Head) (t : List ℕ) (found : F) → begins_name (write_head h t) ≡ false → FineHead k h t
      → RestClass F k (leave_class F k (is_some h.negated) l after) (start h) t found → RestClass F k after l (write_head h t) found
  came_nest k after l h t found apart fine (q, u, f, e, (p, v, g, i, s)) =
      let inside : t ≡ write_inside q (write_inside p v) = e ∙ ap (write_inside q) i in (
        nested h q p,
        v,
        (subst (λ t. begins_name (write_head h t) ≡ false) inside apart, subst (FineHead k h) inside fine, subst (FineInside k q) i f, g),
        ap (write_head h) inside,
        moved after _ _ v found (sym (whole_nested k h q p l)) s,
      )

  pub came_operation : (k : Flags) (after : AfterClass F) (l : ClassLevel) (o : Operation) (t : List ℕ) (found : F)
      → RestClass F k after (with_operation k o l) t found → RestClass F k after l (write_operation o t) found
  came_operation k after l o t found (p, v, f, e, s) = (operation o p, v, f, ap (write_operation o) e, s)
