-- A text that is read is read with letters folded or not, with the same depth, groups, names and literals.
use Rattle.std.proofs.Common.{◌≡◌, ℕ, ◌+◌, ◌==◌, ◌&&◌, max, map, Bool, true, false, if◌then◌else◌, Option, Some, None, List, [], ◌∷◌, ◌++◌, codes, not, refl, sym, ap, ap₂, ◌∙◌, subst, unwrap_or}
use Rattle.pattern_syntax.specs.declared.flags.Flags.{Flags}
use Rattle.pattern_syntax.specs.Flags.{FlagList, apply, set_flag, set_flags, Blank, white, comment, write_blanks, FineBlanks}
use Rattle.pattern_syntax.specs.Atom.{Atom, character, escaped, control, coded, braced, octal, perl, category, category_braced, single_of, Digit, write_digits, write_atom, FineSpaced, FineBraced, FineAtom}
use Rattle.pattern_syntax.specs.Class.{Head, Inside, atom_set, close, pass as pass_in, one, range, named as named_class, nested, operation, write_after, write_dashes, write_inside, FineMember, FineSecond, FineCaret, FineDashes, FineBracket, FineHead, FineInside, xor}
use Rattle.pattern_syntax.specs.Flags.{is_nil}
use Rattle.pattern_syntax.specs.Syntax.{Syntax, end, bar, pass, set, single, group, Single, atom, dot, caret, dollar, look, class, Count, optional, star, plus, exactly, at_least, between, value, Kind, numbered, named, flagged, Repeated, inside_flags, write, write_count, write_repeats, Fine, FineAlone, FineSingle, FineRepeats, FineKind, write_swap}
use Rattle.pattern_syntax.specs.Sets.{Set, closed, folds_with_another}
use Rattle.pattern_syntax.specs.SetTree.{SetTree, SetTrees, empty, literal, repetition, capture, concat, alternation, more, trees}
use Rattle.pattern_syntax.specs.Reads.{Part, Row, Found, at_depth, in_front, row_of, united, sequence, joined, literal_bytes, class_tree, repeat, count_tree, grouped, own, captures, put, one_tree, single_part, branches, found_of}
use Rattle.grep_regex.specs.Readings.{IsAlike, FoldingChangesClassesAlone, outline, outlines}

-- flags with letters folded or as they are
abbrev folding : Bool → Flags → Flags
folding v k = record k { folds = v }

-- ---- flag lists

-- flags that differ by folding alone are changed so that they still do
abbrev Keeps : (Flags → Flags) → Type 0
Keeps f = (v : Bool) (k : Flags) → (w : Bool) × (f (folding v k) ≡ folding w (f k))

keeps_if : (b : Bool) (f g : Flags → Flags) → Keeps f → Keeps g → Keeps (λ k. if b then f k else g k)
keeps_if true f g p q = p
keeps_if false f g p q = q

flag_kept : (v : Bool) (letter : ℕ) → Keeps (set_flag v letter)
flag_kept v letter =
    keeps_if (letter == 105) (λ k. record k { folds = v }) _ (λ w k. (v, refl))
    (keeps_if (letter == 109) (λ k. record k { multi = v }) _ (λ w k. (w, refl))
    (keeps_if (letter == 115) (λ k. record k { dot_all = v }) _ (λ w k. (w, refl))
    (keeps_if (letter == 82) (λ k. record k { crlf = v }) _ (λ w k. (w, refl))
    (keeps_if (letter == 85) (λ k. record k { swaps = v }) _ (λ w k. (w, refl))
    (keeps_if (letter == 117) (λ k. record k { unicode = v }) _ (λ w k. (w, refl))
    (keeps_if (letter == 120) (λ k. record k { spaces = v }) (λ k. k) (λ w k. (w, refl)) (λ w k. (w, refl))))))))

flags_kept : (v : Bool) (letters : List ℕ) → Keeps (set_flags v letters)
flags_kept v [] w k = (w, refl)
flags_kept v (letter ∷ letters) w k =
    let first = flag_kept v letter w k in
    let others = flags_kept v letters first.0 (set_flag v letter k) in
    (others.0, ap (set_flags v letters) first.1 ∙ others.1)

apply_kept : (l : FlagList) → Keeps (apply l)
apply_kept l w k =
    let on = flags_kept true l.on w k in
    let off = flags_kept false (unwrap_or l.off []) on.0 (set_flags true l.on k) in
    (off.0, ap (set_flags false (unwrap_or l.off [])) on.1 ∙ off.1)

inside_kept : (m : Kind) → Keeps (inside_flags m)
inside_kept numbered w k = (w, refl)
inside_kept (named bs p name) w k = (w, refl)
inside_kept (flagged bs l) w k = apply_kept l w k

-- ---- what is fine stays fine

blanks_fine : (v : Bool) (k : Flags) (bs : List Blank) (t : List ℕ) → FineBlanks k bs t → FineBlanks (folding v k) bs t
blanks_fine v k [] t f = tt
blanks_fine v k (white c ∷ bs) t f = (f.0, f.1, blanks_fine v k bs t f.2)
blanks_fine v k (comment cs ∷ bs) t f = (f.0, f.1, f.2, blanks_fine v k bs t f.3)

spaced_fine : (v : Bool) (k : Flags) (ds : List Digit) (t : List ℕ) → FineSpaced k ds t → FineSpaced (folding v k) ds t
spaced_fine v k [] t f = tt
spaced_fine v k (d ∷ ds) t f = (blanks_fine v k d.before (d.digit ∷ write_digits ds t) f.0, spaced_fine v k ds t f.1)

braced_fine : (v : Bool) (k : Flags) (before : List Blank) (ds : List Digit) (behind : List Blank) → FineBraced k before ds behind → FineBraced (folding v k) before ds behind
braced_fine v k before ds behind f =
    (blanks_fine v k before (codes "{") f.0, spaced_fine v k ds (write_blanks behind (codes "}")) f.1, blanks_fine v k behind (codes "}") f.2)

atom_fine : (v : Bool) (k : Flags) (a : Atom) (t : List ℕ) → FineAtom k a t → FineAtom (folding v k) a t
atom_fine v k (character c) t f = f
atom_fine v k (escaped c) t f = f
atom_fine v k (control letter) t f = f
atom_fine v k (coded letter ds) t f = (spaced_fine v k ds t f.0, f.1)
atom_fine v k (braced letter before ds behind) t f = (braced_fine v k before ds behind f.0, f.1)
atom_fine v k (octal ds) t f = f
atom_fine v k (perl letter) t f = f
atom_fine v k (category letter before c) t f = (blanks_fine v k before (c ∷ t) f.0, f.1)
atom_fine v k (category_braced letter before ds behind) t f = (braced_fine v k before ds behind f.0, f.1)

member_fine : (v : Bool) (k : Flags) (a : Atom) (t : List ℕ) → FineMember k a t → FineMember (folding v k) a t
member_fine v k (character c) t f = f
member_fine v k a t f = atom_fine v k a t f

second_fine : (v : Bool) (k : Flags) (a : Atom) (t : List ℕ) → FineSecond k a t → FineSecond (folding v k) a t
second_fine v k (character c) t f = f
second_fine v k a t f = atom_fine v k a t f

alone_fine : (v : Bool) (k : Flags) (a : Atom) (t : List ℕ) → FineAlone k a t → FineAlone (folding v k) a t
alone_fine v k (character c) t f = f
alone_fine v k a t f = atom_fine v k a t f

caret_fine : (v : Bool) (k : Flags) (negated : Option (List Blank)) (t : List ℕ) → FineCaret k negated t → FineCaret (folding v k) negated t
caret_fine v k None t f = f
caret_fine v k (Some bs) t f = blanks_fine v k bs (codes "^" ++ t) f

dashes_fine : (v : Bool) (k : Flags) (dashes : List (List Blank)) (t : List ℕ) → FineDashes k dashes t → FineDashes (folding v k) dashes t
dashes_fine v k [] t f = f
dashes_fine v k (bs ∷ dashes) t f = (blanks_fine v k bs (codes "-" ++ write_dashes dashes t) f.0, dashes_fine v k dashes t f.1)

bracket_fine : (v : Bool) (k : Flags) (none : Bool) (bracket : Option (List Blank)) (t : List ℕ) → FineBracket k none bracket t → FineBracket (folding v k) none bracket t
bracket_fine v k true None t f = f
bracket_fine v k true (Some bs) t f = blanks_fine v k bs (codes "]" ++ t) f
bracket_fine v k false None t f = f
bracket_fine v k false (Some bs) t f = f

head_fine : (v : Bool) (k : Flags) (h : Head) (t : List ℕ) → FineHead k h t → FineHead (folding v k) h t
head_fine v k h t f =
    let b = write_after h.bracket (codes "]") t in
    (caret_fine v k h.negated (write_dashes h.dashes b) f.0, dashes_fine v k h.dashes b f.1, bracket_fine v k (is_nil h.dashes) h.bracket t f.2)

inside_fine : (v : Bool) (k : Flags) (p : Inside) (t : List ℕ) → FineInside k p t → FineInside (folding v k) p t
inside_fine v k close t f = tt
inside_fine v k (pass_in b p) t f = (blanks_fine v k (b ∷ []) (write_inside p t) f.0, inside_fine v k p t f.1)
inside_fine v k (one a p) t f = (member_fine v k a (write_inside p t) f.0, f.1, f.2, inside_fine v k p t f.3)
inside_fine v k (range a bs cs b p) t f =
    let w = write_inside p t in
    let u = write_blanks cs (write_atom b w) in (
      member_fine v k a (write_blanks bs (codes "-" ++ u)) f.0,
      blanks_fine v k bs (codes "-" ++ u) f.1,
      blanks_fine v k cs (write_atom b w) f.2,
      second_fine v k b w f.3,
      f.4,
      inside_fine v k p t f.5,
    )
inside_fine v k (named_class negated name p) t f = (f.0, inside_fine v k p t f.1)
inside_fine v k (nested h q p) t f =
    let w = write_inside p t in
    (f.0, head_fine v k h (write_inside q w) f.1, inside_fine v k q w f.2, inside_fine v k p t f.3)
inside_fine v k (operation o p) t f = inside_fine v k p t f

single_fine : (v : Bool) (k : Flags) (s : Single) (t : List ℕ) → FineSingle k s t → FineSingle (folding v k) s t
single_fine v k (atom a) t f = alone_fine v k a t f
single_fine v k dot t f = tt
single_fine v k caret t f = tt
single_fine v k dollar t f = tt
single_fine v k (look e) t f = f
single_fine v k (class h p) t f = (head_fine v k h (write_inside p t) f.0, inside_fine v k p t f.1)

repeats_fine : (v : Bool) (k : Flags) (rs : List Repeated) (t : List ℕ) → FineRepeats k rs t → FineRepeats (folding v k) rs t
repeats_fine v k [] t f = tt
repeats_fine v k (r ∷ rs) t f =
    let w = write_swap r.swaps (write_repeats rs t) in
    (blanks_fine v k r.before (write_count r.count (write_blanks r.gap w)) f.0, blanks_fine v k r.gap w f.1, f.2, repeats_fine v k rs t f.3)

kind_fine : (v : Bool) (k : Flags) (m : Kind) → FineKind k m → FineKind (folding v k) m
kind_fine v k numbered f = tt
kind_fine v k (named bs p name) f = (blanks_fine v k bs (codes "?") f.0, f.1)
kind_fine v k (flagged bs l) f = (blanks_fine v k bs (codes "?") f.0, f.1)

fine : (v : Bool) (k : Flags) (p : Syntax) (t : List ℕ) → Fine k p t → Fine (folding v k) p t
fine v k end t f = tt
fine v k (bar p) t f = fine v k p t f
fine v k (pass b p) t f = (blanks_fine v k (b ∷ []) (write p t) f.0, fine v k p t f.1)
fine v k (set bs l p) t f =
    let kept = apply_kept l v k in
    (blanks_fine v k bs (codes "?") f.0, f.1, f.2, subst (λ (k : Flags). Fine k p t) (sym kept.1) (fine kept.0 (apply l k) p t f.3))
fine v k (single s rs p) t f =
    let w = write p t in
    (single_fine v k s (write_repeats rs w) f.0, repeats_fine v k rs w f.1, fine v k p t f.2)
fine v k (group m q rs p) t f =
    let w = write p t in
    let kept = inside_kept m v k in
    let u = codes ")" ++ write_repeats rs w in (
      kind_fine v k m f.0,
      subst (λ (k : Flags). Fine k q u) (sym kept.1) (fine kept.0 (inside_flags m k) q u f.1),
      repeats_fine v k rs w f.2,
      fine v k p t f.3,
    )

-- ---- what is read is the same but for literals and classes

record IsSamePart (a b : Part) : Type 0 where
  deep : a.depth ≡ b.depth
  tree : outline a.tree ≡ outline b.tree

abbrev AreSame : List SetTree → List SetTree → Type 0
AreSame [] [] = Unit {0}
AreSame [] (b ∷ bs) = ⊥
AreSame (a ∷ ps) [] = ⊥
AreSame (a ∷ ps) (b ∷ bs) = (outline a ≡ outline b) × AreSame ps bs

record IsSameRow (a b : Row) : Type 0 where
  trees : AreSame a.trees b.trees
  deep : a.depth ≡ b.depth

abbrev AreSameRows : List Row → List Row → Type 0
AreSameRows [] [] = Unit {0}
AreSameRows [] (b ∷ bs) = ⊥
AreSameRows (a ∷ ps) [] = ⊥
AreSameRows (a ∷ ps) (b ∷ bs) = IsSameRow a b × AreSameRows ps bs

trees_same : (xs ys : List SetTree) → AreSame xs ys → outlines (trees xs) ≡ outlines (trees ys)
trees_same [] [] same = refl
trees_same [] (y ∷ ys) same = absurd same
trees_same (x ∷ xs) [] same = absurd same
trees_same (x ∷ xs) (y ∷ ys) same = ap₂ more same.0 (trees_same xs ys same.1)

module _ (make : SetTrees → SetTree) (made : (ts us : SetTrees) → outlines ts ≡ outlines us → outline (make ts) ≡ outline (make us)) where
  united_same : (xs ys : List SetTree) (d e : ℕ) → AreSame xs ys → d ≡ e → IsSamePart (united make xs d) (united make ys e)
  united_same [] [] d e same deep = record { deep = refl; tree = refl }
  united_same [] (y ∷ ys) d e same deep = absurd same
  united_same (x ∷ xs) [] d e same deep = absurd same
  united_same (x ∷ []) (y ∷ []) d e same deep = record { deep = deep; tree = same.0 }
  united_same (x ∷ []) (y ∷ z ∷ ys) d e same deep = absurd same.1
  united_same (x ∷ w ∷ xs) (y ∷ []) d e same deep = absurd same.1
  united_same (x ∷ w ∷ xs) (y ∷ z ∷ ys) d e same deep =
      record { deep = ap (λ n. n + 1) deep; tree = made (trees (x ∷ w ∷ xs)) (trees (y ∷ z ∷ ys)) (trees_same (x ∷ w ∷ xs) (y ∷ z ∷ ys) same) }

front_same : (a b : Part) (r s : Row) → IsSamePart a b → IsSameRow r s → IsSameRow (in_front a r) (in_front b s)
front_same a b r s part same = record { trees = (part.tree, same.trees); deep = ap₂ max part.deep same.deep }

sequences_same : (ps bs : List Row) → AreSameRows ps bs → IsSameRow (row_of (map sequence ps)) (row_of (map sequence bs))
sequences_same [] [] same = record { trees = tt; deep = refl }
sequences_same [] (b ∷ bs) same = absurd same
sequences_same (a ∷ ps) [] same = absurd same
sequences_same (a ∷ ps) (b ∷ bs) same =
    front_same (sequence a) (sequence b) _ _ (united_same concat (λ ts us e. ap concat e) a.trees b.trees a.depth b.depth same.0.trees same.0.deep) (sequences_same ps bs same.1)

joined_same : (ps bs : List Row) → AreSameRows ps bs → IsSamePart (joined ps) (joined bs)
joined_same ps bs same =
    let first = row_of (map sequence ps) in
    let second = row_of (map sequence bs) in
    let rows = sequences_same ps bs same in
    united_same alternation (λ ts us e. ap alternation e) first.trees second.trees first.depth second.depth rows.trees rows.deep

put_same : (a b : Part) (ps bs : List Row) → IsSamePart a b → AreSameRows ps bs → AreSameRows (put a ps) (put b bs)
put_same a b [] [] part same = tt
put_same a b [] (s ∷ ss) part same = absurd same
put_same a b (r ∷ rs) [] part same = absurd same
put_same a b (r ∷ rs) (s ∷ ss) part same = (front_same a b r s part same.0, same.1)

count_same : (n : Count) (greedy : Bool) (a b : SetTree) → outline a ≡ outline b → outline (count_tree n greedy a) ≡ outline (count_tree n greedy b)
count_same optional greedy a b e = ap (repetition 0 (Some 1) greedy) e
count_same star greedy a b e = ap (repetition 0 None greedy) e
count_same plus greedy a b e = ap (repetition 1 None greedy) e
count_same (exactly n) greedy a b e = ap (repetition (value n) (Some (value n)) greedy) e
count_same (at_least n) greedy a b e = ap (repetition (value n) None greedy) e
count_same (between n m) greedy a b e = ap (repetition (value n) (Some (value m)) greedy) e

repeat_same : (v : Bool) (k : Flags) (rs : List Repeated) (a b : Part) → IsSamePart a b → IsSamePart (repeat k rs a) (repeat (folding v k) rs b)
repeat_same v k [] a b same = same
repeat_same v k (r ∷ rs) a b same =
    let greedy = not (xor r.swaps k.swaps) in
    repeat_same v k rs (at_depth (a.depth + 1) (count_tree r.count greedy a.tree)) (at_depth (b.depth + 1) (count_tree r.count greedy b.tree))
    (record { deep = ap (λ n. n + 1) same.deep; tree = count_same r.count greedy a.tree b.tree same.tree })

either_outline : (b : Bool) (x y : SetTree) → outline x ≡ literal [] → outline y ≡ literal [] → outline (if b then x else y) ≡ literal []
either_outline true x y p q = p
either_outline false x y p q = q

class_outline : (k : Flags) (s : Set) → outline (class_tree k s) ≡ literal []
class_outline k s = either_outline k.unicode _ _ refl refl

one_outline : (k : Flags) (a : Atom) (c : Option ℕ) → outline (one_tree k a c) ≡ literal []
one_outline k a None = class_outline k (atom_set k a)
one_outline k a (Some c) =
    either_outline (k.folds && folds_with_another k c) (class_tree k (closed k (λ d. d == c))) (literal (literal_bytes k a c)) (class_outline k (closed k (λ d. d == c))) refl

single_same : (v : Bool) (k : Flags) (s : Single) → IsSamePart (single_part k s) (single_part (folding v k) s)
single_same v k (atom a) = record { deep = refl; tree = one_outline k a (single_of a) ∙ sym (one_outline (folding v k) a (single_of a)) }
single_same v k dot = record { deep = refl; tree = class_outline k _ ∙ sym (class_outline (folding v k) _) }
single_same v k caret = record { deep = refl; tree = refl }
single_same v k dollar = record { deep = refl; tree = refl }
single_same v k (look e) = record { deep = refl; tree = refl }
single_same v k (class h p) = record { deep = refl; tree = class_outline k _ ∙ sym (class_outline (folding v k) _) }

group_same : (m : Kind) (n : ℕ) (a b : Part) → IsSamePart a b → IsSamePart (at_depth (a.depth + 1) (grouped m n a.tree)) (at_depth (b.depth + 1) (grouped m n b.tree))
group_same numbered n a b same = record { deep = ap (λ n. n + 1) same.deep; tree = ap (capture (n + 1) None) same.tree }
group_same (named bs p name) n a b same = record { deep = ap (λ n. n + 1) same.deep; tree = ap (capture (n + 1) (Some name)) same.tree }
group_same (flagged bs l) n a b same = record { deep = ap (λ n. n + 1) same.deep; tree = same.tree }

branches_same : (v : Bool) (k : Flags) (n : ℕ) (p : Syntax) → AreSameRows (branches k n p) (branches (folding v k) n p)
branches_same v k n end = (record { trees = tt; deep = refl }, tt)
branches_same v k n (bar p) = (record { trees = tt; deep = refl }, branches_same v k n p)
branches_same v k n (pass b p) = branches_same v k n p
branches_same v k n (set bs f p) =
    let kept = apply_kept f v k in
    let nothing = at_depth 0 empty in
    put_same nothing nothing (branches (apply f k) n p) (branches (apply f (folding v k)) n p) (record { deep = refl; tree = refl })
    (subst (λ (l : Flags). AreSameRows (branches (apply f k) n p) (branches l n p)) (sym kept.1) (branches_same kept.0 (apply f k) n p))
branches_same v k n (single s rs p) =
    put_same (repeat k rs (single_part k s)) (repeat (folding v k) rs (single_part (folding v k) s)) (branches k n p) (branches (folding v k) n p)
    (repeat_same v k rs (single_part k s) (single_part (folding v k) s) (single_same v k s)) (branches_same v k n p)
branches_same v k n (group m q rs p) =
    let kept = inside_kept m v k in
    let inner = branches (inside_flags m k) (n + own m) q in
    let other = branches (inside_flags m (folding v k)) (n + own m) q in
    let after = n + own m + captures q in
    let same : AreSameRows inner other =
    subst (λ (l : Flags). AreSameRows inner (branches l (n + own m) q)) (sym kept.1) (branches_same kept.0 (inside_flags m k) (n + own m) q) in
    let a = at_depth ((joined inner).depth + 1) (grouped m n (joined inner).tree) in
    let b = at_depth ((joined other).depth + 1) (grouped m n (joined other).tree) in
    put_same (repeat k rs a) (repeat (folding v k) rs b) (branches k after p) (branches (folding v k) after p)
    (repeat_same v k rs a b (group_same m n (joined inner) (joined other) (joined_same inner other same))) (branches_same v k after p)

-- ---- the law

pub refolded : FoldingChangesClassesAlone
refolded k folded text found read =
    let p = read.syntax in
    let other = found_of (folding folded k) p in
    let same = joined_same (branches k 0 p) (branches (folding folded k) 0 p) (branches_same folded k 0 p) in
    let alike : IsAlike (found_of k p) other = record { depth = same.deep; groups = refl; names = refl; literals = refl; tree = same.tree } in (
      other,
      (
        record { syntax = p; fine = fine folded k p [] read.fine; written = read.written; read = refl },
        subst (λ (found : Found). IsAlike found other) (sym read.read) alike,
      ),
    )
