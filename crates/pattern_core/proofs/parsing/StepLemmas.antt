-- One step of a reading, both ways.
use Rattle.std.proofs.Common.{◌≡◌, ℕ, ◌+◌, max, false, List, [], ◌∷◌, ◌++◌, codes, map, append_assoc, refl, sym, ap, ◌∙◌, subst, zero-add, arith, unwrap_or}
use Rattle.pattern_syntax.specs.declared.flags.Flags.{Flags}
use Rattle.pattern_syntax.specs.Flags.{FlagList, apply, Blank, write_blanks, FineBlanks, write_flags, FineFlags, is_nil}
use Rattle.pattern_syntax.specs.Syntax.{Syntax, end, bar, pass, set, single, group, Single, Repeated, Kind, inside_flags, write, write_single, write_repeats, write_kind, Fine, FineSingle, FineRepeats, FineKind}
use Rattle.pattern_syntax.specs.SetTree.{SetTree, empty}
use Rattle.pattern_syntax.specs.Reads.{Part, Row, Found, Reads, found_of, at_depth, no_parts, in_front, row_of, put, joined, single_part, single_literals, literals_of, names_of, repeat, own, own_name, captures, branches, sequence, choice}
use Rattle.pattern_core.specs.Progress.{Gathered, nothing, with_group, with_literals, with_syntax, Level, Frame, push, close_branch, finished, fresh, put_all, behind, both, whole, in_group, After, last, Rest, RestItem, leave}

append-nil : {A : Type 0} (xs : List A) → xs ++ [] ≡ xs
append-nil [] = refl
append-nil (x ∷ xs) = ap (λ ys. x ∷ ys) (append-nil xs)

abbrev record_row : List SetTree → ℕ → Row
record_row t d = record { trees = t; depth = d }

same_row : (t u : List SetTree) (d e : ℕ) → t ≡ u → d ≡ e → record_row t d ≡ record_row u e
same_row t u d e f g = ap (λ t. record_row t d) f ∙ ap (λ d. record_row u d) g

both_none : (r : Row) → both r no_parts ≡ r
both_none r = same_row (r.trees ++ []) r.trees (max r.depth 0) r.depth (append-nil r.trees) (omega arith)

none_both : (r : Row) → both no_parts r ≡ r
none_both r = same_row r.trees r.trees (max 0 r.depth) r.depth refl (omega arith)

both_front : (r : Row) (a : Part) (b : Row) → both r (in_front a b) ≡ both (behind r a) b
both_front r a b =
    same_row (r.trees ++ a.tree ∷ b.trees) ((r.trees ++ a.tree ∷ []) ++ b.trees) _ _ (sym (append_assoc r.trees (a.tree ∷ []) b.trees)) (omega arith)

put_none : (bs : List Row) → put_all no_parts bs ≡ bs
put_none [] = refl
put_none (b ∷ bs) = ap (λ r. r ∷ bs) (none_both b)

put_more : (items : Row) (a : Part) (bs : List Row) → put_all items (put a bs) ≡ put_all (behind items a) bs
put_more items a [] = refl
put_more items a (b ∷ bs) = ap (λ r. r ∷ bs) (both_front items a b)

whole_bar : (l : Level) (bs : List Row) → whole l (no_parts ∷ bs) ≡ whole (close_branch l) bs
whole_bar l bs =
    ap (λ r. choice (both l.closed (in_front (sequence r) (row_of (map sequence bs))))) (both_none l.items)
    ∙ ap choice (both_front l.closed (sequence l.items) (row_of (map sequence bs)))
    ∙ ap (λ ys. choice (both (behind l.closed (sequence l.items)) (row_of (map sequence ys)))) (sym (put_none bs))

whole_put : (l : Level) (a : Part) (bs : List Row) → whole l (put a bs) ≡ whole (push a l) bs
whole_put l a bs = ap (λ ys. choice (both l.closed (row_of (map sequence ys)))) (put_more l.items a bs)

pub whole_fresh : (bs : List Row) → whole fresh bs ≡ joined bs
whole_fresh bs = ap (λ ys. choice (both no_parts (row_of (map sequence ys)))) (put_none bs) ∙ ap choice (none_both (row_of (map sequence bs)))

-- the open branch ends here
pub whole_end : (l : Level) → whole l (no_parts ∷ []) ≡ finished l
whole_end l = whole_bar l [] ∙ ap choice (both_none (behind l.closed (sequence l.items)))

-- ---- what is gathered

abbrev gathered_as : ℕ → List (List ℕ) → List ℕ → Gathered
gathered_as n names cs = record { groups = n; names = names; literals = cs }

same_gathered : (n m : ℕ) (a b : List (List ℕ)) (c d : List ℕ) → n ≡ m → a ≡ b → c ≡ d → gathered_as n a c ≡ gathered_as m b d
same_gathered n m a b c d e f g = ap (λ n. gathered_as n a c) e ∙ ap (λ a. gathered_as m a c) f ∙ ap (gathered_as m b) g

gathered_end : (n : Gathered) → with_syntax end n ≡ n
gathered_end n = same_gathered (n.groups + 0) n.groups (n.names ++ []) n.names (n.literals ++ []) n.literals (omega arith) (append-nil n.names) (append-nil n.literals)

gathered_item : (n : Gathered) (s : Single) (rs : List Repeated) (p : Syntax) → with_syntax (single s rs p) n ≡ with_syntax p (with_literals (single_literals s) n)
gathered_item n s rs p =
    same_gathered (n.groups + captures p) (n.groups + captures p) (n.names ++ names_of p) (n.names ++ names_of p) _ _ refl refl
    (sym (append_assoc n.literals (single_literals s) (literals_of p)))

gathered_group : (n : Gathered) (m : Kind) (q : Syntax) (rs : List Repeated) (p : Syntax)
    → with_syntax (group m q rs p) n ≡ with_syntax p (with_syntax q (with_group m n))
gathered_group n m q rs p =
    same_gathered (n.groups + (own m + captures q + captures p)) (n.groups + own m + captures q + captures p) _ _ _ _ (omega arith)
    (sym
    (ap (λ ns. ns ++ names_of p) (append_assoc n.names (own_name m) (names_of q)) ∙ append_assoc n.names (own_name m ++ names_of q) (names_of p)))
    (sym (append_assoc n.literals (literals_of q) (literals_of p)))

moved : (after : After) (a b : Part) (n m : Gathered) (u v : List ℕ) (found : Found) → a ≡ b → n ≡ m → u ≡ v → after a n u found → after b m v found
moved after a b n m u v found e f g s =
    subst (λ v. after b m v found) g (subst (λ m. after b m u found) f (subst (λ b. after b n u found) e s))

-- ---- the steps

abbrev pub frame : Kind → Flags → ℕ → Level → Frame
frame m k n l = record { kind = m; flags = k; before = n; level = l }

abbrev pub write_set : List Blank → FlagList → List ℕ → List ℕ
write_set bs l t = codes "(" ++ write_blanks bs (codes "?" ++ write_flags l (codes ")" ++ t))

-- how a rest begins
pub data Goes (after : After) (k : Flags) (n : Gathered) (l : Level) (w : List ℕ) (found : Found) : Type 0 where
  ends : after (whole l (no_parts ∷ [])) n w found → Goes after k n l w found
  bars : (t : List ℕ) → w ≡ 124 ∷ t → Rest after k n (close_branch l) t found → Goes after k n l w found
  passes : (b : Blank) (t : List ℕ) → FineBlanks k (b ∷ []) t → w ≡ write_blanks (b ∷ []) t → Rest after k n l t found → Goes after k n l w found
  sets : (bs : List Blank) (f : FlagList) (t : List ℕ) → FineBlanks k bs (codes "?") → FineFlags f → is_nil (f.on ++ unwrap_or f.off []) ≡ false → w ≡ write_set bs f t
      → Rest after (apply f k) n (push (at_depth 0 empty) l) t found → Goes after k n l w found
  items : (s : Single) (t : List ℕ) → FineSingle k s t → w ≡ write_single s t
      → RestItem after k (with_literals (single_literals s) n) l (single_part k s) t found → Goes after k n l w found
  opens : (m : Kind) (t : List ℕ) → FineKind k m → w ≡ write_kind m t
      → Rest (leave (frame m k n.groups l) after) (inside_flags m k) (with_group m n) fresh t found → Goes after k n l w found

goes_of : (after : After) (k : Flags) (n : Gathered) (l : Level) (w : List ℕ) (found : Found) (p : Syntax) (u : List ℕ) → Fine k p u → w ≡ write p u
    → after (whole l (branches k n.groups p)) (with_syntax p n) u found → Goes after k n l w found
goes_of after k n l w found end u f e s =
    ends (moved after (whole l (no_parts ∷ [])) (whole l (no_parts ∷ [])) (with_syntax end n) n u w found refl (gathered_end n) (sym e) s)
goes_of after k n l w found (bar p) u f e s =
    bars (write p u) e (p, u, f, refl, moved after _ _ (with_syntax p n) (with_syntax p n) u u found (whole_bar l (branches k n.groups p)) refl refl s)
goes_of after k n l w found (pass b p) u f e s = passes b (write p u) f.0 e (p, u, f.1, refl, s)
goes_of after k n l w found (set bs g p) u f e s =
    sets bs g (write p u) f.0 f.1 f.2 e
    (p, u, f.3, refl, moved after _ _ (with_syntax p n) (with_syntax p n) u u found (whole_put l (at_depth 0 empty) (branches (apply g k) n.groups p)) refl refl s)
goes_of after k n l w found (single a rs p) u f e s =
    items a (write_repeats rs (write p u)) f.0 e (
      rs,
      write p u,
      f.1,
      refl,
      (p, u, f.2, refl, moved after _ _ _ _ u u found (whole_put l (repeat k rs (single_part k a)) (branches k n.groups p)) (gathered_item n a rs p) refl s),
    )
goes_of after k n l w found (group m q rs p) u f e s =
    let inner = branches (inside_flags m k) (n.groups + own m) q in
    opens m (write q (41 ∷ write_repeats rs (write p u))) f.0 e (
      q,
      41 ∷ write_repeats rs (write p u),
      f.1,
      refl,
      (
        write_repeats rs (write p u),
        refl,
        (
          rs,
          write p u,
          f.2,
          refl,
          (
            p,
            u,
            f.3,
            refl,
            moved after _ _ _ _ u u found
                (whole_put l (repeat k rs (in_group m n.groups (joined inner))) (branches k (n.groups + own m + captures q) p)
                ∙ ap (λ a. whole (push (repeat k rs (in_group m n.groups a)) l) (branches k (n.groups + own m + captures q) p)) (sym (whole_fresh inner)))
                (gathered_group n m q rs p) refl s,
          ),
        ),
      ),
    )

pub goes : (after : After) (k : Flags) (n : Gathered) (l : Level) (w : List ℕ) (found : Found) → Rest after k n l w found → Goes after k n l w found
goes after k n l w found (p, u, f, e, s) = goes_of after k n l w found p u f e s

pub came_end : (after : After) (k : Flags) (n : Gathered) (l : Level) (w : List ℕ) (found : Found)
    → after (whole l (no_parts ∷ [])) n w found → Rest after k n l w found
came_end after k n l w found s = (end, w, tt, refl, moved after _ _ n (with_syntax end n) w w found refl (sym (gathered_end n)) refl s)

pub came_bar : (after : After) (k : Flags) (n : Gathered) (l : Level) (t : List ℕ) (found : Found)
    → Rest after k n (close_branch l) t found → Rest after k n l (124 ∷ t) found
came_bar after k n l t found (p, u, f, e, s) = (
  bar p,
  u,
  f,
  ap (λ t. 124 ∷ t) e,
  moved after _ _ (with_syntax p n) (with_syntax p n) u u found (sym (whole_bar l (branches k n.groups p))) refl refl s,
)

pub came_pass : (after : After) (k : Flags) (n : Gathered) (l : Level) (b : Blank) (t : List ℕ) (found : Found) → FineBlanks k (b ∷ []) t
    → Rest after k n l t found → Rest after k n l (write_blanks (b ∷ []) t) found
came_pass after k n l b t found fine (p, u, f, e, s) = (pass b p, u, (subst (FineBlanks k (b ∷ [])) e fine, f), ap (write_blanks (b ∷ [])) e, s)

pub came_set : (after : After) (k : Flags) (n : Gathered) (l : Level) (bs : List Blank) (g : FlagList) (t : List ℕ) (found : Found)
    → FineBlanks k bs (codes "?") → FineFlags g → is_nil (g.on ++ unwrap_or g.off []) ≡ false
    → Rest after (apply g k) n (push (at_depth 0 empty) l) t found → Rest after k n l (write_set bs g t) found
came_set after k n l bs g t found a b c (p, u, f, e, s) = (
  set bs g p,
  u,
  (a, b, c, f),
  ap (write_set bs g) e,
  moved after _ _ (with_syntax p n) (with_syntax p n) u u found (sym (whole_put l (at_depth 0 empty) (branches (apply g k) n.groups p))) refl refl s,
)

pub came_item : (after : After) (k : Flags) (n : Gathered) (l : Level) (s : Single) (t : List ℕ) (found : Found) → FineSingle k s t
    → RestItem after k (with_literals (single_literals s) n) l (single_part k s) t found → Rest after k n l (write_single s t) found
came_item after k n l a t found fine (rs, v, g, h, (p, u, f, e, s)) =
    let i = h ∙ ap (write_repeats rs) e in (
      single a rs p,
      u,
      (subst (FineSingle k a) i fine, subst (FineRepeats k rs) e g, f),
      ap (write_single a) i,
      moved after _ _ _ _ u u found (sym (whole_put l (repeat k rs (single_part k a)) (branches k n.groups p))) (sym (gathered_item n a rs p)) refl s,
    )

pub came_open : (after : After) (k : Flags) (n : Gathered) (l : Level) (m : Kind) (t : List ℕ) (found : Found) → FineKind k m
    → Rest (leave (frame m k n.groups l) after) (inside_flags m k) (with_group m n) fresh t found → Rest after k n l (write_kind m t) found
came_open after k n l m t found fine (q, u, f, e, (v, g, (rs, w, h, i, (p, x, j, y, s)))) =
    let inside : u ≡ 41 ∷ write_repeats rs (write p x) = g ∙ ap (λ t. 41 ∷ t) (i ∙ ap (write_repeats rs) y) in
    let inner = branches (inside_flags m k) (n.groups + own m) q in (
      group m q rs p,
      x,
      (fine, subst (Fine (inside_flags m k) q) inside f, subst (FineRepeats k rs) y h, j),
      ap (write_kind m) (e ∙ ap (write q) inside),
      moved after _ _ _ _ x x found
          (sym (whole_put l (repeat k rs (in_group m n.groups (joined inner))) (branches k (n.groups + own m + captures q) p)
          ∙ ap (λ a. whole (push (repeat k rs (in_group m n.groups a)) l) (branches k (n.groups + own m + captures q) p)) (sym (whole_fresh inner))))
          (sym (gathered_group n m q rs p)) refl s,
    )

-- ---- the first step and the last

abbrev found_as : Part → ℕ → Syntax → Found
found_as a n p = record { part = a; groups = n; names = names_of p; literals = literals_of p }

read_whole : (k : Flags) (p : Syntax) → found_of k p ≡ found_as (whole fresh (branches k 0 p)) (0 + captures p) p
read_whole k p =
    ap (λ a. found_as a (captures p) p) (sym (whole_fresh (branches k 0 p)))
    ∙ ap (λ n. found_as (whole fresh (branches k 0 p)) n p) (sym (zero-add (captures p)))

pub begun : (k : Flags) (text : List ℕ) (found : Found) → Reads k text found → Rest last k nothing fresh text found
begun k text found r = (r.syntax, [], r.fine, r.written, (refl, r.read ∙ read_whole k r.syntax))

pub read_back : (k : Flags) (text : List ℕ) (found : Found) → Rest last k nothing fresh text found → Reads k text found
read_back k text found (p, u, f, e, (g, h)) = record {
  syntax = p;
  fine = subst (Fine k p) g f;
  written = e ∙ ap (write p) g;
  read = h ∙ sym (read_whole k p);
}
