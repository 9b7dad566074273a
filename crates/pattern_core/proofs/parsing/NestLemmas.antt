-- Parts that are equal, or both nest deeper than the limit, and what is made of them.
use Rattle.std.proofs.Common.{◌<◌, ◌+◌, ◌⊎◌, inl, inr, ℕ, List, [], ◌∷◌, ◌++◌, length, length-append, sym, ap, ◌∙◌, subst, arith}
use Rattle.pattern_syntax.specs.SetTree.{SetTree, SetTrees, concat, alternation}
use Rattle.pattern_syntax.specs.Reads.{Part, Row, at_depth, united, sequence, choice}
use Rattle.pattern_core.specs.Progress.{Level, behind, finished}
use Rattle.pattern_core.specs.Parsing.{IsSamePart, IsSameRow}

pub same_part_on : (limit : ℕ) (a b c : Part) → IsSamePart limit a b → IsSamePart limit b c → IsSamePart limit a c
same_part_on limit a b c (inl e) h = subst (λ a. IsSamePart limit a c) (sym e) h
same_part_on limit a b c (inr d) (inl e) = subst (IsSamePart limit a) e (inr d)
same_part_on limit a b c (inr d) (inr f) = inr (d.0, f.1)

-- one level deeper
pub deeper_same : (limit : ℕ) (f : SetTree → SetTree) (a b : Part) → IsSamePart limit a b
    → IsSamePart limit (at_depth (a.depth + 1) (f a.tree)) (at_depth (b.depth + 1) (f b.tree))
deeper_same limit f a b (inl e) = inl (ap (λ (a : Part). at_depth (a.depth + 1) (f a.tree)) e)
deeper_same limit f a b (inr d) = inr (omega (arith, d.0), omega (arith, d.1))

filled : {A : Type 0} (xs : List A) (x : A) → 0 < length (xs ++ x ∷ [])
filled xs x = omega (arith, length-append xs (x ∷ []))

behind_deep : (limit : ℕ) (r s : Row) (a b : Part) → (limit < r.depth) ⊎ (limit < a.depth) → (limit < s.depth) ⊎ (limit < b.depth)
    → IsSameRow limit (behind r a) (behind s b)
behind_deep limit r s a b (inl d) (inl e) = inr (omega arith, omega arith, filled r.trees a.tree, filled s.trees b.tree)
behind_deep limit r s a b (inl d) (inr e) = inr (omega arith, omega arith, filled r.trees a.tree, filled s.trees b.tree)
behind_deep limit r s a b (inr d) (inl e) = inr (omega arith, omega arith, filled r.trees a.tree, filled s.trees b.tree)
behind_deep limit r s a b (inr d) (inr e) = inr (omega arith, omega arith, filled r.trees a.tree, filled s.trees b.tree)

-- one part more
pub behind_same : (limit : ℕ) (r s : Row) (a b : Part) → IsSameRow limit r s → IsSamePart limit a b → IsSameRow limit (behind r a) (behind s b)
behind_same limit r s a b (inl e) (inl f) = inl (ap (λ r. behind r a) e ∙ ap (behind s) f)
behind_same limit r s a b (inl e) (inr f) = behind_deep limit r s a b (inr f.0) (inr f.1)
behind_same limit r s a b (inr e) f = behind_deep limit r s a b (inl e.0) (inl e.1)

united_deep : (limit : ℕ) (make : SetTrees → SetTree) (trees : List SetTree) (depth : ℕ) → 0 < length trees → limit < depth
    → limit < (united make trees depth).depth
united_deep limit make [] depth h d = absurd (omega arith)
united_deep limit make (a ∷ []) depth h d = d
united_deep limit make (a ∷ b ∷ rest) depth h d = omega arith

united_same : (limit : ℕ) (make : SetTrees → SetTree) (r s : Row) → IsSameRow limit r s
    → IsSamePart limit (united make r.trees r.depth) (united make s.trees s.depth)
united_same limit make r s (inl e) = inl (ap (λ (r : Row). united make r.trees r.depth) e)
united_same limit make r s (inr d) = inr (united_deep limit make r.trees r.depth d.2 d.0, united_deep limit make s.trees s.depth d.3 d.1)

pub sequence_same : (limit : ℕ) (r s : Row) → IsSameRow limit r s → IsSamePart limit (sequence r) (sequence s)
sequence_same limit r s h = united_same limit concat r s h

pub choice_same : (limit : ℕ) (r s : Row) → IsSameRow limit r s → IsSamePart limit (choice r) (choice s)
choice_same limit r s h = united_same limit alternation r s h

-- the closed branches with the open one
pub closed_same : (limit : ℕ) (closed items : Row) (piece : Part) (level : Level) → IsSameRow limit closed level.closed → IsSameRow limit items level.items
    → IsSamePart limit piece (sequence items) → IsSameRow limit (behind closed piece) (behind level.closed (sequence level.items))
closed_same limit closed items piece level c i p =
    behind_same limit closed level.closed piece (sequence level.items) c
    (same_part_on limit piece (sequence items) (sequence level.items) p (sequence_same limit items level.items i))

pub finished_same : (limit : ℕ) (closed items : Row) (piece whole : Part) (level : Level) → IsSameRow limit closed level.closed
    → IsSameRow limit items level.items → IsSamePart limit piece (sequence items) → IsSamePart limit whole (choice (behind closed piece))
    → IsSamePart limit whole (finished level)
finished_same limit closed items piece whole level c i p w =
    same_part_on limit whole (choice (behind closed piece)) (finished level) w
    (choice_same limit (behind closed piece) (behind level.closed (sequence level.items)) (closed_same limit closed items piece level c i p))
