-- The image of a choice is one that a crash may leave.
use Rattle.std.proofs.Common.{◌≡◌, ◌<◌, ◌%◌, ℕ, zero, suc, List, [], ◌∷◌, length, refl, sym, subst, Bool, true, false, inl, inr, arith}
use Rattle.std.specs.Prelude.{Option, Some, None, not, ◌||◌, slice_index_or}
use Rattle.std.specs.Int.{w64, rotate_right}
use Rattle.std.proofs.Math.Nat.{mod-lt}
use Rattle.sd_io.specs.Tree.{NameList, Content, Tree}
use Rattle.sd_io.specs.Outcomes.{Left, gone, this, any_file, Outcome, older, Outcomes, Fits, Leaves, own_of, content_at}
use Rattle.sd_io.proofs.OutcomeLemmas.{leaves_own}
use Rattle.mem_io.specs.Log.{is_left, IsKept, IsCrash, crash_content, is_gone, has_other}
use Rattle.mem_io.specs.LogHolds.{any_leaves}

choice_fits : (left : Left) → Fits left (crash_content left)
choice_fits gone = refl
choice_fits (this node) = refl
choice_fits any_file = (0 ∷ [], 0, refl)

-- each outcome by its number
number_leaves : (os : List Outcome) (k : ℕ) (d : Outcome) → k < length os → Leaves os (crash_content (slice_index_or os k d).left)
number_leaves [] k d low = absurd (omega arith)
number_leaves (o ∷ os) zero d low = inl (choice_fits o.left)
number_leaves (o ∷ os) (suc k) d low = inr (number_leaves os k d (omega arith))

some_other : (os : List Outcome) → has_other os ≡ true → 0 < length os
some_other [] e = cc
some_other (o ∷ os) e = omega arith

-- where there is no other outcome, absent is one
absent_leaves : (os : List Outcome) (found : Option Content) → Leaves os found → has_other os ≡ false → Leaves os None
absent_leaves [] found none e = absurd none
absent_leaves (o ∷ os) found l e = inl (by o.left e)
  where
    by : (left : Left) → (not (is_gone left) || has_other os) ≡ false → Fits left None
    by gone e = refl
    by (this node) e = cc
    by any_file e = cc

pub choice_may_leave : (tree : Tree) (outcomes : Outcomes) (choice : ℕ) (image : Tree) → IsKept tree outcomes → IsCrash outcomes choice image → (q : NameList) → Leaves (outcomes q) (content_at image q)
choice_may_leave tree outcomes choice image kept crash q = by (has_other (outcomes q)) refl
  where
    some_left : (found : Option Content) → is_left found (outcomes q) ≡ true → Leaves (outcomes q) found
    some_left None e = any_leaves None (outcomes q) e
    some_left (Some c) e = leaves_own (outcomes q) (Some c) (any_leaves (Some c) (own_of (outcomes q)) e)

    by : (b : Bool) → has_other (outcomes q) ≡ b → Leaves (outcomes q) (content_at image q)
    by true e =
        let at = (crash.are_all q).0 e in
        subst (Leaves (outcomes q)) (sym (crash.taken at.0 q at.1 at.2))
        (number_leaves (outcomes q) (rotate_right w64 choice (at.0 % 64) % length (outcomes q)) (older gone) (mod-lt (rotate_right w64 choice (at.0 % 64)) (some_other (outcomes q) e)))
    by false e = subst (Leaves (outcomes q)) (sym (crash.others q e)) (absent_leaves (outcomes q) _ (some_left (content_at tree q) (kept.present q)) e)
