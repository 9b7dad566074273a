use Rattle.std.proofs.Common.{◌≡◌, ◌∷◌, [], ℕ, Option, cond, refl, ap, inl, inr, arith, length}
use Rattle.std.specs.Prelude.{nat_lt}
use Rattle.walk_rest.specs.declared.entry.DirEntry.{DirEntry}
use Rattle.walk_rest.specs.declared.level.Entries.TheVariants.{Kept, Unread}
use Rattle.walk_rest.specs.declared.level.Folder.{Folder}
use Rattle.walk_steps.specs.Listed.{below_one, folders_in, waits_first, waits_kept}
use Rattle.walk_steps.proofs.examples.levels_are_counted_as_in_the_examples.Goals as goal

below_at : (entry : DirEntry) (depth : ℕ) → entry.depth ≡ depth → below_one entry ≡ cond (nat_lt 0 depth) 1 0
below_at entry depth at = ap (λ (n : ℕ). cond (nat_lt 0 n) 1 0) at

pub returns : goal.returns
returns c = record {
  due = λ a b x y z first second. (let p = ap length first in let q = ap length second in omega (arith, p, q));
  entered = λ root a b in_a in_b none one two. (let p = ap folders_in none in let q = ap folders_in one in let r = ap folders_in two in omega (arith, p, q, r));
  to_list = λ tree folder a b depth names. inr (omega (arith, depth), (a ∷ b ∷ [], names, refl));
  at_max_depth = λ tree folder depth. inl (omega (arith, depth), refl);
  at_root = λ root at. below_at root 0 at;
  below_root = λ inner at. below_at inner 2 at;
  first_waits = λ level folder left in_it unread first at.
      (let a = ap waits_first first in
      let b = below_at left 1 at in
      let d = ap (waits_kept level.folder) unread in
      let e = ap (λ (f : Option Folder). waits_kept f Unread) in_it in
      omega (arith, a, b, d, e));
  kept_wait = λ level folder x y kept in_it entries items first.
      (let a = ap waits_first first in
      let d = ap (waits_kept level.folder) entries in
      let e = ap (λ (f : Option Folder). waits_kept f (Kept kept)) in_it in
      let n = ap length items in
      omega (arith, a, d, e, n));
  root_waits = λ level in_none first.
      (let a = ap waits_first first in
      let e = ap (λ (f : Option Folder). waits_kept f level.entries) in_none in
      omega (arith, a, e));
}
