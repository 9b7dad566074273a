-- Images that differ from what stands at one place.
use Rattle.std.proofs.Common.{◌≡◌, ◌≢◌, true, false, cond, refl, sym, ◌∙◌, ap, subst, inl, inr}
use Rattle.std.specs.Prelude.{Option, Some, None}
use Rattle.std.specs.declared.cmp.Ordering.{Ordering}
use Rattle.std.specs.declared.cmp.Ordering.TheVariants.{Less, Equal, Greater}
use Rattle.std.specs.Ordering.{is_eq, eq_by_cmp}
use Rattle.std.specs.Cmp.{IsTotalOrder}
use Rattle.std.proofs.lemmas.Cmp.{lists_total, nat_list_cmp_total, tied_itself}
use Rattle.std.specs.FinMap.{get, insert, remove, get-insert, get-remove, IsAntisymmetric, slice_cmp-IsAntisymmetric, nat_cmp-IsAntisymmetric}
use Rattle.sd_io.specs.Tree.{NameList, Content, Tree, name_list_cmp, node_at}
use Rattle.sd_io.specs.Outcomes.{Leaves, content_of, content_at}
use Rattle.sd_io.specs.Disk.{DiskState, HoldsPresent, outcomes_now}
use Rattle.sd_io.proofs.WayLemmas.{same_or_other}
use Rattle.change_phases.proofs.PhaseLemmas.{present}

pub places_total : IsTotalOrder name_list_cmp
places_total = lists_total nat_list_cmp_total

places_exact : IsAntisymmetric name_list_cmp
places_exact = slice_cmp-IsAntisymmetric (slice_cmp-IsAntisymmetric nat_cmp-IsAntisymmetric)

tied : (q : NameList) → eq_by_cmp name_list_cmp q q ≡ true
tied q = ap is_eq (tied_itself places_total q)

pub apart : (p q : NameList) → p ≢ q → eq_by_cmp name_list_cmp p q ≡ false
apart p q n = by (name_list_cmp p q) refl
  where
    by : (r : Ordering) → name_list_cmp p q ≡ r → is_eq r ≡ false
    by Less e = refl
    by Equal e = absurd (n (places_exact p q e))
    by Greater e = refl

-- ---- the tree with another content at one place

abbrev pub with_content : Tree → NameList → Option Content → Tree
with_content tree q None = record { nodes = remove tree.nodes q; order = tree.order }
with_content tree q (Some content) = record { nodes = insert tree.nodes q (record { content = content; dev = 0; ino = 0 }); order = tree.order }

pub with_there : (tree : Tree) (q : NameList) (found : Option Content) → content_at (with_content tree q found) q ≡ found
with_there tree q None = ap content_of (get-remove places_total tree.nodes q q ∙ ap (λ b. cond b None (get tree.nodes q)) (tied q))
with_there tree q (Some content) =
    ap content_of (get-insert places_total tree.nodes q (record { content = content; dev = 0; ino = 0 }) q
    ∙ ap (λ b. cond b (Some (record { content = content; dev = 0; ino = 0 })) (get tree.nodes q)) (tied q))

pub with_elsewhere : (tree : Tree) (q : NameList) (found : Option Content) (p : NameList) → p ≢ q → content_at (with_content tree q found) p ≡ content_at tree p
with_elsewhere tree q None p n = ap content_of (get-remove places_total tree.nodes q p ∙ ap (λ b. cond b None (get tree.nodes p)) (apart p q n))
with_elsewhere tree q (Some content) p n =
    ap content_of (get-insert places_total tree.nodes q (record { content = content; dev = 0; ino = 0 }) p
    ∙ ap (λ b. cond b (Some (record { content = content; dev = 0; ino = 0 })) (get tree.nodes p)) (apart p q n))

-- what stands everywhere but at one place, and there one of its outcomes, is an image
pub with_may_leave : (s : DiskState) → HoldsPresent s → (q : NameList) (found : Option Content) → Leaves (outcomes_now s q) found
    → (p : NameList) → Leaves (outcomes_now s p) (content_at (with_content s.tree q found) p)
with_may_leave s holds q found l p = elim (same_or_other p q) [
  | inl e ↦
      let there : content_at (with_content s.tree q found) p ≡ found = ap (content_at (with_content s.tree q found)) e ∙ with_there s.tree q found in
      subst (λ f. Leaves (outcomes_now s p) f) (sym there) (subst (λ (x : NameList). Leaves (outcomes_now s x) found) (sym e) l)
  | inr n ↦ subst (λ f. Leaves (outcomes_now s p) f) (sym (with_elsewhere s.tree q found p n)) (present s holds p (node_at s.tree p) refl)
]
