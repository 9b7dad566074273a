use Rattle.std.proofs.Common.{◌≡◌, ℕ, ◌-◌, None, length, map, replicate, sym, ap, ◌∙◌}
use Rattle.hir_core.specs.Found.{span_of}
use Rattle.std.proofs.lemmas.List.{length-replicate}
use Rattle.hir_core.specs.Pass.{groups_found}
use Rattle.hir_core.specs.StackSearch.{first_at, run_of}
use Rattle.hir_core.proofs.stack_search.StackLemmas.{first-found, least-none, least-some}
use Rattle.hir_core.proofs.stack_search.search_at.Goals as goal

pub returns-in_default-clause-found : goal.returns-in_default-clause-found
returns-in_default-clause-found c =
    let text = c.args.text.now in
    let spots = c.args.spots.now in
    let count : length c.unset_all.new.self ≡ length c.args.slots.now = ap length c.unset_all.ensures ∙ length-replicate _ _ in
    let groups : c.len.result - 1 ≡ length c.args.slots.now - 1 = ap (λ (n : ℕ). n - 1) (c.len.ensures ∙ count) in
    let least = rw c.in_default.is at c.in_ok-found.ensures.least in (
      least-none (λ r. r.groups) (first_at text spots (c.len.result - 1)) (groups_found text spots (length c.args.slots.now - 1)) c.args.at (length text)
          (λ p h. first-found text spots (c.len.result - 1) p ∙ ap (λ n. groups_found text spots n p) groups) least,
      c.unset_all.ensures ∙ ap (λ (n : ℕ). replicate n None) (sym count),
    )

pub returns-clause-found : goal.returns-clause-found
returns-clause-found c =
    let text = c.args.text.now in
    let spots = c.args.spots.now in
    let count : length c.unset_all.new.self ≡ length c.args.slots.now = ap length c.unset_all.ensures ∙ length-replicate _ _ in
    let groups : c.len.result - 1 ≡ length c.args.slots.now - 1 = ap (λ (n : ℕ). n - 1) (c.len.ensures ∙ count) in
    let least = rw c.in-Some.is at c.in_ok-found.ensures.least in (
      c.in-Some.found.groups.items,
      least-some (λ r. r.groups) (first_at text spots (c.len.result - 1)) (groups_found text spots (length c.args.slots.now - 1)) c.args.at (length text)
          (λ p h. first-found text spots (c.len.result - 1) p ∙ ap (λ n. groups_found text spots n p) groups)
          (run_of c.in-Some.found) least,
      c.set_all.ensures ∙ ap (map span_of) c.as_slice.ensures.value,
    )
