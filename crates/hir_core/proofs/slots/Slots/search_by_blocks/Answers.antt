use Rattle.std.proofs.Common.{◌≡◌, true, false, length, map, sym, ap, ◌∙◌}
use Rattle.std.specs.Option.{is_some}
use Rattle.std.proofs.lemmas.List.{length-map, length-replicate}
use Rattle.hir_core.specs.Found.{span_of}
use Rattle.hir_core.specs.Pass.{best_in}
use Rattle.hir_core.proofs.searcher.SearcherLemmas.{best-none, best-some, best-whole}
use Rattle.hir_core.proofs.searcher.SoundRunsLemmas.{whole-in_order}
use Rattle.hir_core.proofs.slots.Slots.search_by_blocks.Goals as goal

pub returns-then-not-found-clause-found : goal.returns-then-not-found-clause-found
returns-then-not-found-clause-found g c =
    let none : is_some (best_in c.search.new.self.best) ≡ false = sym c.in-Ok.ensures.found ∙ c.if-not-found.true in
    let count : length c.unset-then-not-found.new.spans.items ≡ length c.self.inside.spans.items = ap length c.unset-then-not-found.ensures ∙ length-replicate _ _ in (
      best-none c.args.text.now c.args.spots.now c.args.groups c.args.at c.requires.within c.search.new.self.best c.in-Ok.ensures.first none,
      rw count c.unset-then-not-found.ensures,
    )

pub set-requires-clause-same : goal.set-requires-clause-same
set-requires-clause-same g c =
    let some : is_some (best_in c.search.new.self.best) ≡ true = sym c.in-Ok.ensures.found ∙ c.if-not-found.false in
    let whole = best-whole c.args.text.now c.args.spots.now c.args.groups c.args.at c.requires.within c.search.new.self.best c.in-Ok.ensures.first some in
    ap length c.groups.ensures ∙ whole.counted ∙ sym (ap length c.self.view_is ∙ c.requires.slots)

pub set-requires-clause-in_order : goal.set-requires-clause-in_order
set-requires-clause-in_order g c i h =
    let some : is_some (best_in c.search.new.self.best) ≡ true = sym c.in-Ok.ensures.found ∙ c.if-not-found.false in
    let whole = best-whole c.args.text.now c.args.spots.now c.args.groups c.args.at c.requires.within c.search.new.self.best c.in-Ok.ensures.first some in
    rw c.groups.ensures (whole-in_order _ _ whole i)

pub returns-clause-found : goal.returns-clause-found
returns-clause-found g c =
    let some : is_some (best_in c.search.new.self.best) ≡ true = sym c.in-Ok.ensures.found ∙ c.if-not-found.false in (
      c.search.new.self.best.groups.items,
      best-some c.args.text.now c.args.spots.now c.args.groups c.args.at c.requires.within c.search.new.self.best c.in-Ok.ensures.first some,
      c.set.ensures ∙ ap (map span_of) c.groups.ensures,
    )

pub returns-clause-kept : goal.returns-clause-kept
returns-clause-kept g c =
    let some : is_some (best_in c.search.new.self.best) ≡ true = sym c.in-Ok.ensures.found ∙ c.if-not-found.false in
    let whole = best-whole c.args.text.now c.args.spots.now c.args.groups c.args.at c.requires.within c.search.new.self.best c.in-Ok.ensures.first some in
    ap length c.set.ensures ∙ length-map c.groups.result.now span_of ∙ ap length c.groups.ensures ∙ whole.counted ∙ sym c.requires.slots
