use Rattle.std.proofs.Common.{◌∙◌, ◌++◌, ap, lit<}
use Rattle.std.specs.Prelude.{string_bytes}
use Rattle.mem_io.proofs.place.PlaceLemmas.{path_text_first, path_text_next}
use Rattle.mem_io.proofs.place.Place.path.Goals as goal
use Rattle.mem_io.proofs.place.Place.path.Goals.{then-i-gt0+in_ok-push-2, else-i-gt0}

pub loop-i-preserved : goal.loop-i-preserved
loop-i-preserved c = elim c.if-i-gt0.branch [
  | then-i-gt0+in_ok-push-2 w ↦
      path_text_next c.deref-name-items.result.now c.loop-i.i c.name-item.result _ _ _ _ c.loop-i.invariant
      (ap (λ path. string_bytes path) w.path-is ∙ w.in_ok-push-2.ensures.bytes ∙ ap (λ slash. string_bytes c.loop-i.path ++ slash) (w.in_ok-push-2.ensures.ascii (lit< tt))) c.in_ok-push_str.ensures.bytes c.as_str.ensures.same
      w.if-i-gt0.true c.loop-i-test.true c.name-item.is
  | else-i-gt0 w ↦
      path_text_first c.deref-name-items.result.now c.loop-i.i c.name-item.result _ _ _ c.loop-i.invariant
      (c.in_ok-push_str.ensures.bytes ∙ ap (λ path. string_bytes path ++ c.as_str.result.now) w.path-is) c.as_str.ensures.same
      w.if-i-gt0.false c.loop-i-test.true c.name-item.is
]
