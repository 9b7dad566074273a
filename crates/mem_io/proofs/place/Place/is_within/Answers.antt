use Rattle.std.proofs.Common.{◌∙◌, take, length}
use Rattle.std.specs.Str.{bytes_eq}
use Rattle.std.specs.Cmp.Lexicographic.{pointwise}
use Rattle.mem_io.proofs.place.PlaceLemmas.{starts_as}
use Rattle.mem_io.proofs.place.Place.is_within.Goals as goal

pub returns : goal.returns
returns c =
    let place = c.as_slice-2.ensures.value ∙ c.place.view_is in
    let at = c.as_slice.ensures.value ∙ c.self.view_is in
    c.starts_with.ensures.value ∙ (λ i. pointwise bytes_eq (place i) (take (length (place i)) (at i))) ∙ starts_as c.args.place.now c.args.self.now
