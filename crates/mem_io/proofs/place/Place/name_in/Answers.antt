use Rattle.std.proofs.Common.{sym, ◌∙◌, ap, cond, Some, None}
use Rattle.std.specs.Str.{bytes_eq}
use Rattle.std.specs.Cmp.Lexicographic.{pointwise}
use Rattle.std.proofs.lemmas.List.{nil_from_length}
use Rattle.sd_io.specs.Lists.{name_below}
use Rattle.mem_io.proofs.place.PlaceLemmas.{name_below_last, name_below_top}
use Rattle.mem_io.proofs.place.Place.name_in.Goals as goal

pub returns-in_err-name : goal.returns-in_err-name
returns-in_err-name c =
    let top = sym c.self.view_is ∙ sym c.deref.ensures.value ∙ nil_from_length c.deref.result.now c.in_err-name.ensures.cases in
    rw c.from_residual.ensures (sym (ap (name_below c.args.folder.now) top ∙ name_below_top c.args.folder.now))

pub returns-then-eq : goal.returns-then-eq
returns-then-eq c =
    let is = sym c.self.view_is ∙ sym c.deref.ensures.value ∙ c.in_ok-name.ensures.cases.0 in
    let tested = c.eq.ensures ∙ ap (pointwise bytes_eq c.in_ok-name.front.now) (c.as_slice.ensures.value ∙ c.folder.view_is) in
    ap (λ name. Some name) c.as_str.ensures.same ∙ sym (name_below_last _ _ _ _ _ is tested ∙ ap (λ b. cond b (Some c.in_ok-name.name.now) None) c.if-eq.true)

pub returns-else-eq : goal.returns-else-eq
returns-else-eq c =
    let is = sym c.self.view_is ∙ sym c.deref.ensures.value ∙ c.in_ok-name.ensures.cases.0 in
    let tested = c.eq.ensures ∙ ap (pointwise bytes_eq c.in_ok-name.front.now) (c.as_slice.ensures.value ∙ c.folder.view_is) in
    sym (name_below_last _ _ _ _ _ is tested ∙ ap (λ b. cond b (Some c.in_ok-name.name.now) None) c.if-eq.false)
