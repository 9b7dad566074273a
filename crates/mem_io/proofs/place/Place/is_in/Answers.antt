use Rattle.std.proofs.Common.{sym, ◌∙◌, ap}
use Rattle.std.specs.Str.{bytes_eq}
use Rattle.std.specs.Cmp.Lexicographic.{pointwise}
use Rattle.std.proofs.lemmas.List.{nil_from_length}
use Rattle.sd_io.specs.Outcomes.{is_in}
use Rattle.mem_io.proofs.place.ParentLemmas.{is_in_last}
use Rattle.mem_io.proofs.place.Place.is_in.Goals as goal

pub returns-in-None : goal.returns-in-None
returns-in-None c = sym (ap (is_in c.args.folder.now) (sym c.self.view_is ∙ sym c.deref.ensures.value ∙ nil_from_length c.deref.result.now c.in-None.ensures.cases))

pub returns-in-Some : goal.returns-in-Some
returns-in-Some c =
    let is = sym c.self.view_is ∙ sym c.deref.ensures.value ∙ c.in-Some.ensures.cases.0 in
    c.eq.ensures ∙ ap (pointwise bytes_eq c.in-Some.front.now) (c.as_slice.ensures.value ∙ c.folder.view_is) ∙ sym (is_in_last _ _ _ _ is)
