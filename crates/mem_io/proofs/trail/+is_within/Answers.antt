use Rattle.std.proofs.Common.{refl, sym, ap, ◌∙◌}
use Rattle.std.proofs.lemmas.Bool.{false≢true}
use Rattle.std.proofs.lemmas.List.{nil_from_length}
use Rattle.mem_io.specs.MemTrail.{names_of, begins_with}
use Rattle.mem_io.proofs.trail.DeviceLemmas.{begins_same, begins_top, begins_front}
use Rattle.mem_io.proofs.trail.+is_within.Goals as goal

pub returns-then-is_at : goal.returns-then-is_at
returns-then-is_at t c = sym (begins_same (names_of c.args.trail.now) c.args.names.now (c.if-is_at.ensures.0 refl))

pub returns-in-None : goal.returns-in-None
returns-in-None t c =
    let none = nil_from_length c.args.names.now c.in-None.ensures.cases in
    sym (ap (begins_with (names_of c.args.trail.now)) none ∙ begins_top (names_of c.args.trail.now) (λ e. false≢true (c.if-is_at.ensures.1 (none ∙ sym e))))

pub returns-in-Some : goal.returns-in-Some
returns-in-Some t c =
    let cut = c.in-Some.ensures.cases.0 in
    c.is_within.ensures
    ∙ sym (ap (begins_with (names_of c.args.trail.now)) cut ∙ begins_front (names_of c.args.trail.now) _ _ (λ e. false≢true (c.if-is_at.ensures.1 (cut ∙ e))))
