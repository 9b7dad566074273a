use Rattle.std.proofs.Common.{◌≡◌, ◌∙◌, ◌++◌, ℕ, List, ap, codes, subst}
use Rattle.std.specs.Prelude.{decimal}
use Rattle.sd_course.specs.Course.{AppendsPrefix}
use Rattle.sd_journal.proofs.printing.PrefixLemmas.{in_front, behind, refused_by, refused_so}
use Rattle.sd_journal.proofs.printing.print_recovered.Goals as goal

pub returns-in_err-write_all-clause-refused : goal.returns-in_err-write_all-clause-refused
returns-in_err-write_all-clause-refused g c =
    λ told.
    refused_by c.from_residual.result
    (in_front (g.O.Sink.state c.args.out.now).held (codes "recovered ") (decimal c.args.files ++ codes "\n") (g.O.Sink.state c.write_all.new.out).held (c.in_err-write_all.ensures.refused told))

pub returns-in_err-write_all-2-clause-refused : goal.returns-in_err-write_all-2-clause-refused
returns-in_err-write_all-2-clause-refused g c =
    λ told.
    let held = (g.O.Sink.state c.args.out.now).held in
    let between = (g.O.Sink.state c.write_all.new.out).held in
    let now = (g.O.Sink.state c.write_all-2.new.out).held in
    let digits : c.as_bytes.result.now ≡ decimal c.args.files = c.as_bytes.ensures.value ∙ c.format.ensures.text in
    let some = subst (λ (text : List ℕ). AppendsPrefix between text now) digits (c.in_err-write_all-2.ensures.refused told) in
    refused_by c.from_residual-in_err-write_all-2.result
    (behind held (codes "recovered ") (decimal c.args.files ++ codes "\n") between now (c.in_ok-write_all.ensures.written told)
    (in_front between (decimal c.args.files) (codes "\n") now some))

pub returns-clause-refused : goal.returns-clause-refused
returns-clause-refused g c =
    λ told.
    let held = (g.O.Sink.state c.args.out.now).held in
    let first = (g.O.Sink.state c.write_all.new.out).held in
    let second = (g.O.Sink.state c.write_all-2.new.out).held in
    let now = (g.O.Sink.state c.write_all-3.new.out).held in
    let digits : c.as_bytes.result.now ≡ decimal c.args.files = c.as_bytes.ensures.value ∙ c.format.ensures.text in
    let wrote : second ≡ first ++ decimal c.args.files = c.in_ok-write_all-2.ensures.written told ∙ ap (λ (text : List ℕ). first ++ text) digits in
    refused_so c.write_all-3.result (c.write_all-3.ensures.refused told)
    (λ some.
    behind held (codes "recovered ") (decimal c.args.files ++ codes "\n") first now (c.in_ok-write_all.ensures.written told)
    (behind first (decimal c.args.files) (codes "\n") second now wrote some))
