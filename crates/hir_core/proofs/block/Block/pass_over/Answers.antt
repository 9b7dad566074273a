use Rattle.std.proofs.Common.{◌≡◌, [], refl, sym, arith}
use Rattle.std.proofs.lemmas.List.{nil_from_length}
use Rattle.std.proofs.lemmas.Bool.{eqb-true}
use Rattle.hir_core.proofs.pass.SkipLemmas.{answer-skip}
use Rattle.hir_core.proofs.block.Block.pass_over.Goals as goal

pub returns-then-is_empty-clause-answer : goal.returns-then-is_empty-clause-answer
returns-then-is_empty-clause-answer c = λ spots groups filters.
    let none_left = eqb-true _ _ (sym c.if-is_empty.ensures) in
    let empty : c.args.self.now.later ≡ [] = nil_from_length _ (omega (arith, none_left)) in
    answer-skip c.args.text.now spots groups c.args.starts.now.place c.pass_over.new.self.place c.args.self.now.later _ empty refl c.pass_over.ensures.after
    c.pass_over.ensures.within (c.pass_over.ensures.none spots filters)
