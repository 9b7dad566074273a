use Rattle.std.proofs.Common.{ℕ, ◌+◌, List, Some, None, length, refl, subst, arith}
use Rattle.hir_core.specs.Found.{IsOfLeast, place_found}
use Rattle.hir_core.proofs.plain.PlainTextLemmas.{found-least}
use Rattle.hir_core.proofs.plain.TextFinder.find.Goals as goal

pub returns-in-None-clause-least : goal.returns-in-None-clause-least
returns-in-None-clause-least c =
    subst (λ (bytes : List ℕ). IsOfLeast (place_found bytes c.args.text.now) c.args.at (length c.args.text.now) None) c.self.view_is
    (found-least c.args.text.now c.self.inside.finder _ c.args.at refl (omega arith) None c.in-None.ensures)

pub returns-in-Some-clause-least : goal.returns-in-Some-clause-least
returns-in-Some-clause-least c =
    subst (λ (bytes : List ℕ). IsOfLeast (place_found bytes c.args.text.now) c.args.at (length c.args.text.now) (Some (c.args.at + c.in-Some.offset)))
    c.self.view_is (found-least c.args.text.now c.self.inside.finder _ c.args.at refl (omega arith) (Some c.in-Some.offset) c.in-Some.ensures)
