use Rattle.hir_tree.proofs.laws.CharacterLemmas.{char_after_begins, char_before_is}
use Rattle.hir_tree.proofs.laws.characters_stand_beside_a_place.Goals as goal

pub returns-clause-after : goal.returns-clause-after
returns-clause-after c = char_after_begins

pub returns-clause-before : goal.returns-clause-before
returns-clause-before c = char_before_is
