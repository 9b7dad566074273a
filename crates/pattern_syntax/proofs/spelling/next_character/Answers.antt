use Rattle.pattern_syntax.proofs.spelling.SpellingLemmas.{behind_on}
use Rattle.pattern_syntax.proofs.spelling.next_character.Goals as goal

pub returns-clause-moves : goal.returns-clause-moves
returns-clause-moves c =
    behind_on c.args.flags c.args.text.now c.args.at c.behind_blanks-place.result c.requires c.behind_blanks-place.ensures.within c.behind_blanks-place.ensures.seen
