use Rattle.glob_match.proofs.parse.ReadingLemmas.{after_passed}
use Rattle.glob_match.proofs.parse.after_token.Goals as goal

pub returns-clause-passed : goal.returns-clause-passed
returns-clause-passed c = after_passed c.args.text.now c.args.more _ _ c.requires c.character.ensures
