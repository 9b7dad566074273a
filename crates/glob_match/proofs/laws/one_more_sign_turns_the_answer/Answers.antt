use Rattle.std.proofs.Common.{◌↔◌, ℕ, suc, List, Option, Some, None, IsSome}
use Rattle.std.specs.Prelude.{IsSomeAnd}
use Rattle.glob_match.specs.Pieces.{Pieces}
use Rattle.glob_match.specs.Reading.{negations, pieces_of}
use Rattle.glob_match.specs.Takes.{FitsUnder}
use Rattle.glob_match.proofs.laws.one_more_sign_turns_the_answer.Goals as goal

-- the same for pieces, where there are some
turns : (signs : ℕ) (o : Option Pieces) (path : List ℕ) → IsSome o → IsSomeAnd o (λ pieces. FitsUnder (suc signs) pieces path) ↔ ¬ (IsSomeAnd o (λ pieces. FitsUnder signs pieces path))
turns signs None path some = absurd (cc)
turns signs (Some whole) path some = ((λ h. h), (λ h. h))

pub returns : goal.returns
returns c = λ glob path valid. turns (negations glob) (pieces_of glob) path valid
