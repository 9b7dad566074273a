use Rattle.std.proofs.Common.{subst}
use Rattle.std.proofs.lemmas.Result.{IfOk-weaker}
use Rattle.pattern_syntax.specs.Reads.{choice}
use Rattle.pattern_core.specs.Progress.{Level, finished}
use Rattle.pattern_core.specs.Parsing.{IsSamePart, IsPart, IsLevel, row_of, part_of}
use Rattle.pattern_core.specs.declared.parsing.pieces.Piece.{Piece}
use Rattle.pattern_core.proofs.parsing.NestLemmas.{finished_same}
use Rattle.pattern_core.proofs.parsing.pieces.Level.finished.Goals as goal

pub returns : goal.returns
returns c =
    let limit = c.args.limit in
    let row = row_of c.in_ok-push.field-0 in
    let is_whole : (piece : Piece) → IsPart limit piece (choice row) → (level : Level) → IsLevel limit c.args.self level → IsPart limit piece (finished level) =
    λ piece is_choice level is.
    finished_same limit (row_of c.args.self.closed) (row_of c.args.self.items) (part_of c.in_ok-sequence.field-0) (part_of piece) level is.closed is.items
    c.in_ok-sequence.ensures (subst (λ row. IsSamePart limit (part_of piece) (choice row)) c.in_ok-push.ensures is_choice) in
    IfOk-weaker c.choice.result (λ (piece : Piece). IsPart limit piece (choice row))
    (λ (piece : Piece). (level : Level) → IsLevel limit c.args.self level → IsPart limit piece (finished level)) is_whole c.choice.ensures
