use Rattle.std.proofs.Common.{◌<◌, ◌≤◌, ◌-◌, length}
use Rattle.std.specs.Prelude.{IsTrue}
use Rattle.stream_rewrite.specs.Reading.{Gives, HasTaken}
use Rattle.stream_rewrite.proofs.reading.read_pieces.Given as goal

-- what was read so far came first, and is counted
abbrev pub invariant-pieces : goal.invariant-pieces
invariant-pieces g l = record {
  room : 0 < length l.piece;
  within : length l.content.items ≤ l.cap;
  taken : HasTaken (g.S.Source.state l.fn.input) (length l.content.items) (g.S.Source.state l.input);
  given : IsTrue g.S.Source.tells → Gives (g.S.Source.state l.fn.input) l.content.items (g.S.Source.state l.input);
  never_falls : (g.S.Source.state l.fn.input).faults ≤ (g.S.Source.state l.input).faults;
}

abbrev pub decreases-pieces : goal.decreases-pieces
decreases-pieces g l = l.cap - length l.content.items
