use Rattle.std.proofs.Common.{inl, sym, subst}
use Rattle.pattern_core.specs.Progress.{close_branch}
use Rattle.pattern_core.specs.Parsing.{IsSameRow, row_of, part_of}
use Rattle.pattern_core.proofs.parsing.NestLemmas.{closed_same}
use Rattle.pattern_core.proofs.parsing.pieces.Level.close_branch.Goals as goal

pub returns : goal.returns
returns c before is =
    let limit = c.args.limit in
    record {
      closed = subst (λ row. IsSameRow limit row (close_branch before).closed) (sym c.in_ok-closed.ensures)
          (closed_same limit (row_of c.args.self.closed) (row_of c.args.self.items) (part_of c.in_ok-sequence.field-0) before is.closed is.items c.in_ok-sequence.ensures);
      items = inl c.new-items.ensures;
    }
