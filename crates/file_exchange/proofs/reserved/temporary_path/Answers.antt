use Rattle.std.proofs.Common.{◌∙◌, arith}
use Rattle.file_exchange.proofs.reserved.ReservedPathLemmas.{written_beside}
use Rattle.file_exchange.proofs.reserved.temporary_path.Goals as goal

pub returns : goal.returns
returns c = record {
  path = written_beside c.args.path.now c.folder_of-folder.result.now c.from.result c.args.number (omega arith)
      (c.from.ensures ∙ (rw (c.in_radix.ensures, c.laid_out.ensures) at c.in_ok-format.ensures.ok)) c.folder_of-folder.ensures;
}
