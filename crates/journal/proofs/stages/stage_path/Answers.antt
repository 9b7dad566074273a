use Rattle.std.proofs.Common.{◌≡◌, List, ℕ}
use Rattle.sd_io.specs.Files.{path_text}
use Rattle.file_exchange.specs.Reserved.{IsReservedPath}
use Rattle.change_phases.specs.Between.{stage_of}
use Rattle.journal.proofs.LineLemmas.{stage_text, if_ok_then}
use Rattle.journal.proofs.stages.stage_path.Goals as goal

pub returns : goal.returns
returns c =
    let line = c.args.line.now in
    if_ok_then (IsReservedPath c.as_str.result.now line.number) (λ (path : List ℕ). path ≡ path_text (stage_of line)) c.temporary_path.result c.temporary_path.ensures.path
    (λ path reserved. stage_text line c.as_str.result.now path c.as_str.ensures.same c.as_str.ensures.path reserved)
