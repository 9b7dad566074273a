use Rattle.journal.proofs.LineLemmas.{folder_text}
use Rattle.journal.proofs.stages.line_folder.Goals as goal

pub returns : goal.returns
returns c = folder_text c.args.line.now c.as_str.result.now c.folder_path.result.now c.as_str.ensures.same c.as_str.ensures.path c.folder_path.ensures
