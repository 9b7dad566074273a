use Rattle.change_phases.proofs.RootLemmas.{directory_kept, between_ways}
use Rattle.change_phases.proofs.recovery.paths_to_directories_lead_there_between.Goals as goal

pub returns : goal.returns
returns c = λ work image path q is b e. directory_kept work.tree image (between_ways work is image b) path q e
