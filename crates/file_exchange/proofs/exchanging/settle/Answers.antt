use Rattle.std.proofs.Common.{refl, arith}
use Rattle.sd_io.specs.declared.fault.DiskFault.TheVariants as disk
use Rattle.file_exchange.proofs.exchanging.PlaceLemmas.{folder_leads}
use Rattle.file_exchange.proofs.exchanging.CauseLemmas.{at_ok, move_ok, move_err, move_disk, move_move, move_named, step_cause}
use Rattle.file_exchange.proofs.exchanging.settle.Goals as goal

pub returns-clause-settled : goal.returns-clause-settled
returns-clause-settled g c =
    λ told. move_ok _ c.sync_dir.result c.map_err.result c.map_err.ensures.cases
    (at_ok c.sync_dir.result (c.sync_dir.ensures.synced told) (λ synced. (c.folder_path.result.now, c.folder_path.ensures, synced)))

pub returns-clause-refused : goal.returns-clause-refused
returns-clause-refused g c = λ told. move_err _ c.sync_dir.result c.map_err.result c.map_err.ensures.cases c.sync_dir.ensures.refused

pub returns-clause-moved : goal.returns-clause-moved
returns-clause-moved g c = λ is. let memory = (move_disk c.sync_dir.result c.map_err.result disk.Failed c.map_err.ensures.cases is).1 in cc

pub returns-clause-not_no_name : goal.returns-clause-not_no_name
returns-clause-not_no_name g c = λ is. move_named c.sync_dir.result c.map_err.result c.map_err.ensures.cases is

pub returns-clause-memory : goal.returns-clause-memory
returns-clause-memory g c = λ is. (move_move c.sync_dir.result c.map_err.result disk.NoMemory c.map_err.ensures.cases is).1 refl

pub returns-clause-cause : goal.returns-clause-cause
returns-clause-cause g c =
    step_cause _ _ _ _ _ _ (λ f is. (move_disk c.sync_dir.result c.map_err.result f c.map_err.ensures.cases is).0) (omega arith) c.sync_dir.ensures.cause c.sync_dir.ensures.not_taken
    (λ told absent. cc (
      folder_leads _ c.args.path.now c.folder_path.result.now (g.met.D.Disk.is_tree c.args.disk.now told) (c.requires told) c.folder_path.ensures,
      c.sync_dir.ensures.absent told absent,
    ))

pub returns-clause-move_cause : goal.returns-clause-move_cause
returns-clause-move_cause g c =
    step_cause _ _ _ _ _ _ (λ f is. (move_move c.sync_dir.result c.map_err.result f c.map_err.ensures.cases is).0) (omega arith) c.sync_dir.ensures.cause c.sync_dir.ensures.not_taken
    (λ told absent. cc (
      folder_leads _ c.args.path.now c.folder_path.result.now (g.met.D.Disk.is_tree c.args.disk.now told) (c.requires told) c.folder_path.ensures,
      c.sync_dir.ensures.absent told absent,
    ))
