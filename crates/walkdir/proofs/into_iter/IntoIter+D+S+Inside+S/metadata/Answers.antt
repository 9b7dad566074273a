use Rattle.walkdir.proofs.WalkLemmas.{still_sound_after, still_rest_after}
use Rattle.walkdir.proofs.into_iter.IntoIter+D+S+Inside+S.metadata.Goals as goal

pub returns-clause-sound : goal.returns-clause-sound
returns-clause-sound g c = λ sorts sound.
    still_sound_after (g.D.Disk.state c.args.self.now.disk.now) (g.D.Disk.state c.metadata.new.disk) sorts c.args.self.now.inside c.metadata.ensures.lists.open_list sound

pub returns-clause-rest : goal.returns-clause-rest
returns-clause-rest g c = λ sorts by rest has.
    still_rest_after (g.D.Disk.state c.args.self.now.disk.now) (g.D.Disk.state c.metadata.new.disk) sorts by c.args.self.now.inside rest
    c.metadata.ensures.tree.tree c.metadata.ensures.lists.open_list has
