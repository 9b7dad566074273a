use Rattle.std.proofs.Common.{ap, ◌∙◌, ◌-◌, take}
use Rattle.sd_io.specs.Paths.{parent_of}
use Rattle.mem_io.proofs.place.ParentLemmas.{parent_of-take}
use Rattle.mem_io.proofs.place.Place.leave.Goals as goal

pub returns : goal.returns
returns c = c.pop-name.ensures.rest ∙ ap (λ n. take (n - 1) c.self.inside.names.items) c.self.inside.names.ok.0 ∙ parent_of-take c.self.inside.names.items ∙ ap parent_of c.self.view_is
