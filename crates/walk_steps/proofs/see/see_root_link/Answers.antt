use Rattle.std.proofs.Common.{true, Some, sym, ◌∙◌, ap}
use Rattle.sd_io.specs.Files.{Describes}
use Rattle.walk_rest.specs.Plan.{seen_root_link}
use Rattle.walk_steps.proofs.see.SightLemmas.{node_led, directory_content, root_directory, root_needs_none}
use Rattle.walk_steps.proofs.see.see_root_link.Goals as goal

pub returns-then-is_dir-clause-seen : goal.returns-then-is_dir-clause-seen
returns-then-is_dir-clause-seen g c = λ tells manner by.
    let tree = (g.D.Disk.state c.args.disk.now).tree in
    let d : Describes (g.D.Disk.state c.args.disk.now) c.args.entry.path true c.in-Ok.meta = rw c.as_str.ensures.same at c.in-Ok.ensures.answer tells in
    let node = node_led tree c.args.entry.path true d.place d.node d.leads in
    let is = directory_content d.node.content (sym d.kind ∙ c.is_dir.ensures.0 c.if-is_dir.true) in
    c.in_ok-directory-in-Ok.ensures.seen manner (Some d.node) by (root_needs_none c.args.inside.now.options c.args.entry _ (Some d.node) c.requires.unfollowed c.requires.root)
    ∙ (root_directory manner c.args.entry d.node c.requires.root is ∙ ap (seen_root_link manner c.args.entry) (sym node))
