use Rattle.std.proofs.Common.{rules}
use Rattle.mem_io.specs.MemTrail.{names_of, dev_within}
use Rattle.mem_io.proofs.trail.DeviceLemmas.{written_pairs, puts_device, sound_device}
use Rattle.mem_io.proofs.tree.MemTree.put_dev_on.Goals as goal

pub invariant_of-self : goal.invariant_of-self
invariant_of-self c =
    let self = c.args.self.now in
    let put = written_pairs _ (dev_within (names_of c.args.trail.now) c.args.dev) _ (λ k v b w f' t. search rules) self.nodes.entries _ c.retain.ensures.filtered in
    record { sound = sound_device self.top _ self.nodes.entries _ (names_of c.args.trail.now) c.args.dev c.put_dev_of_top.ensures put _ self.sound }

pub returns-clause-put : goal.returns-clause-put
returns-clause-put c =
    let self = c.args.self.now in
    let put = written_pairs _ (dev_within (names_of c.args.trail.now) c.args.dev) _ (λ k v b w f' t. search rules) self.nodes.entries _ c.retain.ensures.filtered in
    puts_device self.top _ self.nodes.entries _ (names_of c.args.trail.now) c.args.dev c.put_dev_of_top.ensures put
