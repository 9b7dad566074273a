use Rattle.std.proofs.Common.{◌∙◌, subst}
use Rattle.sd_io.specs.Tree.{NameList}
use Rattle.mem_io.specs.MemTree.{PutsDevice, dev_at}
use Rattle.mem_io.specs.Images.{SameDevicesOutside}
use Rattle.mem_io.specs.Medium.{told_tree}
use Rattle.mem_io.proofs.log.DeviceKeptLemmas.{device_content}
use Rattle.mem_io.proofs.crash.AloneLemmas.{alone_device}
use Rattle.mem_io.proofs.crash.DeviceLemmas.{node_left, device_is_put, outside_put}
use Rattle.mem_io.proofs.medium.Medium.keep_dev.Goals as goal

pub returns-clause-outside : goal.returns-clause-outside
returns-clause-outside c =
    subst (λ (q : NameList). SameDevicesOutside q (told_tree c.args.self.now) (told_tree c.put_dev_along.new.self)) c.names.ensures
    (outside_put (told_tree c.args.self.now) (told_tree c.put_dev_along.new.self) _ _ c.put_dev_along.ensures.put)

pub returns-clause-device : goal.returns-clause-device
returns-clause-device c =
    let old = told_tree c.args.self.now in
    let new = told_tree c.put_dev_along.new.self in
    let puts : PutsDevice old c.args.place.now c.ident-dev.result.dev new = subst (λ (q : NameList). PutsDevice old q c.ident-dev.result.dev new) c.names.ensures c.put_dev_along.ensures.put in
    node_left c.args.left.now c.in-This.node (dev_at new c.args.place.now) c.in-This.is (device_is_put old new c.args.place.now c.ident-dev.result.dev puts c.requires ∙ c.ident-dev.ensures.dev)

pub returns-clause-contents : goal.returns-clause-contents
returns-clause-contents c = device_content (told_tree c.args.self.now) (told_tree c.put_dev_along.new.self) _ _ c.put_dev_along.ensures.put

pub returns-clause-alone : goal.returns-clause-alone
returns-clause-alone c = alone_device c.args.self.now c.put_dev_along.new.self _ _ c.put_dev_along.ensures.put c.put_dev_along.ensures.tells
