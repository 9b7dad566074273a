use Rattle.sd_replace.specs.Replacer.{replacement_of}
use Rattle.sd_replace.proofs.changing.ChangingLemmas.{few_of, finished}
use Rattle.std.proofs.Common.{◌+◌, length}
use Rattle.sd_replace.proofs.replacer.Replacer.replace_from.Goals as goal

pub returns-clause-changed : goal.returns-clause-changed
returns-clause-changed c =
    finished (replacement_of c.args.self.now) c.args.content.now c.replace_all.new.made c.finish.result c.finish.ensures.bytes c.finish.ensures.count c.in_ok-replace_all.ensures.changed

pub returns-clause-few : goal.returns-clause-few
returns-clause-few c =
    few_of c.replace_all.new.made.count (length c.args.content.now + 1) c.finish.result c.finish.ensures.count c.in_ok-replace_all.ensures.few
