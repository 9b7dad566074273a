use Rattle.regex_class.specs.Ranges.{in_ranges}
use Rattle.pattern_syntax.proofs.sets.MemberLemmas.{others_are}
use Rattle.pattern_syntax.proofs.sets.complement.Goals as goal

pub returns : goal.returns
returns c = others_are c.args.flags c.in_ok-all.all c.in_ok-difference.field-0 (in_ranges c.args.set.now.ranges.items) c.in_ok-all.ensures c.in_ok-difference.ensures
