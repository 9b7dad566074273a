use Rattle.sd_replace.proofs.template.PieceLemmas.{group_lies}
use Rattle.sd_replace.proofs.template.append_piece.Goals as goal

pub append_span-requires : goal.append_span-requires
append_span-requires c = record { within = group_lies c.args.groups.now c.args.haystack.now c.in-Group.number c.get.result c.get.ensures c.requires.within }
