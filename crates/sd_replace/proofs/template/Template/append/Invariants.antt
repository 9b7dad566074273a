use Rattle.std.proofs.Common.{◌≡◌, ◌++◌, take}
use Rattle.grep_matcher.specs.References.{group_text}
use Rattle.sd_replace.specs.Templates.{pieces_text}
use Rattle.sd_replace.proofs.template.Template.append.Given as goal

abbrev pub invariant-loop-piece : goal.invariant-loop-piece
invariant-loop-piece l = l.dst.items ≡ l.fn.dst.items ++ pieces_text (group_text l.haystack l.groups) (take l.piece-index l.piece-items)
