use Rattle.std.proofs.Common.{◌+◌, ◌∷◌, drop, sym, ap, ◌∙◌}
use Rattle.pattern_syntax.specs.Class.{is_blank_start}
use Rattle.pattern_syntax.specs.Syntax.{is_special}
use Rattle.pattern_syntax.proofs.BlanksLemmas.{cut_at}
use Rattle.pattern_syntax.proofs.spelling.BlanksSplit.{or_none}
use Rattle.pattern_syntax.proofs.singles.SingleLemmas.{character_single}
use Rattle.pattern_syntax.proofs.singles.read_character.Goals as goal

pub returns : goal.returns
returns c =
    let text = c.args.text.now in
    let d = c.index-text-at.result in
    character_single c.args.flags text c.args.at c.in_ok-item.item d c.in_ok-bytes.bytes
    (cut_at text c.args.at d c.requires ∙ ap (λ z. z ∷ drop (c.args.at + 1) text) (sym c.index-text-at.is)) c.requires
    (or_none (is_special d) (is_blank_start c.args.flags d) (sym c.is_special.ensures ∙ c.if-is_special.false) (sym c.is_blank_start.ensures ∙ c.if-is_blank_start.false))
    c.in_ok-bytes.ensures c.in_ok-item.ensures.part c.in_ok-item.ensures.literals
