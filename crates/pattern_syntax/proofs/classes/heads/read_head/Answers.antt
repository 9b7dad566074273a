use Rattle.std.proofs.Common.{◌+◌, ◌∙◌}
use Rattle.pattern_syntax.proofs.classes.ReadLemmas.{BracketRead, dashes_more, head_read, same_or}
use Rattle.pattern_syntax.proofs.classes.heads.read_head.Goals as goal
use Rattle.pattern_syntax.proofs.classes.heads.read_head.Goals.{then-dashes-eq0, else-dashes-eq0}

pub loop-next-preserved : goal.loop-next-preserved
loop-next-preserved c =
    dashes_more c.args.flags c.args.text.now c.unwrap_or-first.result c.loop-next.place c.in-Some.next c.loop-next.dashes c.loop-next.invariant c.in-Some.ensures

pub returns : goal.returns
returns c =
    let k = c.args.flags in
    let text = c.args.text.now in
    let caret = c.behind_next-caret.result in
    let bracket = c.if-dashes-eq0.bracket in
    let found : BracketRead k text c.loop-next.place c.loop-next.dashes bracket =
    elim c.if-dashes-eq0.branch [
      | then-dashes-eq0 w ↦ (λ none. rw w.bracket-is w.behind_next-bracket.ensures, λ some. absurd (some w.if-dashes-eq0.true))
      | else-dashes-eq0 w ↦ (λ none. absurd (w.if-dashes-eq0.false none), λ some. w.bracket-is)
    ] in
    head_read k text c.args.at caret bracket c.unwrap_or-first.result c.loop-next.place c.loop-next.dashes c.unwrap_or.result c.is_some.result c.is_some-2.result
    c.requires.within c.requires.opens c.behind_next-caret.ensures (c.unwrap_or-first.ensures ∙ same_or caret (c.args.at + 1)) c.loop-next.invariant
    c.in_default.ensures found (c.unwrap_or.ensures ∙ same_or bracket c.loop-next.place) c.is_some.ensures c.is_some-2.ensures
