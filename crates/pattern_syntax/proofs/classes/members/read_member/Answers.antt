use Rattle.std.proofs.Common.{sym, ◌∙◌, subst}
use Rattle.pattern_syntax.specs.declared.readings.Member.{Member}
use Rattle.pattern_syntax.specs.Readers.{EscapeAt}
use Rattle.pattern_syntax.proofs.classes.KeepLemmas.{read_at}
use Rattle.pattern_syntax.proofs.classes.ReadLemmas.{plain_single, escape_none, escape_unfit}
use Rattle.pattern_syntax.proofs.classes.members.read_member.Goals as goal

pub returns-then-c-ne92 : goal.returns-then-c-ne92
returns-then-c-ne92 c =
    plain_single c.args.flags c.args.text.now c.args.at c.index-text-at.result c.requires
    (read_at c.args.text.now c.args.at c.index-text-at.result c.requires c.index-text-at.is) c.if-c-ne92.true (sym c.is_allowed.ensures ∙ c.if-not-is_allowed.false)

pub returns-in_default : goal.returns-in_default
returns-in_default c =
    escape_none c.args.flags c.args.text.now c.args.at c.requires
    (read_at c.args.text.now c.args.at c.index-text-at.result c.requires c.index-text-at.is ∙ c.if-c-ne92.false)
    (rw c.in_default.is at c.in_ok-escape.ensures)

pub returns-then-not-is_allowed-2 : goal.returns-then-not-is_allowed-2
returns-then-not-is_allowed-2 c =
    let read : EscapeAt c.args.flags c.args.text.now c.args.at c.in-Some.escape c.in-Some.behind = rw c.in-Some.is at c.in_ok-escape.ensures in
    escape_unfit c.args.flags c.args.text.now c.args.at c.in-Some.behind c.in-Character.c
    (subst (λ (m : Member). EscapeAt c.args.flags c.args.text.now c.args.at m c.in-Some.behind) c.in-Character.is read)
    (sym c.is_allowed-in-Character.ensures ∙ c.if-not-is_allowed-2.true)
