use Rattle.pattern_syntax.specs.Readers.{EscapeAt, ClassAt, IsSingleRead}
use Rattle.pattern_syntax.specs.Singles.{EdgeAt, IsCharacterRead}
use Rattle.pattern_syntax.proofs.literals.LiteralLemmas.{ok_on}
use Rattle.pattern_syntax.proofs.singles.SingleLemmas.{look_single, escape_single, class_single, last_read}
use Rattle.pattern_syntax.proofs.singles.read_single.Goals as goal

pub returns-in-Some-read_look : goal.returns-in-Some-read_look
returns-in-Some-read_look c =
    let text = c.args.text.now in
    let look = c.in-Some-read_look.look in
    let next = c.in-Some-read_look.next in
    let there : EdgeAt c.args.flags text c.args.at c.in-Some-read_look.look c.in-Some-read_look.next =
    rw (c.in-Some-read_look.look-is, c.in-Some-read_look.next-is) c.in-Some-read_look.ensures in
    look_single c.args.flags text c.args.at next look c.look_item.result there c.look_item.ensures.part c.look_item.ensures.literals

pub returns-in-Some-2 : goal.returns-in-Some-2
returns-in-Some-2 c =
    let text = c.args.text.now in
    let found = rw c.in-Some-2.is at c.in_ok-member.ensures in
    let there : EscapeAt c.args.flags text c.args.at c.in-Some-2.member c.in-Some-2.next = rw (c.in-Some-2.member-is, c.in-Some-2.next-is) found in
    escape_single c.args.flags text c.args.at c.in-Some-2.next c.in-Some-2.member c.in_ok-member_item.field-0 there c.in_ok-member_item.ensures.part
    c.in_ok-member_item.ensures.literals

pub returns-in-Some-3 : goal.returns-in-Some-3
returns-in-Some-3 c =
    let text = c.args.text.now in
    let found = rw c.in-Some-3.is at c.in_ok-read-2.ensures in
    let there : ClassAt c.args.flags text c.args.at c.in-Some-3.read c.in-Some-3.next = rw (c.in-Some-3.read-is, c.in-Some-3.next-is) found in
    class_single c.args.flags text c.args.at c.in-Some-3.next c.in-Some-3.read c.in_ok-item.item there c.in_ok-item.ensures.part c.in_ok-item.ensures.literals

pub returns : goal.returns
returns c =
    let text = c.args.text.now in
    let signs = rw c.in_default.is at c.in_ok-read.ensures in
    let escapes = rw c.in_default-2.is at c.in_ok-member.ensures in
    let classes = rw c.in_default-3.is at c.in_ok-read-2.ensures in
    ok_on (IsCharacterRead c.args.flags text c.args.at) (IsSingleRead c.args.flags text c.args.at)
    (λ read here. last_read c.args.flags text c.args.at signs c.in_default-read_look.ensures escapes classes read here) c.read_character.result c.read_character.ensures
