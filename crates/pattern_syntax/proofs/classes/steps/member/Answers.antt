use Rattle.std.proofs.Common.{refl, subst}
use Rattle.pattern_syntax.specs.declared.classes.members.ClassMember.{ClassMember}
use Rattle.pattern_syntax.specs.ClassReading.{MemberAt}
use Rattle.pattern_syntax.proofs.classes.KeepLemmas.{member_stuck}
use Rattle.pattern_syntax.proofs.classes.StepLemmas.{many_keeps}
use Rattle.pattern_syntax.proofs.classes.steps.member.Goals as goal

pub returns-in_default : goal.returns-in_default
returns-in_default c = member_stuck c.args.flags c.args.text.now c.args.reading c.requires.begins (rw c.in_default.is at c.in_ok-member.ensures)

pub returns-in_ok-add_set-in-Many : goal.returns-in_ok-add_set-in-Many
returns-in_ok-add_set-in-Many c =
    let read : MemberAt c.args.flags c.args.text.now c.args.reading.at c.in-Some.member c.in-Some.behind = rw c.in-Some.is at c.in_ok-member.ensures in
    many_keeps c.args.flags c.args.text.now c.args.reading _ c.in-Many.set
    (subst (λ (m : ClassMember). MemberAt c.args.flags c.args.text.now c.args.reading.at m c.in-Some.behind) c.in-Many.is read) c.requires.begins refl
    c.in_ok-add_set-in-Many.ensures
