use Rattle.std.proofs.Common.{◌≡◌, OnOk, ap, ◌∙◌, subst}
use Rattle.pattern_syntax.specs.ClassProgress.{with_member}
use Rattle.pattern_syntax.specs.ClassReading.{frame_of, framed, held, level_of}
use Rattle.pattern_syntax.specs.Sets.{Set}
use Rattle.pattern_syntax.proofs.classes.UnionLemmas.{held_class}
use Rattle.pattern_syntax.proofs.classes.open_class.OpenClass.add_class.Goals as goal

pub returns : goal.returns
returns c =
    let old = c.args.self.now in
    let nested = c.args.nested.now in
    subst (λ (s : Set). OnOk c.add.result (frame_of c.add.new.self ≡ framed old.negated (with_member s nested.depth nested.literals (level_of old))))
    (ap held c.deref.ensures.value ∙ held_class nested.set) c.add.ensures
