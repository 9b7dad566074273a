use Rattle.std.proofs.Common.{◌≡◌, OnOk, Some, [], ◌∷◌, ap₂, ◌∙◌, subst}
use Rattle.pattern_syntax.specs.declared.readings.Literals.{Literals}
use Rattle.pattern_syntax.specs.Class.{matches_one}
use Rattle.pattern_syntax.specs.ClassProgress.{with_member}
use Rattle.pattern_syntax.specs.ClassReading.{frame_of, framed, held, level_of}
use Rattle.pattern_syntax.specs.Sets.{Set}
use Rattle.pattern_syntax.proofs.classes.UnionLemmas.{one_held, scalar_bound}
use Rattle.pattern_syntax.proofs.classes.open_class.OpenClass.add_character.Goals as goal

pub returns : goal.returns
returns c =
    let old = c.args.self.now in
    let one : held ((c.from.result, c.from-2.result) ∷ []) ≡ matches_one (Some c.args.c) =
    ap₂ (λ a b. held ((a, b) ∷ [])) c.from.ensures c.from-2.ensures ∙ one_held c.args.c (scalar_bound c.args.c c.ranges.c.0) in
    subst (λ (l : Literals). OnOk c.add.result (frame_of c.add.new.self ≡ framed old.negated (with_member (matches_one (Some c.args.c)) 0 l (level_of old))))
    c.literal.ensures
    (subst (λ (s : Set). OnOk c.add.result (frame_of c.add.new.self ≡ framed old.negated (with_member s 0 c.literal.result (level_of old)))) one c.add.ensures)
