use Rattle.std.proofs.Common.{◌≡◌, OnOk, Some, [], ◌∷◌, sym, ap₂, ◌∙◌, subst}
use Rattle.pattern_syntax.specs.declared.readings.Literals.{Literals}
use Rattle.pattern_syntax.specs.Class.{range_set}
use Rattle.pattern_syntax.specs.ClassProgress.{in_both, literals_in, with_member}
use Rattle.pattern_syntax.specs.ClassReading.{frame_of, framed, held, level_of}
use Rattle.pattern_syntax.specs.Sets.{Set}
use Rattle.pattern_syntax.proofs.ClassSteps.{in_append}
use Rattle.pattern_syntax.proofs.classes.UnionLemmas.{range_held, scalar_bound}
use Rattle.pattern_syntax.proofs.classes.open_class.OpenClass.add_range.Goals as goal

pub returns : goal.returns
returns c =
    let old = c.args.self.now in
    let low = c.args.low in
    let high = c.args.high in
    let between : held ((c.from.result, c.from-2.result) ∷ []) ≡ range_set (Some low) (Some high) =
    ap₂ (λ a b. held ((a, b) ∷ [])) c.from.ensures c.from-2.ensures ∙ range_held low high (scalar_bound high c.ranges.high.0) in
    let literals : c.in_both-literals.result ≡ literals_in (low ∷ high ∷ []) =
    c.in_both-literals.ensures ∙ ap₂ in_both c.literal.ensures c.literal-2.ensures ∙ sym (in_append (low ∷ []) (high ∷ [])) in
    subst (λ (l : Literals). OnOk c.add.result (frame_of c.add.new.self ≡ framed old.negated (with_member (range_set (Some low) (Some high)) 0 l (level_of old)))) literals
    (subst (λ (s : Set). OnOk c.add.result (frame_of c.add.new.self ≡ framed old.negated (with_member s 0 c.in_both-literals.result (level_of old)))) between c.add.ensures)
