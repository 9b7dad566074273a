use Rattle.std.proofs.Common.{refl, arith}
use Rattle.std.proofs.lemmas.List.{nil_from_length}
use Rattle.pattern_syntax.proofs.classes.KeepLemmas.{close_ends, close_keeps}
use Rattle.pattern_syntax.proofs.classes.steps.close.Goals as goal

pub returns-in_default : goal.returns-in_default
returns-in_default c =
    close_ends c.args.flags c.args.text.now c.args.reading c.in_ok-ended.ended c.requires.within c.requires.closes
    (nil_from_length _ (omega (arith, c.args.reading.outer.ok.0, c.in_default.ensures.cases))) c.in_ok-ended.ensures

pub returns : goal.returns
returns c =
    close_keeps c.args.flags c.args.text.now c.args.reading _ c.pop.new.self.items c.in-Some.class c.in_ok-ended.ended c.requires.within c.requires.closes
    c.in-Some.ensures.items refl refl c.in_ok-ended.ensures c.in_ok-add_class.ensures
