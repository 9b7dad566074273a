use Rattle.std.proofs.Common.{◌∷◌, ◌++◌, true, refl, sym, subst}
use Rattle.pattern_core.specs.declared.fault.PatternFault.TheVariants as pattern
use Rattle.grep_regex.specs.Building.{IsReadingRefused}
use Rattle.grep_regex.specs.Readings.{pattern_flags, written}
use Rattle.grep_regex.specs.ReadSoFar.{IsPatternRefused}
use Rattle.grep_regex.proofs.reading.ReadLemmas.{doubled, first_deep, first_unread, read_on}
use Rattle.grep_regex.proofs.reading.ReadPatterns.read_next.Goals as goal

pub returns-in_ok-keep-in-Ok-clause-read : goal.returns-in_ok-keep-in-Ok-clause-read
returns-in_ok-keep-in-Ok-clause-read c texts are =
    let read = c.in-Ok.ensures in
    let kept = c.in_ok-keep-in-Ok.ensures in
    read_on c.args.options.now c.args.folded texts c.args.text.now c.args.self.now c.keep.new.self are c.in-Ok.parsed read.pattern read.tidy read.numbers kept.hirs kept.literal kept.uppercase
    kept.double_name

pub returns-in-Err-DoubleName-clause-read : goal.returns-in-Err-DoubleName-clause-read
returns-in-Err-DoubleName-clause-read c texts are =
    let o = c.args.options.now in
    let old = c.args.self.now in
    doubled o c.args.folded texts c.args.text.now old (record old { has_double_name = true }) are
    (subst (IsPatternRefused (pattern_flags o c.args.folded) (written o c.args.text.now)) c.in-Err-DoubleName.field-0-is c.in-Err-DoubleName.ensures.refused) refl

pub returns-in-Err-Grammar : goal.returns-in-Err-Grammar
returns-in-Err-Grammar c = record {
  read = tt;
  refused = λ texts behind are.
      let o = c.args.options.now in
      let text = c.args.text.now in
      let is : IsPatternRefused (pattern_flags o c.args.folded) (written o text) pattern.Grammar =
      subst (IsPatternRefused (pattern_flags o c.args.folded) (written o text)) c.in-Err-Grammar.field-0-is c.in-Err-Grammar.ensures.refused in
      subst (IsReadingRefused o (texts ++ text ∷ behind)) (sym c.unread.ensures) (first_unread o c.args.folded texts text behind c.args.self.now are is);
}

pub returns-in-Err-Nest : goal.returns-in-Err-Nest
returns-in-Err-Nest c = record {
  read = tt;
  refused = λ texts behind are.
      let o = c.args.options.now in
      let text = c.args.text.now in
      let is : IsPatternRefused (pattern_flags o c.args.folded) (written o text) pattern.Nest =
      subst (IsPatternRefused (pattern_flags o c.args.folded) (written o text)) c.in-Err-Nest.field-0-is c.in-Err-Nest.ensures.refused in
      subst (IsReadingRefused o (texts ++ text ∷ behind)) (sym c.unread-in-Err-Nest.ensures) (first_deep o c.args.folded texts text behind c.args.self.now are is);
}
