use Rattle.std.proofs.Common.{◌≡◌, ◌∙◌, sym, rules, arith, false}
use Rattle.std.specs.Prelude.{◌==◌, slice_index}
use Rattle.sd_words.proofs.number.NumberLemmas.{number_read}
use Rattle.sd_words.proofs.number.number.Goals as goal

pub returns : goal.returns
returns c =
    let plus : c.starts_with.result ≡ (slice_index c.args.text.now 0 == 43) = c.starts_with.ensures.byte (omega arith) (omega arith) (search rules) in
    let none : (slice_index c.args.text.now 0 == 43) ≡ false = sym plus ∙ c.if-starts_with.false in
    c.ok.ensures.value ∙ number_read c.args.text.now c.parse.result c.parse.ensures.value.0 (λ e. cc)
