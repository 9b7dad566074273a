use Rattle.std.proofs.Common.{◌≡◌, ◌∙◌, ap, map}
use Rattle.clap.specs.Words.{app_of, found_of, rows_of}
use Rattle.sd_words.specs.Order.{order_in, order_of}
use Rattle.sd_words.proofs.options.OrderLemmas.{not_taken, order_of_matches, reads_of, refusal_of}
use Rattle.sd_words.proofs.options.Options.read.Goals as goal

pub returns-in-Ok-clause-read : goal.returns-in-Ok-clause-read
returns-in-Ok-clause-read c =
    let given : map (λ s. s.now) c.as_slice.result.now ≡ c.args.words.now = ap (map (λ s. s.now)) c.as_slice.ensures.value ∙ c.in_ok-texts.ensures in
    let parse = c.in-Ok in
    let same : order_in (rows_of (found_of parse.matches)) ≡ order_of c.args.words.now =
    order_of_matches (app_of c.in_ok-command.command) _ c.args.words.now (rows_of (found_of parse.matches)) c.in_ok-command.ensures given
    parse.ensures.kinds (λ simple. (parse.ensures.matches simple).0) in
    reads_of c.args.words.now (rows_of (found_of parse.matches)) c.of.result same c.of.ensures.read

pub returns-clause-read : goal.returns-clause-read
returns-clause-read c =
    let given : map (λ s. s.now) c.as_slice.result.now ≡ c.args.words.now = ap (map (λ s. s.now)) c.as_slice.ensures.value ∙ c.in_ok-texts.ensures in
    let parse = c.in-Err in
    refusal_of c.args.words.now parse.error c.refusal.result c.refusal.ensures
    (λ kind. not_taken (app_of c.in_ok-command.command) _ c.args.words.now parse.error c.in_ok-command.ensures given parse.ensures.kinds kind)
