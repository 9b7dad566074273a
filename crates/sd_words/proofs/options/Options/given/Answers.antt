use Rattle.std.proofs.Common.{◌≡◌, ◌∙◌, ◌||◌, ap, sym}
use Rattle.std.specs.Prelude.{codes, unwrap_or}
use Rattle.clap.specs.Words.{first_of, found_of, rows_of}
use Rattle.sd_words.specs.Order.{is_set}
use Rattle.sd_words.proofs.options.OrderLemmas.{is_read, order_given}
use Rattle.sd_words.proofs.options.Options.given.Goals as goal
use Rattle.sd_words.proofs.options.Options.given.Goals.{then-is_set, else-is_set}

pub returns : goal.returns
returns c =
    let rows = rows_of (found_of c.args.matches.now) in
    let limit = is_read (first_of (codes "max-replacements") rows) c.in_ok-limit.limit (sym c.in_ok-limit.was ∙ c.number_given.ensures) in
    let demo = is_read (first_of (codes "demo") rows) c.in_ok-demo.demo (sym c.in_ok-demo.was ∙ c.number_given-2.ensures) in
    let string_mode = is_set (codes "string-mode") rows in
    let literal_mode : c.if-is_set.result ≡ (is_set (codes "fixed-strings") rows || string_mode) = elim c.if-is_set.branch [
      | then-is_set w ↦ w.result-is ∙ w.if-is_set.true ∙ ap (λ b. b || string_mode) (sym w.if-is_set.true ∙ c.is_set-2.ensures)
      | else-is_set w ↦ w.result-is ∙ w.is_set-else-is_set.ensures ∙ ap (λ b. b || string_mode) (sym w.if-is_set.false ∙ c.is_set-2.ensures)
    ] in
    order_given rows _ limit.may demo.may (λ i. record {
      preview = c.is_set.ensures i;
      literal_mode = literal_mode i;
      line_mode = c.is_set-3.ensures i;
      replacements = (c.unwrap_or.ensures ∙ ap (λ n. unwrap_or n 0) limit.same) i;
      flags = c.in_ok-text_given.ensures i;
      root = c.in_ok-text_given-2.ensures i;
      demo = demo.same i;
      apply = c.in_ok-text_given-3.ensures i;
      ignore = c.in_ok-text_given-4.ensures i;
      find = c.in_ok-word.ensures i;
      replace_with = c.in_ok-word-2.ensures i;
      words = c.in_ok-words.ensures i;
    })
