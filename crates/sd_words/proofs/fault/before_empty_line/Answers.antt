use Rattle.std.proofs.Common.{◌∙◌, sym}
use Rattle.sd_words.proofs.fault.RefusalLemmas.{first_empty_line, no_empty_line}
use Rattle.sd_words.proofs.fault.before_empty_line.Goals as goal

pub returns-in-Some : goal.returns-in-Some
returns-in-Some c =
    let cut = c.in-Some.ensures.cases in
    cut.3 ∙ sym (first_empty_line c.args.text.now cut.0 _ cut.2.0 cut.2.1.split)

pub returns-in-None : goal.returns-in-None
returns-in-None c = sym (no_empty_line c.args.text.now c.in-None.ensures.cases)
