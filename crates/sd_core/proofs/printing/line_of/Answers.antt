use Rattle.std.proofs.Common.{◌++◌, ap, ◌∙◌, codes}
use Rattle.sd_plan.specs.Report.{report_text}
use Rattle.sd_core.proofs.printing.ReportLemmas.{pushed}
use Rattle.sd_core.proofs.printing.line_of.Goals as goal

pub returns : goal.returns
unfolding report_text
returns c =
    pushed (codes "chosen ") (codes ", changed ") (codes ", replaced ") (codes "\n") _ _ _ _ _ _ _ _ _ _ _
    c.new-line.ensures c.push.ensures (c.push-2.ensures ∙ ap (λ d. c.push.new.self ++ d) c.format.ensures.text) c.push-3.ensures
    (c.push-4.ensures ∙ ap (λ d. c.push-3.new.self ++ d) c.format-2.ensures.text) c.push-5.ensures
    (c.push-6.ensures ∙ ap (λ d. c.push-5.new.self ++ d) c.format-3.ensures.text) c.push-7.ensures
