use Rattle.std.proofs.Common.{◌≡◌, min, sym, subst}
use Rattle.sd_replace.specs.Replacement.{together_with}
use Rattle.sd_replace.specs.declared.replacer.Counted.{Counted}
use Rattle.sd_replace.proofs.quota.QuotaLemmas.{used_anew}
use Rattle.sd_replace.proofs.quota.Quota.used_at.Goals as goal

pub returns-in-InEachLine : goal.returns-in-InEachLine
returns-in-InEachLine c = λ spans known.
    let self = c.args.self.now in
    subst (λ (counted : Counted). 0 ≡ min self.limit (together_with counted self.content.now c.args.place spans)) (sym c.in-InEachLine.is)
    (used_anew self.limit self.content.now self.place c.args.place spans (c.has_line_feed_before.ensures.later c.if-has_line_feed_before.true) known.behind)
