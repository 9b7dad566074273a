use Rattle.std.proofs.Common.{refl, IsTrue, ◌∙◌, sym, subst}
use Rattle.sd_replace.proofs.quota.QuotaLemmas.{same_line, later_line}
use Rattle.sd_replace.proofs.quota.Quota.has_line_feed_before.Goals as goal

pub returns-clause-same : goal.returns-clause-same
returns-clause-same c = λ no. same_line c.args.self.now.content.now _ c.args.self.now.place c.args.place c.memchr.result refl c.requires.order c.memchr.ensures (sym c.is_some.ensures ∙ no)

pub returns-clause-later : goal.returns-clause-later
returns-clause-later c = λ yes. later_line c.args.self.now.content.now _ c.args.self.now.place c.args.place c.memchr.result refl c.requires.order c.memchr.ensures (subst IsTrue c.is_some.ensures yes)
