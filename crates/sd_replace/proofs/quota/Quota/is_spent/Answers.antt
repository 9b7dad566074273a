use Rattle.sd_replace.proofs.quota.QuotaLemmas.{spent}
use Rattle.sd_replace.proofs.quota.Quota.is_spent.Goals as goal

pub returns-then-self-gt0 : goal.returns-then-self-gt0
returns-then-self-gt0 c = λ full before spans known.
    let self = c.args.self.now in
    spent self.counted self.limit self.used self.place self.content.now before spans c.in-OverAll.is c.if-self-gt0.true (known c.if-self-gt0.true).used full
