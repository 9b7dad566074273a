use Rattle.std.proofs.Common.{◌<◌, arith}
use Rattle.sd_replace.proofs.quota.QuotaLemmas.{is_within_left, is_within_no_more, used_more, used_all, behind_more}
use Rattle.sd_replace.proofs.quota.Quota.admits.Goals as goal

pub returns-then-self-clause-admitted : goal.returns-then-self-clause-admitted
returns-then-self-clause-admitted c = λ spans span is known.
    let self = c.args.self.now in
    let some : 0 < self.limit = (let no = c.if-self-eq0.false in omega arith) in
    is_within_no_more self.counted self.limit c.used_at-self.result c.args.place self.content.now spans span is some (c.used_at-self.ensures spans (known some)) c.if-self.true

pub returns-then-self-clause-known : goal.returns-then-self-clause-known
returns-then-self-clause-known c = λ spans span is known some.
    let self = c.args.self.now in
    record {
      behind = behind_more self.place c.args.place spans span c.requires.order is (known some).behind;
      used = used_all self.counted self.limit c.used_at-self.result c.args.place self.content.now spans span is (c.used_at-self.ensures spans (known some)) c.if-self.true;
    }

pub returns-clause-admitted : goal.returns-clause-admitted
returns-clause-admitted c = λ spans span is known.
    let self = c.args.self.now in
    let some : 0 < self.limit = (let no = c.if-self-eq0.false in omega arith) in
    is_within_left self.counted self.limit c.used_at-self.result c.args.place self.content.now spans span is some (c.used_at-self.ensures spans (known some)) c.if-self.false

pub returns-clause-known : goal.returns-clause-known
returns-clause-known c = λ spans span is known some.
    let self = c.args.self.now in
    record {
      behind = behind_more self.place c.args.place spans span c.requires.order is (known some).behind;
      used = used_more self.counted self.limit c.used_at-self.result c.args.place self.content.now spans span is (c.used_at-self.ensures spans (known some)) c.if-self.false;
    }
