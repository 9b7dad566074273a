use Rattle.std.proofs.Common.{◌++◌, ℕ, List, drop, subst, sym}
use Rattle.sd_replace.specs.FirstMatch.{StandsAtTheFirst}
use Rattle.sd_replace.specs.InPlace.{IsRewritten, IsUntouched, made_of}
use Rattle.sd_replace.specs.Replacer.{replacement_of}
use Rattle.sd_replace.proofs.in_place.RewriteLemmas.{ends_few, ends_told}
use Rattle.sd_replace.proofs.replacer.Replacer.rewrite_from.Goals as goal

pub rewrite_all-requires : goal.rewrite_all-requires
rewrite_all-requires c =
    let room = c.new-room.result in
    record {
      limit = c.requires.limit;
      onward = c.requires.onward;
      stands = subst (λ (l : List ℕ). StandsAtTheFirst c.args.self.now l c.args.search.now c.args.first) (sym c.new-room.ensures.bytes) c.requires.stands;
      untouched = subst (λ (l : List ℕ). IsUntouched l room) (sym c.new-room.ensures.bytes) c.new-room.ensures.untouched;
    }

pub finish-requires : goal.finish-requires
finish-requires c = record { order = c.in_ok-rewrite_all.ensures.order; within = c.in_ok-rewrite_all.ensures.within }

pub returns-clause-rewritten : goal.returns-clause-rewritten
returns-clause-rewritten c =
    let bytes = c.args.content.items in
    let room = c.rewrite_all.new.room in
    let done = subst (λ (l : List ℕ). IsRewritten (replacement_of c.args.self.now) l room) c.new-room.ensures.bytes c.in_ok-rewrite_all.ensures in
    ends_told (replacement_of c.args.self.now) bytes (made_of room ++ drop room.read room.bytes.items) room.count done.changes c.finish.result (c.finish.ensures bytes done.of)

pub returns-clause-few : goal.returns-clause-few
returns-clause-few c =
    let bytes = c.args.content.items in
    let room = c.rewrite_all.new.room in
    let done = subst (λ (l : List ℕ). IsRewritten (replacement_of c.args.self.now) l room) c.new-room.ensures.bytes c.in_ok-rewrite_all.ensures in
    ends_few bytes (made_of room ++ drop room.read room.bytes.items) room.count done.few c.finish.result (c.finish.ensures bytes done.of)
