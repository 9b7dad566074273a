use Rattle.std.proofs.Common.{inl, inr, sym}
use Rattle.std.proofs.lemmas.Bool.{false≢true}
use Rattle.open_lists.proofs.OpenListsLemmas.{unfinished_told, keeps_told, told_each, put_at_end, others_told, counted_told, ends, gives}
use Rattle.host_io.proofs.disk.HostDiskDisk.next_entry.Goals as goal

pub returns-then-is_full-clause-failed : goal.returns-then-is_full-clause-failed
returns-then-is_full-clause-failed g c = λ failed.
    let was = unfinished_told _ _ (sym c.if-is_at_end.ensures) in
    let kept = keeps_told _ c.args.self.now.lists in
    record { left = was.0; was = was.1; outcome = inr (ends _ _ _ _ _ _ _ _ _ _ _ _ _ kept (put_at_end _ _ _ _ _ _ was.1 kept c.end.ensures.open)) }

pub returns-in-Ok-None-clause-ended : goal.returns-in-Ok-None-clause-ended
returns-in-Ok-None-clause-ended g c = ends _ _ _ _ _ _ _ _ _ _ _ _ _ c.next_in.ensures (put_at_end _ _ _ _ _ _ c.requires.1 c.next_in.ensures c.end-in-Ok-None.ensures.open)

pub returns-in-Ok-None-clause-others : goal.returns-in-Ok-None-clause-others
returns-in-Ok-None-clause-others g c = others_told _ _ _ _ _ c.next_in.ensures (put_at_end _ _ _ _ _ _ c.requires.1 c.next_in.ensures c.end-in-Ok-None.ensures.open).one

pub returns-in-Ok-Some-clause-given : goal.returns-in-Ok-Some-clause-given
returns-in-Ok-Some-clause-given g c = gives _ _ _ _ _ _ _ _ _ _ _ _ _ (sym c.if-is_at_end.ensures) c.next_in.ensures c.count.ensures (λ full. false≢true (c.if-is_full.ensures.1 full))

pub returns-in-Ok-Some-clause-others : goal.returns-in-Ok-Some-clause-others
returns-in-Ok-Some-clause-others g c = λ k apart. counted_told _ _ _ _ c.next_in.ensures c.count.ensures k

pub returns-in-Err-NoMemory-clause-others : goal.returns-in-Err-NoMemory-clause-others
returns-in-Err-NoMemory-clause-others g c = λ k apart. told_each _ _ _ c.next_in.ensures k

pub returns-in-Err-Entry-clause-failed : goal.returns-in-Err-Entry-clause-failed
returns-in-Err-Entry-clause-failed g c = λ failed.
    let given = gives _ _ _ _ _ _ _ _ _ _ _ _ _ (sym c.if-is_at_end.ensures) c.next_in.ensures c.count-in-Err-Entry.ensures (λ full. false≢true (c.if-is_full.ensures.1 full)) in
    record { left = given.left; was = given.was; outcome = inl (given.rest, given.passes) }

pub returns-in-Err-Entry-clause-others : goal.returns-in-Err-Entry-clause-others
returns-in-Err-Entry-clause-others g c = λ k apart. counted_told _ _ _ _ c.next_in.ensures c.count-in-Err-Entry.ensures k

pub returns-in-Err-List-clause-failed : goal.returns-in-Err-List-clause-failed
returns-in-Err-List-clause-failed g c = λ failed.
    let was = unfinished_told _ _ (sym c.if-is_at_end.ensures) in
    let ended = put_at_end _ _ _ _ _ _ c.requires.1 c.next_in.ensures c.end-in-Err-List.ensures.open in
    record { left = was.0; was = was.1; outcome = inr (ends _ _ _ _ _ _ _ _ _ _ _ _ _ c.next_in.ensures ended) }

pub returns-in-Err-List-clause-others : goal.returns-in-Err-List-clause-others
returns-in-Err-List-clause-others g c = others_told _ _ _ _ _ c.next_in.ensures (put_at_end _ _ _ _ _ _ c.requires.1 c.next_in.ensures c.end-in-Err-List.ensures.open).one
