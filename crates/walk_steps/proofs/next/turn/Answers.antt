use Rattle.std.proofs.Common.{inr, sym, ◌∙◌, arith}
use Rattle.walk_steps.specs.Inside.{with_top}
use Rattle.walk_steps.proofs.leave.WithinLemmas.{keeps_on}
use Rattle.walk_steps.proofs.next.StepLemmas.{unread_of}
use Rattle.walk_steps.proofs.next.TurnLemmas.{error_given, turns_on}
use Rattle.walk_steps.proofs.next.turn.Goals as goal

pub returns-then-is_read-clause-listed_once : goal.returns-then-is_read-clause-listed_once
returns-then-is_read-clause-listed_once g c = λ unsorted gives room. c.take_due.ensures.listed_once

pub read_level-requires-clause-unread : goal.read_level-requires-clause-unread
read_level-requires-clause-unread g c = unread_of c.args.level.entries (λ r. let e = sym c.if-is_read.false ∙ c.is_read.ensures.1 r in cc e)

pub returns-in_err-failed-clause-listed_once : goal.returns-in_err-failed-clause-listed_once
returns-in_err-failed-clause-listed_once g c = λ unsorted gives room. let a = c.read_level.ensures.unlisted unsorted room in omega (arith, a)

pub returns-in-Some-clause-turns : goal.returns-in-Some-clause-turns
returns-in-Some-clause-turns g c = record {
  part = rw c.in-Some.is at c.in_ok-failed.ensures.reads;
  progress = inr (inr (inr (error_given c.in-Some.failed (rw c.in-Some.is at c.in_ok-failed.ensures.failed))));
}

pub returns-in-Some-clause-listed_once : goal.returns-in-Some-clause-listed_once
returns-in-Some-clause-listed_once g c = λ unsorted gives room. let a = c.read_level.ensures.unlisted unsorted room in omega (arith, a)

pub take_top-requires-clause-sound : goal.take_top-requires-clause-sound
take_top-requires-clause-sound g c = c.in_ok-failed.ensures.reads.sound

pub returns-in-None-clause-turns : goal.returns-in-None-clause-turns
returns-in-None-clause-turns g c =
    turns_on g.D.Disk.tells g.S.Order.sorts g.S.Order.compares_by (g.D.Disk.state c.args.disk.now) (g.D.Disk.state c.read_level.new.disk) (g.D.Disk.state c.take_top.new.disk)
    (with_top c.args.inside.now c.args.level) c.read_level.new.inside c.take_top.new.inside c.take_top.result c.in_ok-failed.ensures.read c.read_level.ensures.keeps c.in_ok-failed.ensures.kept
    c.take_top.ensures.keeps.faults (rw c.in-None.is at c.in_ok-failed.ensures.reads) c.take_top.ensures.turns

pub returns-in-None-clause-keeps : goal.returns-in-None-clause-keeps
returns-in-None-clause-keeps g c =
    keeps_on (g.D.Disk.state c.args.disk.now) (g.D.Disk.state c.read_level.new.disk) (g.D.Disk.state c.take_top.new.disk) (with_top c.args.inside.now c.args.level) c.read_level.new.inside c.take_top.new.inside
    c.read_level.ensures.keeps c.take_top.ensures.keeps

pub returns-in-None-clause-listed_once : goal.returns-in-None-clause-listed_once
returns-in-None-clause-listed_once g c = λ unsorted gives room. let a = c.read_level.ensures.unlisted unsorted room in let b = c.take_top.ensures.listed_once in omega (arith, a, b)
