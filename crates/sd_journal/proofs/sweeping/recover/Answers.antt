use Rattle.std.proofs.Common.{ap, refl}
use Rattle.std.specs.Prelude.{Ok, Err}
use Rattle.sd_journal.proofs.sweeping.recover.Goals as goal

pub returns-in-Err : goal.returns-in-Err
returns-in-Err g c = record {
  answer = Err c.in-Err.fault;
  recovers = record {
    kept = c.recover.ensures.kept;
    recovered = c.in-Err.ensures.recovered;
    readable = c.in-Err.ensures.readable;
    counts = c.in-Err.ensures.answer;
    fails = c.in-Err.ensures.fails;
    unwritten = c.in-Err.ensures.unwritten;
    gone = c.in-Err.ensures.gone;
    complete = c.in-Err.ensures.complete;
    lists = c.recover.ensures.lists;
    never_falls = c.recover.ensures.never_falls;
  };
  told = ap Err c.of_change.ensures;
}

pub returns-in-Ok : goal.returns-in-Ok
returns-in-Ok g c = record {
  answer = Ok c.in-Ok.files;
  recovers = record {
    kept = c.recover.ensures.kept;
    recovered = c.in-Ok.ensures.recovered;
    readable = c.in-Ok.ensures.readable;
    counts = c.in-Ok.ensures.answer;
    fails = c.in-Ok.ensures.fails;
    unwritten = c.in-Ok.ensures.unwritten;
    gone = c.in-Ok.ensures.gone;
    complete = c.in-Ok.ensures.complete;
    lists = c.recover.ensures.lists;
    never_falls = c.recover.ensures.never_falls;
  };
  told = refl;
}
