use Rattle.hir_program.proofs.scan.Scan.new.Goals as goal

pub returns : goal.returns
returns c =
    let before = rw c.in-Some.is at c.in_ok-scan.ensures in
    record {
      few = before.few;
      takers = before.takers;
      takes = before.takes;
      takes_no_more = before.takes_no_more;
      follows = before.follows;
      moves = before.moves;
      wide = before.wide;
      start = before.start;
      firsts = before.firsts;
      own = before.own;
      first = before.first;
      loops = c.in_ok-scan-2.ensures;
      entry = before.entry;
      prefilter = before.prefilter;
    }
