use Rattle.std.proofs.Common.{rules, arith}
use Rattle.journal.proofs.FindingLemmas.{found_there, read_on, none_there, same_name, other_name}
use Rattle.journal.proofs.finding.find_in.Goals as goal

pub returns-in_default-clause-found : goal.returns-in_default-clause-found
returns-in_default-clause-found g c =
    λ told folder lists.
    let to = c.loop-entry.invariant.read told folder lists in
    none_there _ folder c.args.name.now c.args.list.number (g.D.Disk.state c.loop-entry.disk) (g.met.D.Disk.is_tree c.args.disk.now told) to
    (rw c.in_default.is at (c.in_ok-entry.ensures.none_left told))

pub returns-then-eq-clause-found : goal.returns-then-eq-clause-found
returns-then-eq-clause-found g c =
    λ told folder lists.
    let to = c.loop-entry.invariant.read told folder lists in
    found_there _ folder c.args.name.now c.args.list.number (g.D.Disk.state c.loop-entry.disk) (g.D.Disk.state c.next_entry.new.self) to c.in-Some.entry
    (rw c.in-Some.is at (c.in_ok-entry.ensures.next told)) (same_name _ _ _ c.as_str.ensures.same c.if-eq.ensures)

pub loop-entry-preserved : goal.loop-entry-preserved
loop-entry-preserved g c =
    let gives = rw c.in-Some.is at c.in_ok-entry.ensures.given in
    record {
      is_open = (_, gives.passes.now);
      others = search rules;
      same_open = search rules;
      tree = search rules;
      faults = search rules;
      later = let a = c.loop-entry.invariant.later in let b = gives.passes.listed in omega (arith, a, b);
      read = λ told folder lists.
          let to = c.loop-entry.invariant.read told folder lists in
          read_on _ folder c.args.name.now c.args.list.number (g.D.Disk.state c.loop-entry.disk) (g.D.Disk.state c.next_entry.new.self) to c.in-Some.entry
          (rw c.in-Some.is at (c.in_ok-entry.ensures.next told)) (other_name _ _ _ c.as_str.ensures.same c.if-eq.ensures);
    }
