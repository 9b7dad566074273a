use Rattle.std.proofs.Common.{rules, ◌≡◌, ◌+◌, ◌++◌, ◌∷◌, [], vec_len, refl, ap, ◌∙◌, arith}
use Rattle.std.proofs.lemmas.List.Elements.{All-nil, All-push, All-same}
use Rattle.walk_rest.specs.declared.entry.DirEntry.{DirEntry}
use Rattle.walk_rest.proofs.read.ReadLemmas.{left_nothing, read_failed, still_open, added_none, added_one, taken_over, passed_over, later_over, passed_given, given_in_time, later_refused, read_one}
use Rattle.walk_rest.proofs.read.read_list.Goals as goal

pub loop-entries-init : goal.loop-entries-init
loop-entries-init g c = record {
  is_open = c.requires.open;
  others = λ k apart. refl;
  same_open = record { open_count = refl; open_most = refl };
  tree = record { tree = refl; clock = refl; outcomes = refl };
  faults = omega arith;
  taken = let e = c.new-entries.ensures.len in omega (arith, e);
  passed = let e = c.new-entries.ensures.len in omega (arith, e);
  depth = rw c.new-entries.ensures.items (All-nil _);
  later = omega arith;
  due = added_none _ _ _ refl;
  read = λ tells. left_nothing c.args.folder.now (g.D.Disk.state c.args.disk.now) c.args.list.number c.args.faults.now.items _ c.new-entries.ensures.items;
}

pub loop-entries-preserved : goal.loop-entries-preserved
loop-entries-preserved g c =
    let h = c.loop-entries.invariant in
    let n = c.next_entry.ensures in
    let failed = rw c.in-Err-Failed.field-0-is at c.in-Err-Failed.is in
    let over = n.failed failed in
    record {
      is_open = still_open (g.D.Disk.state c.loop-entries.disk) _ _ over;
      others = λ k apart. n.others k apart ∙ h.others k apart;
      same_open = record { open_count = n.open.open_count ∙ h.same_open.open_count; open_most = n.open.open_most ∙ h.same_open.open_most };
      tree = record { tree = n.tree.tree ∙ h.tree.tree; clock = n.tree.clock ∙ h.tree.clock; outcomes = n.tree.outcomes ∙ h.tree.outcomes };
      faults = let a = n.cause.never_falls in let b = h.faults in omega (arith, a, b);
      taken = taken_over (g.D.Disk.state c.args.disk.now) (g.D.Disk.state c.loop-entries.disk) (g.D.Disk.state c.next_entry.new.self) c.args.list.number _ h.taken over;
      passed = passed_over _ (g.D.Disk.state c.args.disk.now) (g.D.Disk.state c.loop-entries.disk) (g.D.Disk.state c.next_entry.new.self) c.args.list.number _ c.args.faults.now.items c.loop-entries.faults.items _ _ h.passed over (λ full. n.full_ends full failed) c.in_ok-push-in-Err-Failed.ensures.items;
      depth = h.depth;
      later = let a = h.later in let b = later_over (g.D.Disk.state c.loop-entries.disk) _ _ over in omega (arith, a, b);
      due = added_one (g.D.Disk.state c.args.disk.now) (g.D.Disk.state c.loop-entries.disk) (g.D.Disk.state c.next_entry.new.self) c.args.faults.now.items c.loop-entries.faults.items _ _
          n.cause.never_falls (n.cause.failed failed) c.in_ok-push-in-Err-Failed.ensures.items h.due;
      read = λ tells.
          read_failed c.args.folder.now (g.D.Disk.state c.args.disk.now) (g.D.Disk.state c.loop-entries.disk) (g.D.Disk.state c.next_entry.new.self) c.args.list.number
          c.args.faults.now.items c.loop-entries.faults.items _ _ _ (h.read tells) over (n.passed_over tells failed) n.cause.never_falls (n.cause.failed failed)
          c.in_ok-push-in-Err-Failed.ensures.items refl;
    }

pub loop-entries-preserved-in_ok-push-in-Ok-Some : goal.loop-entries-preserved-in_ok-push-in-Ok-Some
loop-entries-preserved-in_ok-push-in-Ok-Some g c =
    let h = c.loop-entries.invariant in
    let n = c.in-Ok-Some.ensures in
    let old = g.D.Disk.state c.args.disk.now in
    let now = g.D.Disk.state c.loop-entries.disk in
    let new = g.D.Disk.state c.next_entry.new.self in
    let gives = rw c.in-Ok-Some.field-0-is at n.given in
    record {
      is_open = search rules;
      others = search rules;
      same_open = search rules;
      tree = search rules;
      faults = search rules;
      taken = search rules;
      passed = passed_given _ old now new c.args.list.number (vec_len c.loop-entries.entries) _ c.args.faults.now.items c.loop-entries.faults.items h.passed gives (λ full. given_in_time (n.full full (_, gives.was))) c.in_ok-push-in-Ok-Some.ensures.len;
      depth =
          (let P : DirEntry → Type 0 = λ entry. entry.depth ≡ c.args.folder.now.depth + 1 in
          let taken = c.in_ok-entry_of-in-Ok-Some.field-0 in
          let is : P taken = ap (λ (entry : DirEntry). entry.depth) c.in_ok-entry_of-in-Ok-Some.ensures in
          All-same P c.push.new.self.items (c.loop-entries.entries.items ++ taken ∷ []) c.in_ok-push-in-Ok-Some.ensures.items (All-push P c.loop-entries.entries.items taken h.depth is));
      later = let a = h.later in let b = gives.passes.listed in omega (arith, a, b);
      due = search rules;
      read = λ tells.
          read_one c.args.folder.now old now new c.args.list.number c.args.faults.now.items c.loop-entries.faults.items c.loop-entries.entries.items _ c.in-Ok-Some.raw
          c.in_ok-entry_of-in-Ok-Some.field-0 (h.read tells) (rw c.in-Ok-Some.field-0-is at (n.next tells)) gives.passes.listed n.cause.never_falls c.in_ok-entry_of-in-Ok-Some.ensures
          c.in_ok-push-in-Ok-Some.ensures.items;
    }

pub returns-in-Ok-None-clause-passed : goal.returns-in-Ok-None-clause-passed
returns-in-Ok-None-clause-passed g c = let h = c.loop-entries.invariant.passed in let e = rw c.in-Ok-None.field-0-is at c.in-Ok-None.ensures.ended in let same = e.listed in omega (arith, h, same)

pub returns-in-Ok-None-clause-depth : goal.returns-in-Ok-None-clause-depth
returns-in-Ok-None-clause-depth g c = c.loop-entries.invariant.depth

pub returns-in-Ok-None-clause-later : goal.returns-in-Ok-None-clause-later
returns-in-Ok-None-clause-later g c = let h = c.loop-entries.invariant.later in let e = rw c.in-Ok-None.field-0-is at c.in-Ok-None.ensures.ended in let same = e.listed in omega (arith, h, same)

pub returns-in_err-push-in-Err-Failed-clause-later : goal.returns-in_err-push-in-Err-Failed-clause-later
returns-in_err-push-in-Err-Failed-clause-later g c =
    let h = c.loop-entries.invariant.later in
    let failed = rw c.in-Err-Failed.field-0-is at c.in-Err-Failed.is in
    let more = later_over _ _ _ (c.next_entry.ensures.failed failed) in
    omega (arith, h, more)

pub returns-in-Err : goal.returns-in-Err
returns-in-Err g c = record {
  read = λ tells. tt;
  taken = tt;
  passed = tt;
  depth = tt;
  due = tt;
  is_open = search rules;
  others = search rules;
  «open» = search rules;
  tree = search rules;
  faults = search rules;
  later = (let h = c.loop-entries.invariant.later in let n = c.next_entry.ensures in let more = later_refused (g.D.Disk.state c.loop-entries.disk) (g.D.Disk.state c.next_entry.new.self) c.args.list.number c.next_entry.result _ c.in-Err.is n.not_absent n.not_taken n.failed n.no_memory in omega (arith, h, more));
}
