use Rattle.std.proofs.Common.{List, ◌≡◌, true, inl, inr, refl, ◌∙◌, ap, sym, subst, arith}
use Rattle.std.specs.Prelude.{IsTrue, is_some}
use Rattle.sd_io.specs.Tree.{Tree}
use Rattle.sd_io.specs.Paths.{reached}
use Rattle.file_exchange.proofs.CauseLemmas.{risen_since}
use Rattle.sd_io.specs.Lists.{IsNoDirectory, directory_of}
use Rattle.sd_course.specs.Course.{course}
use Rattle.journal.specs.Faults.{WantsMemory}
use Rattle.journal.specs.declared.fault.JournalFault.TheVariants as fault
use Rattle.journal.specs.Clearing.{LeavesNoMore}
use Rattle.journal_text.specs.declared.line.Line.{Line}
use Rattle.journal.specs.Finishing.{StagesAreGone}
use Rattle.journal.specs.Reading.{NoneStands, JournalStands}
use Rattle.journal.specs.Recovering.{IsMisread, RecoverFails, IsBeforeWriting, HaveFreeNames}
use Rattle.journal.proofs.FindingLemmas.{look_refused}
use Rattle.journal.proofs.ClearingLemmas.{no_more_same}
use Rattle.journal.proofs.ReadingLemmas.{refused_as, is_directory_there, leads_somewhere, look_fails, all_same}
use Rattle.journal.proofs.RecoveringLemmas.{recover_same, between_on, same_trees, no_directory, kept_on, whole_on, paths_on, is_not_other, placing_on, read_right, no_folder, none_and_one, one_journal, missing_since, fails_since, no_more_on, before_writing, line_cause_since, told_as, root_leads_now, answered, new_at_the_end}
use Rattle.journal.proofs.CarryingLemmas.{journal_there, none_left, gone_there, root_memory, look_memory, recover_memory, only_memory}
use Rattle.journal.proofs.recovering.recover.Goals as goal

pub returns-in_err-is_directory-clause-kept : goal.returns-in_err-is_directory-clause-kept
returns-in_err-is_directory-clause-kept g c =
    λ told work m. recover_same work c.args.root.now (g.D.Disk.state c.args.disk.now) (g.D.Disk.state c.is_directory.new.disk) m c.is_directory.ensures.tree

pub returns-then-not-branch-clause-kept : goal.returns-then-not-branch-clause-kept
returns-then-not-branch-clause-kept g c =
    λ told work m. recover_same work c.args.root.now (g.D.Disk.state c.args.disk.now) (g.D.Disk.state c.is_directory.new.disk) m c.is_directory.ensures.tree

pub returns-then-not-branch-clause-recovered : goal.returns-then-not-branch-clause-recovered
returns-then-not-branch-clause-recovered g c =
    λ told work m.
    absurd (no_directory work c.args.root.now (g.D.Disk.state c.args.disk.now) c.in_ok-is_directory.field-0 (g.met.D.Disk.holds_present c.args.disk.now told) m
    (c.in_ok-is_directory.ensures.kind told) c.if-not-branch.true)

pub returns-in_err-sync_dir-clause-kept : goal.returns-in_err-sync_dir-clause-kept
returns-in_err-sync_dir-clause-kept g c =
    λ told work m.
    let s = g.D.Disk.state c.args.disk.now in
    let s1 = g.D.Disk.state c.is_directory.new.disk in
    let s2 = g.D.Disk.state c.sync_dir.new.self in
    recover_same work c.args.root.now s s2 m (same_trees s s1 s2 c.is_directory.ensures.tree c.in_err-sync_dir.ensures.refused)

pub returns-in_err-standing-clause-kept : goal.returns-in_err-standing-clause-kept
returns-in_err-standing-clause-kept g c =
    λ told work m.
    let s = g.D.Disk.state c.args.disk.now in
    let s1 = g.D.Disk.state c.is_directory.new.disk in
    let s2 = g.D.Disk.state c.sync_dir.new.self in
    let holds = g.met.D.Disk.holds_present c.is_directory.new.disk told in
    let y = c.in_ok-sync_dir.ensures.synced told in
    kept_on work c.args.root.now s s1 s2 m c.is_directory.ensures.tree holds y (g.D.Disk.state c.read_in_root.new.disk) (c.read_in_root.ensures.tree told)

pub returns-in_err-standing-clause-readable : goal.returns-in_err-standing-clause-readable
returns-in_err-standing-clause-readable g c =
    λ told work m.
    let root = c.args.root.now in
    let s = g.D.Disk.state c.args.disk.now in
    let s1 = g.D.Disk.state c.is_directory.new.disk in
    let s2 = g.D.Disk.state c.sync_dir.new.self in
    let s3 = g.D.Disk.state c.read_in_root.new.disk in
    let holds = g.met.D.Disk.holds_present c.is_directory.new.disk told in
    let y = c.in_ok-sync_dir.ensures.synced told in
    let same = c.is_directory.ensures.tree in
    refused_as (λ f. IsMisread f → ⊥) c.from_residual-in_err-standing.result c.in_err-standing.field-0.0 c.from_residual-in_err-standing.ensures.1
    (read_right work root s2 s3 g.D.Disk.tells told (g.met.D.Disk.is_tree c.sync_dir.new.self told) (g.met.D.Disk.holds_present c.sync_dir.new.self told)
    (is_not_other work root s s1 s2 m same holds y) (λ lines stands. placing_on work root s s1 s2 m same holds y lines stands s2 (record { tree = refl; clock = refl; outcomes = refl }))
    c.in_err-standing.field-0.0 c.in_err-standing.ensures.fails)

pub returns-in_default-clause-kept : goal.returns-in_default-clause-kept
returns-in_default-clause-kept g c =
    λ told work m.
    let s = g.D.Disk.state c.args.disk.now in
    let s1 = g.D.Disk.state c.is_directory.new.disk in
    let s2 = g.D.Disk.state c.sync_dir.new.self in
    let holds = g.met.D.Disk.holds_present c.is_directory.new.disk told in
    let y = c.in_ok-sync_dir.ensures.synced told in
    kept_on work c.args.root.now s s1 s2 m c.is_directory.ensures.tree holds y (g.D.Disk.state c.read_in_root.new.disk) (c.read_in_root.ensures.tree told)

pub returns-in_default-clause-recovered : goal.returns-in_default-clause-recovered
returns-in_default-clause-recovered g c =
    λ told work m.
    let s = g.D.Disk.state c.args.disk.now in
    let s1 = g.D.Disk.state c.is_directory.new.disk in
    let s2 = g.D.Disk.state c.sync_dir.new.self in
    let holds = g.met.D.Disk.holds_present c.is_directory.new.disk told in
    let y = c.in_ok-sync_dir.ensures.synced told in
    whole_on work c.args.root.now s s1 s2 m c.is_directory.ensures.tree holds y (g.D.Disk.state c.read_in_root.new.disk) (g.met.D.Disk.holds_present c.sync_dir.new.self told)
    (c.read_in_root.ensures.tree told) (rw c.in_default.is at (c.in_ok-standing.ensures.read told))

pub returns-in_err-map_err-clause-kept : goal.returns-in_err-map_err-clause-kept
returns-in_err-map_err-clause-kept g c =
    λ told work m.
    let root = c.args.root.now in
    let s = g.D.Disk.state c.args.disk.now in
    let s1 = g.D.Disk.state c.is_directory.new.disk in
    let s2 = g.D.Disk.state c.sync_dir.new.self in
    let s3 = g.D.Disk.state c.read_in_root.new.disk in
    let s4 = g.D.Disk.state c.finish.new.disk in
    let holds = g.met.D.Disk.holds_present c.is_directory.new.disk told in
    let y = c.in_ok-sync_dir.ensures.synced told in
    let same = c.is_directory.ensures.tree in
    let now = c.read_in_root.ensures.tree told in
    let (all, path_is) = rw c.in-Some.is at (c.in_ok-standing.ensures.read told) in
    let paths = paths_on work root s s1 s2 m same holds y all.journal.folder all.journal.leads c.as_str-path.result.now (c.as_str-path.ensures.same ∙ path_is) in
    let placing = placing_on work root s s1 s2 m same holds y c.in-Some.standing.journal all.journal s3 now in
    between_on work s s3 s4 (kept_on work root s s1 s2 m same holds y s3 now) (c.finish.ensures.kept told work paths placing)

pub returns-clause-kept : goal.returns-clause-kept
returns-clause-kept g c =
    λ told work m.
    let root = c.args.root.now in
    let s = g.D.Disk.state c.args.disk.now in
    let s1 = g.D.Disk.state c.is_directory.new.disk in
    let s2 = g.D.Disk.state c.sync_dir.new.self in
    let s3 = g.D.Disk.state c.read_in_root.new.disk in
    let s4 = g.D.Disk.state c.finish.new.disk in
    let holds = g.met.D.Disk.holds_present c.is_directory.new.disk told in
    let y = c.in_ok-sync_dir.ensures.synced told in
    let same = c.is_directory.ensures.tree in
    let now = c.read_in_root.ensures.tree told in
    let (all, path_is) = rw c.in-Some.is at (c.in_ok-standing.ensures.read told) in
    let paths = paths_on work root s s1 s2 m same holds y all.journal.folder all.journal.leads c.as_str-path.result.now (c.as_str-path.ensures.same ∙ path_is) in
    let placing = placing_on work root s s1 s2 m same holds y c.in-Some.standing.journal all.journal s3 now in
    between_on work s s3 s4 (kept_on work root s s1 s2 m same holds y s3 now) (c.finish.ensures.kept told work paths placing)

pub returns-clause-recovered : goal.returns-clause-recovered
returns-clause-recovered g c =
    λ told work m.
    let root = c.args.root.now in
    let s = g.D.Disk.state c.args.disk.now in
    let s1 = g.D.Disk.state c.is_directory.new.disk in
    let s2 = g.D.Disk.state c.sync_dir.new.self in
    let s3 = g.D.Disk.state c.read_in_root.new.disk in
    let s4 = g.D.Disk.state c.finish.new.disk in
    let holds = g.met.D.Disk.holds_present c.is_directory.new.disk told in
    let y = c.in_ok-sync_dir.ensures.synced told in
    let same = c.is_directory.ensures.tree in
    let now = c.read_in_root.ensures.tree told in
    let (all, path_is) = rw c.in-Some.is at (c.in_ok-standing.ensures.read told) in
    let paths = paths_on work root s s1 s2 m same holds y all.journal.folder all.journal.leads c.as_str-path.result.now (c.as_str-path.ensures.same ∙ path_is) in
    let placing = placing_on work root s s1 s2 m same holds y c.in-Some.standing.journal all.journal s3 now in
    let cleared = answered _ c.finish.result c.map_err.result _ c.map_err.ensures.cases c.in_ok-map_err.was (c.finish.ensures.done told work paths placing) in
    inr (new_at_the_end work c.in-Some.standing.journal s4 (g.met.D.Disk.holds_present c.finish.new.disk told) cleared)

pub returns-then-not-branch-clause-carried_out : goal.returns-then-not-branch-clause-carried_out
returns-then-not-branch-clause-carried_out g c =
    λ told work m lines stands.
    absurd (no_directory work c.args.root.now (g.D.Disk.state c.args.disk.now) c.in_ok-is_directory.field-0 (g.met.D.Disk.holds_present c.args.disk.now told) m
    (c.in_ok-is_directory.ensures.kind told) c.if-not-branch.true)

pub returns-in_default-clause-carried_out : goal.returns-in_default-clause-carried_out
returns-in_default-clause-carried_out g c =
    λ told work m lines stands.
    let root = c.args.root.now in
    let s = g.D.Disk.state c.args.disk.now in
    let same = (c.in_ok-sync_dir.ensures.synced told).tree ∙ c.is_directory.ensures.tree.tree in
    absurd (none_and_one s.tree root lines (subst (λ (t : Tree). NoneStands t root) same (rw c.in_default.is at (c.in_ok-standing.ensures.read told))) stands)

pub returns-clause-carried_out : goal.returns-clause-carried_out
returns-clause-carried_out g c =
    λ told work m lines stands.
    let root = c.args.root.now in
    let s = g.D.Disk.state c.args.disk.now in
    let s1 = g.D.Disk.state c.is_directory.new.disk in
    let s2 = g.D.Disk.state c.sync_dir.new.self in
    let s3 = g.D.Disk.state c.read_in_root.new.disk in
    let s4 = g.D.Disk.state c.finish.new.disk in
    let holds = g.met.D.Disk.holds_present c.is_directory.new.disk told in
    let y = c.in_ok-sync_dir.ensures.synced told in
    let same = c.is_directory.ensures.tree in
    let now = c.read_in_root.ensures.tree told in
    let own = c.in-Some.standing.journal in
    let (all, path_is) = rw c.in-Some.is at (c.in_ok-standing.ensures.read told) in
    let paths = paths_on work root s s1 s2 m same holds y all.journal.folder all.journal.leads c.as_str-path.result.now (c.as_str-path.ensures.same ∙ path_is) in
    let placing = placing_on work root s s1 s2 m same holds y own all.journal s3 now in
    let cleared = answered _ c.finish.result c.map_err.result _ c.map_err.ensures.cases c.in_ok-map_err.was (c.finish.ensures.done told work paths placing) in
    let gone = answered _ c.finish.result c.map_err.result _ c.map_err.ensures.cases c.in_ok-map_err.was (c.finish.ensures.stages told work paths placing) in
    let here = one_journal s2.tree root own lines all.journal (subst (λ (t : Tree). JournalStands t root lines) (sym (y.tree ∙ same.tree)) stands) in
    record {
      files = new_at_the_end work own s4 (g.met.D.Disk.holds_present c.finish.new.disk told) cleared;
      stages = subst (λ (ls : List Line). StagesAreGone ls s4) here gone;
    }

-- ---- what is answered

pub returns-then-not-branch-clause-answer : goal.returns-then-not-branch-clause-answer
returns-then-not-branch-clause-answer g c =
    λ told.
    let s = g.D.Disk.state c.args.disk.now in
    let none = no_folder s.tree c.args.root.now c.in_ok-is_directory.field-0 (g.met.D.Disk.is_tree c.args.disk.now told) (c.in_ok-is_directory.ensures.leads told)
    (c.in_ok-is_directory.ensures.kind told) c.if-not-branch.true in
    inl (none, refl, no_more_same s (g.D.Disk.state c.is_directory.new.disk) c.is_directory.ensures.tree)

pub returns-in_default-clause-answer : goal.returns-in_default-clause-answer
returns-in_default-clause-answer g c =
    λ told.
    let root = c.args.root.now in
    let s = g.D.Disk.state c.args.disk.now in
    let s1 = g.D.Disk.state c.is_directory.new.disk in
    let s2 = g.D.Disk.state c.sync_dir.new.self in
    let s3 = g.D.Disk.state c.read_in_root.new.disk in
    let y = c.in_ok-sync_dir.ensures.synced told in
    let same = c.is_directory.ensures.tree in
    let none = subst (λ (t : Tree). NoneStands t root) (y.tree ∙ same.tree) (rw c.in_default.is at (c.in_ok-standing.ensures.read told)) in
    inl (none, refl, no_more_on s s1 s2 s3 root same (g.met.D.Disk.holds_present c.is_directory.new.disk told) y (c.read_in_root.ensures.tree told))

pub returns-clause-answer : goal.returns-clause-answer
returns-clause-answer g c =
    λ told.
    let root = c.args.root.now in
    let s = g.D.Disk.state c.args.disk.now in
    let s2 = g.D.Disk.state c.sync_dir.new.self in
    let y = c.in_ok-sync_dir.ensures.synced told in
    let same = c.is_directory.ensures.tree in
    let lines = c.in-Some.standing.journal in
    let (all, path_is) = rw c.in-Some.is at (c.in_ok-standing.ensures.read told) in
    inr (lines, all_same s.tree s2.tree root lines (y.tree ∙ same.tree) all, c.len.ensures)

-- ---- why it is refused

pub returns-in_err-is_directory-clause-fails : goal.returns-in_err-is_directory-clause-fails
returns-in_err-is_directory-clause-fails g c =
    let root = c.args.root.now in
    let s = g.D.Disk.state c.args.disk.now in
    let s1 = g.D.Disk.state c.is_directory.new.disk in
    refused_as _ c.from_residual.result _ c.from_residual.ensures.1 (missing_since g.D.Disk.tells s s1 root c.in_err-is_directory.field-0.0 c.in_err-is_directory.ensures.fails)

pub returns-in_err-sync_dir-clause-fails : goal.returns-in_err-sync_dir-clause-fails
returns-in_err-sync_dir-clause-fails g c =
    let root = c.args.root.now in
    let s = g.D.Disk.state c.args.disk.now in
    let s1 = g.D.Disk.state c.is_directory.new.disk in
    let s2 = g.D.Disk.state c.sync_dir.new.self in
    let f = c.in_err-sync_dir.field-0.0 in
    refused_as _ c.from_residual-in_err-sync_dir.result _ c.from_residual-in_err-sync_dir.ensures.1
    (look_fails g.D.Disk.tells s s1 s2 root (IsNoDirectory s1 root) c.is_directory.ensures.never_falls
    (λ told none. is_directory_there s.tree root ((c.in_ok-is_directory.ensures.kind told).0 c.if-not-branch.false) (ap (λ (t : Tree). directory_of t root) (sym c.is_directory.ensures.tree.tree) ∙ none))
    f (look_refused g.D.Disk.tells s1 s2 (IsNoDirectory s1 root) f c.in_err-sync_dir.ensures.absent c.in_err-sync_dir.ensures.not_taken c.in_err-sync_dir.ensures.cause))

pub returns-in_err-standing-clause-fails : goal.returns-in_err-standing-clause-fails
returns-in_err-standing-clause-fails g c =
    let root = c.args.root.now in
    let s = g.D.Disk.state c.args.disk.now in
    let s2 = g.D.Disk.state c.sync_dir.new.self in
    let low = c.is_directory.ensures.never_falls in
    let low_then = c.in_ok-sync_dir.ensures.cause.never_falls in
    refused_as _ c.from_residual-in_err-standing.result _ c.from_residual-in_err-standing.ensures.1
    (fails_since g.D.Disk.tells s s2 (g.D.Disk.state c.read_in_root.new.disk) root (λ told. (c.in_ok-sync_dir.ensures.synced told).tree ∙ c.is_directory.ensures.tree.tree)
    (omega (arith, low, low_then)) (c.in_ok-sync_dir.ensures.lists.listed ∙ c.is_directory.ensures.lists.listed)
    c.in_err-standing.field-0.0 c.in_err-standing.ensures.fails)

pub returns-in_err-map_err-clause-fails : goal.returns-in_err-map_err-clause-fails
returns-in_err-map_err-clause-fails g c =
    let root = c.args.root.now in
    let s = g.D.Disk.state c.args.disk.now in
    let s2 = g.D.Disk.state c.sync_dir.new.self in
    let lines = c.in-Some.standing.journal in
    let rose = rw c.in-Some.is at c.in_ok-standing.ensures.listed in
    let read_if = rw c.in-Some.is at c.in_ok-standing.ensures.read in
    let to_looked = c.is_directory.ensures.lists.listed in
    let to_synced = c.in_ok-sync_dir.ensures.lists.listed in
    let to_finished = c.finish.ensures.lists.listed in
    let s3 = g.D.Disk.state c.read_in_root.new.disk in
    let same : IsTrue g.D.Disk.tells → s2.tree ≡ s.tree = λ told. (c.in_ok-sync_dir.ensures.synced told).tree ∙ c.is_directory.ensures.tree.tree in
    let low = c.is_directory.ensures.never_falls in
    let low_then = c.in_ok-sync_dir.ensures.cause.never_falls in
    let low_last = c.read_in_root.ensures.never_falls in
    refused_as _ c.from_residual-in_err-map_err.result _ c.from_residual-in_err-map_err.ensures.1
    (told_as fault.Unfinished (RecoverFails (course g.D.Disk.tells s (g.D.Disk.state c.finish.new.disk)) root) c.finish.result c.map_err.result c.in_err-map_err.field-0.0 c.map_err.ensures.cases c.in_err-map_err.was
    (λ job is. record {
      found = omega (arith, rose, to_looked, to_synced, to_finished);
      lines = lines;
      stand = λ told. all_same s.tree s2.tree root lines (same told) (read_if told).0;
      cause = line_cause_since g.D.Disk.tells s s3 (g.D.Disk.state c.finish.new.disk) lines (λ told. (c.read_in_root.ensures.tree told).tree ∙ same told) (omega (arith, low, low_then, low_last))
          job (rw is at (c.finish.ensures.fails (λ told.
          let (all, path_is) = read_if told in (
            _,
            journal_there s2.tree s3.tree root c.as_str-path.result.now lines (c.read_in_root.ensures.tree told).tree (g.met.D.Disk.is_tree c.sync_dir.new.self told) all
                (c.as_str-path.ensures.same ∙ path_is),
          ))));
    }))

-- ---- nothing was written

pub returns-in_err-is_directory-clause-unwritten : goal.returns-in_err-is_directory-clause-unwritten
returns-in_err-is_directory-clause-unwritten g c =
    λ told.
    let s = g.D.Disk.state c.args.disk.now in
    let s1 = g.D.Disk.state c.is_directory.new.disk in
    before_writing s s1 c.from_residual.result (no_more_same s s1 c.is_directory.ensures.tree)

pub returns-in_err-sync_dir-clause-unwritten : goal.returns-in_err-sync_dir-clause-unwritten
returns-in_err-sync_dir-clause-unwritten g c =
    λ told.
    let s = g.D.Disk.state c.args.disk.now in
    let s1 = g.D.Disk.state c.is_directory.new.disk in
    let s2 = g.D.Disk.state c.sync_dir.new.self in
    before_writing s s2 c.from_residual-in_err-sync_dir.result (no_more_same s s2 (same_trees s s1 s2 c.is_directory.ensures.tree c.in_err-sync_dir.ensures.refused))

pub returns-in_err-standing-clause-unwritten : goal.returns-in_err-standing-clause-unwritten
returns-in_err-standing-clause-unwritten g c =
    λ told.
    let s = g.D.Disk.state c.args.disk.now in
    let s1 = g.D.Disk.state c.is_directory.new.disk in
    let s2 = g.D.Disk.state c.sync_dir.new.self in
    let s3 = g.D.Disk.state c.read_in_root.new.disk in
    let y = c.in_ok-sync_dir.ensures.synced told in
    before_writing s s3 c.from_residual-in_err-standing.result
    (no_more_on s s1 s2 s3 c.args.root.now c.is_directory.ensures.tree (g.met.D.Disk.holds_present c.is_directory.new.disk told) y (c.read_in_root.ensures.tree told))

pub returns-in_err-map_err-clause-unwritten : goal.returns-in_err-map_err-clause-unwritten
returns-in_err-map_err-clause-unwritten g c =
    λ told.
    let s = g.D.Disk.state c.args.disk.now in
    let s4 = g.D.Disk.state c.finish.new.disk in
    refused_as (λ f. IsBeforeWriting f → LeavesNoMore s s4) c.from_residual-in_err-map_err.result _ c.from_residual-in_err-map_err.ensures.1
    (told_as fault.Unfinished (λ f. IsBeforeWriting f → LeavesNoMore s s4) c.finish.result c.map_err.result c.in_err-map_err.field-0.0 c.map_err.ensures.cases c.in_err-map_err.was
    (λ job is before. absurd before))

-- ---- no journal stands

pub returns-then-not-branch-clause-gone : goal.returns-then-not-branch-clause-gone
returns-then-not-branch-clause-gone g c =
    λ told folder leads.
    let root = c.args.root.now in
    let s = g.D.Disk.state c.args.disk.now in
    let none = no_folder s.tree root c.in_ok-is_directory.field-0 (g.met.D.Disk.is_tree c.args.disk.now told) (c.in_ok-is_directory.ensures.leads told)
    (c.in_ok-is_directory.ensures.kind told) c.if-not-branch.true in
    none_left s.tree (g.D.Disk.state c.is_directory.new.disk).tree root c.is_directory.ensures.tree.tree none folder leads

pub returns-in_default-clause-gone : goal.returns-in_default-clause-gone
returns-in_default-clause-gone g c =
    λ told folder leads.
    let root = c.args.root.now in
    let s = g.D.Disk.state c.args.disk.now in
    let s3 = g.D.Disk.state c.read_in_root.new.disk in
    let same = (c.in_ok-sync_dir.ensures.synced told).tree ∙ c.is_directory.ensures.tree.tree in
    let none = subst (λ (t : Tree). NoneStands t root) same (rw c.in_default.is at (c.in_ok-standing.ensures.read told)) in
    none_left s.tree s3.tree root ((c.read_in_root.ensures.tree told).tree ∙ same) none folder leads

pub returns-clause-gone : goal.returns-clause-gone
returns-clause-gone g c =
    λ told folder leads.
    let root = c.args.root.now in
    let s = g.D.Disk.state c.args.disk.now in
    let s2 = g.D.Disk.state c.sync_dir.new.self in
    let s3 = g.D.Disk.state c.read_in_root.new.disk in
    let s4 = g.D.Disk.state c.finish.new.disk in
    let lines = c.in-Some.standing.journal in
    let same = (c.in_ok-sync_dir.ensures.synced told).tree ∙ c.is_directory.ensures.tree.tree in
    let (all, path_is) = rw c.in-Some.is at (c.in_ok-standing.ensures.read told) in
    let there = journal_there s2.tree s3.tree root c.as_str-path.result.now lines (c.read_in_root.ensures.tree told).tree (g.met.D.Disk.is_tree c.sync_dir.new.self told) all
    (c.as_str-path.ensures.same ∙ path_is) in
    let none = answered _ c.finish.result c.map_err.result _ c.map_err.ensures.cases c.in_ok-map_err.was (c.finish.ensures.gone told all.journal.folder there) in
    gone_there s2.tree s4.tree root lines all none folder (ap (λ (t : Tree). reached t root true) same ∙ leads)

-- ---- when it comes to its end

pub returns-in_err-is_directory-clause-complete : goal.returns-in_err-is_directory-clause-complete
returns-in_err-is_directory-clause-complete g c =
    λ told work m free steady.
    let root = c.args.root.now in
    let s = g.D.Disk.state c.args.disk.now in
    refused_as _ c.from_residual.result _ c.from_residual.ensures.1
    (root_memory g.D.Disk.tells s (g.D.Disk.state c.is_directory.new.disk) root told
    (λ nowhere. leads_somewhere s.tree root (ap is_some (root_leads_now work root s (g.met.D.Disk.holds_present c.args.disk.now told) m)) nowhere) steady
    c.in_err-is_directory.field-0.0 c.in_err-is_directory.ensures.fails)

pub returns-in_err-sync_dir-clause-complete : goal.returns-in_err-sync_dir-clause-complete
returns-in_err-sync_dir-clause-complete g c =
    λ told work m free steady.
    let root = c.args.root.now in
    let s = g.D.Disk.state c.args.disk.now in
    let s1 = g.D.Disk.state c.is_directory.new.disk in
    let s2 = g.D.Disk.state c.sync_dir.new.self in
    let f = c.in_err-sync_dir.field-0.0 in
    let low = c.is_directory.ensures.never_falls in
    refused_as _ c.from_residual-in_err-sync_dir.result _ c.from_residual-in_err-sync_dir.ensures.1
    (look_memory g.D.Disk.tells s1 s2 (IsNoDirectory s1 root) told
    (λ none. is_directory_there s.tree root ((c.in_ok-is_directory.ensures.kind told).0 c.if-not-branch.false) (ap (λ (t : Tree). directory_of t root) (sym c.is_directory.ensures.tree.tree) ∙ none))
    (λ rose. steady (risen_since s.faults s1.faults s2.faults low rose))
    f (look_refused g.D.Disk.tells s1 s2 (IsNoDirectory s1 root) f c.in_err-sync_dir.ensures.absent c.in_err-sync_dir.ensures.not_taken c.in_err-sync_dir.ensures.cause))

pub returns-in_err-standing-clause-complete : goal.returns-in_err-standing-clause-complete
returns-in_err-standing-clause-complete g c =
    λ told work m free steady.
    let root = c.args.root.now in
    let s = g.D.Disk.state c.args.disk.now in
    let s1 = g.D.Disk.state c.is_directory.new.disk in
    let s2 = g.D.Disk.state c.sync_dir.new.self in
    let s3 = g.D.Disk.state c.read_in_root.new.disk in
    let holds = g.met.D.Disk.holds_present c.is_directory.new.disk told in
    let y = c.in_ok-sync_dir.ensures.synced told in
    let same = c.is_directory.ensures.tree in
    let trees = y.tree ∙ same.tree in
    let low = c.is_directory.ensures.never_falls in
    let low_then = c.in_ok-sync_dir.ensures.cause.never_falls in
    let leads = root_leads_now work root s (g.met.D.Disk.holds_present c.args.disk.now told) m in
    refused_as _ c.from_residual-in_err-standing.result _ c.from_residual-in_err-standing.ensures.1
    (recover_memory work root s2 s3 g.D.Disk.tells told (g.met.D.Disk.is_tree c.sync_dir.new.self told) (g.met.D.Disk.holds_present c.sync_dir.new.self told)
    (λ nowhere. leads_somewhere s.tree root (ap is_some leads) (ap (λ (t : Tree). reached t root true) (sym trees) ∙ nowhere))
    (is_not_other work root s s1 s2 m same holds y) (λ lines stands. placing_on work root s s1 s2 m same holds y lines stands s2 (record { tree = refl; clock = refl; outcomes = refl }))
    (subst (HaveFreeNames work) (sym trees) free) (λ rose. steady (risen_since s.faults s2.faults s3.faults (omega (arith, low, low_then)) rose))
    c.in_err-standing.field-0.0 c.in_err-standing.ensures.fails)

pub returns-in_err-map_err-clause-complete : goal.returns-in_err-map_err-clause-complete
returns-in_err-map_err-clause-complete g c =
    λ told work m free steady.
    let root = c.args.root.now in
    let s = g.D.Disk.state c.args.disk.now in
    let s1 = g.D.Disk.state c.is_directory.new.disk in
    let s2 = g.D.Disk.state c.sync_dir.new.self in
    let s3 = g.D.Disk.state c.read_in_root.new.disk in
    let s4 = g.D.Disk.state c.finish.new.disk in
    let holds = g.met.D.Disk.holds_present c.is_directory.new.disk told in
    let y = c.in_ok-sync_dir.ensures.synced told in
    let same = c.is_directory.ensures.tree in
    let now = c.read_in_root.ensures.tree told in
    let trees = now.tree ∙ y.tree ∙ same.tree in
    let low = c.is_directory.ensures.never_falls in
    let low_then = c.in_ok-sync_dir.ensures.cause.never_falls in
    let low_last = c.read_in_root.ensures.never_falls in
    let lines = c.in-Some.standing.journal in
    let (all, path_is) = rw c.in-Some.is at (c.in_ok-standing.ensures.read told) in
    let there = journal_there s2.tree s3.tree root c.as_str-path.result.now lines now.tree (g.met.D.Disk.is_tree c.sync_dir.new.self told) all (c.as_str-path.ensures.same ∙ path_is) in
    let placing = placing_on work root s s1 s2 m same holds y lines all.journal s3 now in
    refused_as _ c.from_residual-in_err-map_err.result _ c.from_residual-in_err-map_err.ensures.1
    (told_as fault.Unfinished WantsMemory c.finish.result c.map_err.result c.in_err-map_err.field-0.0 c.map_err.ensures.cases c.in_err-map_err.was
    (λ job is. only_memory work lines s3 (g.met.D.Disk.is_tree c.read_in_root.new.disk told) (g.met.D.Disk.holds_present c.read_in_root.new.disk told) placing s4 g.D.Disk.tells told
    (subst (HaveFreeNames work) (sym trees) free) (λ rose. steady (risen_since s.faults s3.faults s4.faults (omega (arith, low, low_then, low_last)) rose))
    job (rw is at (c.finish.ensures.fails (λ _. (all.journal.folder, there))))))
