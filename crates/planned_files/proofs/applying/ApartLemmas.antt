-- Lines that lead apart, whose files are rewritten in turn: what stands then, and what a crash leaves.
use Rattle.std.proofs.Common.{◌≡◌, ℕ, true, List, [], ◌∷◌, map, refl, sym, ap, subst, ◌∙◌, inl, inr}
use Rattle.std.specs.Prelude.{Option, IsSome, is_some, Ok, Err, IsOk, All, Contains, sum_by}
use Rattle.std.specs.List.{AllZip}
use Rattle.std.specs.Option.{option_and_then}
use Rattle.std.proofs.lemmas.List.Elements.{All-head, All-tail}
use Rattle.std.proofs.lemmas.List.Sums.{sum_by-cons}
use Rattle.sd_io.specs.Tree.{NameList, Content, Node, Tree, node_at, file_node, file_at}
use Rattle.sd_io.specs.Outcomes.{Leaves}
use Rattle.sd_io.specs.Disk.{DiskState, SameTree, outcomes_now}
use Rattle.sd_io.specs.Crashes.{LeavesSince, IsDurable}
use Rattle.sd_io.proofs.CrashLemmas.{since_same, since_then, since_more}
use Rattle.sd_change.specs.Change.{Change, FileChange, IsOne}
use Rattle.file_rewrite.specs.Rewritten.{IsNew, IsOldOrNew, IsLeft, IsNewFile, IsChangedFile}
use Rattle.file_rewrite.specs.declared.fault.JobFault.{JobFault}
use Rattle.file_rewrite.specs.declared.fault.JobFault.TheVariants as job
use Rattle.many_files.specs.Files.{IsFreeBeside}
use Rattle.many_files.specs.Rewritten.{LeavesEach, IsNewOne, IsChangedOne}
use Rattle.many_files.specs.Counts.{changed_by, replaced_by}
use Rattle.many_files.specs.Jobs.{Job, failed_of, end_of}
use Rattle.many_files.specs.OneFile.{OneEnd, ReplacesOne}
use Rattle.many_files.specs.InTurn.{ReplacesInTurn}
use Rattle.many_files.proofs.MemberLemmas.{In, contains_from_in, none_in}
use Rattle.many_files.proofs.WayLemmas.{still_leads}
use Rattle.many_files.proofs.KeepLemmas.{file_there}
use Rattle.many_files.proofs.TurnLemmas.{left_before}
use Rattle.sd_plan.specs.declared.line.PlanLine.{PlanLine}
use Rattle.planned_files.specs.Planned.{path_of}
use Rattle.planned_files.specs.Applied.{AreApart, IsApplied, CountsLines, IsAppliedOrLeft}
use Rattle.planned_files.proofs.applying.FileLemmas.{in_rest, is_first, first_or_rest, IsRightAt, place_file, EndsSo, At, no_node, keeps, free_before, stays, others, however_here, crash_here, durable_here, ends_here, counts_here}

-- ---- what came of each line

abbrev pub EndAll : Change → Tree → Tree → List PlanLine → List NameList → List OneEnd → Type 0
EndAll change old new [] [] results = Unit {0}
EndAll change old new [] (place ∷ places) results = ⊥
EndAll change old new (line ∷ lines) [] results = ⊥
EndAll change old new (line ∷ lines) (place ∷ places) [] = ⊥
EndAll change old new (line ∷ lines) (place ∷ places) (result ∷ results) = EndsSo change old new line place result × EndAll change old new lines places results

-- How the rewriting of lines that lead apart ended: what came of each, what stands, what a crash leaves, and, where none failed, what is counted.
pub record EndsApart (change : Change) (lines : List PlanLine) (places : List NameList) (results : List OneEnd) (old new : DiskState) : Type 0 where
  pub ends : EndAll change old.tree new.tree lines places results
  pub however : LeavesEach (Contains places) (FileChange change) old.tree new.tree
  pub crash : LeavesSince (IsNewOne (Contains places) (FileChange change) old.tree) (IsFreeBeside (Contains places) old.tree) old new
  pub durable : All IsOk results → IsDurable (IsChangedOne (Contains places) (FileChange change) old.tree) old new
  pub others : All IsOk results → (q : NameList) → (Contains places q → ⊥) → node_at new.tree q ≡ node_at old.tree q
  pub counts : All IsOk results → CountsLines change old.tree lines (sum_by changed_by results) (sum_by replaced_by results)

-- ---- files that stand as they did

-- told from an earlier tree, in which the file is the same
new_before : (change : Change) (old next new : Tree) (q : NameList) → node_at next q ≡ node_at old q → IsNew change next new q → IsNew change old new q
new_before change old next new q same n = record {
  bytes = n.bytes;
  mode = n.mode;
  was = sym (ap file_node same) ∙ n.was;
  new_bytes = n.new_bytes;
  count = n.count;
  new_bytes_are = n.new_bytes_are;
  holds = n.holds;
}

old_or_new_before : (change : Change) (old next new : Tree) (q : NameList) → node_at next q ≡ node_at old q → IsOldOrNew change next new q → IsOldOrNew change old new q
old_or_new_before change old next new q same (inl is_old) = inl (is_old ∙ same)
old_or_new_before change old next new q same (inr is_new) = inr (new_before change old next new q same is_new)

left_earlier : (change : Change) (old next new : Tree) (q : NameList) → node_at next q ≡ node_at old q → (failed : JobFault) → IsLeft change next new q failed → IsLeft change old new q failed
left_earlier change old next new q same (job.File fault) left = left ∙ same
left_earlier change old next new q same (job.TempfilePersist fault) left = old_or_new_before change old next new q same left
left_earlier change old next new q same job.InvalidPath left = left ∙ same
left_earlier change old next new q same job.TempName left = left ∙ same
left_earlier change old next new q same job.NoMemory left = old_or_new_before change old next new q same left

ends_before : (change : Change) (old next new : Tree) (line : PlanLine) (q : NameList) → node_at next q ≡ node_at old q → (result : OneEnd)
    → EndsSo change next new line q result → EndsSo change old new line q result
ends_before change old next new line q same (Ok rewrite) a = record {
  bytes = a.bytes;
  mode = a.mode;
  was = sym (ap file_node same) ∙ a.was;
  before = a.before;
  new_bytes = a.new_bytes;
  count = a.count;
  new_bytes_are = a.new_bytes_are;
  after = a.after;
  holds = a.holds;
}
ends_before change old next new line q same (Err failed) left = left_earlier (FileChange change) old next new q same failed left

all_before : (change : Change) (old next new : Tree) (lines : List PlanLine) (places : List NameList) (results : List OneEnd)
    → ((q : NameList) → Contains places q → node_at next q ≡ node_at old q) → EndAll change next new lines places results → EndAll change old new lines places results
all_before change old next new [] [] results same all = tt
all_before change old next new [] (place ∷ places) results same all = absurd all
all_before change old next new (line ∷ lines) [] results same all = absurd all
all_before change old next new (line ∷ lines) (place ∷ places) [] same all = absurd all
all_before change old next new (line ∷ lines) (place ∷ places) (result ∷ results) same (first, all) = (
  ends_before change old next new line place (same place (is_first place places place refl)) result first,
  all_before change old next new lines places results (λ q c. same q (in_rest place places q c)) all,
)

-- told of a later tree, in which the file is the same
new_still : (change : Change) (old next new : Tree) (q : NameList) → node_at new q ≡ node_at next q → IsNew change old next q → IsNew change old new q
new_still change old next new q same n = record {
  bytes = n.bytes;
  mode = n.mode;
  was = n.was;
  new_bytes = n.new_bytes;
  count = n.count;
  new_bytes_are = n.new_bytes_are;
  holds = ap file_node same ∙ n.holds;
}

old_or_new_still : (change : Change) (old next new : Tree) (q : NameList) → node_at new q ≡ node_at next q → IsOldOrNew change old next q → IsOldOrNew change old new q
old_or_new_still change old next new q same (inl is_old) = inl (same ∙ is_old)
old_or_new_still change old next new q same (inr is_new) = inr (new_still change old next new q same is_new)

left_still : (change : Change) (old next new : Tree) (q : NameList) → node_at new q ≡ node_at next q → (failed : JobFault) → IsLeft change old next q failed → IsLeft change old new q failed
left_still change old next new q same (job.File fault) left = same ∙ left
left_still change old next new q same (job.TempfilePersist fault) left = old_or_new_still change old next new q same left
left_still change old next new q same job.InvalidPath left = same ∙ left
left_still change old next new q same job.TempName left = same ∙ left
left_still change old next new q same job.NoMemory left = old_or_new_still change old next new q same left

ends_still : (change : Change) (old next new : Tree) (line : PlanLine) (q : NameList) → node_at new q ≡ node_at next q → (result : OneEnd)
    → EndsSo change old next line q result → EndsSo change old new line q result
ends_still change old next new line q same (Ok rewrite) a = record {
  bytes = a.bytes;
  mode = a.mode;
  was = a.was;
  before = a.before;
  new_bytes = a.new_bytes;
  count = a.count;
  new_bytes_are = a.new_bytes_are;
  after = a.after;
  holds = ap file_node same ∙ a.holds;
}
ends_still change old next new line q same (Err failed) left = left_still (FileChange change) old next new q same failed left

-- what a crash may leave, told of an earlier or a later tree
new_file_at : (change : Change) (old next : Tree) (q : NameList) (content : Content) → node_at next q ≡ node_at old q → IsNewFile change next q content → IsNewFile change old q content
new_file_at change old next q content same n = record {
  bytes = n.bytes;
  mode = n.mode;
  was = sym (ap file_node same) ∙ n.was;
  new_bytes = n.new_bytes;
  count = n.count;
  new_bytes_are = n.new_bytes_are;
  content_is = n.content_is;
}

changed_file_at : (change : Change) (old next : Tree) (q : NameList) (content : Content) → node_at next q ≡ node_at old q → IsChangedFile change next q content → IsChangedFile change old q content
changed_file_at change old next q content same n = record {
  bytes = n.bytes;
  mode = n.mode;
  was = sym (ap file_node same) ∙ n.was;
  new_bytes = n.new_bytes;
  count = n.count;
  new_bytes_are = n.new_bytes_are;
  differ = n.differ;
  content_is = n.content_is;
}

-- ---- one line, and then the others

module _ (change : Change) (one_change : IsOne change) (line : PlanLine) (place : NameList) (lines : List PlanLine) (places : List NameList) (result : OneEnd) (results : List OneEnd)
    (old next new : DiskState) (first : IsRightAt change old.tree line place) (right : AllZip (IsRightAt change old.tree) lines places) (alone : Contains places place → ⊥)
    (one : ReplacesOne change line.path result old next) where
  -- another line's file is as it was
  same : (q : NameList) → Contains places q → node_at next.tree q ≡ node_at old.tree q
  same q c =
      stays change line.path old next place first.leads result one q (λ e. alone (subst (Contains places) e c))
      (file_there (node_at old.tree q) (place_file change old.tree lines places right q c))

  stands_next : (q : NameList) → Contains places q → IsSome (node_at next.tree q)
  stands_next q c =
      subst (λ (o : Option Node). IsSome o) (sym (same q c)) (file_there (node_at old.tree q) (place_file change old.tree lines places right q c))

  -- the others are still right
  pub right_still : (some : List PlanLine) (theirs : List NameList) → ((q : NameList) → Contains theirs q → Contains places q) → AllZip (IsRightAt change old.tree) some theirs
      → AllZip (IsRightAt change next.tree) some theirs
  right_still [] [] has all = tt
  right_still [] (q ∷ theirs) has all = absurd all
  right_still (l ∷ some) [] has all = absurd all
  right_still (l ∷ some) (q ∷ theirs) has (this, all) =
      let c = has q (is_first q theirs q refl) in (
        record {
          leads = still_leads (keeps change line.path old next place first.leads result one).ways l.path true q this.leads (stands_next q c);
          bytes = this.bytes;
          mode = this.mode;
          was = ap file_node (same q c) ∙ this.was;
          before = this.before;
          new_bytes = this.new_bytes;
          count = this.count;
          new_bytes_are = this.new_bytes_are;
          after = this.after;
        },
        right_still some theirs (λ p i. has p (in_rest q theirs p i)) all,
      )

  -- they count as they did
  counts_before : (some : List PlanLine) (theirs : List NameList) (changed replaced : ℕ) → ((q : NameList) → Contains theirs q → Contains places q)
      → AllZip (IsRightAt change old.tree) some theirs → AllZip (IsRightAt change next.tree) some theirs → CountsLines change next.tree some changed replaced → CountsLines change old.tree some changed replaced
  counts_before [] theirs changed replaced has was now counts = counts
  counts_before (l ∷ some) [] changed replaced has was now counts = absurd was
  counts_before (l ∷ some) (q ∷ theirs) changed replaced has (this, was) (is, now) (one, count, rest_changed, rest_replaced, at, rest, c, r) = (
    one,
    count,
    rest_changed,
    rest_replaced,
    record {
      bytes = at.bytes;
      mode = at.mode;
      is_file =
          ap (option_and_then (file_at old.tree)) this.leads ∙ sym (ap file_node (same q (has q (is_first q theirs q refl))))
          ∙ sym (ap (option_and_then (file_at next.tree)) is.leads) ∙ at.is_file;
      new_bytes = at.new_bytes;
      new_bytes_are = at.new_bytes_are;
      changed_is = at.changed_is;
    },
    counts_before some theirs rest_changed rest_replaced (λ p i. has p (in_rest q theirs p i)) was now rest,
    c,
    r,
  )

  free_from : (q : NameList) → IsFreeBeside (Contains places) next.tree q → IsFreeBeside (Contains (place ∷ places)) old.tree q
  free_from q (p, c, free) =
      (p, in_rest place places p c, record { reserved = free.reserved; free = free_before change line.path old next place first.leads result one q free.free })

  module _ (rest : EndsApart change lines places results next new) where
    -- the line's file stays as it is now
    kept : node_at new.tree place ≡ node_at next.tree place
    kept = elim (rest.however place) [
      | inl is_old ↦ is_old
      | inr (inl (c, is_new)) ↦ absurd (alone c)
      | inr (inr (p, c, free)) ↦
          absurd (no_node (node_at next.tree place) free.free
          (file_there (node_at next.tree place) ((keeps change line.path old next place first.leads result one).files place (ap is_some first.was))))
    ]

    however_both : LeavesEach (Contains (place ∷ places)) (FileChange change) old.tree new.tree
    however_both q = elim (rest.however q) [
      | inl is_old ↦ elim (however_here change line.path old next place first.leads result one q) [
        | inl was ↦ inl (is_old ∙ was)
        | inr (inl (here, is_new)) ↦ inr (inl (is_first place places q here, new_still (FileChange change) old.tree next.tree new.tree q is_old is_new))
        | inr (inr (p, e, free)) ↦ inr (inr (p, is_first place places p e, free))
      ]
      | inr (inl (c, is_new)) ↦ inr (inl (in_rest place places q c, new_before (FileChange change) old.tree next.tree new.tree q (same q c) is_new))
      | inr (inr free) ↦ inr (inr (free_from q free))
    ]

    crash_both : LeavesSince (IsNewOne (Contains (place ∷ places)) (FileChange change) old.tree) (IsFreeBeside (Contains (place ∷ places)) old.tree) old new
    crash_both =
        since_then _ _ old next new
        (since_more (IsNewOne (At place) (FileChange change) old.tree) (IsNewOne (Contains (place ∷ places)) (FileChange change) old.tree) (IsFreeBeside (At place) old.tree)
        (IsFreeBeside (Contains (place ∷ places)) old.tree) old next (λ q content n. (is_first place places q n.0, n.1)) (λ q f. (f.0, is_first place places f.0 f.1, f.2))
        (crash_here change line.path old next place first.leads result one))
        (since_more (IsNewOne (Contains places) (FileChange change) next.tree) (IsNewOne (Contains (place ∷ places)) (FileChange change) old.tree) (IsFreeBeside (Contains places) next.tree)
        (IsFreeBeside (Contains (place ∷ places)) old.tree) next new
        (λ q content n. (in_rest place places q n.0, new_file_at (FileChange change) old.tree next.tree q content (same q n.0) n.1)) free_from rest.crash)

    durable_both : IsOk result → All IsOk results → IsDurable (IsChangedOne (Contains (place ∷ places)) (FileChange change) old.tree) old new
    durable_both done all =
        let here = durable_here change line.path old next place first.leads result one done in
        let later = rest.durable all in
        record {
          there = λ q content n found l. elim (first_or_rest place places q n.0) [
            | inl e ↦ here.there q content (e, n.1) found (later.elsewhere q (λ other m. alone (subst (Contains places) e m.0)) found l)
            | inr c ↦ later.there q content (c, changed_file_at (FileChange change) next.tree old.tree q content (sym (same q c)) n.1) found l
          ];
          elsewhere = λ q none found l.
              here.elsewhere q (λ content n. none content (is_first place places q n.0, n.1)) found
              (later.elsewhere q (λ content n. none content (in_rest place places q n.0, changed_file_at (FileChange change) old.tree next.tree q content (same q n.0) n.1)) found l);
        }

    pub both : EndsApart change (line ∷ lines) (place ∷ places) (result ∷ results) old new
    both = record {
      ends = (
        ends_still change old.tree next.tree new.tree line place kept result (ends_here change line.path old next place first.leads one_change line first result one),
        all_before change old.tree next.tree new.tree lines places results same rest.ends,
      );
      however = however_both;
      crash = crash_both;
      durable = λ all. durable_both (All-head IsOk result results all) (All-tail IsOk result results all);
      others = λ all q none.
          rest.others (All-tail IsOk result results all) q (λ c. none (in_rest place places q c))
          ∙ others change line.path old next place first.leads result one (All-head IsOk result results all) q (λ e. none (is_first place places q e));
      counts = λ all. (
        changed_by result,
        replaced_by result,
        sum_by changed_by results,
        sum_by replaced_by results,
        counts_here change line.path old next place first.leads one_change line first result one (All-head IsOk result results all) refl,
        counts_before lines places (sum_by changed_by results) (sum_by replaced_by results) (λ q c. c) right (right_still lines places (λ q c. c) right)
            (rest.counts (All-tail IsOk result results all)),
        sum_by-cons changed_by result results,
        sum_by-cons replaced_by result results,
      );
    }

-- ---- all of them

pub ends_apart : (change : Change) → IsOne change → (lines : List PlanLine) (places : List NameList) (results : List OneEnd) (old new : DiskState) → AllZip (IsRightAt change old.tree) lines places
    → AreApart places → ReplacesInTurn change (map path_of lines) results old new → EndsApart change lines places results old new
ends_apart change one [] [] [] old new right apart turn =
    let same : SameTree old new = record {
      tree = ap (λ (s : DiskState). s.tree) turn;
      clock = ap (λ (s : DiskState). s.clock) turn;
      outcomes = ap (λ (s : DiskState). s.outcomes) turn;
    } in
    record {
      ends = tt;
      however = λ q. inl (ap (λ (s : DiskState). node_at s.tree q) turn);
      crash = since_same _ _ old new same;
      durable = λ all. record {
        there = λ q content n. absurd (none_in q n.0);
        elsewhere = λ q none found l. subst (λ (s : DiskState). Leaves (outcomes_now s q) found) turn l;
      };
      others = λ all q none. ap (λ (s : DiskState). node_at s.tree q) turn;
      counts = λ all. (refl, refl);
    }
ends_apart change one [] [] (result ∷ results) old new right apart turn = absurd turn
ends_apart change one [] (place ∷ places) results old new right apart turn = absurd right
ends_apart change one (line ∷ lines) [] results old new right apart turn = absurd right
ends_apart change one (line ∷ lines) (place ∷ places) [] old new right apart turn = absurd turn
ends_apart change one (line ∷ lines) (place ∷ places) (result ∷ results) old new (first, right) (alone, apart) (next, does, turn) =
    both change one line place lines places result results old next new first right alone does
    (ends_apart change one lines places results next new (right_still change one line place lines places result results old next new first right alone does lines places (λ q c. c) right) apart turn)

-- from a disk with the same tree on
pub from_start : (change : Change) (lines : List PlanLine) (places : List NameList) (results : List OneEnd) (s0 s1 s2 : DiskState) → SameTree s0 s1 → EndsApart change lines places results s1 s2
    → EndsApart change lines places results s0 s2
from_start change lines places results s0 s1 s2 same e = record {
  ends = subst (λ (t : Tree). EndAll change t s2.tree lines places results) same.tree e.ends;
  however = subst (λ (t : Tree). LeavesEach (Contains places) (FileChange change) t s2.tree) same.tree e.however;
  crash =
      since_then _ _ s0 s1 s2 (since_same _ _ s0 s1 same)
      (subst (λ (t : Tree). LeavesSince (IsNewOne (Contains places) (FileChange change) t) (IsFreeBeside (Contains places) t) s1 s2) same.tree e.crash);
  durable = λ all.
      let d = subst (λ (t : Tree). IsDurable (IsChangedOne (Contains places) (FileChange change) t) s1 s2) same.tree (e.durable all) in
      record { there = d.there; elsewhere = λ q none found l. left_before s0 s1 same q found (d.elsewhere q none found l) };
  others = λ all q none. e.others all q none ∙ ap (λ (t : Tree). node_at t q) same.tree;
  counts = λ all. subst (λ (t : Tree). CountsLines change t lines (sum_by changed_by results) (sum_by replaced_by results)) same.tree (e.counts all);
}

-- ---- what is told of them

-- none failed: all are applied
pub all_applied : (change : Change) (old new : Tree) (lines : List PlanLine) (places : List NameList) (results : List OneEnd) → All IsOk results
    → EndAll change old new lines places results → AllZip (IsApplied change old new) lines places
all_applied change old new [] [] results done ends = tt
all_applied change old new [] (place ∷ places) results done ends = absurd ends
all_applied change old new (line ∷ lines) [] results done ends = absurd ends
all_applied change old new (line ∷ lines) (place ∷ places) [] done ends = absurd ends
all_applied change old new (line ∷ lines) (place ∷ places) (result ∷ results) done (first, ends) =
    (is_applied result (All-head IsOk result results done) first, all_applied change old new lines places results (All-tail IsOk result results done) ends)
  where
    is_applied : (r : OneEnd) → IsOk r → EndsSo change old new line place r → IsApplied change old new line place
    is_applied (Ok rewrite) ok applied = applied
    is_applied (Err failed) ok left = cc

-- some failed: each line is applied, or its file is one of the jobs
pub applied_or_left : (change : Change) (old new : Tree) (jobs : List Job) (lines : List PlanLine) (places : List NameList) (results : List OneEnd)
    → ((failed : Job) → In failed (failed_of (map path_of lines) (map end_of results)) → In failed jobs) → EndAll change old new lines places results
    → AllZip (IsAppliedOrLeft change jobs old new) lines places
applied_or_left change old new jobs [] [] results has ends = tt
applied_or_left change old new jobs [] (place ∷ places) results has ends = absurd ends
applied_or_left change old new jobs (line ∷ lines) [] results has ends = absurd ends
applied_or_left change old new jobs (line ∷ lines) (place ∷ places) [] has ends = absurd ends
applied_or_left change old new jobs (line ∷ lines) (place ∷ places) (Ok rewrite ∷ results) has (first, ends) =
    (inl first, applied_or_left change old new jobs lines places results has ends)
applied_or_left change old new jobs (line ∷ lines) (place ∷ places) (Err failed ∷ results) has (first, ends) = (
  inr (failed, contains_from_in jobs (line.path, failed) (has (line.path, failed) (inl refl)), first),
  applied_or_left change old new jobs lines places results (λ other i. has other (inr i)) ends,
)
