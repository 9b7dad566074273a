-- What one file's rewriting is, seen by its place.
use Rattle.std.proofs.Common.{◌≡◌, ◌≢◌, ◌⊎◌, ℕ, ◌≤◌, Bool, List, ◌∷◌, refl, sym, ◌∙◌, ap, subst, inl, inr, arith}
use Rattle.std.specs.Prelude.{Option, Some, None, IsSome, IsTrue, true}
use Rattle.std.specs.Option.{option_and_then}
use Rattle.std.proofs.lemmas.Option.{same_Some}
use Rattle.sd_io.specs.Count.{HasRisen}
use Rattle.sd_io.specs.Tree.{NameList, Content, Tree, node_at, file_at, IsNonemptyFile}
use Rattle.sd_io.specs.Paths.{reached, parent_of}
use Rattle.sd_io.specs.Outcomes.{Leaves}
use Rattle.sd_io.specs.Files.{file_of}
use Rattle.sd_io.specs.Disk.{DiskState, SameTree, outcomes_now}
use Rattle.sd_io.specs.Crashes.{LeavesSince}
use Rattle.sd_io.specs.declared.fault.DiskFault.{DiskFault}
use Rattle.sd_io.specs.declared.fault.DiskFault.TheVariants as disk
use Rattle.sd_io.proofs.CrashLemmas.{since_more}
use Rattle.sd_change.specs.Change.{Change, FileChange}
use Rattle.sd_course.specs.Course.{course, HasRisenBy}
use Rattle.file_exchange.specs.Reserved.{Free}
use Rattle.file_exchange.proofs.PlaceLemmas.{is_free}
use Rattle.file_rewrite.specs.Paths.{IsNoPath}
use Rattle.file_rewrite.specs.Rewritten.{IsOld, IsNew, IsOldOrNew, IsLeft}
use Rattle.file_rewrite.specs.OneFile.{RewritesFile, LeavesFile, HasFileCause, IsNewAt, IsFirstFreeBy}
use Rattle.file_rewrite.specs.declared.rewrite.Rewrite.{Rewrite}
use Rattle.file_rewrite.specs.declared.fault.JobFault.{JobFault}
use Rattle.file_rewrite.specs.declared.fault.JobFault.TheVariants as job
use Rattle.many_files.specs.Files.{IsFreeBeside}
use Rattle.many_files.specs.Rewritten.{IsNewOne}
use Rattle.many_files.specs.Turns.{EndsSo, faults_of_end}

-- what is done to the file at one place, and to nothing else but a reserved name that may be left
pub record DoesTurn (change : Change) (place : NameList) (fault : Option JobFault) (left : Option NameList) (s1 s2 : DiskState) : Type 0 where
  pub file : EndsSo change s1 s2 place fault
  pub was_free : (q : NameList) → left ≡ Some q → Free s1.tree (parent_of place) q
  pub failed : IsSome left → IsSome fault
  pub others : (q : NameList) → q ≢ place → left ≢ Some q → node_at s2.tree q ≡ node_at s1.tree q
  pub counted : HasRisenBy (faults_of_end left fault) s1.faults s2.faults
  pub low : s1.faults ≤ s2.faults
  pub crash : LeavesSince (IsNewOne (λ q. q ≡ place) change s1.tree) (IsFreeBeside (λ q. q ≡ place) s1.tree) s1 s2

-- what a nonempty file becomes
nonempty_change : (change : Change) (bytes new : List ℕ) (n byte : ℕ) (rest : List ℕ) → bytes ≡ byte ∷ rest → FileChange change bytes new n → change bytes new n
nonempty_change change bytes new n byte rest e f = subst (λ (b : List ℕ). change b new n) (sym e) (subst (λ (b : List ℕ). FileChange change b new n) e f)

pub plain : (change : Change) (tree : Tree) (place : NameList) (bytes new : List ℕ) (mode n : ℕ) → IsNonemptyFile tree place → file_at tree place ≡ Some (bytes, mode) → FileChange change bytes new n → change bytes new n
plain change tree place bytes new mode n (byte, rest, m, e) was f =
    let pair = same_Some (bytes, mode) (byte ∷ rest, m) (sym was ∙ e) in
    nonempty_change change bytes new n byte rest (ap (λ (p : List ℕ × ℕ). p.0) pair) f

-- the tree stays, and with it what a crash may leave
pub left_before : (s t : DiskState) → SameTree s t → (q : NameList) (found : Option Content) → Leaves (outcomes_now t q) found → Leaves (outcomes_now s q) found
left_before s t same q found l = subst (λ os. Leaves os found) (λ i. same.outcomes i (same.clock i) q) l

pub old_left : (change : Change) (old new : Tree) (place : NameList) (fault : JobFault) → IsOld old new place → IsLeft change old new place fault
old_left change old new place (job.File fault) is = is
old_left change old new place (job.TempfilePersist fault) is = inl is
old_left change old new place job.InvalidPath is = is
old_left change old new place job.TempName is = is
old_left change old new place job.NoMemory is = inl is

rises_once : (before now : ℕ) → HasRisen before now → HasRisenBy 1 before now
rises_once before now (inl rose) = inl (omega arith)
rises_once before now (inr last) = inr last

module _ (change : Change) (path : List ℕ) (place : NameList) (s1 s2 : DiskState) (leads : reached s1.tree path true ≡ Some place) (is_file : IsNonemptyFile s1.tree place) where
  -- the file at the place
  pub file_there : (q : NameList) → reached s1.tree path true ≡ Some q → q ≡ place
  file_there q leads_q = same_Some q place (sym leads_q ∙ leads)

  -- a path that leads to a file isn't one that leads to none
  pub leads_to_file : file_of s1.tree path ≡ None → ⊥
  leads_to_file none =
      let (byte, bytes, mode, e) = is_file in
      let found : file_of s1.tree path ≡ file_at s1.tree place = ap (option_and_then (file_at s1.tree)) leads in
      cc

  plain_new : (old : Tree) (q : NameList) (new : Tree) → old ≡ s1.tree → q ≡ place → IsNew (FileChange change) old new q → IsNew change old new q
  plain_new old q new same here n = record {
    bytes = n.bytes;
    mode = n.mode;
    was = n.was;
    new_bytes = n.new_bytes;
    count = n.count;
    new_bytes_are = plain change old q n.bytes n.new_bytes n.mode n.count (subst (IsNonemptyFile old) (sym here) (subst (λ (t : Tree). IsNonemptyFile t place) (sym same) is_file)) n.was n.new_bytes_are;
    holds = n.holds;
  }

  plain_old_or_new : IsOldOrNew (FileChange change) s1.tree s2.tree place → IsOldOrNew change s1.tree s2.tree place
  plain_old_or_new (inl old) = inl old
  plain_old_or_new (inr new) = inr (plain_new s1.tree place s2.tree refl refl new)

  plain_left : (fault : JobFault) → IsLeft (FileChange change) s1.tree s2.tree place fault → IsLeft change s1.tree s2.tree place fault
  plain_left (job.File fault) is = is
  plain_left (job.TempfilePersist fault) is = plain_old_or_new is
  plain_left job.InvalidPath is = is
  plain_left job.TempName is = is
  plain_left job.NoMemory is = plain_old_or_new is

  -- what a crash may leave
  pub new_here : (q : NameList) (content : Content) → IsNewAt change s1.tree path q content → IsNewOne (λ p. p ≡ place) change s1.tree q content
  new_here q content (leads_q, n) =
      let here = file_there q leads_q in (
        here,
        record {
          bytes = n.bytes;
          mode = n.mode;
          was = n.was;
          new_bytes = n.new_bytes;
          count = n.count;
          new_bytes_are = plain change s1.tree q n.bytes n.new_bytes n.mode n.count (subst (IsNonemptyFile s1.tree) (sym here) is_file) n.was n.new_bytes_are;
          content_is = n.content_is;
        },
      )

  crash_here : LeavesSince (IsNewAt change s1.tree path) (IsFirstFreeBy s1.tree path) s1 s2 → LeavesSince (IsNewOne (λ q. q ≡ place) change s1.tree) (IsFreeBeside (λ q. q ≡ place) s1.tree) s1 s2
  crash_here l = since_more (IsNewAt change s1.tree path) (IsNewOne (λ q. q ≡ place) change s1.tree) (IsFirstFreeBy s1.tree path) (IsFreeBeside (λ q. q ≡ place) s1.tree) s1 s2 new_here
      (λ q aside. (aside.place, file_there aside.place aside.leads, is_free aside.first)) l

  -- ---- done

  pub done_turn : (rewrite : Rewrite) → s1.faults ≤ s2.faults → RewritesFile change path rewrite s1 s2 → LeavesSince (IsNewAt change s1.tree path) (IsFirstFreeBy s1.tree path) s1 s2
      → DoesTurn change place None None s1 s2
  done_turn rewrite low r crash =
      let here = file_there r.place r.leads in
      let was : file_at s1.tree place ≡ Some (r.bytes, r.mode) = ap (file_at s1.tree) (sym here) ∙ r.was in
      record {
        file = record {
          bytes = r.bytes;
          mode = r.mode;
          was = was;
          new_bytes = r.new_bytes;
          count = rewrite.replaced;
          new_bytes_are = plain change s1.tree place r.bytes r.new_bytes r.mode rewrite.replaced is_file was r.new_bytes_are;
          holds = ap (file_at s2.tree) (sym here) ∙ r.holds;
          kept = λ same. record {
            node = ap (λ (t : Tree). node_at t place) (r.kept same).tree;
            outcomes = λ found l. left_before s1 s2 (r.kept same) place found l;
          };
        };
        was_free = λ q e. cc;
        failed = λ some. some;
        others = λ q n m. r.others q (λ e. n (e ∙ here));
        counted = inl (omega arith);
        low = low;
        crash = crash_here crash;
      }

  -- ---- refused

  module _ (tells : Bool) (told : IsTrue tells) (named : IsNoPath path → ⊥) where
    counted_file : (fault : DiskFault) → HasFileCause (course tells s1 s2) path (job.File fault) → HasRisenBy 1 s1.faults s2.faults
    counted_file disk.Absent cause = absurd (leads_to_file (cause.0 told))
    counted_file disk.Taken cause = absurd cause
    counted_file disk.Failed cause = rises_once s1.faults s2.faults cause
    counted_file disk.NoMemory cause = absurd cause

    counted_move : (fault : DiskFault) → HasFileCause (course tells s1 s2) path (job.TempfilePersist fault) → HasRisenBy 1 s1.faults s2.faults
    counted_move disk.Absent cause = absurd (cause.0 told)
    counted_move disk.Taken cause = absurd cause
    counted_move disk.Failed cause = rises_once s1.faults s2.faults cause
    counted_move disk.NoMemory cause = absurd cause

    counted_alone : (fault : JobFault) → s1.faults ≤ s2.faults → HasFileCause (course tells s1 s2) path fault → HasRisenBy (faults_of_end None (Some fault)) s1.faults s2.faults
    counted_alone (job.File fault) low cause = counted_file fault cause
    counted_alone (job.TempfilePersist fault) low cause = counted_move fault cause
    counted_alone job.InvalidPath low cause = absurd (named cause)
    counted_alone job.TempName low cause = inl (omega arith)
    counted_alone job.NoMemory low cause = inl (omega arith)

    counted_twice : (q : NameList) (fault : JobFault) → s1.faults ≤ s2.faults → (fault ≡ job.NoMemory) ⊎ HasRisenBy 2 s1.faults s2.faults → HasRisenBy (faults_of_end (Some q) (Some fault)) s1.faults s2.faults
    counted_twice q (job.File fault) low (inl e) = cc
    counted_twice q (job.File fault) low (inr twice) = twice
    counted_twice q (job.TempfilePersist fault) low (inl e) = cc
    counted_twice q (job.TempfilePersist fault) low (inr twice) = twice
    counted_twice q job.InvalidPath low (inl e) = cc
    counted_twice q job.InvalidPath low (inr twice) = twice
    counted_twice q job.TempName low (inl e) = cc
    counted_twice q job.TempName low (inr twice) = twice
    counted_twice q job.NoMemory low two = inl (omega arith)

    counted_left : (left : Option NameList) (fault : JobFault) → s1.faults ≤ s2.faults → HasFileCause (course tells s1 s2) path fault
        → (fault ≡ job.NoMemory) ⊎ (left ≡ None) ⊎ HasRisenBy 2 s1.faults s2.faults → HasRisenBy (faults_of_end left (Some fault)) s1.faults s2.faults
    counted_left None fault low cause two = counted_alone fault low cause
    counted_left (Some q) fault low cause (inl memory) = counted_twice q fault low (inl memory)
    counted_left (Some q) fault low cause (inr (inl none)) = cc
    counted_left (Some q) fault low cause (inr (inr twice)) = counted_twice q fault low (inr twice)

    pub refused_turn : (fault : JobFault) → s1.faults ≤ s2.faults → LeavesFile change path fault s1 s2 → HasFileCause (course tells s1 s2) path fault
        → LeavesSince (IsNewAt change s1.tree path) (IsFirstFreeBy s1.tree path) s1 s2 → (left : Option NameList) × DoesTurn change place (Some fault) left s1 s2
    refused_turn fault low (inl same) cause crash = (
      None,
      record {
        file = old_left change s1.tree s2.tree place fault (ap (λ (t : Tree). node_at t place) same.tree);
        was_free = λ q e. cc;
        failed = λ some. refl;
        others = λ q n m. ap (λ (t : Tree). node_at t q) same.tree;
        counted = counted_alone fault low cause;
        low = low;
        crash = crash_here crash;
      },
    )
    refused_turn fault low (inr l) cause crash =
        let here = file_there l.place l.leads in (
          l.temporary,
          record {
            file = plain_left fault (subst (λ (p : NameList). IsLeft (FileChange change) s1.tree s2.tree p fault) here l.left);
            was_free = λ q e. subst (λ (p : NameList). Free s1.tree (parent_of p) q) here (is_free (l.was_free q e));
            failed = λ some. refl;
            others = λ q n m. l.others q (λ e. n (e ∙ here)) m;
            counted = counted_left l.temporary fault low cause l.two_refusals;
            low = low;
            crash = crash_here crash;
          },
        )
