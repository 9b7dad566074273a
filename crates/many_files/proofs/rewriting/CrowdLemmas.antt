-- Files whose folder had no reserved name left.
use Rattle.std.proofs.Common.{◌≡◌, ◌⊎◌, ℕ, ◌≤◌, Bool, true, List, [], ◌∷◌, ◌++◌, refl, sym, ◌∙◌, ap, subst, inl, inr, arith}
use Rattle.std.specs.Prelude.{Option, Some, None, IsSome, IsTrue, Ok, Err, IfOk, IfErr}
use Rattle.std.proofs.lemmas.List.{append-nil}
use Rattle.sd_io.specs.Count.{HasRisen}
use Rattle.sd_io.specs.Tree.{NameList, Node, Tree, node_at}
use Rattle.sd_io.specs.Paths.{reached, parent_of}
use Rattle.sd_io.specs.Disk.{DiskState}
use Rattle.sd_change.specs.Change.{Change}
use Rattle.sd_course.specs.Course.{course}
use Rattle.file_exchange.specs.Reserved.{Free}
use Rattle.file_rewrite.specs.OneFile.{RewritesFile, LeavesFile, HasFileCause, FreeAtMost, IsCrowded}
use Rattle.file_rewrite.specs.declared.fault.JobFault.{JobFault}
use Rattle.file_rewrite.specs.declared.fault.JobFault.TheVariants as job
use Rattle.many_files.specs.Jobs.{Job, failed_of, end_of, jobs_in, IsCrowdedOut}
use Rattle.many_files.proofs.rewriting.WayLemmas.{still_leads}
use Rattle.many_files.specs.OneFile.{OneEnd}
use Rattle.many_files.proofs.rewriting.CutLemmas.{last_or_before}
use Rattle.many_files.proofs.rewriting.KeepLemmas.{KeepsAll, keeps_itself, keeps_then, file_there}
use Rattle.many_files.proofs.rewriting.CauseLemmas.{risen_then}
use Rattle.many_files.proofs.rewriting.TakenLemmas.{HasMemoryJob, later_memory, AreTaken, none_taken, taken_if_done, taken_if_refused}

-- ---- one folder that was full

-- The path's file had no reserved name left after these jobs: what was free in its folder at first they had taken. Where no fault was counted, one of them is
-- for want of memory.
pub record WasFull (s0 s : DiskState) (earlier : List Job) (path : List ℕ) : Type 0 where
  pub place : NameList
  pub leads : reached s.tree path true ≡ Some place
  pub stands : IsSome (node_at s.tree place)
  pub few : (later : Tree) → KeepsAll s.tree later → FreeAtMost s0.tree (parent_of place) (jobs_in later (parent_of place) earlier)
  pub memory : (q : NameList) → Free s0.tree (parent_of place) q → HasRisen s0.faults s.faults ⊎ HasMemoryJob earlier (parent_of place) s.tree

later_full : (s0 s1 s2 : DiskState) → KeepsAll s1.tree s2.tree → s1.faults ≤ s2.faults → (earlier : List Job) (path : List ℕ) → WasFull s0 s1 earlier path
    → WasFull s0 s2 earlier path
later_full s0 s1 s2 keeps lower earlier path f = record {
  place = f.place;
  leads = still_leads keeps.ways path true f.place f.leads (keeps.stands f.place f.stands);
  stands = keeps.stands f.place f.stands;
  few = λ later still. f.few later (keeps_then s1.tree s2.tree later keeps still);
  memory = λ q free. elim (f.memory q free) [
    | inl rose ↦ inl (risen_then s0.faults s1.faults s2.faults lower rose)
    | inr m ↦ inr (later_memory earlier (parent_of f.place) s1.tree s2.tree keeps m)
  ];
}

stands_unless : (o : Option Node) → (o ≡ None → ⊥) → IsSome o
stands_unless None not = absurd (not refl)
stands_unless (Some node) not = refl

-- it has none now
now_full : (s0 s : DiskState) (jobs : List Job) (path : List ℕ) → ((folder : NameList) → AreTaken s0 s jobs folder) → IsCrowded s.tree path 0
    → WasFull s0 s jobs path
now_full s0 s jobs path taken crowded =
    let here = taken (parent_of crowded.place) in
    record {
      place = crowded.place;
      leads = crowded.leads;
      stands = file_there (node_at s.tree crowded.place) crowded.is_file;
      few = λ later still. record { places = here.places; few = here.few later still; all = λ q free. here.all q free (stands q free) };
      memory = λ q free. here.memory q free (stands q free);
    }
  where
    none_free : (q : NameList) → Free s.tree (parent_of crowded.place) q → ⊥
    none_free q free = let (k, lt, is) = crowded.few.all q free in omega (arith, crowded.few.few)

    stands : (q : NameList) → Free s0.tree (parent_of crowded.place) q → IsSome (node_at s.tree q)
    stands q free = stands_unless (node_at s.tree q) (λ none. none_free q (record { reserved = free.reserved; free = none }))

-- ---- all jobs so far

-- what the jobs took, and which of them found all taken
pub record AreCrowded (s0 s : DiskState) (jobs : List Job) : Type 0 where
  pub taken : (folder : NameList) → AreTaken s0 s jobs folder
  pub full : (earlier later : List Job) (path : List ℕ) → jobs ≡ earlier ++ (path, job.TempName) ∷ later → WasFull s0 s earlier path

no_cut : (earlier later : List Job) (failed : Job) → [] ≡ earlier ++ failed ∷ later → ⊥
no_cut [] later failed e = cc
no_cut (first ∷ earlier) later failed e = cc

pub none_crowded : (s : DiskState) (jobs : List Job) → jobs ≡ [] → AreCrowded s s jobs
none_crowded s jobs none =
    subst (AreCrowded s s) (sym none) (record { taken = none_taken s; full = λ earlier later path e. absurd (no_cut earlier later (path, job.TempName) e) })

module _ (tells : Bool) (told : IsTrue tells) (change : Change) (s0 s1 s2 : DiskState) (keeps : KeepsAll s1.tree s2.tree) (low : s0.faults ≤ s1.faults)
    (lower : s1.faults ≤ s2.faults) (jobs : List Job) (so : AreCrowded s0 s1 jobs) (path : List ℕ) where
  full_still : (earlier later : List Job) (other : List ℕ) → jobs ≡ earlier ++ (other, job.TempName) ∷ later → WasFull s0 s2 earlier other
  full_still earlier later other e = later_full s0 s1 s2 keeps lower earlier other (so.full earlier later other e)

  full_now : (fault : JobFault) → HasFileCause (course tells s1 s2) path fault → (earlier : List Job) (other : List ℕ) → jobs ≡ earlier
      → ◌≡◌ {A = Job} (path, fault) (other, job.TempName)
      → WasFull s0 s2 earlier other
  full_now fault cause earlier other all last =
      let same : path ≡ other = ap (λ (failed : Job). failed.0) last in
      let is : fault ≡ job.TempName = ap (λ (failed : Job). failed.1) last in
      let crowded : IsCrowded s1.tree path 0 = (subst (HasFileCause (course tells s1 s2) path) is cause).0 told in
      subst (λ (list : List Job). WasFull s0 s2 list other) all
      (subst (WasFull s0 s2 jobs) same (later_full s0 s1 s2 keeps lower jobs path (now_full s0 s1 jobs path so.taken crowded)))

  more_refused : (fault : JobFault) → LeavesFile change path fault s1 s2 → HasFileCause (course tells s1 s2) path fault
      → AreCrowded s0 s2 (jobs ++ (path, fault) ∷ [])
  more_refused fault left cause = record {
    taken = λ folder. taken_if_refused s0 s1 s2 keeps low lower jobs folder (so.taken folder) change path fault left;
    full = λ earlier later other e. elim (last_or_before jobs (path, fault) earlier (other, job.TempName) later e) [
      | inl (all, last) ↦ full_now fault cause earlier other all last
      | inr (rest, is) ↦ full_still earlier rest other is
    ];
  }

  more_of : (result : OneEnd) → IfOk result (λ rewrite. RewritesFile change path rewrite s1 s2) → IfErr result (λ fault. LeavesFile change path fault s1 s2)
      → IfErr result (HasFileCause (course tells s1 s2) path) → AreCrowded s0 s2 (jobs ++ failed_of (path ∷ []) (end_of result ∷ []))
  more_of (Ok rewrite) rewritten left cause = record {
    taken = λ folder. taken_if_done s0 s1 s2 keeps low lower jobs folder (so.taken folder) change path rewrite rewritten;
    full = λ earlier later other e. full_still earlier later other (sym (append-nil jobs) ∙ e);
  }
  more_of (Err fault) rewritten left cause = more_refused fault left cause

  pub more_crowded : (more : List Job) (result : OneEnd) → more ≡ jobs ++ failed_of (path ∷ []) (end_of result ∷ [])
      → IfOk result (λ rewrite. RewritesFile change path rewrite s1 s2)
      → IfErr result (λ fault. LeavesFile change path fault s1 s2) → IfErr result (HasFileCause (course tells s1 s2) path) → AreCrowded s0 s2 more
  more_crowded more result added rewritten left cause = subst (AreCrowded s0 s2) (sym added) (more_of result rewritten left cause)

-- ---- at the end

pub crowded_out : (tells : Bool) (s0 s : DiskState) (jobs : List Job) → AreCrowded s0 s jobs → (earlier later : List Job) (path : List ℕ)
    → jobs ≡ earlier ++ (path, job.TempName) ∷ later
    → IsCrowdedOut (course tells s0 s) earlier path
crowded_out tells s0 s jobs so earlier later path e =
    let full = so.full earlier later path e in
    record { place = full.place; leads = full.leads; few = full.few s.tree (keeps_itself s.tree) }
