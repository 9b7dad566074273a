-- A file that was found is put for good.
use Rattle.std.proofs.Common.{◌≡◌, ◌≢◌, ◌⊎◌, ◌≤◌, ℕ, Bool, true, false, List, refl, sym, ◌∙◌, ap, subst, inl, inr, arith}
use Rattle.std.specs.Prelude.{IsTrue, Option, Some, None, IsSome, is_some, Err, IsErrOf}
use Rattle.sd_io.specs.Tree.{NameList, Content, file, Tree, SameBut, node_at, file_at}
use Rattle.sd_io.specs.Paths.{parts_of, parent_of, reached}
use Rattle.sd_io.specs.Outcomes.{Leaves, own_of, content_at}
use Rattle.sd_io.specs.Disk.{DiskState, SameTree, outcomes_now}
use Rattle.sd_io.specs.Crashes.{LeavesSince, KeepsSettled, IsSettledAt}
use Rattle.sd_io.specs.declared.fault.DiskFault.TheVariants as disk
use Rattle.sd_io.proofs.CrashLemmas.{since_same, since_then, since_more, settled_same}
use Rattle.sd_course.specs.Course.{HasRisenBy}
use Rattle.file_exchange.specs.declared.fault.ExchangeFault.{ExchangeFault}
use Rattle.file_exchange.specs.declared.fault.ExchangeFault.TheVariants as exchange
use Rattle.file_exchange.specs.Causes.{HasCauseOf}
use Rattle.file_exchange.specs.Reserved.{FirstFree}
use Rattle.file_exchange.specs.Exchange.{IsFilePath, FileHolds, Exchanges, LeavesBytes, IsCleared, HasFailed}
use Rattle.file_exchange.specs.Crash as exchange_crash
use Rattle.file_exchange.specs.Crash.{ExchangeLeaves, IsPutForGood}
use Rattle.file_rewrite.specs.declared.fault.JobFault.{JobFault}
use Rattle.file_rewrite.specs.declared.fault.JobFault.TheVariants as job
use Rattle.file_rewrite.specs.Faults.{as_exchange_job}
use Rattle.file_rewrite.specs.Reading.{FindsFile}
use Rattle.file_rewrite.specs.OneFile.{IsFirstFreeBy}
use Rattle.file_rewrite.specs.Putting.{PutsFile, IsBeforeMove, LeavesPut, LeavesPutFile, IsPutAt}
use Rattle.file_rewrite.proofs.rewriting.FileLemmas.{same_then, cleared_since}

module _ (s0 s1 s2 : DiskState) (path own held bytes : List ℕ) (same : SameTree s0 s1) (f : FindsFile s0.tree path own held) where
  pub put_path : IsFilePath s1.tree own
  put_path = subst (λ (t : Tree). IsFilePath t own) (sym same.tree) (record { path_is = f.text_is; is_file = ap is_some f.was })

  pub put_holds : FileHolds s1.tree own held
  put_holds = (f.mode, ap (λ (t : Tree). file_at t (parts_of own)) same.tree ∙ f.was)

  earlier : (q : NameList) (found : Option Content) → Leaves (outcomes_now s1 q) found → Leaves (outcomes_now s0 q) found
  earlier q found l = subst (λ os. Leaves os found) (λ i. same.outcomes i (same.clock i) q) l

  pub puts : Exchanges s1.tree (parts_of own) bytes s2.tree → IsPutForGood (parts_of own) s1 s2 → PutsFile path bytes s0 s2
  puts e g = record {
    place = parts_of own;
    leads = f.leads;
    exchanged = subst (λ (t : Tree). Exchanges t (parts_of own) bytes s2.tree) same.tree e;
    for_good = record { alone = g.alone; elsewhere = λ q n found l. earlier q found (g.elsewhere q n found l) };
  }

  pub put_settled : KeepsSettled s1 s2 → KeepsSettled s0 s2
  put_settled keeps q is_file is = keeps q (subst (λ (t : Tree). IsSome (file_at t q)) (sym same.tree) is_file) (settled_same s0 s1 same q is)

  new_at : (q : NameList) (content : Content) → exchange_crash.IsNewFile s1.tree (parts_of own) bytes q content → IsPutAt bytes s0.tree path q content
  new_at q content n = (
    f.leads ∙ ap (λ (p : NameList). Some p) (sym n.here),
    record {
      here = refl;
      before = n.before;
      mode = n.mode;
      was = ap (file_at s0.tree) n.here ∙ ap (λ (t : Tree). file_at t (parts_of own)) (sym same.tree) ∙ n.was;
      content_is = n.content_is;
    },
  )

  pub put_crash : ExchangeLeaves (parts_of own) bytes s1 s2 → LeavesSince (IsPutAt bytes s0.tree path) (IsFirstFreeBy s0.tree path) s0 s2
  put_crash e =
      since_then _ _ s0 s1 s2 (since_same _ _ s0 s1 same)
      (since_more _ (IsPutAt bytes s0.tree path) (λ q. e.temporary ≡ Some q) (IsFirstFreeBy s0.tree path) s1 s2 new_at
      (λ q aside. record {
        place = parts_of own;
        leads = f.leads;
        is_file = ap is_some f.was;
        first = subst (λ (t : Tree). FirstFree t (parent_of (parts_of own)) q) same.tree (e.was_free q aside);
      })
      e.leaves)

  -- ---- what a refusal leaves

  module _ (tells : Bool) (told : IsTrue tells) (low : s0.faults ≤ s1.faults) (refused : LeavesBytes s1.tree (parts_of own) bytes s2.tree) where
    from_start : LeavesBytes s0.tree (parts_of own) bytes s2.tree
    from_start = subst (λ (t : Tree). LeavesBytes t (parts_of own) bytes s2.tree) same.tree refused

    leaves : (fault : JobFault) → (IsBeforeMove fault → node_at s2.tree (parts_of own) ≡ node_at s0.tree (parts_of own))
        → (fault ≡ job.NoMemory) ⊎ SameBut (parts_of own) s0.tree s2.tree ⊎ HasRisenBy 2 s0.faults s2.faults → LeavesPutFile path bytes fault s0 s2
    leaves fault old two = inr (record { place = parts_of own; leads = f.leads; left = from_start; is_old = old; two_refusals = two })

    cleared_by : (fault : JobFault) → IsCleared s1 (parts_of own) s2 → (fault ≡ job.NoMemory) ⊎ SameBut (parts_of own) s0.tree s2.tree ⊎ HasRisenBy 2 s0.faults s2.faults
    cleared_by fault cleared = elim (cleared_since s0 s1 s2 (parts_of own) same low cleared) [ inl others ↦ inr (inl others) | inr twice ↦ inr (inr twice) ]

    pub put_left : (fault : ExchangeFault) → HasCauseOf {T = Unit {0}} exchange.Disk tells s1 s2 (Err fault) → HasCauseOf {T = Unit {0}} exchange.Move tells s1 s2 (Err fault)
        → (IsErrOf {T = Unit {0}} (Err fault) (exchange.Move disk.NoMemory) → ⊥)
        → (IsErrOf {T = Unit {0}} (Err fault) (exchange.Disk disk.Failed) → node_at s2.tree (parts_of own) ≡ node_at s1.tree (parts_of own))
        → (HasFailed fault → IsCleared s1 (parts_of own) s2)
        → (IsErrOf {T = Unit {0}} (Err fault) exchange.NoName → SameTree s1 s2)
        → LeavesPutFile path bytes (as_exchange_job fault) s0 s2
    put_left exchange.NoName cause moving memory old cleared not_written = inl (same_then same (not_written refl))
    put_left (exchange.Disk disk.Absent) cause moving memory old cleared not_written = absurd (cc (told, (cause.absent refl).0))
    put_left (exchange.Disk disk.Taken) cause moving memory old cleared not_written = absurd (cause.not_taken refl)
    put_left (exchange.Disk disk.Failed) cause moving memory old cleared not_written =
        leaves (job.File disk.Failed) (λ _. old refl ∙ ap (λ (t : Tree). node_at t (parts_of own)) same.tree) (cleared_by (job.File disk.Failed) (cleared (inl refl)))
    put_left (exchange.Disk disk.NoMemory) cause moving memory old cleared not_written = leaves job.NoMemory (λ no. absurd no) (inl refl)
    put_left (exchange.Move disk.Absent) cause moving memory old cleared not_written = absurd (cc (told, (moving.absent refl).0))
    put_left (exchange.Move disk.Taken) cause moving memory old cleared not_written = absurd (moving.not_taken refl)
    put_left (exchange.Move disk.Failed) cause moving memory old cleared not_written =
        leaves (job.TempfilePersist disk.Failed) (λ no. absurd no) (cleared_by (job.TempfilePersist disk.Failed) (cleared (inr refl)))
    put_left (exchange.Move disk.NoMemory) cause moving memory old cleared not_written = absurd (memory refl)
