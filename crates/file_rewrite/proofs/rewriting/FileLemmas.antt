-- A file that was found is kept, or its bytes are exchanged.
use Rattle.std.proofs.Common.{◌≡◌, ◌≢◌, ◌⊎◌, ◌≤◌, ℕ, Bool, true, false, List, [], ◌∷◌, refl, sym, ◌∙◌, ap, subst, inl, inr, arith}
use Rattle.std.specs.Prelude.{IsTrue, Option, Some, None, is_some, Err, IsErrOf}
use Rattle.std.specs.Global.{Vec}
use Rattle.std.proofs.lemmas.Option.{same_Some}
use Rattle.sd_io.specs.Tree.{NameList, Content, file, Tree, SameBut, node_at, file_at}
use Rattle.sd_io.specs.Paths.{parts_of, parent_of, reached}
use Rattle.sd_io.specs.Outcomes.{Leaves}
use Rattle.sd_io.specs.Disk.{DiskState, SameTree, outcomes_now}
use Rattle.sd_io.specs.Crashes.{LeavesSince, IsDurable}
use Rattle.sd_io.specs.declared.fault.DiskFault.TheVariants as disk
use Rattle.sd_io.proofs.CrashLemmas.{since_same, since_then, since_more}
use Rattle.sd_change.specs.Change.{Change, IsOne, FileChange, TellsRewritten}
use Rattle.sd_change.specs.declared.changed.Changed.{Changed}
use Rattle.sd_change.specs.declared.changed.Rewritten.{Rewritten}
use Rattle.sd_change.specs.declared.changed.Rewritten.TheVariants.{Same, Other}
use Rattle.sd_course.specs.Course.{HasRisenBy}
use Rattle.file_exchange.specs.declared.fault.ExchangeFault.{ExchangeFault}
use Rattle.file_exchange.specs.declared.fault.ExchangeFault.TheVariants as exchange
use Rattle.file_exchange.specs.Causes.{HasCauseOf}
use Rattle.file_exchange.specs.Reserved.{FirstFree}
use Rattle.file_exchange.specs.Exchange.{IsFilePath, HasBytes, Exchanges, LeavesBytes, IsCleared, HasFailed}
use Rattle.file_exchange.specs.Crash as exchange_crash
use Rattle.file_exchange.specs.Crash.{ExchangeLeaves}
use Rattle.file_rewrite.specs.declared.rewrite.Rewrite.{Rewrite}
use Rattle.file_rewrite.specs.declared.fault.JobFault.{JobFault}
use Rattle.file_rewrite.specs.declared.fault.JobFault.TheVariants as job
use Rattle.file_rewrite.specs.Faults.{as_exchange_job}
use Rattle.file_rewrite.specs.Reading.{FindsFile}
use Rattle.file_rewrite.specs.Rewritten.{IsOldOrNew, IsLeft}
use Rattle.file_rewrite.specs.OneFile.{RewritesFile, LeavesAt, LeavesFile, IsNewAt, IsChangedAt, IsFirstFreeBy}

-- a file becomes one thing
pub one_of_file : (change : Change) → IsOne change → IsOne (FileChange change)
one_of_file change one [] new_bytes others m n a b = (a.0 ∙ sym b.0, a.1 ∙ sym b.1)
one_of_file change one (byte ∷ bytes) new_bytes others m n a b = one (byte ∷ bytes) new_bytes others m n a b

-- what the replacer's answer tells
pub told_same : (change : Change) (bytes : List ℕ) (answer : Rewritten) (same : Vec ℕ) (count : ℕ) → answer ≡ Same same count → TellsRewritten change bytes answer → change bytes bytes count
told_same change bytes answer same count is tells = (subst (TellsRewritten change bytes) is tells).1

pub told_other : (change : Change) (bytes new : List ℕ) (answer : Rewritten) (changed : Changed) → answer ≡ Other changed → new ≡ changed.new_bytes.items
    → TellsRewritten change bytes answer → change bytes new changed.count × (new ≢ bytes)
told_other change bytes new answer changed is made tells =
    subst (λ (n : List ℕ). change bytes n changed.count × (n ≢ bytes)) (sym made) (subst (TellsRewritten change bytes) is tells)

pub same_then : {r s t : DiskState} → SameTree r s → SameTree s t → SameTree r t
same_then a b = record { tree = b.tree ∙ a.tree; clock = b.clock ∙ a.clock; outcomes = b.outcomes ∙ a.outcomes }

pub cleared_since : (s0 s1 s2 : DiskState) (place : NameList) → SameTree s0 s1 → s0.faults ≤ s1.faults → IsCleared s1 place s2 → SameBut place s0.tree s2.tree ⊎ HasRisenBy 2 s0.faults s2.faults
cleared_since s0 s1 s2 place same low (inl others) = inl (subst (λ (t : Tree). SameBut place t s2.tree) same.tree others)
cleared_since s0 s1 s2 place same low (inr (inl twice)) = inr (inl (omega arith))
cleared_since s0 s1 s2 place same low (inr (inr last)) = inr (inr last)

module _ (change : Change) (s0 s1 : DiskState) (path own bytes : List ℕ) (same : SameTree s0 s1) (f : FindsFile s0.tree path own bytes) where
  -- its own path is one that files are exchanged by
  pub file_path : IsFilePath s1.tree own
  file_path = subst (λ (t : Tree). IsFilePath t own) (sym same.tree) (record { path_is = f.text_is; is_file = ap is_some f.was })

  -- what a crash could have left before it was read
  earlier : (q : NameList) (found : Option Content) → Leaves (outcomes_now s1 q) found → Leaves (outcomes_now s0 q) found
  earlier q found l = subst (λ os. Leaves os found) (λ i. same.outcomes i (same.clock i) q) l

  -- ---- it is kept

  pub kept_file : (rewrite : Rewrite) (count : ℕ) → rewrite.changed ≡ false → rewrite.replaced ≡ count → FileChange change bytes bytes count → RewritesFile change path rewrite s0 s1
  kept_file rewrite count stays replaced is_new = record {
    place = parts_of own;
    leads = f.leads;
    bytes = bytes;
    mode = f.mode;
    was = f.was;
    new_bytes = bytes;
    new_bytes_are = subst (FileChange change bytes bytes) (sym replaced) is_new;
    changed = ((λ changed. absurd (cc (changed, stays))), (λ differ. absurd (differ refl)));
    holds = subst (λ (t : Tree). file_at t (parts_of own) ≡ Some (bytes, f.mode)) (sym same.tree) f.was;
    kept = λ e. same;
    others = λ q n. ap (λ (t : Tree). node_at t q) same.tree;
  }

  -- the bytes at a place that the path leads to
  bytes_there : (q : NameList) (b : List ℕ) (mode : ℕ) → reached s0.tree path true ≡ Some q → file_at s0.tree q ≡ Some (b, mode) → (q ≡ parts_of own) × (b ≡ bytes) × (mode ≡ f.mode)
  bytes_there q b mode leads was =
      let place : q ≡ parts_of own = same_Some _ _ (sym leads ∙ f.leads) in
      let pair = same_Some (b, mode) (bytes, f.mode) (sym was ∙ ap (file_at s0.tree) place ∙ f.was) in
      (place, ap (λ (p : List ℕ × ℕ). p.0) pair, ap (λ (p : List ℕ × ℕ). p.1) pair)

  -- what it becomes by a change of one meaning
  becomes : IsOne change → (new : List ℕ) (count : ℕ) → FileChange change bytes new count → (q : NameList) (content : Content) → (c : IsChangedAt change s0.tree path q content)
      → (q ≡ parts_of own) × (c.1.bytes ≡ bytes) × (c.1.new_bytes ≡ new) × (c.1.mode ≡ f.mode)
  becomes one new count is_new q content c =
      let there = bytes_there q c.1.bytes c.1.mode c.0 c.1.was in
      let made = subst (λ (b : List ℕ). FileChange change b c.1.new_bytes c.1.count) there.1 c.1.new_bytes_are in
      (there.0, there.1, (one_of_file change one bytes c.1.new_bytes new c.1.count count made is_new).0, there.2)

  pub kept_durable : IsOne change → (count : ℕ) → FileChange change bytes bytes count → IsDurable (IsChangedAt change s0.tree path) s0 s1
  kept_durable one count is_new = record {
    there = λ q content c found l. let b = becomes one bytes count is_new q content c in absurd (c.1.differ (b.2 ∙ sym b.1));
    elsewhere = λ q none found l. earlier q found l;
  }

  -- ---- its bytes are exchanged

  module _ (s2 : DiskState) (new : List ℕ) (count : ℕ) (is_new : FileChange change bytes new count) where
    -- its mode is kept
    has_mode : HasBytes s0.tree (parts_of own) new s2.tree → file_at s2.tree (parts_of own) ≡ Some (new, f.mode)
    has_mode h = h.holds ∙ ap (λ (m : ℕ). Some (new, m)) (ap (λ (p : List ℕ × ℕ). p.1) (same_Some (h.before, h.mode) (bytes, f.mode) (sym h.was ∙ f.was)))

    pub changed_file : (rewrite : Rewrite) → rewrite.changed ≡ true → rewrite.replaced ≡ count → new ≢ bytes → Exchanges s1.tree (parts_of own) new s2.tree → RewritesFile change path rewrite s0 s2
    changed_file rewrite changes replaced differ exchanged =
        let e : Exchanges s0.tree (parts_of own) new s2.tree = subst (λ (t : Tree). Exchanges t (parts_of own) new s2.tree) same.tree exchanged in
        record {
          place = parts_of own;
          leads = f.leads;
          bytes = bytes;
          mode = f.mode;
          was = f.was;
          new_bytes = new;
          new_bytes_are = subst (FileChange change bytes new) (sym replaced) is_new;
          changed = ((λ _. differ), (λ _. changes));
          holds = has_mode e.has;
          kept = λ equal. absurd (differ equal);
          others = e.others;
        }

    -- ---- what a refusal leaves

    old_or_new : LeavesBytes s0.tree (parts_of own) new s2.tree → IsOldOrNew (FileChange change) s0.tree s2.tree (parts_of own)
    old_or_new b = elim b.old_or_new [
      | inl old ↦ inl old
      | inr has ↦ inr (record { bytes = bytes; mode = f.mode; was = f.was; new_bytes = new; count = count; new_bytes_are = is_new; holds = has_mode has })
    ]

    -- no temporary file
    alone : (fault : JobFault) → IsLeft (FileChange change) s0.tree s2.tree (parts_of own) fault → SameBut (parts_of own) s0.tree s2.tree → LeavesAt change path fault s0 s2
    alone fault left others = record {
      place = parts_of own;
      leads = f.leads;
      is_file = ap is_some f.was;
      left = left;
      temporary = None;
      was_free = λ q e. cc;
      others = λ q n m. others q n;
      old_or_alone = inr refl;
      two_refusals = inr (inl refl);
    }

    -- or one
    with_one : (fault : JobFault) → IsLeft (FileChange change) s0.tree s2.tree (parts_of own) fault → (fault ≡ job.NoMemory) ⊎ HasRisenBy 2 s0.faults s2.faults
        → LeavesBytes s0.tree (parts_of own) new s2.tree → LeavesAt change path fault s0 s2
    with_one fault left two b = by b.old_or_alone b.was_free
      where
        by : (node_at s2.tree (parts_of own) ≡ node_at s0.tree (parts_of own)) ⊎ SameBut (parts_of own) s0.tree s2.tree
            → FirstFree s0.tree (parent_of (parts_of own)) b.temporary ⊎ (b.temporary ≡ parts_of own) → LeavesAt change path fault s0 s2
        by (inr others) free = alone fault left others
        by (inl old) (inr here) = alone fault left (λ q n. b.others q n (λ e. n (e ∙ here)))
        by (inl old) (inl first) = record {
          place = parts_of own;
          leads = f.leads;
          is_file = ap is_some f.was;
          left = left;
          temporary = Some b.temporary;
          was_free = λ q e. subst (λ (p : NameList). FirstFree s0.tree (parent_of (parts_of own)) p) (same_Some _ _ e) first;
          others = λ q n m. b.others q n (λ e. m (ap (λ (p : NameList). Some p) (sym e)));
          old_or_alone = inl old;
          two_refusals = elim two [ inl memory ↦ inl memory | inr twice ↦ inr (inr twice) ];
        }

    -- after one counted fault there is none
    counted : (fault : JobFault) → IsLeft (FileChange change) s0.tree s2.tree (parts_of own) fault → s0.faults ≤ s1.faults → IsCleared s1 (parts_of own) s2
        → LeavesBytes s0.tree (parts_of own) new s2.tree → LeavesAt change path fault s0 s2
    counted fault left low cleared b = elim (cleared_since s0 s1 s2 (parts_of own) same low cleared) [
      | inl others ↦ alone fault left others
      | inr twice ↦ with_one fault left (inr twice) b
    ]

    module _ (tells : Bool) (told : IsTrue tells) (low : s0.faults ≤ s1.faults) (refused : LeavesBytes s1.tree (parts_of own) new s2.tree) where
      from_start : LeavesBytes s0.tree (parts_of own) new s2.tree
      from_start = subst (λ (t : Tree). LeavesBytes t (parts_of own) new s2.tree) same.tree refused

      pub left_file : (fault : ExchangeFault) → HasCauseOf {T = Unit {0}} exchange.Disk tells s1 s2 (Err fault) → HasCauseOf {T = Unit {0}} exchange.Move tells s1 s2 (Err fault)
          → (IsErrOf {T = Unit {0}} (Err fault) (exchange.Move disk.NoMemory) → ⊥)
          → (IsErrOf {T = Unit {0}} (Err fault) (exchange.Disk disk.Failed) → node_at s2.tree (parts_of own) ≡ node_at s1.tree (parts_of own))
          → (HasFailed fault → IsCleared s1 (parts_of own) s2)
          → (IsErrOf {T = Unit {0}} (Err fault) exchange.NoName → SameTree s1 s2)
          → LeavesFile change path (as_exchange_job fault) s0 s2
      left_file exchange.NoName cause moving memory old cleared not_written = inl (same_then same (not_written refl))
      left_file (exchange.Disk disk.Absent) cause moving memory old cleared not_written = absurd (cc (told, (cause.absent refl).0))
      left_file (exchange.Disk disk.Taken) cause moving memory old cleared not_written = absurd (cause.not_taken refl)
      left_file (exchange.Disk disk.Failed) cause moving memory old cleared not_written =
          inr (counted (job.File disk.Failed) (old refl ∙ ap (λ (t : Tree). node_at t (parts_of own)) same.tree) low (cleared (inl refl)) from_start)
      left_file (exchange.Disk disk.NoMemory) cause moving memory old cleared not_written = inr (with_one job.NoMemory (old_or_new from_start) (inl refl) from_start)
      left_file (exchange.Move disk.Absent) cause moving memory old cleared not_written = absurd (cc (told, (moving.absent refl).0))
      left_file (exchange.Move disk.Taken) cause moving memory old cleared not_written = absurd (moving.not_taken refl)
      left_file (exchange.Move disk.Failed) cause moving memory old cleared not_written =
          inr (counted (job.TempfilePersist disk.Failed) (old_or_new from_start) low (cleared (inr refl)) from_start)
      left_file (exchange.Move disk.NoMemory) cause moving memory old cleared not_written = absurd (memory refl)

    -- ---- what a crash leaves

    -- what the exchange calls new is so
    new_at : (q : NameList) (content : Content) → exchange_crash.IsNewFile s1.tree (parts_of own) new q content → IsNewAt change s0.tree path q content
    new_at q content n =
        let was : file_at s0.tree (parts_of own) ≡ Some (n.before, n.mode) = ap (λ (t : Tree). file_at t (parts_of own)) (sym same.tree) ∙ n.was in
        let there = bytes_there (parts_of own) n.before n.mode f.leads was in (
          f.leads ∙ ap (λ (p : NameList). Some p) (sym n.here),
          record {
            bytes = bytes;
            mode = f.mode;
            was = ap (file_at s0.tree) n.here ∙ f.was;
            new_bytes = new;
            count = count;
            new_bytes_are = is_new;
            content_is = n.content_is ∙ ap (file new) there.2;
          },
        )

    changed_at : new ≢ bytes → (q : NameList) (content : Content) → exchange_crash.IsNewFile s1.tree (parts_of own) new q content → IsChangedAt change s0.tree path q content
    changed_at differ q content n =
        let was : file_at s0.tree (parts_of own) ≡ Some (n.before, n.mode) = ap (λ (t : Tree). file_at t (parts_of own)) (sym same.tree) ∙ n.was in
        let there = bytes_there (parts_of own) n.before n.mode f.leads was in (
          f.leads ∙ ap (λ (p : NameList). Some p) (sym n.here),
          record {
            bytes = bytes;
            mode = f.mode;
            was = ap (file_at s0.tree) n.here ∙ f.was;
            new_bytes = new;
            count = count;
            new_bytes_are = is_new;
            differ = differ;
            content_is = n.content_is ∙ ap (file new) there.2;
          },
        )

    pub crash_file : ExchangeLeaves (parts_of own) new s1 s2 → LeavesSince (IsNewAt change s0.tree path) (IsFirstFreeBy s0.tree path) s0 s2
    crash_file e =
        since_then _ _ s0 s1 s2 (since_same _ _ s0 s1 same)
        (since_more _ (IsNewAt change s0.tree path) (λ q. e.temporary ≡ Some q) (IsFirstFreeBy s0.tree path) s1 s2 new_at
        (λ q aside. record {
          place = parts_of own;
          leads = f.leads;
          is_file = ap is_some f.was;
          first = subst (λ (t : Tree). FirstFree t (parent_of (parts_of own)) q) same.tree (e.was_free q aside);
        })
        e.leaves)

    pub durable_file : IsOne change → new ≢ bytes → IsDurable (exchange_crash.IsNewFile s1.tree (parts_of own) new) s1 s2 → IsDurable (IsChangedAt change s0.tree path) s0 s2
    durable_file one differ d = record {
      there = λ q content c found l.
          let b = becomes one new count is_new q content c in
          d.there q (file new f.mode)
          (record { here = b.0; before = bytes; mode = f.mode; was = ap (λ (t : Tree). file_at t (parts_of own)) same.tree ∙ f.was; content_is = refl }) found l
          ∙ ap (λ (x : Content). Some x) ((λ i. file (sym b.2 i) (sym b.3 i)) ∙ sym c.1.content_is);
      elsewhere = λ q none found l. earlier q found (d.elsewhere q (λ content n. none content (changed_at differ q content n)) found l);
    }
