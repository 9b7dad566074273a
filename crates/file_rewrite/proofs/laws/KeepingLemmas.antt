-- Files stay files while one is rewritten.
use Rattle.std.proofs.Common.{◌≡◌, ◌≢◌, ◌⊎◌, ℕ, List, sym, ◌∙◌, ap, inl, inr}
use Rattle.std.specs.Prelude.{Option, Some, None, IsSome}
use Rattle.std.proofs.lemmas.Option.{same_Some}
use Rattle.sd_io.specs.Tree.{NameList, Tree, node_at, file_node, file_at}
use Rattle.sd_io.specs.Disk.{DiskState}
use Rattle.sd_io.proofs.WayLemmas.{same_or_other}
use Rattle.sd_change.specs.Change.{Change, FileChange}
use Rattle.file_exchange.specs.Crash.{KeepsFiles}
use Rattle.file_exchange.proofs.PlaceLemmas.{some_not_none}
use Rattle.file_rewrite.specs.declared.rewrite.Rewrite.{Rewrite}
use Rattle.file_rewrite.specs.declared.fault.JobFault.{JobFault}
use Rattle.file_rewrite.specs.declared.fault.JobFault.TheVariants as job
use Rattle.file_rewrite.specs.Rewritten.{IsOldOrNew, IsLeft}
use Rattle.file_rewrite.specs.OneFile.{RewritesFile, LeavesAt, LeavesFile}

-- a file has one mode
one_mode : (tree : Tree) (q place : NameList) (bytes before : List ℕ) (m mode : ℕ) → q ≡ place → file_at tree place ≡ Some (bytes, m) → file_at tree q ≡ Some (before, mode) → m ≡ mode
one_mode tree q place bytes before m mode here was is =
    ap (λ (p : List ℕ × ℕ). p.1) (same_Some (bytes, m) (before, mode) (sym was ∙ ap (file_at tree) (sym here) ∙ is))

-- where a file stands it isn't free
not_free : (tree : Tree) (q place : NameList) → q ≡ place → IsSome (file_at tree place) → node_at tree q ≡ None → ⊥
not_free tree q place here stands none = some_not_none (file_at tree place) stands (ap file_node (ap (node_at tree) (sym here) ∙ none))

pub rewritten_keeps : (change : Change) (path : List ℕ) (rewrite : Rewrite) (old new : DiskState) → RewritesFile change path rewrite old new → KeepsFiles old.tree new.tree
rewritten_keeps change path rewrite old new r = record {
  modes = λ q before mode was. elim (same_or_other q r.place) [
    | inl here ↦ (r.new_bytes, ap (file_at new.tree) here ∙ r.holds ∙ ap (λ (m : ℕ). Some (r.new_bytes, m)) (one_mode old.tree q r.place r.bytes before r.mode mode here r.was was))
    | inr other ↦ (before, ap file_node (r.others q other) ∙ was)
  ];
  free = λ q none. elim (same_or_other q r.place) [
    | inl here ↦ absurd (cc (r.holds, ap file_node (ap (node_at new.tree) (sym here) ∙ none)))
    | inr other ↦ sym (r.others q other) ∙ none
  ];
}

-- whatever the fault, the file is old or new
old_or_new : (change : Change) (old new : Tree) (place : NameList) (fault : JobFault) → IsLeft change old new place fault → IsOldOrNew change old new place
old_or_new change old new place (job.File fault) left = inl left
old_or_new change old new place (job.TempfilePersist fault) left = left
old_or_new change old new place job.InvalidPath left = inl left
old_or_new change old new place job.TempName left = inl left
old_or_new change old new place job.NoMemory left = left

-- the temporary file's place, or another
is_or_not : (o : Option NameList) (q : NameList) → (o ≡ Some q) ⊎ (o ≢ Some q)
is_or_not None q = inr (λ e. cc)
is_or_not (Some t) q = elim (same_or_other t q) [
  | inl same ↦ inl (ap (λ (p : NameList). Some p) same)
  | inr other ↦ inr (λ e. other (same_Some t q e))
]

module _ (change : Change) (path : List ℕ) (fault : JobFault) (old new : DiskState) (l : LeavesAt change path fault old new) where
  there : IsOldOrNew (FileChange change) old.tree new.tree l.place
  there = old_or_new (FileChange change) old.tree new.tree l.place fault l.left

  mode_there : (q : NameList) (before : List ℕ) (mode : ℕ) → q ≡ l.place → file_at old.tree q ≡ Some (before, mode) → IsOldOrNew (FileChange change) old.tree new.tree l.place
      → (bytes : List ℕ) × (file_at new.tree q ≡ Some (bytes, mode))
  mode_there q before mode here was (inl same) = (before, ap file_node (ap (node_at new.tree) here ∙ same ∙ ap (node_at old.tree) (sym here)) ∙ was)
  mode_there q before mode here was (inr n) =
      (n.new_bytes, ap (file_at new.tree) here ∙ n.holds ∙ ap (λ (m : ℕ). Some (n.new_bytes, m)) (one_mode old.tree q l.place n.bytes before n.mode mode here n.was was))

  still_there : (q : NameList) → q ≡ l.place → IsOldOrNew (FileChange change) old.tree new.tree l.place → node_at new.tree q ≡ None → ⊥
  still_there q here (inl same) none = not_free old.tree q l.place here l.is_file (ap (node_at old.tree) here ∙ sym same ∙ ap (node_at new.tree) (sym here) ∙ none)
  still_there q here (inr n) none = cc (n.holds, ap file_node (ap (node_at new.tree) (sym here) ∙ none))

  left_keeps : KeepsFiles old.tree new.tree
  left_keeps = record {
    modes = λ q before mode was. elim (same_or_other q l.place) [
      | inl here ↦ mode_there q before mode here was there
      | inr other ↦ elim (is_or_not l.temporary q) [
        | inl aside ↦ absurd (cc (was, ap file_node (l.was_free q aside).free))
        | inr elsewhere ↦ (before, ap file_node (l.others q other elsewhere) ∙ was)
      ]
    ];
    free = λ q none. elim (same_or_other q l.place) [
      | inl here ↦ absurd (still_there q here there none)
      | inr other ↦ elim (is_or_not l.temporary q) [
        | inl aside ↦ (l.was_free q aside).free
        | inr elsewhere ↦ sym (l.others q other elsewhere) ∙ none
      ]
    ];
  }

pub refused_keeps : (change : Change) (path : List ℕ) (fault : JobFault) (old new : DiskState) → LeavesFile change path fault old new → KeepsFiles old.tree new.tree
refused_keeps change path fault old new (inl same) = record {
  modes = λ q before mode was. (before, ap (λ (t : Tree). file_at t q) same.tree ∙ was);
  free = λ q none. ap (λ (t : Tree). node_at t q) (sym same.tree) ∙ none;
}
refused_keeps change path fault old new (inr l) = left_keeps change path fault old new l
