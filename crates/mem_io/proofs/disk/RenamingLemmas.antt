-- A regular file is renamed, or not.
use Rattle.std.proofs.Common.{subst, ◌⊎◌, inl, inr, List, ℕ, [], ◌∷◌}
use Rattle.sd_io.specs.Tree.{NameList, SameOrdersBut}
use Rattle.sd_io.specs.Paths.{parent_of}
use Rattle.sd_io.specs.Disk.{Advances, outcomes_now}
use Rattle.sd_io.specs.Files.{Renames, CannotRename, MayHaveRenamed}
use Rattle.mem_io.specs.MemTree.{Moves, dev_at}
use Rattle.mem_io.specs.declared.log.Change.TheVariants as change
use Rattle.mem_io.specs.Medium.{SameMedium, CanRename, IsHindered, NotesMoved, NotesUnmoved}
use Rattle.mem_io.specs.declared.disk.MemDisk.{MemDisk}
use Rattle.mem_io.specs.MemDisk.{mem_state}
use Rattle.sd_io.proofs.WayLemmas.{same_or_other}
use Rattle.mem_io.proofs.disk.MomentLemmas.{advances, same_told, kept_now}
use Rattle.mem_io.proofs.log.OwnDeviceLemmas.{moves_with_device, stays_with_device}

pub renames : (old new : MemDisk) (from to : List ℕ) (source target : NameList) → CanRename (mem_state old).tree from to source target → Moves (mem_state old).tree source target (mem_state new).tree
    → SameOrdersBut (parent_of source ∷ parent_of target ∷ []) (mem_state old).tree (mem_state new).tree → NotesMoved old.medium source target new.medium → Renames (mem_state old) from to (mem_state new)
renames old new from to source target can m orders n = record {
  source = source;
  target = target;
  leaves = can.leaves;
  comes = can.comes;
  is_file = can.is_file;
  may_come = can.may_come;
  moved = m.moved;
  gone = m.gone;
  others = m.others;
  orders = orders;
  kept = λ one. same_told old new (n.same one);
  advances = λ two.
      subst (Advances (mem_state old) (mem_state new)) (moves_with_device (mem_state old).tree source target (outcomes_now (mem_state old)) (kept_now old) can.is_file)
      (advances old new (change.Moved source target (dev_at (mem_state old).tree source)) (n.noted two));
}

-- what hinders a renaming
pub cannot_rename : (old : MemDisk) (from to : List ℕ) → IsHindered (mem_state old).tree from to → CannotRename (mem_state old) from to
cannot_rename old from to (inl none) = inl none
cannot_rename old from to (inr (inl none)) = inr (inl none)
cannot_rename old from to (inr (inr other)) = inr (inr (record { place = other.place; names = other.names; stands = other.stands; no_file = other.no_file }))

-- a call that is to fail leaves the file where it is
pub may_have_renamed : (old new : MemDisk) (from to : List ℕ) → (IsHindered (mem_state old).tree from to × SameMedium old.medium new.medium) ⊎ NotesUnmoved old.medium from to new.medium
    → MayHaveRenamed (mem_state old) from to (mem_state new)
may_have_renamed old new from to (inl (hindered, same)) = inl (cannot_rename old from to hindered, same_told old new same)
may_have_renamed old new from to (inr n) = inr (inl (record {
  source = n.source;
  target = n.target;
  leaves = n.can.leaves;
  comes = n.can.comes;
  is_file = n.can.is_file;
  may_come = n.can.may_come;
  tree = elim (same_or_other n.source n.target) [ inl one ↦ (n.notes.same one).tree | inr two ↦ (n.notes.noted two).tree ];
  kept = λ one. same_told old new (n.notes.same one);
  advances = λ two.
      subst (Advances (mem_state old) (mem_state new)) (stays_with_device (mem_state old).tree n.source n.target (outcomes_now (mem_state old)) (kept_now old) n.can.is_file)
      (advances old new (change.NotMoved n.source n.target (dev_at (mem_state old).tree n.source)) (n.notes.noted two).noted);
}))
