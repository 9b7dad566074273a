-- With room for all stages and the journal, nothing but want of memory refuses a change.
use Rattle.std.proofs.Common.{true, false, Bool, ◌≡◌, ◌<◌, ◌≤◌, ◌+◌, ℕ, List, [], ◌∷◌, ◌++◌, length, if◌then◌else◌, refl, sym, ◌∙◌, ap, subst, inl, inr, arith}
use Rattle.std.specs.Prelude.{Some, None, IsSome, is_some, IsTrue, Result, Ok, Err, IfErr}
use Rattle.std.specs.Option.{option_and_then}
use Rattle.std.specs.Cmp.{IsEquivalence}
use Rattle.std.specs.Cmp.Lexicographic.{pointwise_decides, bytes_decides}
use Rattle.std.proofs.lemmas.Map.Made.{is_member-Decides, length-le_from_is_member}
use Rattle.std.proofs.lemmas.Option.{same_Some}
use Rattle.sd_io.specs.Tree.{NameList, Tree, node_at, file_at, is_directory_at}
use Rattle.sd_io.specs.Outcomes.{same_place}
use Rattle.sd_io.specs.Disk.{DiskState}
use Rattle.sd_io.specs.Files.{file_of}
use Rattle.sd_io.specs.Lists.{directory_of}
use Rattle.sd_io.proofs.OutcomeLemmas.{same_place_true, same_place_false}
use Rattle.sd_io.proofs.WayLemmas.{same_or_other}
use Rattle.sd_course.specs.Course.{course, DiskFailed}
use Rattle.sd_change.specs.Change.{Change}
use Rattle.file_exchange.specs.Crash.{Exchange}
use Rattle.file_rewrite.specs.OneFile.{FreeAtMost}
use Rattle.file_rewrite.specs.declared.fault.JobFault.{JobFault}
use Rattle.file_rewrite.specs.declared.fault.JobFault.TheVariants as job
use Rattle.change_phases.specs.Between.{Work, journal_name}
use Rattle.journal.specs.Faults.{WantsMemory}
use Rattle.journal.specs.declared.fault.JournalFault.{JournalFault}
use Rattle.journal.specs.declared.fault.JournalFault.TheVariants as fault
use Rattle.journal.specs.Planning.{AreChangesOf, LeadToFiles}
use Rattle.journal.specs.Changing.{IsChangeBelow, IsUnfinished, ChangeFails, HasFree, HasRoomFor}
use Rattle.journal.proofs.SameFilesLemmas.{none_stands}
use Rattle.journal.proofs.StagingLemmas.{cons_cases}

-- ---- more names are free than there may be

same_places : IsEquivalence same_place
same_places = record {
  refl = λ x. same_place_true x x refl;
  symm = λ x y. elim (same_or_other x y) [
    | inl e ↦ same_place_true x y e ∙ sym (same_place_true y x (sym e))
    | inr n ↦ same_place_false x y n ∙ sym (same_place_false y x (λ e. n (sym e)))
  ];
  congr = λ x y z e. ap (λ (p : NameList). same_place p z) ((pointwise_decides bytes_decides x y).0 e);
}

no_room : (tree : Tree) (folder : NameList) (most n : ℕ) → FreeAtMost tree folder most → HasFree tree folder n → most < n → ⊥
no_room tree folder most n few (places, long, distinct, free) less =
    let short : length places ≤ length few.places =
    length-le_from_is_member same_places places few.places distinct
    (λ q is. (is_member-Decides (pointwise_decides bytes_decides) few.places q).1 (few.all q (free q ((is_member-Decides (pointwise_decides bytes_decides) places q).0 is)))) in
    omega (arith, short, long, few.few, less)

-- ---- the paths lead to files

pub lead_to_files : (change : Change) (tree : Tree) (paths : List (List ℕ)) (files : List Exchange) → AreChangesOf change tree paths files → LeadToFiles tree paths
lead_to_files change tree [] files are path has = absurd (omega (arith, has.1))
lead_to_files change tree (p ∷ paths) [] are path has = absurd are
lead_to_files change tree (p ∷ paths) (f ∷ files) are path has = elim (cons_cases p path paths has) [
  | inl same ↦ subst (λ (x : List ℕ). IsSome (file_of tree x)) same (ap is_some (ap (option_and_then (file_at tree)) are.0.leads ∙ are.0.was))
  | inr rest ↦ lead_to_files change tree paths files are.1 path rest
]

-- ---- want of memory is the one reason left

module _ (change : Change) (work : Work) (root : List ℕ) (paths : List (List ℕ)) (s x : DiskState) (b : IsChangeBelow change work root paths s) (room : HasRoomFor change s.tree root paths)
    (no_fault : DiskFailed (course true s x) → ⊥) where
  lead : LeadToFiles s.tree paths
  lead = lead_to_files change s.tree paths work.files b.changes

  root_leads : directory_of s.tree root ≡ Some work.root
  root_leads = ap (λ (t : Tree). directory_of t root) (sym b.tree) ∙ b.leads

  some_changed : (free changed : ℕ) → free < changed + 0 → 0 < changed
  some_changed free changed less = omega (arith, less)

  wants : (refused : JobFault) → IsUnfinished change paths (course true s x) refused → refused ≡ job.NoMemory
  wants (job.File refused) fails = absurd (no_fault fails)
  wants (job.TempfilePersist refused) fails = absurd (no_fault fails)
  wants job.InvalidPath fails = absurd fails
  wants job.TempName fails =
      let full = fails.0 refl lead in
      absurd (no_room s.tree full.folder full.changed (full.changed + 1) full.few (room.each full.folder full.changed full.some full.changes) (omega arith))
  wants job.NoMemory fails = refl

  pub wants_memory : (refused : JournalFault) → ChangeFails change root paths (course true s x) refused → WantsMemory refused
  wants_memory fault.RootMissing fails =
      none_stands (directory_of s.tree root) (ap (option_and_then (λ place. if is_directory_at s.tree place then Some place else None)) (fails.1.0 refl)) (ap is_some root_leads)
  wants_memory (fault.File refused) (free, inl counted) = no_fault counted
  wants_memory (fault.File refused) (free, inr (told, (path, has, none))) = none_stands (file_of s.tree path) none (lead path has)
  wants_memory fault.Pending fails =
      let pending = fails.1.0 refl in
      let here : pending.folder ≡ work.root = same_Some _ _ (sym pending.leads ∙ root_leads) in
      none_stands (node_at s.tree (pending.folder ++ journal_name ∷ [])) (ap (λ (p : NameList). node_at s.tree (p ++ journal_name ∷ [])) here ∙ ap (λ (t : Tree). node_at t (work.root ++ journal_name ∷ [])) (sym b.tree) ∙ b.is_work.no_journal)
      pending.stands
  wants_memory (fault.TempName text) fails =
      let crowded = fails.1.0 refl lead in
      elim crowded.too_few [
        | inl few ↦
            no_room s.tree crowded.folder few.free (few.changed + 1) few.few (room.each crowded.folder few.changed (some_changed few.free few.changed few.fewer) few.changes) (omega (arith, few.fewer))
        | inr (is_root, few) ↦ no_room s.tree crowded.folder few.free (few.changed + 2) few.few (room.in_root crowded.folder few.changed is_root few.changes) (omega (arith, few.fewer))
      ]
  wants_memory (fault.Unfinished refused) fails = wants refused fails
  wants_memory fault.BadJournal fails = fails
  wants_memory (fault.StageMissing stage) fails = fails
  wants_memory (fault.StageDiffers stage planned found) fails = fails
  wants_memory fault.NoMemory fails = tt

pub complete : {T : Type 0} (change : Change) (tells : Bool) (work : Work) (root : List ℕ) (paths : List (List ℕ)) (s x : DiskState) (r : Result T JournalFault) → IsTrue tells → IsChangeBelow change work root paths s
    → HasRoomFor change s.tree root paths → (DiskFailed (course tells s x) → ⊥) → IfErr r (ChangeFails change root paths (course tells s x)) → IfErr r WantsMemory
complete change true work root paths s x (Ok done) told b room no_fault fails = tt
complete change true work root paths s x (Err refused) told b room no_fault fails = wants_memory change work root paths s x b room no_fault refused fails
complete change false work root paths s x r told b room no_fault fails = cc
