-- What a preview answers where a word names no file, and where nothing stands in the way.
use Rattle.std.proofs.Common.{◌≡◌, ◌⊎◌, ℕ, List, sym, ◌∙◌, ap, subst, inl, inr, refl}
use Rattle.std.specs.Prelude.{IsTrue, Result, Ok, Err, IfErr, OnOk, MatchResult}
use Rattle.std.proofs.lemmas.Bool.{cases_Bool}
use Rattle.sd_io.specs.Files.{file_of}
use Rattle.sd_io.specs.Disk.{DiskState}
use Rattle.sd_io.specs.Streams.{SinkState}
use Rattle.sd_io.specs.declared.fault.DiskFault.{DiskFault}
use Rattle.sd_io.specs.declared.fault.DiskFault.TheVariants as disk
use Rattle.sd_change.specs.Change.{Change}
use Rattle.sd_course.specs.Course.{Course}
use Rattle.file_rewrite.specs.Paths.{IsNoPath}
use Rattle.many_files.specs.Clear.{LeadsToFile}
use Rattle.named_files.specs.Clear.{IsFirstUnshown, IsPreviewClear}
use Rattle.named_files.specs.Preview.{DoesPreview, StopsAt, PreviewFaults, PreviewFails, AnswersNoPath}
use Rattle.named_files.specs.declared.fault.PreviewFault.{PreviewFault}
use Rattle.named_files.specs.declared.fault.PreviewFault.TheVariants as preview
use Rattle.many_files.proofs.CutLemmas.{two_cuts, at_cut}
use Rattle.many_files.proofs.KeepLemmas.{not_none}

module _ (change : Change) (paths : List (List ℕ)) (d : Course DiskState) (out : Course SinkState) where
  -- ---- the first word that can't be shown names no file

  module _ (told : IsTrue d.tells) (path : List ℕ) (first : IsFirstUnshown paths d.old.tree path) (no : IsNoPath path) where
    -- a preview stops there, or before at a word that can be shown
    stops_there : (other : List ℕ) (texts : List (List ℕ)) → StopsAt change paths d other texts
        → (other ≡ path) ⊎ (LeadsToFile d.old.tree other × (IsNoPath other → ⊥))
    stops_there other texts stops = elim (two_cuts first.before path first.after stops.before other stops.after (sym first.paths_are ∙ stops.paths_are)) [
      | inl (all, same) ↦ inl (sym same)
      | inr (inl (more, is)) ↦
          inr (
            at_cut (LeadsToFile d.old.tree) first.before stops.before other more first.before_shown is,
            at_cut (λ p. IsNoPath p → ⊥) first.before stops.before other more first.before_name is,
          )
      | inr (inr (more, is)) ↦ absurd (at_cut (λ p. IsNoPath p → ⊥) stops.before first.before path more stops.before_name is no)
    ]

    file_told : (fault : DiskFault) → PreviewFaults change paths d out fault → AnswersNoPath d out path (preview.File fault)
    file_told disk.Failed faults = inr (inr (refl, faults.0))
    file_told disk.Absent faults =
        let none = faults.0 told in
        elim (stops_there none.path none.stops.texts none.stops.stops) [
          | inl same ↦ absurd (none.names (subst IsNoPath (sym same) no))
          | inr shown ↦ absurd (not_none (file_of d.old.tree none.path) shown.0 none.no_file)
        ]
    file_told disk.Taken faults = absurd faults
    file_told disk.NoMemory faults = absurd faults

    pub fault_told : (fault : PreviewFault) → PreviewFails change paths d out fault → AnswersNoPath d out path fault
    fault_told (preview.File fault) fails = file_told fault fails
    fault_told (preview.InvalidPath other) fails = elim (stops_there other fails.1.texts fails.1.stops) [
      | inl same ↦ inl (ap (λ (p : List ℕ). preview.InvalidPath p) same)
      | inr shown ↦ absurd (shown.1 fails.0)
    ]
    fault_told preview.NoMemory fails = inr (inl refl)

    pub never_done : DoesPreview change paths d out → ⊥
    never_done does = at_cut (λ p. IsNoPath p → ⊥) paths first.before path first.after does.paths_name first.paths_are no

    pub path_told : (result : Result (Unit {0}) PreviewFault) → OnOk result (DoesPreview change paths d out) → IfErr result (PreviewFails change paths d out)
        → MatchResult result (λ _. ⊥) (AnswersNoPath d out path)
    path_told (Ok done) does fails = never_done does
    path_told (Err fault) does fails = fault_told fault fails

  -- ---- nothing stands in the way

  module _ (clear : IsPreviewClear paths d out) where
    no_file_fault : (fault : DiskFault) → PreviewFaults change paths d out fault → ⊥
    no_file_fault disk.Failed faults = elim faults.0 [ inl failed ↦ clear.no_disk_fault failed | inr failed ↦ clear.no_sink_fault failed ]
    no_file_fault disk.Absent faults = elim (cases_Bool d.tells) [
      | inl told ↦
          let none = faults.0 told in
          let stops = none.stops.stops in
          let leads = at_cut (LeadsToFile d.old.tree) paths stops.before none.path stops.after (clear.files told) stops.paths_are in
          not_none (file_of d.old.tree none.path) leads none.no_file
      | inr untold ↦ clear.no_disk_fault (faults.1 untold).0
    ]
    no_file_fault disk.Taken faults = faults
    no_file_fault disk.NoMemory faults = faults

    pub for_memory : (fault : PreviewFault) → PreviewFails change paths d out fault → fault ≡ preview.NoMemory
    for_memory (preview.File fault) fails = absurd (no_file_fault fault fails)
    for_memory (preview.InvalidPath path) fails =
        let stops = fails.1.stops in
        absurd (at_cut (λ p. IsNoPath p → ⊥) paths stops.before path stops.after clear.paths_name stops.paths_are fails.0)
    for_memory preview.NoMemory fails = refl
