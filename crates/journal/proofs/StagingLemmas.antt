-- Why stages aren't made, and what is left then.
use Rattle.std.proofs.Common.{true, false, Bool, ◌≡◌, ◌≢◌, ◌≤◌, ◌+◌, ℕ, zero, suc, List, [], ◌∷◌, ◌++◌, length, take, drop, refl, sym, ◌∙◌, ap, subst, ◌⊎◌, inl, inr, arith}
use Rattle.std.specs.Prelude.{Option, Some, None, IsSome, IsTrue, Contains, slice_get, Err}
use Rattle.std.specs.Option.{option_and_then}
use Rattle.std.proofs.lemmas.Option.{same_Some, get_or_from_slice_get, slice_get_within}
use Rattle.std.proofs.lemmas.List.{take-append-drop, take_all, take_more, length-append}
use Rattle.std.proofs.lemmas.List.Elements.{Contains-push_cases, Contains-append_left, Contains-append_right}
use Rattle.sd_io.specs.declared.fault.DiskFault.{DiskFault}
use Rattle.sd_io.specs.declared.fault.DiskFault.TheVariants as disk
use Rattle.sd_io.specs.Tree.{NameList, Node, Tree, node_at, file_node, file_at}
use Rattle.sd_io.specs.Paths.{parts_of, parent_of, reached}
use Rattle.sd_io.specs.Disk.{DiskState, SameTree}
use Rattle.sd_io.specs.Files.{path_text, file_of}
use Rattle.sd_io.proofs.OutcomeLemmas.{parent_of_child}
use Rattle.sd_io.proofs.WayLemmas.{same_or_other, reached_still}
use Rattle.sd_change.specs.Change.{Change, FileChange}
use Rattle.sd_course.specs.Course.{course}
use Rattle.file_exchange.specs.Causes.{HasCauseOf}
use Rattle.file_exchange.specs.Reserved.{Free, NoneFree, IsFolderPath, reserved_name, reserved_names}
use Rattle.file_exchange.specs.Exchange.{IsPathIn}
use Rattle.file_exchange.specs.Crash.{Exchange}
use Rattle.file_exchange.proofs.CauseLemmas.{risen_since}
use Rattle.file_exchange.proofs.PlaceLemmas.{is_free, is_beside}
use Rattle.file_rewrite.specs.Reading.{FindsFile}
use Rattle.file_rewrite.specs.OneFile.{HasFileCause, FreeAtMost}
use Rattle.file_rewrite.specs.declared.fault.JobFault.TheVariants as job
use Rattle.journal_text.specs.declared.line.Line.{Line}
use Rattle.change_phases.specs.Between.{place_of, stage_of}
use Rattle.change_phases.proofs.LineLemmas.{first, later}
use Rattle.journal.specs.declared.fault.JournalFault.{JournalFault}
use Rattle.journal.specs.declared.fault.JournalFault.TheVariants as fault
use Rattle.journal.specs.Faults.{of_disk}
use Rattle.journal.specs.Beside.{LeavesBeside, KeepsAllButFree}
use Rattle.journal.specs.Clearing.{IsStage}
use Rattle.journal.specs.Planning.{IsChangeOf, AddsFiles, AddsStages, StagesFile, LeavesStage, ChangesIn, HaveChangesIn, CountStages, HasTooFew, LeadToFiles, IsCrowdedAt, IsNotFound, IsNotStaged, AreNotStaged}
use Rattle.journal.proofs.SameFilesLemmas.{none_stands, none_or_some, file_stands}
use Rattle.journal.proofs.CauseLemmas.{more_since}

-- ---- all but reserved names that were free

pub free_same : (old new : Tree) → new ≡ old → KeepsAllButFree old new
free_same old new e q = inl (ap (λ (t : Tree). node_at t q) e)

pub free_then : (r s t : Tree) → KeepsAllButFree r s → KeepsAllButFree s t → KeepsAllButFree r t
free_then r s t a b q = elim (b q) [
  | inl kept ↦ elim (a q) [ inl was ↦ inl (kept ∙ was) | inr free ↦ inr free ]
  | inr (folder, free) ↦ elim (a q) [
    | inl was ↦ inr (folder, record { reserved = free.reserved; free = sym was ∙ free.free })
    | inr before ↦ inr before
  ]
]

pub beside_free : (folder : NameList) (s t : DiskState) → LeavesBeside s folder t → KeepsAllButFree s.tree t.tree
beside_free folder s t l q = by l.temporary refl
  where
    by : (o : Option NameList) → l.temporary ≡ o → (node_at t.tree q ≡ node_at s.tree q) ⊎ ((f : NameList) × Free s.tree f q)
    by None e = inl (l.others q (λ some. cc (sym e ∙ some)))
    by (Some place) e = elim (same_or_other q place) [
      | inl here ↦ inr (folder, is_free (l.was_free q (e ∙ ap (λ (p : NameList). Some p) (sym here))))
      | inr n ↦ inl (l.others q (λ some. n (sym (same_Some place q (sym e ∙ some)))))
    ]

pub left_free : (path : List ℕ) (s t : DiskState) → LeavesStage path s t → KeepsAllButFree s.tree t.tree
left_free path s t (inl same) = free_same s.tree t.tree same.tree
left_free path s t (inr (place, leads, stands, l)) = beside_free (parent_of place) s t l

-- ---- stages among places

pub cons_cases : {X : Type 0} (x y : X) (xs : List X) → Contains (x ∷ xs) y → (x ≡ y) ⊎ Contains xs y
cons_cases x y xs (zero, low, is) = inl is
cons_cases x y xs (suc k, low, is) = inr (k, omega arith, is)

-- a place is a stage of the lines, or it isn't
pub stage_or_not : (lines : List Line) (q : NameList) → IsStage lines q ⊎ (IsStage lines q → ⊥)
stage_or_not [] q = inr (λ (line, has, e). omega (arith, has.1))
stage_or_not (line ∷ lines) q = elim (same_or_other q (stage_of line)) [
  | inl e ↦ inl (line, first line lines, e)
  | inr n ↦ elim (stage_or_not lines q) [
    | inl (other, has, e) ↦ inl (other, later line other lines has, e)
    | inr none ↦ inr (λ (other, has, e). elim (cons_cases line other lines has) [ inl same ↦ n (e ∙ ap stage_of (sym same)) | inr rest ↦ none (other, rest, e) ])
  ]
]

pub stages_free : (lines : List Line) (old new : Tree) → AddsStages lines old new → KeepsAllButFree old new
stages_free lines old new a q = elim (stage_or_not lines q) [
  | inl (line, has, e) ↦ inr (parent_of (place_of line), subst (λ (p : NameList). Free old (parent_of (place_of line)) p) (sym e) (a.was_free line has))
  | inr n ↦ inl (a.others q n)
]

-- ---- how many files change

one_more : (change : Change) (tree : Tree) (folder : NameList) (paths : List (List ℕ)) (path : List ℕ) (n : ℕ) → HaveChangesIn change tree folder paths n → ChangesIn change tree folder path
    → HaveChangesIn change tree folder (paths ++ path ∷ []) (n + 1)
one_more change tree folder [] path n have is = inr (n, refl, is, have)
one_more change tree folder (p ∷ paths) path n (inl have) is = inl (one_more change tree folder paths path n have is)
one_more change tree folder (p ∷ paths) path n (inr (m, e, here, have)) is = inr (m + 1, ap (λ (k : ℕ). k + 1) e, here, one_more change tree folder paths path m have is)

-- more paths have as many
more_paths : (change : Change) (tree : Tree) (folder : NameList) (paths more : List (List ℕ)) (n : ℕ) → HaveChangesIn change tree folder paths n → HaveChangesIn change tree folder (paths ++ more) n
more_paths change tree folder [] more n have = none more n have
  where
    none : (ps : List (List ℕ)) (k : ℕ) → k ≡ 0 → HaveChangesIn change tree folder ps k
    none [] k e = e
    none (p ∷ ps) k e = inl (none ps k e)
more_paths change tree folder (p ∷ paths) more n (inl have) = inl (more_paths change tree folder paths more n have)
more_paths change tree folder (p ∷ paths) more n (inr (m, e, here, have)) = inr (m, e, here, more_paths change tree folder paths more m have)

-- a path that leads to a file now led to it
pub file_before : (old now : DiskState) (path : List ℕ) (q : NameList) → AddsFiles old now → IsSome (file_of old.tree path) → reached now.tree path true ≡ Some q
    → (reached old.tree path true ≡ Some q) × (node_at now.tree q ≡ node_at old.tree q)
file_before old now path q a stood leads = by (reached old.tree path true) refl
  where
    by : (o : Option NameList) → reached old.tree path true ≡ o → (reached old.tree path true ≡ Some q) × (node_at now.tree q ≡ node_at old.tree q)
    by None e = absurd (none_stands (file_of old.tree path) (ap (option_and_then (file_at old.tree)) e) stood)
    by (Some p) e =
        let file_there : IsSome (file_at old.tree p) = subst IsSome (ap (option_and_then (file_at old.tree)) e) stood in
        let there = file_stands (node_at old.tree p) file_there in
        let kept = a.stood p (λ none. none_stands (node_at old.tree p) none there) in
        let still = reached_still a.ways path true p e (subst IsSome (sym kept) there) in
        let here : p ≡ q = same_Some p q (sym still ∙ leads) in
        (e ∙ ap (λ (x : NameList). Some x) here, subst (λ (x : NameList). node_at now.tree x ≡ node_at old.tree x) here kept)

-- and what changes there changed then
pub change_before : (change : Change) (old now : DiskState) (path : List ℕ) (f : Exchange) → AddsFiles old now → IsSome (file_of old.tree path) → IsChangeOf change now.tree path f → IsChangeOf change old.tree path f
change_before change old now path f a stood c =
    let (leads, same) = file_before old now path f.0 a stood c.leads in
    record { leads = leads; bytes = c.bytes; mode = c.mode; was = ap file_node (sym same) ∙ c.was; count = c.count; new_bytes = c.new_bytes; differ = c.differ }

pub contains_path : (paths : List (List ℕ)) (n : ℕ) (path : List ℕ) → slice_get paths n ≡ Some path → Contains paths path
contains_path paths n path at = (n, slice_get_within paths n path at, get_or_from_slice_get paths n path path at)

pub count_none : (change : Change) (tree : Tree) (paths : List (List ℕ)) (lines : List Line) → lines ≡ [] → CountStages change tree (take 0 paths) lines
count_none change tree paths lines none folder = ([], more_paths change tree folder [] (take 0 paths) 0 refl, λ line has of. absurd (nothing line has))
  where
    nothing : (line : Line) → Contains lines line → ⊥
    nothing line has = let few = subst (λ (ls : List Line). Contains ls line) none has in omega (arith, few.1)

module _ (change : Change) (old now next : DiskState) (paths : List (List ℕ)) (n : ℕ) (path : List ℕ) (at : slice_get paths n ≡ Some path) (lines longer : List Line) (counted : CountStages change old.tree (take n paths) lines) where
  taken : take (n + 1) paths ≡ take n paths ++ path ∷ []
  taken = take_more paths n path (slice_get_within paths n path at) ∙ ap (λ (p : List ℕ). take n paths ++ p ∷ []) (get_or_from_slice_get paths n path path at)

  -- a file was passed over
  pub count_same : longer ≡ lines → CountStages change old.tree (take (n + 1) paths) longer
  count_same e folder =
      let (places, have, among) = counted folder in (
        places,
        subst (λ (ps : List (List ℕ)). HaveChangesIn change old.tree folder ps (length places)) (sym taken) (more_paths change old.tree folder (take n paths) (path ∷ []) (length places) have),
        (λ line has of. among line (subst (λ (ls : List Line). Contains ls line) e has) of),
      )

  -- a file has its stage
  pub count_more : AddsFiles old now → IsSome (file_of old.tree path) → (line : Line) → longer ≡ lines ++ line ∷ [] → StagesFile change path line now next → CountStages change old.tree (take (n + 1) paths) longer
  count_more a stood line pushed m folder =
      let (places, have, among) = counted folder in
      let was = change_before change old now path m.f a stood m.changes in
      elim (same_or_other (parent_of (place_of line)) folder) [
        | inl here ↦ (
          places ++ stage_of line ∷ [],
          subst (λ (k : ℕ). HaveChangesIn change old.tree folder (take (n + 1) paths) k) (sym (length-append places (stage_of line ∷ [])))
              (subst (λ (ps : List (List ℕ)). HaveChangesIn change old.tree folder ps (length places + 1)) (sym taken)
              (one_more change old.tree folder (take n paths) path (length places) have (m.f, was, ap parent_of (sym m.of.place) ∙ here))),
          (λ other has of. elim (Contains-push_cases lines line other (subst (λ (ls : List Line). Contains ls other) pushed has)) [
            | inl before ↦ Contains-append_left places (stage_of line ∷ []) (stage_of other) (among other before of)
            | inr same ↦ Contains-append_right places (stage_of line ∷ []) (stage_of other) (subst (λ (l : Line). Contains (stage_of line ∷ []) (stage_of l)) same (first (stage_of line) []))
          ]),
        )
        | inr n_here ↦ (
          places,
          subst (λ (ps : List (List ℕ)). HaveChangesIn change old.tree folder ps (length places)) (sym taken) (more_paths change old.tree folder (take n paths) (path ∷ []) (length places) have),
          (λ other has of. elim (Contains-push_cases lines line other (subst (λ (ls : List Line). Contains ls other) pushed has)) [
            | inl before ↦ among other before of
            | inr same ↦ absurd (n_here (ap (λ (l : Line). parent_of (place_of l)) same ∙ of))
          ]),
        )
      ]

-- the free names of a folder in which none is free now are the stages in it
pub free_at_most : (old now : Tree) (lines : List Line) (folder : NameList) (places : List NameList) → AddsStages lines old now
    → ((line : Line) → Contains lines line → parent_of (place_of line) ≡ folder → Contains places (stage_of line)) → NoneFree now folder → FreeAtMost old folder (length places)
free_at_most old now lines folder places a among none = record {
  places = places;
  few = omega arith;
  all = λ q free. elim (stage_or_not lines q) [
    | inl (line, has, e) ↦
        let of : parent_of (place_of line) ≡ folder =
        sym (parent_of_child (parent_of (place_of line)) (reserved_name line.number)) ∙ ap parent_of (sym e ∙ free.reserved.2) ∙ parent_of_child folder (reserved_name free.reserved.0) in
        subst (Contains places) (sym e) (among line has of)
    | inr n ↦ absurd (none q (record { reserved = free.reserved; free = a.others q n ∙ free.free }))
  ];
}

-- ---- why one isn't staged

pub found_fails : (tells : Bool) (s t : DiskState) (path : List ℕ) (refused : DiskFault) → HasFileCause (course tells s t) path (job.File refused) → IsNotFound (course tells s t) path (fault.File refused)
found_fails true s t path disk.Absent cause = inr (refl, (path, first path [], cause.0 refl))
found_fails false s t path disk.Absent cause = inl (cause.1 refl)
found_fails tells s t path disk.Taken cause = absurd cause
found_fails tells s t path disk.Failed cause = inl cause
found_fails tells s t path disk.NoMemory cause = absurd cause

-- a file that isn't found isn't staged
pub not_found : (change : Change) (tells : Bool) (s t : DiskState) (path : List ℕ) (refused : JournalFault) → IsNotFound (course tells s t) path refused → IsNotStaged change (course tells s t) path refused
not_found change tells s t path fault.RootMissing fails = fails
not_found change tells s t path (fault.File refused) fails = fails
not_found change tells s t path fault.Pending fails = fails
not_found change tells s t path (fault.TempName folder) fails = absurd fails
not_found change tells s t path (fault.Unfinished job) fails = fails
not_found change tells s t path fault.BadJournal fails = fails
not_found change tells s t path (fault.StageMissing stage) fails = fails
not_found change tells s t path (fault.StageDiffers stage planned found) fails = fails
not_found change tells s t path fault.NoMemory fails = fails

pub made_fails : {T : Type 0} (change : Change) (tells : Bool) (old s t : DiskState) (path : List ℕ) (refused : DiskFault) → old.faults ≤ s.faults → HasCauseOf {T = T} (λ f. f) tells s t (Err refused)
    → IsNotStaged change (course tells old t) path (of_disk refused)
made_fails change tells old s t path disk.Absent low cause = let (untold, rose) = cause.absent refl in inl (risen_since old.faults s.faults t.faults low (inl rose))
made_fails change tells old s t path disk.Taken low cause = absurd (cause.not_taken refl)
made_fails change tells old s t path disk.Failed low cause = inl (risen_since old.faults s.faults t.faults low (cause.failed refl))
made_fails change tells old s t path disk.NoMemory low cause = tt

-- ---- why they aren't all

module _ (change : Change) (tells : Bool) (old now new : DiskState) (paths : List (List ℕ)) (n : ℕ) (path : List ℕ) (at : slice_get paths n ≡ Some path) (low : old.faults ≤ now.faults) (lines : List Line)
    (adds : IsTrue tells → AddsFiles old now) (stages : IsTrue tells → AddsStages lines old.tree now.tree)
    (counted : IsTrue tells → LeadToFiles old.tree paths → CountStages change old.tree (take n paths) lines) where
  has : Contains paths path
  has = (n, slice_get_within paths n path at, get_or_from_slice_get paths n path path at)

  none_before : AddsFiles old now → file_of now.tree path ≡ None → file_of old.tree path ≡ None
  none_before a none = elim (none_or_some (file_of old.tree path)) [
    | inl it ↦ it
    | inr stood ↦ absurd (by (reached old.tree path true) refl stood)
  ]
    where
      by : (o : Option NameList) → reached old.tree path true ≡ o → IsSome (file_of old.tree path) → ⊥
      by None e stood = none_stands (file_of old.tree path) (ap (option_and_then (file_at old.tree)) e) stood
      by (Some p) e stood =
          let file_there : IsSome (file_at old.tree p) = subst IsSome (ap (option_and_then (file_at old.tree)) e) stood in
          let there = file_stands (node_at old.tree p) file_there in
          let kept = a.stood p (λ nothing. none_stands (node_at old.tree p) nothing there) in
          let still = reached_still a.ways path true p e (subst IsSome (sym kept) there) in
          none_stands (file_at now.tree p) (sym (ap (option_and_then (file_at now.tree)) still) ∙ none) (subst (λ (o : Option Node). IsSome (file_node o)) (sym kept) file_there)

  too_few : IsTrue tells → LeadToFiles old.tree paths → (text : List ℕ) → IsCrowdedAt change now.tree path text → (folder : NameList) × (text ≡ path_text folder) × HasTooFew change old.tree paths folder 0
  too_few told lead text c =
      let folder = parent_of c.f.0 in
      let (places, have, among) = counted told lead folder in
      let was = change_before change old now path c.f (adds told) (lead path has) c.changes in
      let one : HaveChangesIn change old.tree folder (take n paths ++ path ∷ []) (length places + 1) = one_more change old.tree folder (take n paths) path (length places) have (c.f, was, refl) in
      let taken : take (n + 1) paths ≡ take n paths ++ path ∷ [] = take_more paths n path (slice_get_within paths n path at) ∙ ap (λ (p : List ℕ). take n paths ++ p ∷ []) (get_or_from_slice_get paths n path path at) in
      let all : HaveChangesIn change old.tree folder (take (n + 1) paths ++ drop (n + 1) paths) (length places + 1) =
      more_paths change old.tree folder (take (n + 1) paths) (drop (n + 1) paths) (length places + 1) (subst (λ (ps : List (List ℕ)). HaveChangesIn change old.tree folder ps (length places + 1)) (sym taken) one) in (
        folder,
        c.folder_is,
        record {
          changed = length places + 1;
          changes = subst (λ (ps : List (List ℕ)). HaveChangesIn change old.tree folder ps (length places + 1)) (take-append-drop (n + 1) paths) all;
          free = length places;
          few = free_at_most old.tree now.tree lines folder places (stages told) among c.none_free;
          fewer = omega arith;
        },
      )

  pub stages_fail : (refused : JournalFault) → IsNotStaged change (course tells now new) path refused → AreNotStaged change (course tells old new) paths refused
  stages_fail fault.RootMissing fails = fails
  stages_fail (fault.File refused) (inl counted) = inl (risen_since old.faults now.faults new.faults low counted)
  stages_fail (fault.File refused) (inr (told, (p, has_p, none))) =
      let same : path ≡ p = elim (cons_cases path p [] has_p) [ inl e ↦ e | inr rest ↦ absurd (omega (arith, rest.1)) ] in
      inr (told, (path, has, none_before (adds told) (ap (file_of now.tree) same ∙ none)))
  stages_fail fault.Pending fails = fails
  stages_fail (fault.TempName text) fails = (
    (λ told lead. too_few told lead text (fails.0 told)),
    (λ untold. more_since reserved_names old.faults now.faults new.faults low (fails.1 untold)),
  )
  stages_fail (fault.Unfinished job) fails = fails
  stages_fail fault.BadJournal fails = fails
  stages_fail (fault.StageMissing stage) fails = fails
  stages_fail (fault.StageDiffers stage planned found) fails = fails
  stages_fail fault.NoMemory fails = tt

-- all of the paths were looked at
pub count_all : (change : Change) (tree : Tree) (paths : List (List ℕ)) (n : ℕ) (lines : List Line) → length paths ≤ n → CountStages change tree (take n paths) lines → CountStages change tree paths lines
count_all change tree paths n lines all counted = subst (λ (ps : List (List ℕ)). CountStages change tree ps lines) (take_all n paths all) counted

-- the file that was found has no room beside it
pub crowded_at : (change : Change) (path own : List ℕ) (s0 s1 : DiskState) → SameTree s0 s1 → (bytes : List ℕ) → FindsFile s0.tree path own bytes → (new_bytes : List ℕ) (count : ℕ) → FileChange change bytes new_bytes count
    → new_bytes ≢ bytes → (text : List ℕ) → text ≡ path_text (parent_of (parts_of own)) → NoneFree s1.tree (parent_of (parts_of own)) → IsCrowdedAt change s0.tree path text
crowded_at change path own s0 s1 same bytes found new_bytes count makes differ text is none = record {
  f = (parts_of own, new_bytes);
  changes = record { leads = found.leads; bytes = bytes; mode = found.mode; was = found.was; count = count; new_bytes = makes; differ = differ };
  folder_is = is;
  none_free = subst (λ (t : Tree). NoneFree t (parent_of (parts_of own))) same.tree none;
}

-- the path of the folder that is told
pub folder_text_is : (tree : Tree) (own path folder text : List ℕ) → IsPathIn tree own → path ≡ own → IsFolderPath path folder → text ≡ folder → text ≡ path_text (parent_of (parts_of own))
folder_text_is tree own path folder text path_in path_is of text_is =
    let b = is_beside tree own path_in in
    text_is ∙ of (parent_of (parts_of own)) b.name (path_is ∙ b.text) b.is_name.no_slash
