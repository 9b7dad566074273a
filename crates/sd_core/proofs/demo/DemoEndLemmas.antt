-- How a sweep of a demo ends, by how the sweep of any tree does.
use Rattle.std.proofs.Common.{◌≡◌, ℕ, suc, ◌≤◌, ◌^◌, Bool, true, false, List, [], ◌∷◌, ◌++◌, map, ◌⊎◌, inl, inr, refl, sym, ap, ◌∙◌, subst, arith}
use Rattle.std.specs.Prelude.{Option, Some, None, IsSome, is_some, IsTrue, Contains, All, Result, Ok, Err, IfOk, IfErr, chars}
use Rattle.std.specs.Option.{option_map_or}
use Rattle.std.proofs.lemmas.Option.{same_Some}
use Rattle.std.proofs.lemmas.List.Elements.{All-nil, All-cons}
use Rattle.sd_io.specs.Tree.{NameList, node_at, file_at}
use Rattle.sd_io.specs.Paths.{reached, parent_of, way_of_node}
use Rattle.sd_io.specs.Files.{path_text}
use Rattle.sd_io.specs.Outcomes.{same_place}
use Rattle.sd_io.specs.Disk.{DiskState}
use Rattle.sd_io.proofs.WayLemmas.{file_has_no_way}
use Rattle.sd_change.specs.Change.{Change}
use Rattle.sd_course.specs.Course.{course, DiskFailed}
use Rattle.file_rewrite.specs.declared.fault.JobFault.{JobFault}
use Rattle.file_rewrite.specs.declared.fault.JobFault.TheVariants as job
use Rattle.glob_match.specs.Reading.{pieces_of}
use Rattle.chosen_files.specs.Globs.{IsValid, IsFirstInvalid}
use Rattle.chosen_files.specs.Chosen.{Chosen, path_from}
use Rattle.chosen_files.proofs.RootLemmas.{chosen_names, file_leads}
use Rattle.chosen_files.proofs.ContentLemmas.{file_stands}
use Rattle.chosen_files.proofs.PlaceLemmas.{In, in_from_contains, in_left, in_right}
use Rattle.many_files.specs.Rewritten.{LeavesEach}
use Rattle.many_files.specs.Jobs.{Job, failed_of, is_in_folder, WantMemory}
use Rattle.many_files.specs.Turns.{path_of, fault_of}
use Rattle.sd_core.specs.Selection.{IsChosenBelow, by_globs}
use Rattle.sd_core.specs.Sweep.{RewritesTree, FailsTree, SweepFails, IsClear, IsForMemory}
use Rattle.many_files.specs.declared.report.Report.{Report}
use Rattle.sd_core.specs.declared.error.Error.{Error}
use Rattle.sd_core.specs.declared.error.Error.TheVariants as error
use Rattle.many_files.proofs.WayLemmas.{KeepsWays, still_leads}
use Rattle.demo_tree.specs.Demo.{demo_place, IsDemo}
use Rattle.sd_core.specs.Demo.{CountsDemo, DemoWantsMemory, DemoFails}
use Rattle.sd_core.proofs.demo.StandingLemmas.{demo_leads}
use Rattle.sd_core.proofs.demo.BelowLemmas.{demo_is_small}

-- ---- globs

-- all globs are valid, or there is a first one that isn't
pub all_or_first : (globs : List (List ℕ)) → All IsValid globs ⊎ ((place : ℕ) × IsFirstInvalid globs place)
all_or_first [] = inl (All-nil IsValid)
all_or_first (glob ∷ globs) = by (is_some (pieces_of (chars glob))) refl (all_or_first globs)
  where
    by : (b : Bool) → is_some (pieces_of (chars glob)) ≡ b → All IsValid globs ⊎ ((place : ℕ) × IsFirstInvalid globs place) → All IsValid (glob ∷ globs) ⊎ ((place : ℕ) × IsFirstInvalid (glob ∷ globs) place)
    by true valid (inl all) = inl (All-cons IsValid glob globs valid all)
    by true valid (inr (place, at)) = inr (suc place, (valid, at))
    by false e rest = inr (0, λ valid. cc (sym e ∙ valid))

-- ---- members

in_mapped : {X Y : Type 0} (f : X → Y) (xs : List X) (y : Y) → In y (map f xs) → (x : X) × In x xs × (f x ≡ y)
in_mapped f [] y i = absurd i
in_mapped f (x ∷ xs) y (inl e) = (x, inl refl, e)
in_mapped f (x ∷ xs) y (inr i) = let (z, there, e) = in_mapped f xs y i in (z, inr there, e)

in_failed : (paths : List (List ℕ)) (ends : List (Option JobFault)) (failed : Job) → In failed (failed_of paths ends) → In failed.0 paths
in_failed [] ends failed i = absurd i
in_failed (path ∷ paths) [] failed i = absurd i
in_failed (path ∷ paths) (None ∷ ends) failed i = inr (in_failed paths ends failed i)
in_failed (path ∷ paths) (Some fault ∷ ends) failed (inl e) = inl (ap (λ (j : Job). j.0) e)
in_failed (path ∷ paths) (Some fault ∷ ends) failed (inr i) = inr (in_failed paths ends failed i)

-- ---- the sweep of a demo's tree, where no fault is counted

module _ (change : Change) (n : ℕ) (globs : List (List ℕ)) (old new : DiskState) (demo : IsDemo n old.tree) (small : n ≤ 100000) where
  -- the report counts the chosen files
  pub counts_demo : (report : Report) → RewritesTree change (by_globs (path_text demo_place) globs) report old new → CountsDemo change n globs report
  counts_demo report r =
      let (chosen, listed) = r.selected in
      record {
        tree = old.tree;
        is_demo = demo;
        places = r.places;
        chosen =
            subst (λ (places : List NameList). Chosen old.tree demo_place globs places) (sym listed)
            (subst (λ (top : NameList). Chosen old.tree top globs chosen.places) (same_Some chosen.top demo_place (sym chosen.leads ∙ demo_leads n old.tree demo)) chosen.chosen);
        counts = r.files.counts;
      }

  pub reports_demo : (result : Result Report Error) → IfOk result (λ report. RewritesTree change (by_globs (path_text demo_place) globs) report old new) → IfOk result (CountsDemo change n globs)
  reports_demo (Ok report) r = counts_demo report r
  reports_demo (Err fault) r = tt

  module _ (before : old.faults ≡ 0) (after : new.faults ≡ 0) where
    none_failed : DiskFailed (course true old new) → ⊥
    none_failed (inl rose) = absurd (omega arith)
    none_failed (inr last) = absurd (omega arith)

    -- nothing stands in its way but an invalid glob
    pub is_clear : All IsValid globs → IsClear (by_globs (path_text demo_place) globs) (2 ^ 32) (course true old new)
    is_clear valid = record {
      told = refl;
      valid = valid;
      leads = ap is_some (demo_leads n old.tree demo);
      few = demo_is_small n old.tree small demo;
      no_fault = none_failed;
    }

  -- ---- paths of files lead where they led

  module _ (each : LeavesEach (IsChosenBelow old.tree (path_text demo_place) globs) change old.tree new.tree) where
    keeps_ways : KeepsWays old.tree new.tree
    keeps_ways = record {
      ways = λ q stands. elim (each q) [
        | inl same ↦ ap way_of_node same
        | inr (inl (one, is)) ↦ file_has_no_way (node_at new.tree q) (ap is_some is.holds) ∙ sym (file_has_no_way (node_at old.tree q) (ap is_some is.was))
        | inr (inr (place, one, free)) ↦ (let none = ap is_some free.free in cc)
      ];
    }

    still_stands : (q : NameList) (f : List ℕ × ℕ) → file_at old.tree q ≡ Some f → IsSome (node_at new.tree q)
    still_stands q f is = elim (each q) [
      | inl same ↦ ap is_some same ∙ file_stands (node_at old.tree q) f is
      | inr (inl (one, changed)) ↦ file_stands (node_at new.tree q) (changed.new_bytes, changed.mode) changed.holds
      | inr (inr (place, one, free)) ↦ (let none = ap is_some free.free in let there = file_stands (node_at old.tree q) f is in cc)
    ]

    same_lead : (path : List ℕ) (q : NameList) (f : List ℕ × ℕ) → file_at old.tree q ≡ Some f → reached old.tree path true ≡ Some q
        → reached new.tree path true ≡ reached old.tree path true
    same_lead path q f is led = still_leads keeps_ways path true q led (still_stands q f is) ∙ sym led

    module _ (jobs : List Job) (fails : FailsTree change (by_globs (path_text demo_place) globs) jobs old new) where
      -- the path of a job leads where it led
      job_leads : (failed : Job) → In failed jobs → reached new.tree failed.0 true ≡ reached old.tree failed.0 true
      job_leads failed i =
          let turns = fails.files.turns in
          let among : In failed.0 (map path_of turns) = in_failed (map path_of turns) (map fault_of turns) failed (subst (λ (js : List Job). In failed js) fails.files.jobs_are i) in
          let root = path_text demo_place in
          let named : In failed.0 (map (path_from root) fails.selected.0.names) =
          subst (λ (paths : List (List ℕ)). In failed.0 paths) (fails.files.paths_are ∙ fails.selected.0.paths_are) among in
          let (below, there, is) = in_mapped (path_from root) fails.selected.0.names failed.0 named in
          let (some, (byte, bytes, mode, held)) = chosen_names old.tree demo.is_tree root globs fails.paths fails.selected.0 below there in
          let led = file_leads old.tree demo.is_tree root fails.selected.0.top below fails.selected.0.leads some (byte, bytes, mode, held) in
          subst (λ (path : List ℕ). reached new.tree path true ≡ reached old.tree path true) is
          (same_lead (path_from root below) (fails.selected.0.top ++ below) (byte ∷ bytes, mode) held led)

      -- so they wanted memory by the tree before as by the tree after
      pub wanted_memory : WantMemory new.tree jobs → WantMemory old.tree jobs
      wanted_memory want earlier later path fault split = by (want earlier later path fault split)
        where
          inside : (failed : Job) → In failed (earlier ++ (path, fault) ∷ later) → In failed jobs
          inside failed i = subst (λ (js : List Job). In failed js) (sym split) i

          here : reached new.tree path true ≡ reached old.tree path true
          here = job_leads (path, fault) (inside (path, fault) (in_right earlier ((path, fault) ∷ later) (path, fault) (inl refl)))

          by : (fault ≡ job.NoMemory)
              ⊎ ((fault ≡ job.TempName)
              × ((place : NameList) × (other : List ℕ) × (reached new.tree path true ≡ Some place) × Contains earlier (other, job.NoMemory) × IsTrue (is_in_folder new.tree (parent_of place) other)))
              → (fault ≡ job.NoMemory)
              ⊎ ((fault ≡ job.TempName)
              × ((place : NameList) × (other : List ℕ) × (reached old.tree path true ≡ Some place) × Contains earlier (other, job.NoMemory) × IsTrue (is_in_folder old.tree (parent_of place) other)))
          by (inl memory) = inl memory
          by (inr (no_name, (place, other, leads, has, near))) =
              let there = job_leads (other, job.NoMemory) (inside (other, job.NoMemory) (in_left earlier ((path, fault) ∷ later) (other, job.NoMemory) (in_from_contains earlier (other, job.NoMemory) has))) in
              inr (
                no_name,
                (
                  place,
                  other,
                  sym here ∙ leads,
                  has,
                  subst (λ (r : Option NameList). IsTrue (option_map_or (λ p. same_place (parent_of p) (parent_of place)) r false)) there near,
                ),
              )

    -- ---- why a demo is refused

    pub for_memory : (fault : Error) → SweepFails change (by_globs (path_text demo_place) globs) (2 ^ 32) (course true old new) fault → IsForMemory new.tree fault → DemoWantsMemory n fault
    for_memory (error.FailedProcessing jobs) f want = (f.some, (old.tree, demo, wanted_memory jobs (f.files refl) want))
    for_memory error.NoMemory f want = tt
    for_memory (error.Regex refused) f want = want
    for_memory (error.File fault) f want = want
    for_memory (error.InvalidPath path) f want = want
    for_memory (error.InvalidReplaceCapture capture) f want = want
    for_memory (error.BadGlob place) f want = want
    for_memory error.RootMissing f want = want
    for_memory (error.Walk failed) f want = want
    for_memory error.TooMany f want = want
    for_memory error.InputTooLong f want = want
    for_memory (error.Stale path planned found) f want = want
    for_memory (error.Differs path planned found) f want = want
    for_memory error.NotAPlan f want = want
    for_memory error.RulesNotText f want = want
    for_memory (error.BadRule number) f want = want

    pub refused_for_memory : (result : Result Report Error) → IfErr result (SweepFails change (by_globs (path_text demo_place) globs) (2 ^ 32) (course true old new)) → IfErr result (IsForMemory new.tree)
        → IfErr result (DemoWantsMemory n)
    refused_for_memory (Ok report) f want = tt
    refused_for_memory (Err fault) f want = for_memory fault f want

as_refusal : (n : ℕ) (globs : List (List ℕ)) (fault : Error) → DemoWantsMemory n fault → DemoFails n globs fault
as_refusal n globs (error.FailedProcessing jobs) m = m
as_refusal n globs error.NoMemory m = tt
as_refusal n globs (error.Regex refused) m = m
as_refusal n globs (error.File fault) m = m
as_refusal n globs (error.InvalidPath path) m = m
as_refusal n globs (error.InvalidReplaceCapture capture) m = m
as_refusal n globs (error.BadGlob place) m = absurd m
as_refusal n globs error.RootMissing m = m
as_refusal n globs (error.Walk failed) m = m
as_refusal n globs error.TooMany m = m
as_refusal n globs error.InputTooLong m = m
as_refusal n globs (error.Stale path planned found) m = m
as_refusal n globs (error.Differs path planned found) m = m
as_refusal n globs error.NotAPlan m = m
as_refusal n globs error.RulesNotText m = m
as_refusal n globs (error.BadRule number) m = m

-- by its first invalid glob
told_so : (n : ℕ) (globs : List (List ℕ)) (place : ℕ) (fault : Error) (result : Result Report Error) → IsFirstInvalid globs place → result ≡ Err fault
    → (result ≡ Err (error.BadGlob place)) ⊎ (result ≡ Err error.NoMemory) → DemoFails n globs fault
told_so n globs place fault result at is (inl e) = let one : fault ≡ error.BadGlob place = cc in subst (DemoFails n globs) (sym one) at
told_so n globs place fault result at is (inr e) = let one : fault ≡ error.NoMemory = cc in subst (DemoFails n globs) (sym one) tt

-- or for want of memory, where all are valid
pub refused_so : (n : ℕ) (globs : List (List ℕ)) (result : Result Report Error)
    → ((place : ℕ) → IsFirstInvalid globs place → (result ≡ Err (error.BadGlob place)) ⊎ (result ≡ Err error.NoMemory))
    → (All IsValid globs → IfErr result (DemoWantsMemory n)) → IfErr result (DemoFails n globs)
refused_so n globs (Ok report) bad_glob complete = tt
refused_so n globs (Err fault) bad_glob complete = elim (all_or_first globs) [
  | inl valid ↦ as_refusal n globs fault (complete valid)
  | inr (place, at) ↦ told_so n globs place fault (Err fault) at refl (bad_glob place at)
]
