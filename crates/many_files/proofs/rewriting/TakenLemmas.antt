-- Which reserved names the failed files of some jobs left taken.
use Rattle.std.proofs.Common.{◌≡◌, ◌≢◌, ◌⊎◌, ℕ, ◌≤◌, Bool, true, false, cond, List, [], ◌∷◌, ◌++◌, length, refl, sym, ◌∙◌, ap, subst, inl, inr, arith}
use Rattle.std.specs.Prelude.{Option, Some, None, IsSome, is_some, IsTrue, Contains}
use Rattle.std.specs.Option.{option_map_or}
use Rattle.std.specs.Cmp.Lexicographic.{pointwise_decides, bytes_decides}
use Rattle.std.proofs.lemmas.List.Sums.{sum_by_push, sum_by-append}
use Rattle.std.proofs.lemmas.List.Elements.{Contains-append_left, Contains-append_right, Contains-push}
use Rattle.std.proofs.lemmas.Option.{same_Some}
use Rattle.sd_io.specs.Count.{HasRisen}
use Rattle.sd_io.specs.Tree.{NameList, Node, Tree, node_at}
use Rattle.sd_io.specs.Paths.{reached, parent_of}
use Rattle.sd_io.specs.Outcomes.{same_place}
use Rattle.sd_io.specs.Disk.{DiskState}
use Rattle.sd_io.proofs.WayLemmas.{same_or_other}
use Rattle.sd_io.proofs.OutcomeLemmas.{parent_of_child}
use Rattle.sd_change.specs.Change.{Change}
use Rattle.sd_course.specs.Course.{HasRisenBy}
use Rattle.file_exchange.specs.Reserved.{Free, Reserved}
use Rattle.file_exchange.proofs.CauseLemmas.{risen_since}
use Rattle.file_rewrite.specs.OneFile.{RewritesFile, LeavesFile, LeavesAt}
use Rattle.file_rewrite.specs.declared.rewrite.Rewrite.{Rewrite}
use Rattle.file_rewrite.specs.declared.fault.JobFault.{JobFault}
use Rattle.file_rewrite.specs.declared.fault.JobFault.TheVariants as job
use Rattle.many_files.specs.Jobs.{Job, is_in_folder, jobs_in}
use Rattle.many_files.proofs.rewriting.WayLemmas.{still_leads}
use Rattle.many_files.proofs.rewriting.KeepLemmas.{KeepsAll, keeps_then, some_or_not, file_there}
use Rattle.many_files.proofs.rewriting.CauseLemmas.{risen_then}

-- ---- what one call takes

-- what stands after the call stood before it, but at this place
abbrev pub StandsBut : Option NameList → Tree → Tree → Type 0
StandsBut taken old new = (q : NameList) → IsSome (node_at new q) → IsSome (node_at old q) ⊎ (taken ≡ Some q)

-- The call took this reserved name beside the file that the path leads to: for want of memory, or with a counted fault.
pub record TakesBeside (path : List ℕ) (fault : JobFault) (old new : DiskState) (taken : NameList) : Type 0 where
  pub place : NameList
  pub leads : reached new.tree path true ≡ Some place
  pub stands : IsSome (node_at new.tree place)
  pub reserved : Reserved (parent_of place) taken
  pub why : (fault ≡ job.NoMemory) ⊎ HasRisen old.faults new.faults

pub rewritten_takes : (change : Change) (path : List ℕ) (rewrite : Rewrite) (old new : DiskState) → RewritesFile change path rewrite old new
    → StandsBut None old.tree new.tree
rewritten_takes change path rewrite old new r q stands = elim (same_or_other q r.place) [
  | inl here ↦ inl (subst (λ (p : NameList). IsSome (node_at old.tree p)) (sym here) (file_there (node_at old.tree r.place) (ap is_some r.was)))
  | inr n ↦ inl (subst (λ (o : Option Node). IsSome o) (r.others q n) stands)
]

risen_twice : (before now : ℕ) → HasRisenBy 2 before now → HasRisen before now
risen_twice before now (inl rose) = inl (omega arith)
risen_twice before now (inr last) = inr last

module _ (change : Change) (path : List ℕ) (fault : JobFault) (old new : DiskState) (l : LeavesAt change path fault old new) where
  stood : IsSome (node_at old.tree l.place)
  stood = file_there (node_at old.tree l.place) l.is_file

  pub left_takes : StandsBut l.temporary old.tree new.tree
  left_takes q stands = elim (same_or_other q l.place) [
    | inl here ↦ inl (subst (λ (p : NameList). IsSome (node_at old.tree p)) (sym here) stood)
    | inr n ↦ elim (some_or_not l.temporary q) [ inl is ↦ inr is | inr m ↦ inl (subst (λ (o : Option Node). IsSome o) (l.others q n m) stands) ]
  ]

  pub left_beside : KeepsAll old.tree new.tree → (taken : NameList) → l.temporary ≡ Some taken → TakesBeside path fault old new taken
  left_beside keeps taken is = record {
    place = l.place;
    leads = still_leads keeps.ways path true l.place l.leads (keeps.stands l.place stood);
    stands = keeps.stands l.place stood;
    reserved = (l.was_free taken is).reserved;
    why = elim l.two_refusals [
      | inl memory ↦ inl memory
      | inr (inl none) ↦ absurd (no_option l.temporary none is)
      | inr (inr twice) ↦ inr (risen_twice old.faults new.faults twice)
    ];
  }
    where
      no_option : (o : Option NameList) → o ≡ None → o ≡ Some taken → ⊥
      no_option o none some = cc

-- ---- folders

-- two folders with one reserved name are one
same_folder : (folder other q : NameList) → Reserved folder q → Reserved other q → other ≡ folder
same_folder folder other q (m, lt, is) (n, less, at) = sym (parent_of_child other _) ∙ ap parent_of (sym at ∙ is) ∙ parent_of_child folder _

-- a path still leads into the folder of its file
still_inside : (s later : Tree) → KeepsAll s later → (path : List ℕ) (place folder : NameList) → reached s path true ≡ Some place → IsSome (node_at s place)
    → parent_of place ≡ folder
    → is_in_folder later folder path ≡ true
still_inside s later keeps path place folder leads stands here =
    ap (λ (o : Option NameList). option_map_or (λ (p : NameList). same_place (parent_of p) folder) o false)
    (still_leads keeps.ways path true place leads (keeps.stands place stands))
    ∙ (pointwise_decides bytes_decides (parent_of place) folder).1 here

-- ---- so far

-- a job for want of memory has its file in the folder, while all that stands goes on
pub record HasMemoryJob (jobs : List Job) (folder : NameList) (s : Tree) : Type 0 where
  pub path : List ℕ
  pub is_job : Contains jobs (path, job.NoMemory)
  pub inside : (later : Tree) → KeepsAll s later → IsTrue (is_in_folder later folder path)

pub later_memory : (jobs : List Job) (folder : NameList) (s t : Tree) → KeepsAll s t → HasMemoryJob jobs folder s → HasMemoryJob jobs folder t
later_memory jobs folder s t keeps m = record { path = m.path; is_job = m.is_job; inside = λ later still. m.inside later (keeps_then s t later keeps still) }

more_memory : (jobs more : List Job) (folder : NameList) (s : Tree) → HasMemoryJob jobs folder s → HasMemoryJob (jobs ++ more) folder s
more_memory jobs more folder s m = record { path = m.path; is_job = Contains-append_left jobs more (m.path, job.NoMemory) m.is_job; inside = m.inside }

-- Of the reserved names that were free in a folder no more are taken now than jobs have their file in it, while all that stands goes on. Where no fault was
-- counted, one of these jobs is for want of memory.
pub record AreTaken (s0 s : DiskState) (jobs : List Job) (folder : NameList) : Type 0 where
  pub places : List NameList
  pub few : (later : Tree) → KeepsAll s.tree later → length places ≤ jobs_in later folder jobs
  pub all : (q : NameList) → Free s0.tree folder q → IsSome (node_at s.tree q) → Contains places q
  pub memory : (q : NameList) → Free s0.tree folder q → IsSome (node_at s.tree q) → HasRisen s0.faults s.faults ⊎ HasMemoryJob jobs folder s.tree

no_node : (o : Option Node) → o ≡ None → IsSome o → ⊥
no_node None e is = cc
no_node (Some node) e is = cc

pub none_taken : (s : DiskState) (folder : NameList) → AreTaken s s [] folder
none_taken s folder = record {
  places = [];
  few = λ later still. omega arith;
  all = λ q free stands. absurd (no_node (node_at s.tree q) free.free stands);
  memory = λ q free stands. absurd (no_node (node_at s.tree q) free.free stands);
}

module _ (s0 s1 s2 : DiskState) (keeps : KeepsAll s1.tree s2.tree) (low : s0.faults ≤ s1.faults) (lower : s1.faults ≤ s2.faults) (jobs : List Job)
    (folder : NameList) (so : AreTaken s0 s1 jobs folder) where
  few_still : (later : Tree) → KeepsAll s2.tree later → length so.places ≤ jobs_in later folder jobs
  few_still later still = so.few later (keeps_then s1.tree s2.tree later keeps still)

  more_jobs : (later : Tree) (more : List Job) → jobs_in later folder jobs ≤ jobs_in later folder (jobs ++ more)
  more_jobs later more = let sums = sum_by-append (λ (failed : Job). cond (is_in_folder later folder failed.0) 1 0) jobs more in omega (arith, sums)

  memory_still : (more : List Job) → HasRisen s0.faults s1.faults ⊎ HasMemoryJob jobs folder s1.tree
      → HasRisen s0.faults s2.faults ⊎ HasMemoryJob (jobs ++ more) folder s2.tree
  memory_still more (inl rose) = inl (risen_then s0.faults s1.faults s2.faults lower rose)
  memory_still more (inr m) = inr (more_memory jobs more folder s2.tree (later_memory jobs folder s1.tree s2.tree keeps m))

  -- no name of the folder was taken
  pub no_more_taken : (more : List Job) → ((q : NameList) → Free s0.tree folder q → IsSome (node_at s2.tree q) → IsSome (node_at s1.tree q))
      → AreTaken s0 s2 (jobs ++ more) folder
  no_more_taken more stood = record {
    places = so.places;
    few = λ later still. omega (arith, few_still later still, more_jobs later more);
    all = λ q free stands. so.all q free (stood q free stands);
    memory = λ q free stands. memory_still more (so.memory q free (stood q free stands));
  }

  module _ (path : List ℕ) (fault : JobFault) (taken : NameList) (but : StandsBut (Some taken) s1.tree s2.tree)
      (beside : TakesBeside path fault s1 s2 taken) where
    -- a name of another folder was taken
    taken_elsewhere : parent_of beside.place ≢ folder → AreTaken s0 s2 (jobs ++ (path, fault) ∷ []) folder
    taken_elsewhere apart = no_more_taken ((path, fault) ∷ []) (λ q free stands. elim (but q stands) [
      | inl stood ↦ stood
      | inr is ↦
          let there = subst (Reserved (parent_of beside.place)) (same_Some taken q is) beside.reserved in
          absurd (apart (same_folder folder (parent_of beside.place) q free.reserved there))
    ])

    module _ (here : parent_of beside.place ≡ folder) where
      inside : (later : Tree) → KeepsAll s2.tree later → is_in_folder later folder path ≡ true
      inside later still = still_inside s2.tree later still path beside.place folder beside.leads beside.stands here

      few_here : (later : Tree) → KeepsAll s2.tree later → length (taken ∷ so.places) ≤ jobs_in later folder (jobs ++ (path, fault) ∷ [])
      few_here later still =
          let sums = sum_by_push (λ (failed : Job). cond (is_in_folder later folder failed.0) 1 0) jobs (path, fault) in
          let one : ◌≡◌ {A = ℕ} (cond (is_in_folder later folder path) 1 0) 1 = ap (λ (b : Bool). cond b 1 0) (inside later still) in
          omega (arith, few_still later still, sums, one)

      memory_here : HasRisen s0.faults s2.faults ⊎ HasMemoryJob (jobs ++ (path, fault) ∷ []) folder s2.tree
      memory_here = elim beside.why [
        | inl memory ↦ inr (record {
          path = path;
          is_job = subst (λ (f : JobFault). Contains (jobs ++ (path, fault) ∷ []) (path, f)) memory (Contains-push jobs (path, fault));
          inside = inside;
        })
        | inr rose ↦ inl (risen_since s0.faults s1.faults s2.faults low rose)
      ]

      -- a name of the folder was taken
      taken_here : AreTaken s0 s2 (jobs ++ (path, fault) ∷ []) folder
      taken_here = record {
        places = taken ∷ so.places;
        few = few_here;
        all = λ q free stands. elim (but q stands) [
          | inl stood ↦ Contains-append_right (taken ∷ []) so.places q (so.all q free stood)
          | inr is ↦ (0, omega arith, same_Some taken q is)
        ];
        memory = λ q free stands. elim (but q stands) [ inl stood ↦ memory_still ((path, fault) ∷ []) (so.memory q free stood) | inr is ↦ memory_here ];
      }

    pub one_more_taken : AreTaken s0 s2 (jobs ++ (path, fault) ∷ []) folder
    one_more_taken = elim (same_or_other (parent_of beside.place) folder) [ inl here ↦ taken_here here | inr apart ↦ taken_elsewhere apart ]

  -- one more call
  pub taken_if_done : (change : Change) (path : List ℕ) (rewrite : Rewrite) → RewritesFile change path rewrite s1 s2 → AreTaken s0 s2 (jobs ++ []) folder
  taken_if_done change path rewrite r =
      no_more_taken [] (λ q free stands. elim (rewritten_takes change path rewrite s1 s2 r q stands) [ inl stood ↦ stood | inr none ↦ cc ])

  pub taken_if_refused : (change : Change) (path : List ℕ) (fault : JobFault) → LeavesFile change path fault s1 s2
      → AreTaken s0 s2 (jobs ++ (path, fault) ∷ []) folder
  taken_if_refused change path fault (inl same) =
      no_more_taken ((path, fault) ∷ []) (λ q free stands. subst (λ (t : Tree). IsSome (node_at t q)) same.tree stands)
  taken_if_refused change path fault (inr l) = by l.temporary refl
    where
      by : (o : Option NameList) → l.temporary ≡ o → AreTaken s0 s2 (jobs ++ (path, fault) ∷ []) folder
      by None none =
          no_more_taken ((path, fault) ∷ []) (λ q free stands. elim (left_takes change path fault s1 s2 l q stands) [ inl stood ↦ stood | inr is ↦ cc ])
      by (Some taken) is =
          let but = subst (λ (o : Option NameList). StandsBut o s1.tree s2.tree) is (left_takes change path fault s1 s2 l) in
          one_more_taken path fault taken but (left_beside change path fault s1 s2 l keeps taken is)
