-- Listed files: their paths name them, and nothing but a fault or a full folder stands in their way.
use Rattle.std.proofs.Common.{◌≡◌, ℕ, Bool, true, false, cond, List, [], ◌∷◌, map, refl, sym, ◌∙◌, ap, subst, arith}
use Rattle.std.specs.Prelude.{Option, Some, None, IsSome, Contains, All, ◌==◌, ◌&&◌}
use Rattle.std.specs.List.{list_all}
use Rattle.std.specs.Option.{option_and_then}
use Rattle.std.specs.Str.{bytes_eq}
use Rattle.std.proofs.lemmas.List.Elements.{All-nil, All-cons, All-weaker, All-contains, All-contains_itself, Contains-append_right}
use Rattle.std.proofs.lemmas.Option.{same_Some}
use Rattle.sd_io.specs.Count.{HasRisen}
use Rattle.sd_io.specs.Tree.{NameList, Content, directory, link, file, other, Node, Tree, IsTree, node_at, file_at, file_node, file_content, is_directory_node, IsNonemptyFile}
use Rattle.sd_io.specs.Paths.{parts_of, followed, links_most, reached}
use Rattle.sd_io.specs.Disk.{DiskState}
use Rattle.sd_change.specs.Change.{Change}
use Rattle.sd_course.specs.Course.{Course, course}
use Rattle.file_rewrite.specs.Paths.{IsNoPath}
use Rattle.many_files.specs.Files.{ListsFiles, HasRoom}
use Rattle.many_files.specs.Clear.{LeadsToFile, HasRoomBy, AreFilesClear}
use Rattle.many_files.specs.Jobs.{Job, end_of, HasJobCause, NamesFile}
use Rattle.many_files.specs.InTurn.{FailsSome}
use Rattle.file_rewrite.specs.declared.fault.JobFault.TheVariants as job
use Rattle.many_files.proofs.rewriting.FileLemmas.{a_file}
use Rattle.many_files.proofs.rewriting.MemoryLemmas.{IsOf, failed_paths}

-- nothing but `/` has no parts
both : (a b : Bool) → a && b ≡ true → (a ≡ true) × (b ≡ true)
both true b e = (refl, e)
both false b e = cc

no_parts : (path : List ℕ) → IsNoPath path → parts_of path ≡ []
unfolding parts_of
no_parts [] e = refl
no_parts (b ∷ bytes) e = let (slash, rest) = both (b == 47) (list_all (λ byte. byte == 47) bytes) e in rw slash (no_parts bytes rest)

-- so it leads to the top, if anywhere
no_path_top : (tree : Tree) (path : List ℕ) (place : NameList) → IsNoPath path → reached tree path true ≡ Some place → place ≡ []
unfolding reached
no_path_top tree path place none e =
    by (bytes_eq path []) (sym (ap (λ parts. cond (bytes_eq path []) None (followed tree links_most true [] parts)) (no_parts path none)) ∙ e)
  where
    by : (empty : Bool) → cond empty None (Some []) ≡ Some place → place ≡ []
    by true at = cc
    by false at = sym (same_Some [] place at)

-- a directory is no file
no_file : (o : Option Node) → is_directory_node o ≡ true → IsSome (file_node o) → ⊥
no_file None d f = cc
no_file (Some node) d f = by node.content d f
  where
    by : (content : Content) → is_directory_node (Some (record { content = content; dev = node.dev; ino = node.ino })) ≡ true → IsSome (file_content content) → ⊥
    by directory d f = cc
    by (link target) d f = cc
    by (file bytes mode) d f = cc
    by other d f = cc

-- a path that leads to a file names one
pub file_named : (tree : Tree) → IsTree tree → (path : List ℕ) (place : NameList) → reached tree path true ≡ Some place → IsSome (file_at tree place) → IsNoPath path → ⊥
file_named tree is path place leads there none =
    no_file (node_at tree []) is.top (subst (λ (q : NameList). IsSome (file_at tree q)) (no_path_top tree path place none leads) there)

-- ---- all of them

-- what each path of a list and its place have, all paths have
each_path : (tree : Tree) (P : List ℕ → Type 0) (paths : List (List ℕ)) (places : List NameList)
    → map (λ path. reached tree path true) paths ≡ map (λ place. Some place) places
    → ((path : List ℕ) (place : NameList) → Contains places place → reached tree path true ≡ Some place → P path) → All P paths
each_path tree P [] places lead holds = All-nil P
each_path tree P (path ∷ paths) [] lead holds = cc
each_path tree P (path ∷ paths) (place ∷ places) lead holds =
    let here : reached tree path true ≡ Some place = cc in
    let rest : map (λ path. reached tree path true) paths ≡ map (λ place. Some place) places = cc in
    All-cons P path paths (holds path place (0, omega arith, refl) here)
    (each_path tree P paths places rest (λ p q c l. holds p q (Contains-append_right (place ∷ []) places q c) l))

module _ (tree : Tree) (is : IsTree tree) (paths : List (List ℕ)) (places : List NameList) (listed : ListsFiles tree paths places) where
  pub listed_named : All (λ path. IsNoPath path → ⊥) paths
  listed_named = each_path tree (λ path. IsNoPath path → ⊥) paths places listed.lead (λ path place c leads. file_named tree is path place leads (a_file tree place (listed.are_files place c)))

  leads_to_file : (path : List ℕ) (place : NameList) → reached tree path true ≡ Some place → IsNonemptyFile tree place → LeadsToFile tree path
  leads_to_file path place leads it = subst (λ (o : Option NameList). IsSome (option_and_then (file_at tree) o)) (sym leads) (a_file tree place it)

  pub listed_files : All (LeadsToFile tree) paths
  listed_files = each_path tree (LeadsToFile tree) paths places listed.lead (λ path place c leads. leads_to_file path place leads (listed.are_files place c))

  pub listed_room : HasRoom (Contains places) tree → All (HasRoomBy tree) paths
  listed_room room = each_path tree (HasRoomBy tree) paths places listed.lead (λ path place c leads.
      let (q, free) = room place c in
      record { place = place; leads = leads; is_file = a_file tree place (listed.are_files place c); temporary = q; free = free })

-- nothing stands in the way of listed files
pub listed_clear : (tells : Bool) (s0 s : DiskState) (paths : List (List ℕ)) (places : List NameList) → IsTree s0.tree → ListsFiles s0.tree paths places → HasRoom (Contains places) s0.tree
    → (HasRisen s0.faults s.faults → ⊥) → AreFilesClear paths (course tells s0 s)
listed_clear tells s0 s paths places is listed room none = record {
  paths_name = listed_named s0.tree is paths places listed;
  files = λ told. listed_files s0.tree is paths places listed;
  room = λ told. listed_room s0.tree is paths places listed room;
  no_fault = none;
}

-- ---- jobs of paths that name a file

-- the jobs are of these paths
pub by_paths : (change : Change) (paths : List (List ℕ)) (d : Course DiskState) (jobs : List Job) → FailsSome change paths d jobs → All (IsOf paths) jobs
by_paths change paths d jobs f = subst (All (IsOf paths)) (sym f.jobs_are) (failed_paths paths (map end_of f.results))

module _ (paths : List (List ℕ)) (named : All (λ path. IsNoPath path → ⊥) paths) (d : Course DiskState) where
  names_file : (failed : Job) → HasJobCause d failed → Contains paths failed.0 → NamesFile failed
  names_file (path, job.File fault) cause c = tt
  names_file (path, job.TempfilePersist fault) cause c = tt
  names_file (path, job.InvalidPath) cause c = All-contains (λ p. IsNoPath p → ⊥) paths path named c cause
  names_file (path, job.TempName) cause c = tt
  names_file (path, job.NoMemory) cause c = tt

  pub jobs_name_files : (jobs : List Job) → All (HasJobCause d) jobs → All (IsOf paths) jobs → All NamesFile jobs
  jobs_name_files jobs causes of =
      All-weaker (Contains jobs) NamesFile (λ failed c. names_file failed (All-contains (HasJobCause d) jobs failed causes c) (All-contains (IsOf paths) jobs failed of c)) jobs (All-contains_itself jobs)
