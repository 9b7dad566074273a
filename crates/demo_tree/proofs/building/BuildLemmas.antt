-- A demo's tree while it is built.
use Rattle.std.proofs.Common.{◌≡◌, ◌≢◌, ℕ, ◌+◌, ◌<◌, ◌≤◌, true, false, cond, List, [], ◌⊎◌, inl, inr, refl, sym, ap, ◌∙◌, subst, arith}
use Rattle.std.specs.Prelude.{Option, Some, None, Result, Ok, Err, IsOk, OnOk, ◌↔◌, is_some, codes, ◌||◌}
use Rattle.std.specs.List.{list_any}
use Rattle.std.proofs.lemmas.Option.{same_Some}
use Rattle.sd_io.specs.Tree.{NameList, Content, directory, file, Node, Tree, IsTree, node_at, is_directory_at, is_directory_node}
use Rattle.sd_io.specs.Disk.{OpenList}
use Rattle.sd_io.specs.Outcomes.{content_of, content_at}
use Rattle.sd_io.specs.Paths.{parts_of, parent_of, is_up}
use Rattle.sd_io.specs.Files.{path_text}
use Rattle.sd_base.specs.declared.no_memory.NoMemory.{NoMemory}
use Rattle.mem_io.specs.declared.fault.BuildFault.{BuildFault}
use Rattle.mem_io.specs.MemTree.{HasNoFreePlace}
use Rattle.mem_io.specs.MemDisk.{mem_state, IsTopAlone, IsUncalled, Builds, KeepsCounts}
use Rattle.mem_io.specs.declared.disk.MemDisk.{MemDisk}
use Rattle.sd_io.proofs.WayLemmas.{same_or_other}
use Rattle.demo_tree.specs.Building.{HasNextFolder}
use Rattle.demo_tree.specs.Demo.{demo_place, demo_folder, demo_file, demo_content, demo_bytes, demo_mode, IsDemo}
use Rattle.demo_tree.proofs.building.NameLemmas.{demo_parts, folder_parts, file_parts}
use Rattle.demo_tree.proofs.building.ContentLemmas.{other_place, others_as_before, next_file, next_folder, demo_there, folder_free, file_free, folder_again}

-- ---- contents

pub no_node : (o : Option Node) → content_of o ≡ None → o ≡ None
no_node None e = refl
no_node (Some node) e = cc

pub directory_node : (o : Option Node) → content_of o ≡ Some directory → is_directory_node o ≡ true
directory_node None e = cc
directory_node (Some node) e = ap (λ c. is_directory_node (Some (record node { content = c }))) (same_Some node.content directory e)

-- the tree of a disk in memory is one
pub tree_stands : (d : MemDisk) → IsTree (mem_state d).tree
tree_stands d = d.medium.tree.sound.is_tree

-- ---- what is built

-- a node of this content stands at a place, and everything else as before
pub record Puts (old : Tree) (place : NameList) (content : Content) (new : Tree) : Type 0 where
  pub there : content_at new place ≡ Some content
  pub others : (q : NameList) → q ≢ place → content_at new q ≡ content_at old q

pub built_puts : (old new : MemDisk) (path : List ℕ) (content : Content) (place : NameList) → parts_of path ≡ place → Builds old path content new
    → Puts (mem_state old).tree place content (mem_state new).tree
built_puts old new path content place parts b =
    let here : b.place ≡ place = sym b.was_free.names ∙ parts in
    subst (λ (q : NameList). Puts (mem_state old).tree q content (mem_state new).tree) here (record {
      there = ap content_of b.adds.stands;
      others = λ q ne. ap content_of (b.adds.others q ne);
    })

-- ---- `/demo`

pub demo_first : (old new : Tree) → IsTopAlone old → IsTree new → Puts old demo_place directory new → IsDemo 0 new
demo_first old new alone is puts = record { is_tree = is; holds = by }
  where
    by : (q : NameList) → content_at new q ≡ demo_content 0 q
    by q = elim (same_or_other q demo_place) [
      | inl e ↦ subst (λ (p : NameList). content_at new p ≡ demo_content 0 p) (sym e) puts.there
      | inr ne ↦ puts.others q ne ∙ before q ne (same_or_other q [])
    ]
      where
        before : (q : NameList) → q ≢ demo_place → (q ≡ []) ⊎ (q ≢ []) → content_at old q ≡ demo_content 0 q
        before q ne (inl e) = subst (λ (p : NameList). content_at old p ≡ demo_content 0 p) (sym e) (ap content_of alone.top)
        before q ne (inr below) = ap content_of (alone.others q below)
            ∙ (λ i. cond (sym (other_place q [] below) i || (sym (other_place q demo_place ne) i || false)) (Some directory) None)

pub demo_can_stand : (tree : Tree) → IsTopAlone tree → HasNoFreePlace tree (codes "/demo") → ⊥
demo_can_stand tree alone (inl none) = cc (sym demo_parts ∙ none)
demo_can_stand tree alone (inr (inl up)) = cc (sym (ap (list_any is_up) demo_parts) ∙ up)
demo_can_stand tree alone (inr (inr (inl gone))) = cc (
  ap is_directory_node alone.top,
  sym (ap (λ parts. is_directory_at tree (parent_of parts)) demo_parts)
      ∙ gone,
)
demo_can_stand tree alone (inr (inr (inr taken))) = cc (
  ap is_some (alone.others demo_place (λ e. cc)),
  sym (ap (λ q. is_some (node_at tree q)) demo_parts)
      ∙ taken,
)

-- ---- the next file

pub folder_stands : (n : ℕ) (tree : Tree) → 16 ≤ n → IsDemo n tree → HasNextFolder n tree
folder_stands n tree high demo = record { there = demo.holds (demo_folder n) ∙ folder_again n high; others = λ q ne. demo.holds q }

pub folder_added : (n : ℕ) (old new : Tree) → IsDemo n old → Puts old (demo_folder n) directory new → HasNextFolder n new
folder_added n old new demo puts = record { there = puts.there; others = λ q ne. puts.others q ne ∙ demo.holds q }

pub file_added : (n : ℕ) (old new : Tree) → n < 100000 → HasNextFolder n old → IsTree new → Puts old (demo_file n).place (file (demo_bytes n) demo_mode) new
    → IsDemo (n + 1) new
file_added n old new low has is puts = record { is_tree = is; holds = λ q. by q (same_or_other q (demo_file n).place) (same_or_other q (demo_folder n)) }
  where
    by : (q : NameList) → (q ≡ (demo_file n).place) ⊎ (q ≢ (demo_file n).place) → (q ≡ demo_folder n) ⊎ (q ≢ demo_folder n)
        → content_at new q ≡ demo_content (n + 1) q
    by q (inl e) folder = subst (λ (p : NameList). content_at new p ≡ demo_content (n + 1) p) (sym e) (puts.there
        ∙ sym (next_file n (file_free n (omega arith))))
    by q (inr off) (inl e) = puts.others q off ∙ ap (content_at old) e ∙ has.there ∙ sym (next_folder n) ∙ ap (demo_content (n + 1)) (sym e)
    by q (inr off) (inr away) = puts.others q off ∙ has.others q away ∙ sym (others_as_before n q off away)

pub folder_can_stand : (n : ℕ) (tree : Tree) (path : List ℕ) → n < 16 → IsDemo n tree → path ≡ path_text (demo_folder n) → HasNoFreePlace tree path → ⊥
folder_can_stand n tree path low demo is = λ hindered. by hindered
  where
    parts : parts_of path ≡ demo_folder n
    parts = ap parts_of is ∙ folder_parts n

    by : HasNoFreePlace tree path → ⊥
    by (inl none) = cc (sym parts ∙ none)
    by (inr (inl up)) = cc (sym (ap (list_any is_up) parts) ∙ up)
    by (inr (inr (inl gone))) =
        let there : is_directory_at tree demo_place ≡ true = directory_node (node_at tree demo_place) (demo.holds demo_place ∙ demo_there n) in
        cc (there, sym (ap (λ names. is_directory_at tree (parent_of names)) parts) ∙ gone)
    by (inr (inr (inr taken))) =
        let free : node_at tree (demo_folder n) ≡ None = no_node (node_at tree (demo_folder n)) (demo.holds (demo_folder n) ∙ folder_free n low) in
        cc (ap is_some free, sym (ap (λ q. is_some (node_at tree q)) parts) ∙ taken)

pub file_can_stand : (n : ℕ) (tree : Tree) (path : List ℕ) → n < 100000 → HasNextFolder n tree → path ≡ path_text (demo_file n).place
    → HasNoFreePlace tree path → ⊥
file_can_stand n tree path low has is = λ hindered. by hindered
  where
    place : NameList
    place = (demo_file n).place

    parts : parts_of path ≡ (demo_file n).place
    parts = ap parts_of is ∙ file_parts n

    by : HasNoFreePlace tree path → ⊥
    by (inl none) = cc (sym parts ∙ none)
    by (inr (inl up)) = cc (sym (ap (list_any is_up) parts) ∙ up)
    by (inr (inr (inl gone))) =
        let there : is_directory_at tree (demo_folder n) ≡ true = directory_node (node_at tree (demo_folder n)) has.there in
        cc (there, sym (ap (λ names. is_directory_at tree (parent_of names)) parts) ∙ gone)
    by (inr (inr (inr taken))) =
        let free : node_at tree (demo_file n).place ≡ None = no_node (node_at tree (demo_file n).place) (has.others (demo_file n).place (λ e. cc)
        ∙ file_free n (omega arith)) in
        cc (ap is_some free, sym (ap (λ q. is_some (node_at tree q)) parts) ∙ taken)

-- ---- counts

pub counts_kept : (old new : MemDisk) → KeepsCounts old new → IsUncalled old → IsUncalled new
counts_kept old new keeps was = record {
  calls = keeps.calls ∙ was.calls;
  failing = keeps.failing ∙ was.failing;
  stop = keeps.stop ∙ was.stop;
  faults = keeps.faults ∙ was.faults;
  listed = keeps.lists.listed ∙ was.listed;
  open_list = λ number. ap (λ (lists : ℕ → Option OpenList). lists number) keeps.lists.open_list ∙ was.open_list number;
  open_count = keeps.lists.open_count ∙ was.open_count;
  open_most = keeps.lists.open_most ∙ was.open_most;
}

-- ---- what is told on

-- what holds of what was built holds of what is told of it
pub told_of_built : (told : Result (Unit {0}) NoMemory) (built : Result (Unit {0}) BuildFault) (P Q : Type 0) → (IsOk told ↔ IsOk built) → OnOk built P
    → (P → Q) → OnOk told Q
told_of_built (Ok x) (Ok y) P Q same p then = then p
told_of_built (Ok x) (Err e) P Q same p then = cc (same.0 refl)
told_of_built (Err e) built P Q same p then = tt

pub built_where_told : (told : Result (Unit {0}) NoMemory) (built : Result (Unit {0}) BuildFault) (P : Type 0) (x : Unit {0}) → (IsOk told ↔ IsOk built)
    → told ≡ Ok x → OnOk built P → P
built_where_told told built P x same is p = subst (λ (r : Result (Unit {0}) NoMemory). OnOk r P) is (told_of_built told built P P same p (λ q. q))
