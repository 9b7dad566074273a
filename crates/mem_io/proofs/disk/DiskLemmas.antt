-- What a disk with a tree answers, from what its tree answers.
use Rattle.std.proofs.Common.{◌≡◌, ◌+◌, ℕ, List, [], refl, sym, ◌∙◌, ap, subst, reverse, inr, Bool, true, false, cond}
use Rattle.std.specs.Prelude.{Option, Some, None, IsSome, is_some, option_map}
use Rattle.std.specs.List.Sorted.{IsStrictlySortedBy}
use Rattle.std.specs.Map.{keys_of}
use Rattle.std.specs.Option.{option_and_then}
use Rattle.std.proofs.lemmas.List.{reverse-reverse}
use Rattle.std.proofs.lemmas.Option.{same_Some}
use Rattle.sd_io.specs.declared.meta.RawEntry.{RawEntry}
use Rattle.sd_io.specs.Tree.{NameList, Node, Tree, IsTree, file, node_at, file_at, file_node, is_directory_at, name_list_cmp}
use Rattle.sd_io.specs.Paths.{reached, named, Leads}
use Rattle.sd_io.specs.Outcomes.{after_create}
use Rattle.sd_io.specs.Disk.{DiskState, Advances, outcomes_now}
use Rattle.sd_io.specs.Files.{path_text, Resolves, Reads, Creates, CannotRename}
use Rattle.sd_io.specs.Lists.{ListsDirectory, TellAll}
use Rattle.std.specs.Borrow.{Bor}
use Rattle.mem_io.specs.MemNode.{now_of}
use Rattle.mem_io.specs.MemTree.{Adds, AddsName, tree_of, listing}
use Rattle.mem_io.specs.declared.log.Change.TheVariants as change
use Rattle.mem_io.specs.Medium.{Notes}
use Rattle.mem_io.specs.declared.disk.MemDisk.{MemDisk}
use Rattle.mem_io.specs.MemDisk.{mem_state, next_number, BuildsLike}
use Rattle.mem_io.proofs.tree.ListedLemmas.{listing_tells}
use Rattle.mem_io.proofs.tree.OrderLemmas.{orders_added}
use Rattle.mem_io.proofs.walk.StandLemmas.{reached_stands}
use Rattle.mem_io.proofs.disk.MomentLemmas.{advances}

-- the node of a name list at which something stands
node_of : (o : Option Node) → IsSome o → (node : Node) × (o ≡ Some node)
node_of None e = cc
node_of (Some node) e = (node, refl)

-- the node that a path leads to
pub leads_to : (tree : Tree) → IsTree tree → (path : List ℕ) (follow : Bool) (place : NameList) (found : Option NameList) → found ≡ reached tree path follow → found ≡ Some place → (node : Node) × Leads tree path follow place node
leads_to tree whole path follow place found e f =
    let leads : reached tree path follow ≡ Some place = sym e ∙ f in
    let node = node_of (node_at tree place) (reached_stands tree whole path follow place leads) in
    (node.0, record { place_reached = leads; node_there = node.1 })

-- so it isn't nothing
pub leads_to_something : (tree : Tree) → IsTree tree → (path : List ℕ) (follow : Bool) (place : NameList) (found : Option NameList) → found ≡ reached tree path follow → found ≡ Some place → node_at tree place ≡ None → {A : Type 0} → A
leads_to_something tree whole path follow place found e f none {A} = let node = leads_to tree whole path follow place found e f in let is = node.1.node_there in cc

pub resolves : (state : DiskState) → IsTree state.tree → (path text : List ℕ) (place : NameList) (found : Option NameList) → found ≡ reached state.tree path true → found ≡ Some place → text ≡ path_text place → Resolves state path text
resolves state whole path text place found e f t =
    let node = leads_to state.tree whole path true place found e f in
    record { place = place; node = node.0; leads = node.1; text_is = t }

-- ---- files

-- something stands just where a node is found
pub found_stands : (found : Option (Bor Node)) (o : Option Node) (test : Bool) → now_of found ≡ o → test ≡ is_some found → is_some o ≡ test
found_stands None o test is asked = ap is_some (sym is) ∙ sym asked
found_stands (Some node) o test is asked = ap is_some (sym is) ∙ sym asked

-- the file that has the mode
file_with_mode : (o : Option (List ℕ × ℕ)) (m : Option ℕ) (mode : ℕ) → m ≡ option_map (λ (f : List ℕ × ℕ). f.1) o → m ≡ Some mode → (bytes : List ℕ) × (o ≡ Some (bytes, mode))
file_with_mode None m mode is some = cc
file_with_mode (Some f) m mode is some = (f.0, λ i. Some (f.0, same_Some _ _ (sym is ∙ some) i))

-- the file that has the bytes
file_with_bytes : (o : Option (List ℕ × ℕ)) (b : Option (List ℕ)) (bytes : List ℕ) → b ≡ option_map (λ (f : List ℕ × ℕ). f.0) o → b ≡ Some bytes → (mode : ℕ) × (o ≡ Some (bytes, mode))
file_with_bytes None b bytes is some = cc
file_with_bytes (Some f) b bytes is some = (f.1, λ i. Some (same_Some _ _ (sym is ∙ some) i, f.1))

-- a path leads to what stands where it leads
file_where : (tree : Tree) (found : Option NameList) (place : NameList) → found ≡ Some place → option_and_then (file_at tree) found ≡ file_at tree place
file_where tree found place is = ap (option_and_then (file_at tree)) is

-- the bytes of the file at a path are read
pub reads : (state : DiskState) (path : List ℕ) (found : Option NameList) (place : NameList) (b : Option (List ℕ)) (bytes : List ℕ) → found ≡ reached state.tree path true → found ≡ Some place
    → b ≡ option_map (λ (f : List ℕ × ℕ). f.0) (file_at state.tree place) → b ≡ Some bytes → Reads state path bytes
reads state path found place b bytes leads is held some =
    let here = file_with_bytes (file_at state.tree place) b bytes held some in
    (here.0, file_where state.tree (reached state.tree path true) place (sym leads ∙ is) ∙ here.1)

-- an empty file with the mode of another is added, last in its folder
pub builds_like : (old new : MemDisk) (path like : List ℕ) (found other : Option NameList) (model place : NameList) (m : Option ℕ) (mode : ℕ) → found ≡ reached (mem_state old).tree like true → found ≡ Some model
    → m ≡ option_map (λ (f : List ℕ × ℕ). f.1) (file_at (mem_state old).tree model) → m ≡ Some mode → other ≡ named (mem_state old).tree path → other ≡ Some place
    → Adds (mem_state old).tree place (file [] mode) (next_number old) (mem_state new).tree → AddsName (mem_state old).tree place (mem_state new).tree → next_number new ≡ next_number old + 1 → BuildsLike old path like new
builds_like old new path like found other model place m mode leads is held some names there adds order number =
    let before = (mem_state old).tree in
    let here = file_with_mode (file_at before model) m mode held some in
    record {
      place = place;
      names = sym names ∙ there;
      bytes = here.0;
      mode = mode;
      model = file_where before (reached before like true) model (sym leads ∙ is) ∙ here.1;
      adds = adds;
      order = order;
      number = number;
    }

-- so a new file is created, where nothing stood
pub creates : (old new : MemDisk) (path like : List ℕ) (other : Option NameList) (place : NameList) → other ≡ named (mem_state old).tree path → other ≡ Some place → node_at (mem_state old).tree place ≡ None
    → Notes old.medium (change.Created place) new.medium → BuildsLike old path like new → Creates (mem_state old) path like (mem_state new)
creates old new path like other place names there free noted b =
    let before = (mem_state old).tree in
    let here : place ≡ b.place = same_Some place b.place (sym there ∙ names ∙ b.names) in
    record {
      place = b.place;
      names = b.names;
      was_free = ap (node_at before) (sym here) ∙ free;
      bytes = b.bytes;
      mode = b.mode;
      model = b.model;
      stands = ap file_node b.adds.stands;
      others = b.adds.others;
      orders = orders_added before (mem_state new).tree b.place b.order;
      advances = subst (λ (q : NameList). Advances (mem_state old) (mem_state new) (after_create q (outcomes_now (mem_state old)))) here (advances old new (change.Created place) noted);
    }

-- what is something and no file
no_file : (o : Option (List ℕ × ℕ)) (test : Bool) → test ≡ is_some o → test ≡ false → o ≡ None
no_file None test is fails = refl
no_file (Some f) test is fails = cc

-- nothing is renamed to where something else than a file stands
pub stands_in_the_way : (state : DiskState) (from to : List ℕ) (found : Option NameList) (place : NameList) (test : Bool) → found ≡ named state.tree to → found ≡ Some place → IsSome (node_at state.tree place)
    → test ≡ is_some (file_at state.tree place) → test ≡ false → CannotRename state from to
stands_in_the_way state from to found place test names is stands asked fails = inr (inr (record {
  place = place;
  names = sym names ∙ is;
  stands = stands;
  no_file = no_file (file_at state.tree place) test asked fails;
}))

-- ---- lists

-- the opened list has the entries of the directory, its next one last
pub lists_directory : (top : Node) (nodes : List (NameList × Node)) (old new : DiskState) (path : List ℕ) (number : ℕ) (found : Option NameList) (folder : NameList) (test : Bool) (entries turned : List RawEntry)
    → old.tree ≡ tree_of top nodes → IsStrictlySortedBy name_list_cmp (keys_of nodes) → found ≡ reached old.tree path true → found ≡ Some folder → test ≡ is_directory_at old.tree folder → test ≡ true
    → entries ≡ listing folder nodes → turned ≡ reverse entries → new.open_list number ≡ Some (record { is_at_end = false; left = reverse turned }) → ListsDirectory old path number new
lists_directory top nodes old new path number found folder test entries turned tree_is sorted leads is asked holds listed back opened = record {
  folder = folder;
  leads = ap (option_and_then (λ (place : NameList). cond (is_directory_at old.tree place) (Some place) None)) (sym leads ∙ is) ∙ ap (λ b. cond b (Some folder) None) (sym asked ∙ holds);
  left = reverse turned;
  opened = opened;
  entries =
      let are : listing folder nodes ≡ reverse turned = sym listed ∙ sym (reverse-reverse entries) ∙ ap reverse (sym back) in
      subst (TellAll old.tree folder (old.tree.order folder)) are
      (subst (λ (tree : Tree). TellAll tree folder (tree.order folder) (listing folder nodes)) (sym tree_is) (listing_tells top nodes folder sorted));
}
