-- A node is built or removed.
use Rattle.std.proofs.Common.{◌≡◌, ◌+◌, ℕ, List, [], ◌∷◌, sym, ◌∙◌, Bool, true}
use Rattle.std.specs.Prelude.{Option, Some, is_some}
use Rattle.sd_io.specs.Tree.{NameList, Content, SameOrdersBut, file_at}
use Rattle.sd_io.specs.Paths.{parent_of, named}
use Rattle.sd_io.specs.Files.{Removes}
use Rattle.mem_io.specs.MemTree.{IsFreePlace, Adds, AddsName, TakesAway}
use Rattle.mem_io.specs.declared.log.Change.TheVariants as change
use Rattle.mem_io.specs.Medium.{Notes, NotesBuilt}
use Rattle.mem_io.specs.declared.disk.MemDisk.{MemDisk}
use Rattle.mem_io.specs.MemDisk.{mem_state, next_number, Builds}
use Rattle.mem_io.proofs.disk.MomentLemmas.{advances}

pub builds : (old new : MemDisk) (path : List ℕ) (content : Content) (place : NameList) → IsFreePlace (mem_state old).tree path place → Adds (mem_state old).tree place content (next_number old) (mem_state new).tree
    → AddsName (mem_state old).tree place (mem_state new).tree → next_number new ≡ next_number old + 1 → NotesBuilt old.medium place new.medium → Builds old path content new
builds old new path content place free adds order number n = record {
  place = place;
  was_free = free;
  adds = adds;
  order = order;
  number = number;
  node = n.node;
  stands = n.stands;
  advances = advances old new (change.Built place n.node) n.noted;
}

pub removes : (old new : MemDisk) (path : List ℕ) (found : Option NameList) (place : NameList) (test : Bool) → found ≡ named (mem_state old).tree path → found ≡ Some place → test ≡ is_some (file_at (mem_state old).tree place)
    → test ≡ true → TakesAway (mem_state old).tree place (mem_state new).tree → SameOrdersBut (parent_of place ∷ []) (mem_state old).tree (mem_state new).tree → Notes old.medium (change.Removed place) new.medium
    → Removes (mem_state old) path (mem_state new)
removes old new path found place test names is asked holds takes orders noted = record {
  place = place;
  names = sym names ∙ is;
  was_file = sym asked ∙ holds;
  gone = takes.gone;
  others = takes.others;
  orders = orders;
  advances = advances old new (change.Removed place) noted;
}
