use Rattle.std.proofs.Common.{◌≡◌, take, false}
use Rattle.std.specs.List.{list_any}
use Rattle.sd_io.specs.Paths.{is_up}
use Rattle.mem_io.proofs.path.TextLemmas.{texts}
use Rattle.mem_io.proofs.tree.MemTree.free_place.Given as goal

-- the place has the parts so far, none of them `..`
abbrev pub invariant-loop-part : goal.invariant-loop-part
invariant-loop-part l = record { names : l.place ≡ texts (take l.part-index l.part-items); no_up : list_any is_up l.place ≡ false }
