-- What reading a directory's list does.
use Rattle.std.specs.Prelude.{◌≡◌, ◌+◌, ℕ, Bool, List, ◌++◌, length, map}
use Rattle.sd_io.specs.Disk.{DiskState}
use Rattle.walk_rest.specs.declared.entry.DirEntry.{DirEntry}
use Rattle.walk_rest.specs.declared.level.Folder.{Folder}
use Rattle.walk_rest.specs.declared.level.Due.{Due}
use Rattle.walk_rest.specs.declared.options.Options.{Options}
use Rattle.walk_rest.specs.Plan.{Comparison, Manner, entry_below}
use Rattle.walk_rest.specs.Level.{IsAllowed, Loses, fault_of, left_in, listing_faults}

abbrev pub manner_by : Options → Bool → Comparison → ℕ → Manner
manner_by options sorts compare device = record { options = options; sorts = sorts; compare = compare; device = device }

-- what an open list has left was read, but for what was lost
pub record ReadsList (old : DiskState) (number : ℕ) (folder : Folder) (due : List Due) (new : DiskState) (now_due : List Due)
    (entries : List DirEntry) : Type 0 where
  pub cuts : ℕ
  pub loses : Loses cuts (map (entry_below folder) (left_in (old.open_list number))) entries
  pub now_are : map fault_of now_due ≡ map fault_of due ++ listing_faults (folder.depth + 1) cuts
  pub allowed : IsAllowed cuts old.faults new.faults
  pub listed : cuts ≡ 0 → new.listed ≡ old.listed + length entries
