-- What a list of the host's told of its entries.
use Rattle.std.specs.Prelude.{◌≡◌, ◌++◌, ℕ, List, false, if◌then◌else◌, slice_range, string_bytes, sum_by, Contains}
use Rattle.sd_io.specs.declared.meta.Meta.{Meta}
use Rattle.host_io.specs.declared.told.Told.{Told}
use Rattle.host_io.specs.declared.told.ToldEntry.{ToldEntry}

-- the name of an entry, among the names of all
abbrev pub name_of : List ℕ → ToldEntry → List ℕ
name_of names entry = slice_range names entry.start entry.end

-- this was told of what stands at the path, and wasn't asked for since
pub record IsTold (told : Told) (path : List ℕ) (meta : Meta) : Type 0 where
  pub entry : ToldEntry
  pub is_entry : Contains told.entries.items entry
  pub not_asked : entry.is_asked ≡ false
  pub is_meta : entry.meta ≡ meta
  pub is_path : string_bytes told.folder ++ name_of told.names.items entry ≡ path

-- how many entries were told and not asked for since
abbrev pub told_count : Told → ℕ
told_count told = sum_by (λ entry. if entry.is_asked then 0 else 1) told.entries.items
