-- A change whose journal is there for good is carried out.
use Rattle.std.specs.Prelude.{◌≡◌, ◌≢◌, ◌++◌, ◌∷◌, [], ℕ, List, Some, None, IsSome, Contains}
use Rattle.sd_io.specs.Tree.{NameList, Tree, node_at, file_at}
use Rattle.sd_io.specs.Files.{path_text}
use Rattle.sd_io.specs.Lists.{directory_of}
use Rattle.sd_io.specs.Disk.{DiskState}
use Rattle.journal_text.specs.declared.line.Line.{Line}
use Rattle.change_phases.specs.Between.{journal_name, place_of, stage_of}
use Rattle.change_phases.specs.Phases.{IsOnly}

-- no stage of the lines stands, and a crash leaves none
pub record IsStageGone (line : Line) (state : DiskState) : Type 0 where
  pub gone : node_at state.tree (stage_of line) ≡ None
  pub for_good : IsOnly state (stage_of line) (λ found. found ≡ None)

abbrev pub StagesAreGone : List Line → DiskState → Type 0
StagesAreGone lines state = (line : Line) → Contains lines line → IsStageGone line state

-- the root leads to this directory, the path is that of the journal in it, and a regular file stands there
pub record HasJournalAt (tree : Tree) (root path : List ℕ) (folder : NameList) : Type 0 where
  pub leads : directory_of tree root ≡ Some folder
  pub path_is : path ≡ path_text (folder ++ journal_name ∷ [])
  pub is_file : IsSome (file_at tree (folder ++ journal_name ∷ []))

-- the file of the line keeps its mode and holds the bytes of its stage
pub record HoldsStaged (line : Line) (old new : Tree) : Type 0 where
  pub before : List ℕ
  pub mode : ℕ
  pub was : file_at old (place_of line) ≡ Some (before, mode)
  pub bytes : List ℕ
  pub stage_mode : ℕ
  pub staged : file_at old (stage_of line) ≡ Some (bytes, stage_mode)
  pub holds : file_at new (place_of line) ≡ Some (bytes, mode)

-- So does each line's file. No stage stands, and no journal; every other place is as before.
pub record CarriesOut (lines : List Line) (journal : NameList) (old new : Tree) : Type 0 where
  pub files : (line : Line) → Contains lines line → HoldsStaged line old new
  pub stages : (line : Line) → Contains lines line → node_at new (stage_of line) ≡ None
  pub no_journal : node_at new journal ≡ None
  pub others : (q : NameList) → q ≢ journal → ((line : Line) → Contains lines line → (q ≢ place_of line) × (q ≢ stage_of line)) → node_at new q ≡ node_at old q
