-- What isn't known without asking the host isn't known afterwards, where the answers stay.
use Rattle.std.proofs.Common.{◌≡◌, ℕ, List, None, ◌∙◌, ap}
use Rattle.host_io.specs.Folders.{TellsNothing, AsksForAll, SameAnswers}
use Rattle.host_known.specs.KnownFile.{status_at}
use Rattle.host_io.specs.Told.{told_count}
use Rattle.host_io.specs.declared.folders.Folders.{Folders}
use Rattle.host_known.specs.declared.known_file.KnownFile.{KnownFile}

module _ {R File Dir : Type 0} (old new : Folders R File Dir) (same : SameAnswers old new) where
  pub still_untold : TellsNothing old.told → TellsNothing new.told
  still_untold nothing = ap told_count same.told ∙ nothing

  pub still_unknown : (path : List ℕ) → status_at old.file path ≡ None → status_at new.file path ≡ None
  still_unknown path unknown = ap (λ (f : KnownFile). status_at f path) same.file ∙ unknown

  pub still_asks : AsksForAll old → AsksForAll new
  still_asks asks = record { told = still_untold asks.told; file = λ path. still_unknown path (asks.file path) }
