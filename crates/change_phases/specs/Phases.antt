-- What a crash may leave at each place in the phases of a journalled change.
use Rattle.std.specs.Prelude.{◌≡◌, ◌⊎◌, ◌≤◌, ℕ, List, [], ◌∷◌, Contains, Option, None, ⊤}
use Rattle.sd_io.specs.Tree.{NameList, Content}
use Rattle.sd_io.specs.Outcomes.{Outcome, own, any_file, Leaves, content_at}
use Rattle.sd_io.specs.Disk.{DiskState, outcomes_now}
use Rattle.file_exchange.specs.Crash.{Exchange}
use Rattle.journal_text.specs.declared.line.Line.{Line}
use Rattle.journal_text.specs.Journal.{text_of}
use Rattle.change_phases.specs.Between.{stage_of, Work, journal_of, IsOld, IsNew, IsElsewhere, IsLineOf, IsJournalFor, HoldsBytes}

-- The stages are made; the journal gets its name; the files are put in place; the journal is removed; it is gone for good.
pub data Phase : Type 0 where
  preparing : Phase
  naming : Phase
  placing : Phase
  removing : Phase
  cleared : Phase

-- While the journal's name is given or taken away it may be found or not. Between the two it is there for good.
abbrev pub JournalMay : Phase → List Line → Option Content → Type 0
JournalMay preparing lines found = found ≡ None
JournalMay naming lines found = (found ≡ None) ⊎ HoldsBytes (text_of lines) found
JournalMay placing lines found = HoldsBytes (text_of lines) found
JournalMay removing lines found = (found ≡ None) ⊎ HoldsBytes (text_of lines) found
JournalMay cleared lines found = found ≡ None

-- Only while the journal is there for good some files may be old and others new.
abbrev pub FileMay : Phase → Work → Exchange → Option Content → Type 0
FileMay preparing work f found = IsOld work f found
FileMay naming work f found = IsOld work f found
FileMay placing work f found = IsOld work f found ⊎ IsNew work f found
FileMay removing work f found = IsNew work f found
FileMay cleared work f found = IsNew work f found

-- As long as the journal may be found, each stage is there for good.
abbrev pub StageMay : Phase → Exchange → Option Content → Type 0
StageMay preparing f found = ⊤
StageMay naming f found = HoldsBytes f.1 found
StageMay placing f found = HoldsBytes f.1 found
StageMay removing f found = HoldsBytes f.1 found
StageMay cleared f found = ⊤

-- what may be found at a place
pub record MayBe (phase : Phase) (work : Work) (lines : List Line) (q : NameList) (found : Option Content) : Type 0 where
  pub journal : q ≡ journal_of work → JournalMay phase lines found
  pub file : (f : Exchange) → Contains work.files f → q ≡ f.0 → FileMay phase work f found
  pub stage : (line : Line) (f : Exchange) → Contains lines line → Contains work.files f → IsLineOf f line → q ≡ stage_of line → StageMay phase f found
  pub elsewhere : IsElsewhere work q → found ≡ content_at work.tree q

-- in this phase a crash leaves at each place what may be there
abbrev pub IsIn : Phase → Work → List Line → DiskState → Type 0
IsIn phase work lines state = (q : NameList) (found : Option Content) → Leaves (outcomes_now state q) found → MayBe phase work lines q found

-- so it does from `old` on, up to `new`
pub record PassesIn (phase : Phase) (work : Work) (lines : List Line) (old new : DiskState) : Type 0 where
  pub later : old.clock ≤ new.clock
  pub before : (k : ℕ) → k ≤ old.clock → new.outcomes k ≡ old.outcomes k
  pub each : (k : ℕ) → old.clock ≤ k → k ≤ new.clock → (q : NameList) (found : Option Content) → Leaves (new.outcomes k q) found → MayBe phase work lines q found

-- anything may be found at the place in this phase
abbrev pub MayBeAnything : Phase → Work → List Line → NameList → Type 0
MayBeAnything phase work lines q = (found : Option Content) → MayBe phase work lines q found

-- the journal that may be found in this phase is one for the work
abbrev pub HasJournal : Phase → Work → List Line → Type 0
HasJournal preparing work lines = ⊤
HasJournal naming work lines = IsJournalFor work lines
HasJournal placing work lines = IsJournalFor work lines
HasJournal removing work lines = IsJournalFor work lines
HasJournal cleared work lines = ⊤

-- a crash leaves this alone at the place
abbrev pub IsOnly : DiskState → NameList → (Option Content → Type 0) → Type 0
IsOnly state q may = (found : Option Content) → Leaves (outcomes_now state q) found → may found

-- the new bytes of each file are at its stage for good
abbrev pub HasStagesOnly : Work → List Line → DiskState → Type 0
HasStagesOnly work lines state =
    (line : Line) (f : Exchange) → Contains lines line → Contains work.files f → IsLineOf f line → IsOnly state (stage_of line) (HoldsBytes f.1)

-- each outcome of the list is an own one that leaves any file
abbrev pub AreAny : List Outcome → Type 0
AreAny [] = ⊤
AreAny (outcome ∷ outcomes) = (outcome ≡ own any_file) × AreAny outcomes
