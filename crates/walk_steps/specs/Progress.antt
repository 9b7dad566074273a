-- What a turn of a walk gets done.
use Rattle.std.specs.Prelude.{◌≡◌, ◌≢◌, ◌+◌, ◌≤◌, ◌<◌, ◌⊎◌, ℕ, Bool, true, false, IsTrue, List, [], ◌∷◌, length, Option, Some, None, Ok, Err, IfNone}
use Rattle.sd_io.specs.Count.{HasRisen}
use Rattle.sd_io.specs.Disk.{DiskState}
use Rattle.walk_rest.specs.declared.entry.DirEntry.{DirEntry}
use Rattle.walk_rest.specs.declared.error.Error.{Error}
use Rattle.walk_rest.specs.declared.error.Error.TheVariants as error
use Rattle.walk_rest.specs.declared.level.Entries.{Entries}
use Rattle.walk_rest.specs.declared.level.Entries.TheVariants.{Unread, Open, Kept}
use Rattle.walk_rest.specs.declared.level.Folder.{Folder}
use Rattle.walk_rest.specs.declared.level.Level.{Level}
use Rattle.walk_rest.specs.Plan.{Comparison, Item}
use Rattle.walk_steps.specs.declared.inside.Inside.{Inside}
use Rattle.walk_steps.specs.Causes.{CountsFaults, FitsTree, IsCaused, faults_told}
use Rattle.walk_steps.specs.Inside.{IsRead, levels_of}
use Rattle.walk_steps.specs.Listed.{GivesAtOnce, GivesListed, HasRoom, IsToListOnTop, IsTopSettled, gives_below}
use Rattle.walk_steps.specs.Sound.{IsSound, open_limit}
use Rattle.walk_steps.specs.Steps.{ByEachRest, TurnsTo}
use Rattle.walk_steps.specs.Work.{left_to_do}

-- ---- entries that are taken, and lists that end

-- how many entries of a level are kept to be taken: those of a list that was read, and the root's own until it is looked at
abbrev pub kept_of : Entries → Option Folder → ℕ
kept_of Unread None = 1
kept_of Unread (Some folder) = 0
kept_of (Open list) folder = 0
kept_of (Kept kept) folder = length kept.items

abbrev pub kept_in : List Level → ℕ
kept_in [] = 0
kept_in (level ∷ levels) = kept_of level.entries level.folder + kept_in levels

-- no level came or went, and what is kept was kept before, or was listed
pub record KeepsListed (old : DiskState) (before : List Level) (new : DiskState) (after : List Level) : Type 0 where
  pub levels : length after ≡ length before
  pub kept : kept_in after + old.listed ≤ kept_in before + new.listed

-- one entry was taken: it was listed, or is one of those that were kept
abbrev pub TakesEntry : DiskState → List Level → DiskState → List Level → Type 0
TakesEntry old before new after = 1 + kept_in after + old.listed ≤ kept_in before + new.listed

-- a list came to its end, and its level is left
abbrev pub EndsList : List Level → List Level → Type 0
EndsList before after = length after < length before

-- what is given was due before the next entry: the item of a directory that was left, or an error
abbrev pub GivesDue : Option DirEntry → Option Item → Type 0
GivesDue first answer = ((entry : DirEntry) × (first ≡ Some entry) × (answer ≡ Some (Ok entry))) ⊎ ((failed : Error) × (answer ≡ Some (Err failed)))

-- an entry was taken, or a list was ended, or what was due was given
abbrev pub Progresses : Option DirEntry → DiskState → List Level → Option Item → DiskState → List Level → Type 0
Progresses first old before answer new after = TakesEntry old before new after ⊎ (EndsList before after ⊎ GivesDue first answer)

-- ---- turns

-- the item of a directory that was left, which comes first of a level
abbrev pub first_of : Option Level → Option DirEntry
first_of None = None
first_of (Some level) = level.first

-- the level on top was read, and nothing of a directory that was left comes first
pub record HasReadTop (top : Option Level) : Type 0 where
  pub level : Level
  pub on_top : top ≡ Some level
  pub read : IsRead level.entries
  pub first : level.first ≡ None

module _ {S : Type 0} where
  -- What each part of a turn does that doesn't want memory: the answer, if one comes, what is left, what was listed and counted, and that less is left to do.
  pub record IsTurnPart (tells : Bool) (sorts : S → Bool) (ComparesBy : S → Comparison → Type 0) (old : DiskState) (before : Inside S) (answer : Option Item)
      (new : DiskState) (now : Inside S) : Type 0 where
    pub turns : ByEachRest tells ComparesBy old (sorts before.order) before (λ by rest. TurnsTo old (sorts before.order) by rest answer new now)
    pub named : answer ≢ Some (Err error.NoMemory)
    pub sound : IsSound new (sorts now.order) now
    pub counted : FitsTree tells ComparesBy old (sorts before.order) before → CountsFaults (faults_told tells answer) old (levels_of before) new (levels_of now)
    pub caused : IsCaused tells old new answer now
    pub listed_each : GivesListed (gives_below answer) old (levels_of before) new (levels_of now)
    -- where each entry is given as it comes, what is passed over leaves nothing to list on top
    pub settles : GivesAtOnce before.options → IfNone answer (IsTopSettled before.options.max_depth now.top)
    -- and a walk that doesn't sort lists nothing as it passes over it
    pub passes : sorts before.order ≡ false → GivesAtOnce before.options
        → HasRoom (open_limit before.options) before.options.max_depth before.stack.items before.top → IfNone answer (new.listed ≡ old.listed)
    -- one that sorts lists what lies unread on top, whole
    pub listed_whole : IsTrue tells → (by : Comparison) (count : ℕ) → ComparesBy before.order by → sorts before.order ≡ true
        → IsToListOnTop old.tree before.options.max_depth before.top count → (HasRisen old.faults new.faults → ⊥) → new.listed ≡ old.listed + count
    pub less : left_to_do new now < left_to_do old before

  -- What a turn does that doesn't want memory: it takes an entry, ends a list, or gives what was due.
  pub record IsTurn (tells : Bool) (sorts : S → Bool) (ComparesBy : S → Comparison → Type 0) (old : DiskState) (before : Inside S) (answer : Option Item)
      (new : DiskState) (now : Inside S) : Type 0 where
    pub part : IsTurnPart tells sorts ComparesBy old before answer new now
    pub progress : Progresses (first_of before.top) old (levels_of before) answer new (levels_of now)
