-- What the readers of an opening's parts answer.
use Rattle.std.specs.Prelude.{◌≡◌, ◌<◌, ◌≤◌, ℕ, ◌+◌, Bool, true, false, List, [], ◌∷◌, ◌++◌, codes, ◌&&◌, ◌||◌, not, drop, length, slice_range, Option, Some, None, unwrap_or}
use Rattle.pattern_syntax.specs.declared.flags.Flags.{Flags}
use Rattle.pattern_syntax.specs.declared.readings.Opening.{Opening}
use Rattle.pattern_syntax.specs.declared.readings.Opening.TheVariants as opening
use Rattle.pattern_syntax.specs.Flags.{FlagList, apply, write_off, write_flags, FineFlags, Blank, has, begins, is_nil}
use Rattle.pattern_syntax.specs.Runs.{is_flag, comes}
use Rattle.pattern_syntax.specs.Syntax.{named, flagged, is_name, write_p}
use Rattle.pattern_syntax.specs.Tokens.{Token, set, opens}
use Rattle.pattern_syntax.specs.Readers.{GoesOnTo}
use Rattle.std.specs.List.{list_all}

-- ---- flag lists

-- no character stands twice
abbrev pub are_distinct : List ℕ → Bool
are_distinct [] = true
are_distinct (c ∷ cs) = not (has c cs) && are_distinct cs

-- no letter of a flag comes next, and no `-` that would belong to the list
abbrev pub off_ends : Option (List ℕ) → List ℕ → Bool
off_ends None t = not (comes is_flag t) && not (begins 45 t)
off_ends (Some letters) t = not (comes is_flag t)

-- a `-` and all letters of flags behind it stand at the place, or no `-`
pub record IsOffRead (text : List ℕ) (at next : ℕ) : Type 0 where
  pub off : Option (List ℕ)
  pub onward : at ≤ next
  pub within : next ≤ length text
  pub written : drop at text ≡ write_off off (drop next text)
  pub letters : list_all is_flag (unwrap_or off []) ≡ true
  pub letters_are : unwrap_or off [] ≡ slice_range text (at + 1) next
  pub ends : comes is_flag (drop at text) ≡ false → off_ends off (drop next text) ≡ true

-- a `:` or `)` comes next
abbrev pub ends_flags : List ℕ → Bool
ends_flags t = begins 58 t || begins 41 t

pub record FlagsAt (k : Flags) (text : List ℕ) (at : ℕ) (read : Flags) (next : ℕ) : Type 0 where
  pub list : FlagList
  pub onward : at ≤ next
  pub within : next < length text
  pub written : drop at text ≡ write_flags list (drop next text)
  pub fine : FineFlags list
  pub ends : ends_flags (drop next text) ≡ true
  pub applied : read ≡ apply list k

abbrev pub IsFlagsRead : Flags → List ℕ → ℕ → Option (Flags × ℕ) → Type 0
IsFlagsRead k text at (Some read) = FlagsAt k text at read.0 read.1
IsFlagsRead k text at None = (l : FlagList) (t : List ℕ) → drop at text ≡ write_flags l t → FineFlags l → ends_flags t ≡ true → ⊥

-- ---- names

abbrev pub IsAngleRead : List ℕ → ℕ → Option ℕ → Type 0
IsAngleRead text at (Some next) = (p : Bool) × GoesOnTo text at next × (drop at text ≡ write_p p (codes "<" ++ drop next text))
IsAngleRead text at None = (p : Bool) (t : List ℕ) → drop at text ≡ write_p p (codes "<" ++ t) → ⊥

pub record NameAt (text : List ℕ) (at : ℕ) (name : List ℕ) (next : ℕ) : Type 0 where
  pub goes_on : GoesOnTo text at next
  pub written : drop at text ≡ name ++ (codes ">" ++ drop next text)
  pub fine : is_name name ≡ true

pub record NamedAt (text : List ℕ) (at : ℕ) (read : Opening) (next : ℕ) : Type 0 where
  pub name : List ℕ
  pub is : read ≡ opening.Named name
  pub stands : NameAt text at name next

abbrev pub IsNamedRead : List ℕ → ℕ → Option (Opening × ℕ) → Type 0
IsNamedRead text at (Some read) = NamedAt text at read.0 read.1
IsNamedRead text at None = (name : List ℕ) (t : List ℕ) → drop at text ≡ name ++ (codes ">" ++ t) → is_name name ≡ true → ⊥

-- ---- what stands behind `(?`

pub data Marked : Type 0 where
  sets : FlagList → Marked
  plain : FlagList → Marked
  called : Bool → List ℕ → Marked

abbrev pub write_marked : Marked → List ℕ → List ℕ
write_marked (sets l) t = write_flags l (codes ")" ++ t)
write_marked (plain l) t = write_flags l (codes ":" ++ t)
write_marked (called p name) t = write_p p (codes "<" ++ name ++ codes ">" ++ t)

abbrev pub FineMarked : Marked → Type 0
FineMarked (sets l) = FineFlags l × (is_nil (l.on ++ unwrap_or l.off []) ≡ false)
FineMarked (plain l) = FineFlags l
FineMarked (called p name) = is_name name ≡ true

-- the token, with the blanks before the `?`
abbrev pub marked_token : List Blank → Marked → Token
marked_token bs (sets l) = set bs l
marked_token bs (plain l) = opens (flagged bs l)
marked_token bs (called p name) = opens (named bs p name)

abbrev pub IsMarked : Flags → Marked → Opening → Type 0
IsMarked k (sets l) (opening.Sets flags) = flags ≡ apply l k
IsMarked k (plain l) (opening.Plain flags) = flags ≡ apply l k
IsMarked k (called p name) (opening.Named text) = text ≡ name
IsMarked k _ _ = ⊥

pub record MarkedAt (k : Flags) (text : List ℕ) (at : ℕ) (read : Opening) (next : ℕ) : Type 0 where
  pub marked : Marked
  pub is : IsMarked k marked read
  pub goes_on : GoesOnTo text at next
  pub written : drop at text ≡ write_marked marked (drop next text)
  pub fine : FineMarked marked

abbrev pub IsMarkedRead : Flags → List ℕ → ℕ → Option (Opening × ℕ) → Type 0
IsMarkedRead k text at (Some read) = MarkedAt k text at read.0 read.1
IsMarkedRead k text at None = (m : Marked) (t : List ℕ) → drop at text ≡ write_marked m t → FineMarked m → ⊥

-- with a flag list
abbrev pub IsFlagged : Marked → Type 0
IsFlagged (called p name) = ⊥
IsFlagged _ = Unit {0}

abbrev pub IsFlaggedRead : Flags → List ℕ → ℕ → Option (Opening × ℕ) → Type 0
IsFlaggedRead k text at (Some read) = MarkedAt k text at read.0 read.1
IsFlaggedRead k text at None = (m : Marked) (t : List ℕ) → IsFlagged m → drop at text ≡ write_marked m t → FineMarked m → ⊥
