-- The tokens of a pattern, as they are read from left to right.
use Rattle.std.specs.Prelude.{◌≡◌, ℕ, Bool, true, false, List, ◌++◌, codes, ◌&&◌, ◌||◌, if◌then◌else◌, unwrap_or, []}
use Rattle.pattern_syntax.specs.declared.flags.Flags.{Flags}
use Rattle.pattern_syntax.specs.Flags.{FlagList, write_flags, FineFlags, Blank, write_blanks, FineBlanks, begins, seen, is_nil}
use Rattle.pattern_syntax.specs.Syntax.{Single, Repeated, Count, Kind, numbered, named, flagged, write_single, write_count, write_kind, FineSingle, FineKind, fine_count, is_braced, write_swap}

-- what stands at a place, but white space, comments and repetitions
pub data Token : Type 0 where
  bar : Token
  -- `(?flags)`
  set : List Blank → FlagList → Token
  item : Single → Token
  opens : Kind → Token
  closes : Token

abbrev pub write_token : Token → List ℕ → List ℕ
write_token bar t = codes "|" ++ t
write_token (set bs l) t = codes "(" ++ write_blanks bs (codes "?" ++ write_flags l (codes ")" ++ t))
write_token (item s) t = write_single s t
write_token (opens m) t = write_kind m t
write_token closes t = codes ")" ++ t

-- behind `(` alone no `?` comes next
abbrev pub FineOpen : Flags → Kind → List ℕ → Type 0
FineOpen k numbered t = begins 63 (seen k t) ≡ false
FineOpen k (named bs p name) t = FineKind k (named bs p name)
FineOpen k (flagged bs l) t = FineKind k (flagged bs l)

abbrev pub FineToken : Flags → Token → List ℕ → Type 0
FineToken k bar t = Unit {0}
FineToken k (set bs l) t = FineBlanks k bs (codes "?") × FineFlags l × (is_nil (l.on ++ unwrap_or l.off []) ≡ false)
FineToken k (item s) t = FineSingle k s t
FineToken k (opens m) t = FineOpen k m t
FineToken k closes t = Unit {0}

-- ---- a repetition

abbrev pub write_repeated : Repeated → List ℕ → List ℕ
write_repeated r t = write_blanks r.before (write_count r.count (write_blanks r.gap (write_swap r.swaps t)))

-- a `?` that comes next swaps the greed: directly behind, and behind braces past white space too
abbrev pub swap_comes : Flags → Count → List ℕ → Bool
swap_comes k n t = begins 63 (if is_braced n then seen k t else t)

abbrev pub FineRepeated : Flags → Repeated → List ℕ → Type 0
FineRepeated k r t =
    FineBlanks k r.before (write_count r.count (write_blanks r.gap (write_swap r.swaps t))) × FineBlanks k r.gap (write_swap r.swaps t)
    × ((fine_count r.count && ((r.swaps && is_braced r.count) || is_nil r.gap) && (r.swaps || (if swap_comes k r.count t then false else true))) ≡ true)
