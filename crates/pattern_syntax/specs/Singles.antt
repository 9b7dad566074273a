-- What is read of the single items of each kind.
use Rattle.std.specs.Prelude.{◌≡◌, ℕ, Bool, false, List, ◌∷◌, ◌==◌, ◌&&◌, ◌||◌, drop, Option, Some, None, if◌then◌else◌, ◌++◌}
use Rattle.hir_tree.specs.declared.look.Look.{Look}
use Rattle.pattern_syntax.specs.declared.flags.Flags.{Flags}
use Rattle.pattern_syntax.specs.declared.readings.Item.{Item}
use Rattle.pattern_syntax.specs.Sets.{closed, folds_with_another}
use Rattle.pattern_syntax.specs.Class.{is_blank_start}
use Rattle.pattern_syntax.specs.Syntax.{Single, dot, caret, dollar, Edge, text_start, text_end, edge, no_edge, word_start, word_end, half_start, half_end, left, right, write_single, FineLook, is_special, edge_of}
use Rattle.pattern_syntax.specs.SetTree.{SetTree, literal}
use Rattle.pattern_syntax.specs.Reads.{class_tree}
use Rattle.pattern_syntax.specs.Readers.{GoesOnTo, SingleAt}

-- ---- looks

-- the look at the place, behind which the text goes on at `next`
pub record EdgeAt (k : Flags) (text : List ℕ) (at : ℕ) (read : Look) (next : ℕ) : Type 0 where
  pub edge : Edge
  pub goes_on : GoesOnTo text at next
  pub written : drop at text ≡ (edge_of edge).0 ++ (drop next text)
  pub fine : FineLook edge (drop next text)
  pub is : read ≡ (edge_of edge).1 k.unicode

-- `\b` and a name in braces
abbrev pub IsNamedEdge : Edge → Type 0
IsNamedEdge word_start = Unit {0}
IsNamedEdge word_end = Unit {0}
IsNamedEdge half_start = Unit {0}
IsNamedEdge half_end = Unit {0}
IsNamedEdge _ = ⊥

-- `\b` alone
abbrev pub IsPlainEdge : Edge → Type 0
IsPlainEdge edge = Unit {0}
IsPlainEdge _ = ⊥

-- a letter alone, but `b`
abbrev pub IsShortEdge : Edge → Type 0
IsShortEdge text_start = Unit {0}
IsShortEdge text_end = Unit {0}
IsShortEdge no_edge = Unit {0}
IsShortEdge left = Unit {0}
IsShortEdge right = Unit {0}
IsShortEdge _ = ⊥

abbrev pub IsAnyEdge : Edge → Type 0
IsAnyEdge e = Unit {0}

-- what is read of the looks of a kind
abbrev pub IsEdgeRead : (Edge → Type 0) → Flags → List ℕ → ℕ → Option (Look × ℕ) → Type 0
IsEdgeRead Kind k text at (Some read) = EdgeAt k text at read.0 read.1
IsEdgeRead Kind k text at None = (e : Edge) (t : List ℕ) → Kind e → drop at text ≡ (edge_of e).0 ++ t → FineLook e t → ⊥

-- the look of a letter alone
abbrev pub short_edge : ℕ → Option Edge
short_edge letter =
    if letter == 65 then Some text_start else if letter == 122 then Some text_end else if letter == 66 then Some no_edge else
    if letter == 60 then Some left else if letter == 62 then Some right else None

abbrev pub look_of : Bool → Option Edge → Option Look
look_of unicode None = None
look_of unicode (Some e) = Some ((edge_of e).1 unicode)

-- ---- other items

-- `.`, `^` and `$`
abbrev pub IsSign : Single → Type 0
IsSign dot = Unit {0}
IsSign caret = Unit {0}
IsSign dollar = Unit {0}
IsSign _ = ⊥

-- what is read of the signs
abbrev pub IsSignRead : Flags → List ℕ → ℕ → Option (Item × ℕ) → Type 0
IsSignRead k text at (Some read) = SingleAt k text at read.0 read.1
IsSignRead k text at None = (s : Single) (t : List ℕ) → IsSign s → drop at text ≡ write_single s t → ⊥

-- what is read of the characters that stand for themselves
abbrev pub IsCharacterRead : Flags → List ℕ → ℕ → Option (Item × ℕ) → Type 0
IsCharacterRead k text at (Some read) = SingleAt k text at read.0 read.1
IsCharacterRead k text at None = (c : ℕ) (t : List ℕ) → drop at text ≡ c ∷ t → (is_special c || is_blank_start k c) ≡ false → ⊥

-- a literal character, or where it folds with another the class of all that do
abbrev pub literal_tree : Flags → ℕ → List ℕ → SetTree
literal_tree k c bytes = if k.folds && folds_with_another k c then class_tree k (closed k (λ d. d == c)) else literal bytes
