-- Which bytes are in no match of a pattern.
use Rattle.std.specs.Prelude.{◌≡◌, ℕ, ◌<◌, ◌⊎◌, ◌==◌, ◌&&◌, ◌||◌, Bool, true, false, List, Contains, Option, None, encode_utf8, slice_get, unwrap_or, option_map, option_and_then}
use Rattle.std.specs.Char.{IsScalar}
use Rattle.hir_tree.specs.Core.{Core}
use Rattle.hir_tree.specs.Ranges.{Holds}
use Rattle.hir_tree.specs.Runs.{preferred}
use Rattle.grep_matcher.specs.NoMatch.{IsInNoMatch}
use Rattle.hir_tree.specs.Cores.{core_of_tree}
use Rattle.hir_tree.specs.Tree.{Tree, Trees, empty, literal, class_chars, class_bytes, look, repetition, capture, concat, alternation, none, more}
use Rattle.hir_tree.specs.declared.look.Look.{Look}
use Rattle.hir_tree.specs.declared.look.Look.TheVariants.{Start, End, StartLF, EndLF, StartCRLF, EndCRLF}

abbrev mutual
  -- a literal of the tree holds the byte, or the encoding of a member of a class
  pub Takes : ℕ → Tree → Type 0
  Takes b empty = ⊥
  Takes b (literal bytes) = Contains bytes b
  Takes b (class_chars ranges) = (c : ℕ) × IsScalar c × Holds ranges c × Contains (encode_utf8 c) b
  Takes b (class_bytes ranges) = Holds ranges b
  Takes b (look kind) = ⊥
  Takes b (repetition least most greedy part) = Takes b part
  Takes b (capture index name part) = Takes b part
  Takes b (concat parts) = OneTakes b parts
  Takes b (alternation parts) = OneTakes b parts

  -- so it is of one of the trees
  pub OneTakes : ℕ → Trees → Type 0
  OneTakes b none = ⊥
  OneTakes b (more part rest) = Takes b part ⊎ OneTakes b rest

abbrev mutual
  -- a look of the tree passes a test
  pub has_look : (Look → Bool) → Tree → Bool
  has_look test empty = false
  has_look test (literal bytes) = false
  has_look test (class_chars ranges) = false
  has_look test (class_bytes ranges) = false
  has_look test (look kind) = test kind
  has_look test (repetition least most greedy part) = has_look test part
  has_look test (capture index name part) = has_look test part
  has_look test (concat parts) = one_has_look test parts
  has_look test (alternation parts) = one_has_look test parts

  -- so it is of one of the trees
  pub one_has_look : (Look → Bool) → Trees → Bool
  one_has_look test none = false
  one_has_look test (more part rest) = has_look test part || one_has_look test rest

-- a start or an end of the text
abbrev pub is_text_anchor : Look → Bool
is_text_anchor Start = true
is_text_anchor End = true
is_text_anchor _ = false

-- a start or an end of a line, where `\r` may end one too
abbrev pub is_crlf_anchor : Look → Bool
is_crlf_anchor StartCRLF = true
is_crlf_anchor EndCRLF = true
is_crlf_anchor _ = false

-- a start or an end of a line, where `\n` alone ends one
abbrev pub is_lf_anchor : Look → Bool
is_lf_anchor StartLF = true
is_lf_anchor EndLF = true
is_lf_anchor _ = false

-- a start or an end of the text or of a line
abbrev pub is_anchor : Look → Bool
is_anchor kind = is_text_anchor kind || is_lf_anchor kind || is_crlf_anchor kind

-- a look asks for the byte at a line's end
abbrev pub is_asked : ℕ → Tree → Bool
is_asked b tree = (b == 10 && has_look is_anchor tree) || (b == 13 && has_look is_crlf_anchor tree)

-- The bytes that a searcher may take for bytes of no match. What is left out of them beside the bytes that are taken, `\n`
-- where a line or the text is anchored and `\r` where lines may end with it, is in no match either where it isn't taken: a
-- searcher that goes from line to line looks at it.
abbrev pub IsNonMatching : Tree → ℕ → Type 0
IsNonMatching tree b = (b < 256) × (Takes b tree → ⊥) × (is_asked b tree ≡ false)

-- the end of group 0
abbrev pub whole_end : List (Option (ℕ × ℕ)) → Option ℕ
whole_end groups = option_map (λ ends. ends.1) (unwrap_or (slice_get groups 0) None)

-- where the preferred match of a core from a place ends
abbrev pub preferred_end : Core → ℕ → List ℕ → ℕ → Option ℕ
preferred_end core groups text at = option_and_then whole_end (preferred core groups text at)

-- a byte that isn't taken is in no match
abbrev pub WhatIsNotTakenIsInNoMatch : Type 0
WhatIsNotTakenIsInNoMatch = (b : ℕ) (tree : Tree) (groups : ℕ) → (Takes b tree → ⊥) → IsInNoMatch (preferred_end (core_of_tree tree) groups) b
