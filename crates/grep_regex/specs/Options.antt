-- The pattern that the options of a matcher ask for.
use Rattle.std.specs.Prelude.{◌≡◌, ℕ, ◌+◌, ◌<◌, ◌∷◌, ◌++◌, true, false, List, [], All, Contains, Option, Some, None, if◌then◌else◌}
use Rattle.std.specs.Option.{option_map_or}
use Rattle.std.specs.Str.{bytes_eq}
use Rattle.grep_matcher.specs.NoMatch.{IsInNoMatch}
use Rattle.grep_matcher.specs.Terminators.{terminator_bytes}
use Rattle.grep_matcher.specs.declared.line_terminator.LineTerminator.{LineTerminator}
use Rattle.grep_matcher.specs.declared.line_terminator.Ending.TheVariants.{Byte, Crlf}
use Rattle.hir_tree.specs.Cores.{core_of_tree}
use Rattle.hir_tree.specs.Spots.{groups_of_tree, spots_of_tree}
use Rattle.hir_tree.specs.Tree.{Tree, Trees, empty, literal, class_chars, class_bytes, look, repetition, capture, concat, alternation, none, more, trees}
use Rattle.hir_tree.specs.declared.look.Look.{Look}
use Rattle.hir_tree.specs.declared.look.Look.TheVariants.{StartLF, EndLF, StartCRLF, EndCRLF, WordAscii, WordUnicode, WordStartHalfAscii, WordStartHalfUnicode, WordEndHalfAscii, WordEndHalfUnicode}
use Rattle.grep_regex.specs.NonMatching.{has_look, is_text_anchor, preferred_end}
use Rattle.grep_regex.specs.Stripping.{not_allowed, stripped}
use Rattle.grep_regex.specs.declared.options.Options.{Options}

-- ---- the options that matchers begin with

-- the terminator of one byte, and `\r\n`
abbrev pub byte_terminator : ℕ → LineTerminator
byte_terminator byte = record { 0 = Byte byte }

abbrev pub crlf_terminator : LineTerminator
crlf_terminator = record { 0 = Crlf }

-- Unicode is on, the limits are those of the field, and all else is off.
abbrev pub default_options : Options
default_options = record {
  case_insensitive = false;
  case_smart = false;
  multi_line = false;
  dot_matches_new_line = false;
  swap_greed = false;
  ignore_whitespace = false;
  unicode = true;
  octal = false;
  size_limit = 104857600;
  dfa_size_limit = 1048576000;
  nest_limit = 250;
  line_terminator = None;
  ban_byte = None;
  crlf = false;
  word = false;
  word_edges = false;
  fixed_strings = false;
  whole_line = false;
}

-- the same for lines that end with `\n`
abbrev pub line_options : Options
line_options = record default_options { line_terminator = Some (byte_terminator 10) }

-- ---- patterns together

abbrev mutual
  -- a tree with the numbers of its groups moved on
  pub numbered_from : ℕ → Tree → Tree
  numbered_from n empty = empty
  numbered_from n (literal bytes) = literal bytes
  numbered_from n (class_chars ranges) = class_chars ranges
  numbered_from n (class_bytes ranges) = class_bytes ranges
  numbered_from n (look kind) = look kind
  numbered_from n (repetition least most greedy part) = repetition least most greedy (numbered_from n part)
  numbered_from n (capture index name part) = capture (n + index) name (numbered_from n part)
  numbered_from n (concat parts) = concat (each_numbered_from n parts)
  numbered_from n (alternation parts) = alternation (each_numbered_from n parts)

  -- each of the trees
  pub each_numbered_from : ℕ → Trees → Trees
  each_numbered_from n none = none
  each_numbered_from n (more part rest) = more (numbered_from n part) (each_numbered_from n rest)

-- patterns one after another, where each numbers its groups on from those before it
abbrev pub numbered_on : ℕ → List Tree → List Tree
numbered_on n [] = []
numbered_on n (pattern ∷ rest) = numbered_from n pattern ∷ numbered_on (n + groups_of_tree pattern) rest

-- one pattern stands by itself; none match nothing
abbrev pub one_of : List Tree → Tree
one_of [] = alternation none
one_of (pattern ∷ []) = pattern
one_of (first ∷ second ∷ rest) = alternation (trees (first ∷ second ∷ rest))

-- all patterns as one
abbrev pub together : List Tree → Tree
together patterns = one_of (numbered_on 0 patterns)

-- ---- what options put round the whole

-- a tree between two looks
abbrev pub between : Look → Look → Tree → Tree
between first last tree = concat (trees (look first ∷ tree ∷ look last ∷ []))

-- the looks of a line's start and end, of half word edges, and of a word edge
abbrev pub line_start : Options → Look
line_start o = if o.crlf then StartCRLF else StartLF

abbrev pub line_end : Options → Look
line_end o = if o.crlf then EndCRLF else EndLF

abbrev pub word_start_half : Options → Look
word_start_half o = if o.unicode then WordStartHalfUnicode else WordStartHalfAscii

abbrev pub word_end_half : Options → Look
word_end_half o = if o.unicode then WordEndHalfUnicode else WordEndHalfAscii

abbrev pub word_edge : Options → Look
word_edge o = if o.unicode then WordUnicode else WordAscii

-- Round the whole stand line anchors, else half word edges, else word edges.
abbrev pub edged : Options → Tree → Tree
edged o tree =
    if o.whole_line then between (line_start o) (line_end o) tree
    else (if o.word then between (word_start_half o) (word_end_half o) tree
    else (if o.word_edges then between (word_edge o) (word_edge o) tree else tree))

-- ---- the pattern of a matcher

-- the bytes of the terminator, none where lines have none
abbrev pub terminator : Options → List ℕ
terminator o = option_map_or terminator_bytes o.line_terminator []

-- THE PATTERN of a matcher with these options, where its patterns are read so
abbrev pub optioned : Options → List Tree → Tree
optioned o patterns = edged o (stripped (terminator o) (together patterns))

-- the terminator that the matcher tells of: none where a start or an end of the text is asked for
abbrev pub terminator_told : Options → Tree → Option LineTerminator
terminator_told o tree = if has_look is_text_anchor tree then None else o.line_terminator

-- ---- names

-- a name with the number of its group
abbrev pub Named : Type 0
Named = List ℕ × ℕ

abbrev mutual
  -- the names in a tree, from left to right
  pub names_in : Tree → List Named
  names_in empty = []
  names_in (literal bytes) = []
  names_in (class_chars ranges) = []
  names_in (class_bytes ranges) = []
  names_in (look kind) = []
  names_in (repetition least most greedy part) = names_in part
  names_in (capture index None part) = names_in part
  names_in (capture index (Some name) part) = (name, index) ∷ names_in part
  names_in (concat parts) = names_in_each parts
  names_in (alternation parts) = names_in_each parts

  -- the names in each of the trees
  pub names_in_each : Trees → List Named
  names_in_each none = []
  names_in_each (more part rest) = names_in part ++ names_in_each rest

-- the number of a name's group
abbrev pub number_of : List Named → List ℕ → Option ℕ
number_of [] name = None
number_of (first ∷ rest) name = if bytes_eq first.0 name then Some first.1 else number_of rest name

-- ---- laws

-- No match of a matcher with a terminator holds one of its bytes.
abbrev pub NoMatchHoldsATerminator : Type 0
NoMatchHoldsATerminator = (o : Options) (patterns : List Tree) → All (λ b. b < 128) (terminator o) → not_allowed (terminator o) (together patterns) ≡ None
    → (groups b : ℕ) → Contains (terminator o) b → IsInNoMatch (preferred_end (core_of_tree (optioned o patterns)) groups) b

-- Taking bytes out of classes changes neither how many spots nor how many groups a pattern has.
abbrev pub StrippingKeepsSpotsAndGroups : Type 0
StrippingKeepsSpotsAndGroups = (bytes : List ℕ) (tree : Tree) → (spots_of_tree (stripped bytes tree) ≡ spots_of_tree tree) × (groups_of_tree (stripped bytes tree) ≡ groups_of_tree tree)
