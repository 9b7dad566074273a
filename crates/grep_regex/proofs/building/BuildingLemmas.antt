-- When a matcher is refused, by what each test refuses, and what a built one finds.
use Rattle.std.proofs.Common.{◌≡◌, ℕ, ◌<◌, ◌≤◌, Bool, true, false, List, [], ◌∷◌, All, Option, None, Some, get_or, sym, ap, subst, ◌∙◌, arith, rules}
use Rattle.std.proofs.lemmas.List.Elements.{All-contains_itself}
use Rattle.std.specs.Prelude.{Contains, IfSome, if◌then◌else◌}
use Rattle.std.specs.Option.{option_map_or}
use Rattle.grep_matcher.specs.NoMatch.{IsInNoMatch}
use Rattle.grep_matcher.specs.Terminators.{bytes_of_ending, terminator_byte, terminator_bytes}
use Rattle.grep_matcher.specs.declared.line_terminator.Ending.{Ending}
use Rattle.grep_matcher.specs.declared.line_terminator.Ending.TheVariants.{Byte, Crlf}
use Rattle.grep_matcher.specs.declared.line_terminator.LineTerminator.{LineTerminator}
use Rattle.hir_tree.specs.Cores.{core_of_tree}
use Rattle.hir_tree.specs.Runs.{runs}
use Rattle.hir_tree.specs.Spots.{groups_of_tree}
use Rattle.hir_tree.specs.Tree.{Tree}
use Rattle.grep_regex.specs.Building.{HasTheClearRuns, IsBanRefused, IsBare, IsBeyondAscii, IsBuilt, IsRefused, IsSizeRefused, IsStripRefused, IsUnbanned, MatchesAreClear, Passes, size_of}
use Rattle.grep_regex.specs.Matching.{EndsNoMatch, end_at}
use Rattle.grep_regex.specs.NonMatching.{has_look, is_text_anchor}
use Rattle.grep_regex.specs.Options.{optioned, terminator, terminator_told, together}
use Rattle.grep_regex.specs.Stripping.{asks_for, not_allowed, stripped}
use Rattle.grep_regex.specs.declared.error.ErrorKind.{ErrorKind}
use Rattle.grep_regex.specs.declared.error.ErrorKind.TheVariants as kind
use Rattle.grep_regex.specs.declared.error.RegexFault.TheVariants as fault
use Rattle.grep_regex.specs.declared.options.Options.{Options}
use Rattle.grep_regex.proofs.laws.OptionsLemmas.{no-terminator}
use Rattle.grep_regex.proofs.laws.TreeLemmas.{stripping-filters}

-- the last byte of a terminator tells whether it is ASCII
beyond_ending : (ending : Ending) (byte : ℕ) → byte ≡ terminator_byte (record { 0 = ending }) → 128 ≤ byte
    → IsBeyondAscii (bytes_of_ending ending) byte
beyond_ending (Byte b) byte is beyond =
    record { before = []; behind = []; all = ap (λ n. n ∷ []) (sym is); ascii = search rules; beyond = beyond }
beyond_ending Crlf byte is beyond = absurd (omega arith)

pub beyond_terminator : (terminator : LineTerminator) (byte : ℕ) → byte ≡ terminator_byte terminator → 128 ≤ byte
    → IsBeyondAscii (terminator_bytes terminator) byte
beyond_terminator terminator byte is beyond = beyond_ending terminator.0 byte is beyond

-- a banned byte that the patterns together ask for
pub refused_ban : (o : Options) (patterns : List (List ℕ)) (trees : List Tree) (tree : Tree) (k : ErrorKind) → Passes o patterns trees
    → tree ≡ together trees → IsBanRefused o tree k → IsRefused o patterns k
refused_ban o patterns trees tree (kind.Banned byte) passes is banned =
    record { trees = trees; passes = passes; ban = banned.0; asked = ap (asks_for byte) (sym is) ∙ banned.1 }
refused_ban o patterns trees tree (kind.Regex f) passes is banned = absurd banned
refused_ban o patterns trees tree (kind.NotAllowed byte) passes is banned = absurd banned
refused_ban o patterns trees tree (kind.InvalidLineTerminator byte) passes is banned = absurd banned
refused_ban o patterns trees tree kind.NoMemory passes is banned = absurd banned

-- a byte of the terminator that the patterns together ask for
pub refused_strip : (o : Options) (patterns : List (List ℕ)) (trees : List Tree) (tree : Tree) (k : ErrorKind) → Passes o patterns trees
    → tree ≡ together trees → IsUnbanned o tree → IsStripRefused (terminator o) tree k → IsRefused o patterns k
refused_strip o patterns trees tree (kind.NotAllowed byte) passes is unbanned refused =
    record {
      trees = trees;
      passes = passes;
      unbanned = subst (IsUnbanned o) is unbanned;
      refused = ap (not_allowed (terminator o)) (sym is) ∙ refused.1;
    }
refused_strip o patterns trees tree (kind.InvalidLineTerminator byte) passes is unbanned refused = refused
refused_strip o patterns trees tree kind.NoMemory passes is unbanned refused = tt
refused_strip o patterns trees tree (kind.Regex f) passes is unbanned refused = absurd refused
refused_strip o patterns trees tree (kind.Banned byte) passes is unbanned refused = absurd refused

-- a pattern that is too large
pub refused_size : (o : Options) (patterns : List (List ℕ)) (trees : List Tree) (tree whole : Tree) (k : ErrorKind)
    → Passes o patterns trees → tree ≡ together trees → IsUnbanned o tree → not_allowed (terminator o) tree ≡ None → whole ≡ optioned o trees
    → IsSizeRefused o whole k → IsRefused o patterns k
refused_size o patterns trees tree whole (kind.Regex (fault.Size limit)) passes is unbanned allowed asked refused =
    record {
      trees = trees;
      passes = passes;
      unbanned = subst (IsUnbanned o) is unbanned;
      allowed = ap (not_allowed (terminator o)) (sym is) ∙ allowed;
      limit_is = refused.0;
      large = subst (λ t. limit < size_of t) asked refused.1;
    }
refused_size o patterns trees tree whole (kind.Regex fault.Grammar) passes is unbanned allowed asked refused = absurd refused
refused_size o patterns trees tree whole (kind.Regex fault.Nest) passes is unbanned allowed asked refused = absurd refused
refused_size o patterns trees tree whole (kind.Regex fault.DoubleName) passes is unbanned allowed asked refused = absurd refused
refused_size o patterns trees tree whole (kind.NotAllowed byte) passes is unbanned allowed asked refused = absurd refused
refused_size o patterns trees tree whole (kind.InvalidLineTerminator byte) passes is unbanned allowed asked refused = absurd refused
refused_size o patterns trees tree whole (kind.Banned byte) passes is unbanned allowed asked refused = absurd refused
refused_size o patterns trees tree whole kind.NoMemory passes is unbanned allowed asked refused = absurd refused

-- no match of a pattern that is built holds a byte of the terminator
pub clear_built : (o : Options) (patterns : List (List ℕ)) (tree : Tree) → IsBuilt o patterns tree → MatchesAreClear o tree
clear_built o patterns tree built =
    subst (MatchesAreClear o) (sym built.is) (record { held_by_none = no-terminator o built.trees built.passes.ascii built.allowed })

-- where nothing stands round it, its runs are the clear ones of the patterns together
pub runs_built : (o : Options) (patterns : List (List ℕ)) (tree : Tree) → IsBuilt o patterns tree → IsBare o
    → HasTheClearRuns o patterns tree
runs_built o patterns tree built bare =
    let together = together built.trees in
    let is : tree ≡ stripped (terminator o) together = built.is ∙ bare (stripped (terminator o) together) in
    record {
      trees = built.trees;
      are = built.passes.are;
      runs_are = λ text n r within.
          ap (λ t. runs text (core_of_tree t) n r) is
          ∙ stripping-filters (terminator o) together built.passes.ascii built.allowed text n r within;
    }

-- nor does one hold a byte of the terminator that is told
ends : (text_anchor : Bool) (set : Option LineTerminator) (P : ℕ → Type 0)
    → ((b : ℕ) → Contains (option_map_or terminator_bytes set []) b → P b)
    → IfSome (if text_anchor then None else set) (λ told. All P (terminator_bytes told))
ends true set P each = tt
ends false None P each = tt
ends false (Some told) P each =
    λ k d within. each (get_or (terminator_bytes told) k d) (All-contains_itself (terminator_bytes told) k d within)

pub ends_built : (o : Options) (patterns : List (List ℕ)) (tree : Tree) → IsBuilt o patterns tree
    → EndsNoMatch tree (terminator_told o tree)
ends_built o patterns tree built =
    ends (has_look is_text_anchor tree) o.line_terminator (IsInNoMatch (end_at tree))
    ((clear_built o patterns tree built).held_by_none (groups_of_tree tree))
