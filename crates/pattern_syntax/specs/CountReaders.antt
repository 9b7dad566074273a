-- What the readers of a repetition's parts answer.
use Rattle.std.specs.Char.{is_ascii_digit}
use Rattle.std.specs.Prelude.{◌≡◌, ◌≤◌, ℕ, Bool, true, false, List, ◌++◌, drop, length, if◌then◌else◌, Option, Some, None}
use Rattle.unicode.specs.Binary.{is_white_space}
use Rattle.pattern_syntax.specs.declared.repetitions.Counted.{Counted}
use Rattle.pattern_syntax.specs.Flags.{seen_if, begins, rest}
use Rattle.pattern_syntax.specs.Runs.{comes}
use Rattle.pattern_syntax.specs.Syntax.{Number, Count, write_number, write_count, fine_number, fine_count, value, is_braced}
use Rattle.pattern_syntax.specs.SetTree.{SetTree, repetition}
use Rattle.pattern_syntax.specs.Reads.{count_tree}
use Rattle.pattern_syntax.specs.Readers.{GoesOnTo}

-- a number with all its digits and all white space behind it
pub record WholeNumber (n : Number) (t : List ℕ) : Type 0 where
  pub fine : fine_number n ≡ true
  pub digits_end : comes is_ascii_digit (n.behind ++ t) ≡ false
  pub white_ends : comes is_white_space t ≡ false

pub record NumberAt (text : List ℕ) (at : ℕ) (read : ℕ) (next : ℕ) : Type 0 where
  pub number : Number
  pub goes_on : GoesOnTo text at next
  pub written : drop at text ≡ write_number number (drop next text)
  pub whole : WholeNumber number (drop next text)
  pub value_is : read ≡ value number

abbrev pub IsNumberRead : List ℕ → ℕ → Option (ℕ × ℕ) → Type 0
IsNumberRead text at (Some read) = NumberAt text at read.0 read.1
IsNumberRead text at None = (n : Number) (t : List ℕ) → drop at text ≡ write_number n t → WholeNumber n t → ⊥

pub record CountAt (text : List ℕ) (at : ℕ) (read : Counted) : Type 0 where
  pub count : Count
  pub goes_on : GoesOnTo text at read.next
  pub written : drop at text ≡ write_count count (drop read.next text)
  pub fine : fine_count count ≡ true
  pub counts : (greedy : Bool) (part : SetTree) → count_tree count greedy part ≡ repetition read.min read.max greedy part
  pub braced : read.braced ≡ is_braced count

abbrev pub IsCountRead : List ℕ → ℕ → Option Counted → Type 0
IsCountRead text at (Some read) = CountAt text at read
IsCountRead text at None = (n : Count) (t : List ℕ) → drop at text ≡ write_count n t → fine_count n ≡ true → ⊥

-- whether a `?` comes next, and what is left behind it, or here
pub record IsSwapRead (spaces : Bool) (text : List ℕ) (at : ℕ) (read : Bool × ℕ) : Type 0 where
  pub swaps : read.0 ≡ begins 63 (seen_if spaces (drop at text))
  pub left : drop read.1 text ≡ (if read.0 then rest (seen_if spaces (drop at text)) else drop at text)
  pub within : read.1 ≤ length text
