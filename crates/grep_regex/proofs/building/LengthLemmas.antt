-- A pattern with 2^32 bytes or more is read as nothing.
use Rattle.std.proofs.Common.{ℕ, ◌<◌, ◌≤◌, ◌^◌, Bool, true, false, cond, List, [], ◌∷◌, ◌++◌, length, refl, subst, arith, length-append}
use Rattle.std.proofs.lemmas.Str.{encodes-chars}
use Rattle.std.proofs.Math.Utf8.{encode, encodes}
use Rattle.std.specs.Str.{IsUtf8, chars}
use Rattle.pattern_core.specs.Escape.{encoded, escaped_char, escaped_text, is_meta}
use Rattle.grep_regex.specs.Building.{IsAscii, IsRefused, IsTerminatorRefused}
use Rattle.grep_regex.specs.Options.{terminator}
use Rattle.grep_regex.specs.Readings.{written}
use Rattle.grep_regex.specs.declared.error.ErrorKind.{ErrorKind}
use Rattle.grep_regex.specs.declared.error.ErrorKind.TheVariants as kind
use Rattle.grep_regex.specs.declared.error.RegexFault.TheVariants as fault
use Rattle.grep_regex.specs.declared.options.Options.{Options}

longer : (c : ℕ) (cs rest : List ℕ) → length cs ≤ length (encoded rest) → length (encode c ++ cs) ≤ length (encoded (escaped_char c ++ rest))
longer c cs rest h = by (is_meta c)
  where
    by : (b : Bool) → length (encode c ++ cs) ≤ length (encoded (cond b (92 ∷ c ∷ []) (c ∷ []) ++ rest))
    by true =
        let one = length-append (encode 92) (encode c ++ encoded rest) in
        let two = length-append (encode c) (encoded rest) in
        let three = length-append (encode c) cs in
        omega arith
    by false =
        let two = length-append (encode c) (encoded rest) in
        let three = length-append (encode c) cs in
        omega arith

-- an escaped text isn't shorter
no_shorter : (cs : List ℕ) → length (encodes cs) ≤ length (encoded (escaped_text cs))
no_shorter [] = omega arith
no_shorter (c ∷ cs) = longer c (encodes cs) (escaped_text cs) (no_shorter cs)

written_long : (o : Options) (text : List ℕ) → IsUtf8 text → length text ≤ length (written o text)
written_long o text utf8 =
    by o.fixed_strings (subst (λ (bytes : List ℕ). length bytes ≤ length (encoded (escaped_text (chars text)))) (encodes-chars text utf8) (no_shorter (chars text)))
  where
    by : (b : Bool) → length text ≤ length (encoded (escaped_text (chars text))) → length text ≤ length (cond b (encoded (escaped_text (chars text))) text)
    by true h = h
    by false h = omega arith

-- it is refused for the grammar
pub too_long : (o : Options) (text : List ℕ) → IsUtf8 text → IsAscii (terminator o) → 2 ^ 32 ≤ length text → IsRefused o (text ∷ []) (kind.Regex fault.Grammar)
too_long o text utf8 ascii long = (
  ascii,
  record {
    before = [];
    text = text;
    behind = [];
    all = refl;
    readings = [];
    read = tt;
    kind = λ found read. unfit read.0;
  },
)
  where
    unfit : length (written o text) < 2 ^ 32 → ⊥
    unfit short = let whole = written_long o text utf8 in omega arith

-- a terminator that isn't ASCII is told before any pattern
pub refused_terminator : (o : Options) (patterns : List (List ℕ)) (k : ErrorKind) → IsTerminatorRefused (terminator o) k → IsRefused o patterns k
refused_terminator o patterns (kind.InvalidLineTerminator byte) refused = refused
refused_terminator o patterns (kind.Regex f) refused = absurd refused
refused_terminator o patterns (kind.NotAllowed byte) refused = absurd refused
refused_terminator o patterns (kind.Banned byte) refused = absurd refused
refused_terminator o patterns kind.NoMemory refused = absurd refused
