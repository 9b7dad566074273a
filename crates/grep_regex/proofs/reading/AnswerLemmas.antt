-- What one pattern is refused for, and how great the numbers of its groups are.
use Rattle.std.proofs.Common.{◌≡◌, ◌≤◌, ℕ, Bool, List, [], ◌∷◌, ◌++◌, length, if◌then◌else◌, IfOk, IfErr, IsErrOf, Result, Ok, Err, refl, sym, ap, ◌∙◌, arith}
use Rattle.std.specs.Str.{chars, IsUtf8}
use Rattle.std.proofs.Math.Utf8.{encode, encodes}
use Rattle.std.proofs.lemmas.Str.{chars_from_encodes}
use Rattle.hir_tree.specs.Spots.{groups_of}
use Rattle.hir_tree.specs.Tree.{tree_of}
use Rattle.pattern_core.specs.Answers.{IsDoubleName, IsGrammar, IsNest, IsPattern, flags_of}
use Rattle.pattern_core.specs.Escape.{encoded, escaped_text}
use Rattle.pattern_core.specs.declared.fault.PatternFault.{PatternFault}
use Rattle.pattern_core.specs.declared.fault.PatternFault.TheVariants as pattern
use Rattle.pattern_core.specs.declared.flags.PatternFlags.{PatternFlags}
use Rattle.pattern_core.specs.declared.parsed.Parsed.{Parsed}
use Rattle.grep_regex.specs.Readings.{written}
use Rattle.grep_regex.specs.ReadSoFar.{IsPatternRefused}
use Rattle.grep_regex.specs.declared.options.Options.{Options}
use Rattle.grep_regex.proofs.reading.GroupLemmas.{read_numbers}
use Rattle.grep_regex.proofs.reading.ParenLemmas.{parens, read_parens, escaped_parens, text_parens}

-- why a pattern is refused, from why each error comes
pub refused_of : (flags : PatternFlags) (bytes : List ℕ) (result : Result Parsed PatternFault) → (IsErrOf result pattern.Grammar → IsGrammar flags bytes)
    → (IsErrOf result pattern.Nest → IsNest flags bytes) → (IsErrOf result pattern.DoubleName → IsDoubleName flags bytes) → IfErr result (IsPatternRefused flags bytes)
refused_of flags bytes (Ok parsed) grammar nest double = tt
refused_of flags bytes (Err pattern.Grammar) grammar nest double = grammar refl
refused_of flags bytes (Err pattern.Nest) grammar nest double = nest refl
refused_of flags bytes (Err pattern.DoubleName) grammar nest double = double refl
refused_of flags bytes (Err pattern.NoMemory) grammar nest double = tt

numbers_of : (flags : PatternFlags) (bytes : List ℕ) (parsed : Parsed) → IsPattern flags bytes parsed → groups_of parsed.hir ≤ parens (chars bytes)
numbers_of flags bytes parsed is =
    let most = read_numbers (flags_of flags) (chars bytes) is.found is.read.1 (tree_of parsed.hir) is.tree in
    let groups = read_parens (flags_of flags) (chars bytes) is.found is.read.1 in
    omega arith

-- a text has no more groups than bytes
pub plain_numbers : (flags : PatternFlags) (text : List ℕ) (parsed : Parsed) → IsUtf8 text → IsPattern flags text parsed → groups_of parsed.hir ≤ length text
plain_numbers flags text parsed utf8 is =
    let most = numbers_of flags text parsed is in
    let fewer = text_parens text utf8 in
    omega arith

encoded_is : (cs : List ℕ) → encodes cs ≡ encoded cs
encoded_is [] = refl
encoded_is (c ∷ cs) = ap (λ bytes. encode c ++ bytes) (encoded_is cs)

-- an escaped text has no more groups than the text has bytes
pub escaped_numbers : (flags : PatternFlags) (text bytes : List ℕ) (parsed : Parsed) → IsUtf8 text → IsUtf8 bytes → bytes ≡ encoded (escaped_text (chars text))
    → IsPattern flags bytes parsed → groups_of parsed.hir ≤ length text
escaped_numbers flags text bytes parsed utf8 spelt is pattern =
    let most = numbers_of flags bytes parsed pattern in
    let characters : escaped_text (chars text) ≡ chars bytes = chars_from_encodes (escaped_text (chars text)) bytes spelt (encoded_is (escaped_text (chars text)) ∙ sym is) in
    let same : parens (chars bytes) ≡ parens (chars text) = sym (ap parens characters) ∙ escaped_parens (chars text) in
    let fewer = text_parens text utf8 in
    omega arith

pub plain_fit : (flags : PatternFlags) (text : List ℕ) (result : Result Parsed PatternFault) → IsUtf8 text → IfOk result (IsPattern flags text)
    → IfOk result (λ parsed. groups_of parsed.hir ≤ length text)
plain_fit flags text (Ok parsed) utf8 is = plain_numbers flags text parsed utf8 is
plain_fit flags text (Err fault) utf8 is = tt

pub escaped_fit : (flags : PatternFlags) (text bytes : List ℕ) (result : Result Parsed PatternFault) → IsUtf8 text → IsUtf8 bytes → bytes ≡ encoded (escaped_text (chars text))
    → IfOk result (IsPattern flags bytes) → IfOk result (λ parsed. groups_of parsed.hir ≤ length text)
escaped_fit flags text bytes (Ok parsed) utf8 spelt is pattern = escaped_numbers flags text bytes parsed utf8 spelt is pattern
escaped_fit flags text bytes (Err fault) utf8 spelt is pattern = tt

-- what is read as a pattern, by whether texts are plain
pub written_by : (o : Options) (text : List ℕ) (b : Bool) → o.fixed_strings ≡ b → written o text ≡ (if b then encoded (escaped_text (chars text)) else text)
written_by o text b is = ap (λ b. if b then encoded (escaped_text (chars text)) else text) is
