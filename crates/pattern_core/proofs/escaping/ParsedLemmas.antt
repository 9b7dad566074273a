-- What an escaped text is parsed as.
use Rattle.std.proofs.Common.{◌≡◌, ℕ, ◌*◌, ◌<◌, ◌≤◌, ◌^◌, Bool, true, false, cond, min, List, [], ◌∷◌, ◌++◌, length, Some, refl, sym, ap, ap₂, ◌∙◌, subst, length-append, arith, lit<}
use Rattle.std.proofs.Math.Utf8.{encode, encodes}
use Rattle.std.proofs.lemmas.Str.{chars_from_encodes, encodes-chars, len_utf8_ascii, len_utf8_bounds, length-encode}
use Rattle.std.specs.Str.{chars}
use Rattle.hir_tree.specs.Tree.{Tree, Trees, empty, literal, class_chars, class_bytes, look, repetition, capture, concat, alternation, none, more, tree_of}
use Rattle.hir_tree.specs.PlainText as plain
use Rattle.pattern_syntax.specs.declared.flags.Flags.{Flags}
use Rattle.pattern_syntax.specs.SetTree.{with_sets, all_with_sets}
use Rattle.pattern_syntax.specs.Reads.{Found, Reads}
use Rattle.pattern_core.specs.Answers.{flags_of, HasOneTwice, IsDoubleName, IsGrammar, IsNest}
use Rattle.pattern_core.specs.Escape.{encoded, escaped_char, escaped_text, is_meta, joined_all, text_of, texts_of, IsEscaped, EscapedIsReadAsItself, EscapedIsParsedAsItself, EscapedIsNotRefused}
use Rattle.pattern_core.specs.declared.flags.PatternFlags.{PatternFlags}

mutual
  -- a tree has the same text with its sets
  same_text : (tree : Tree) → text_of (with_sets tree) ≡ plain.text_of_tree tree
  same_text empty = refl
  same_text (literal text) = refl
  same_text (class_chars ranges) = refl
  same_text (class_bytes ranges) = refl
  same_text (look kind) = refl
  same_text (repetition least most greedy part) = refl
  same_text (capture index name part) = refl
  same_text (concat parts) = ap joined_all (same_texts parts)
  same_text (alternation parts) = refl

  same_texts : (parts : Trees) → texts_of (all_with_sets parts) ≡ plain.texts_of_trees parts
  same_texts none = refl
  same_texts (more part rest) = ap₂ (λ x xs. x ∷ xs) (same_text part) (same_texts rest)

encoded_is : (cs : List ℕ) → encodes cs ≡ encoded cs
encoded_is [] = refl
encoded_is (c ∷ cs) = ap (λ bytes. encode c ++ bytes) (encoded_is cs)

-- a character has a byte
encode_some : (c : ℕ) → 1 ≤ length (encode c)
encode_some c = subst (λ n. 1 ≤ n) (sym (length-encode c)) (len_utf8_bounds c).0

-- an escaped character has at most one byte more than the character
longer_by_one : (c : ℕ) (cs rest : List ℕ) → length (encoded rest) ≤ 2 * length cs → length (encoded (escaped_char c ++ rest)) ≤ 2 * length (encode c ++ cs)
longer_by_one c cs rest h = by (is_meta c)
  where
    by : (b : Bool) → length (encoded (cond b (92 ∷ c ∷ []) (c ∷ []) ++ rest)) ≤ 2 * length (encode c ++ cs)
    by true =
        let some : 1 ≤ length (encode c) = encode_some c in
        let one = length-append (encode 92) (encode c ++ encoded rest) in
        let two = length-append (encode c) (encoded rest) in
        let three = length-append (encode c) cs in
        let slash : length (encode 92) ≡ 1 = length-encode 92 ∙ len_utf8_ascii 92 (lit< tt) in
        omega arith
    by false =
        let two = length-append (encode c) (encoded rest) in
        let three = length-append (encode c) cs in
        omega arith

-- an escaped text is no longer than twice the text
twice_as_long : (cs : List ℕ) → length (encoded (escaped_text cs)) ≤ 2 * length (encodes cs)
twice_as_long [] = omega arith
twice_as_long (c ∷ cs) = longer_by_one c (encodes cs) (escaped_text cs) (twice_as_long cs)

-- a limit that lets one level nest, as it counts
one_level : (limit : ℕ) → 1 ≤ limit → 1 ≤ min limit 1000
one_level limit h = grind (arith, h)

module _ (one_reading : (k : Flags) (text : List ℕ) (a b : Found) → Reads k text a → Reads k text b → a ≡ b) (itself : EscapedIsReadAsItself) where
  module _ (flags : PatternFlags) (text pattern : List ℕ) (is : IsEscaped flags text pattern) where
    other : Found
    other = (itself (flags_of flags) (chars text) is.counts is.apart).0

    -- what is read of a pattern that spells an escaped text
    read_so : Reads (flags_of flags) (chars pattern) other
    unfolding other
    read_so =
        let cs = chars text in
        let characters : escaped_text cs ≡ chars pattern =
        chars_from_encodes (escaped_text cs) pattern is.pattern_is (encoded_is (escaped_text cs) ∙ sym is.spells) in
        subst (λ t. Reads (flags_of flags) t other) characters (itself (flags_of flags) cs is.counts is.apart).1.0

    same_found : (found : Found) → Reads (flags_of flags) (chars pattern) found → found ≡ other
    same_found found reads = one_reading (flags_of flags) (chars pattern) found other reads read_so

    is_short : length text < 2 ^ 31 → length pattern < 2 ^ 32
    is_short short =
        let twice = twice_as_long (chars text) in
        let one = ap (λ (bytes : List ℕ). length bytes) (encodes-chars text is.text_is) in
        let two = ap (λ (bytes : List ℕ). length bytes) is.spells in
        omega arith

    pub not_refused : (length text < 2 ^ 31 → IsGrammar flags pattern → ⊥) × (1 ≤ flags.nest_limit → IsNest flags pattern → ⊥) × (IsDoubleName flags pattern → ⊥)
    unfolding other
    not_refused = (
      λ short nothing. nothing other (is_short short, read_so),
      λ once (found, (read, deep)).
          let flat = (itself (flags_of flags) (chars text) is.counts is.apart).1.2 in
          let depth = ap (λ (found : Found). found.part.depth) (same_found found read.1) in
          let most = one_level flags.nest_limit once in
          absurd (omega arith),
      λ (found, (read, nests, double)).
          let none = (itself (flags_of flags) (chars text) is.counts is.apart).1.3 in
          let names = ap (λ (found : Found). found.names) (same_found found read.1) in
          subst HasOneTwice (names ∙ none) double,
    )

  pub parsed_as_itself : EscapedIsParsedAsItself
  unfolding other
  parsed_as_itself flags text pattern parsed is read =
      let cs = chars text in
      sym (same_text (tree_of parsed.hir))
      ∙ ap text_of read.tree
      ∙ ap (λ (found : Found). text_of found.part.tree) (same_found flags text pattern is read.found read.read.1)
      ∙ (itself (flags_of flags) cs is.counts is.apart).1.1
      ∙ ap Some (sym (encoded_is cs) ∙ encodes-chars text is.text_is)

  pub escaped_not_refused : EscapedIsNotRefused
  escaped_not_refused = not_refused
