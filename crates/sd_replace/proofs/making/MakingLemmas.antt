-- Which replacer is asked for, and why none is made.
use Rattle.std.proofs.Common.{◌≡◌, ℕ, ◌<◌, ◌≤◌, Bool, true, false, List, [], ◌∷◌, ◌++◌, Contains, Option, Some, None, IfSome, option_map, refl, sym, ap, ◌∙◌, subst, arith}
use Rattle.std.proofs.lemmas.List.Elements.{All-contains, Contains-append_right}
use Rattle.std.specs.Str.{chars}
use Rattle.hir_tree.specs.Tree.{Tree}
use Rattle.pattern_syntax.specs.Reads.{Found}
use Rattle.pattern_core.specs.Answers.{flags_of, most_depth}
use Rattle.grep_regex.specs.Building.{IsBuilt, IsRefused, size_of}
use Rattle.grep_regex.specs.Options.{optioned, terminator, together}
use Rattle.grep_regex.specs.Readings.{AreReadAs, IsReadAs, pattern_flags, written}
use Rattle.grep_regex.specs.Stripping.{asks_for, not_allowed}
use Rattle.grep_regex.specs.declared.error.ErrorKind.{ErrorKind}
use Rattle.grep_regex.specs.declared.error.ErrorKind.TheVariants as kind
use Rattle.grep_regex.specs.declared.error.RegexFault.TheVariants as regex_fault
use Rattle.grep_regex.specs.declared.options.Options.{Options}
use Rattle.sd_replace.specs.Ambiguous.{Bare, ambiguity, ambiguous_reference, place_of, told_of}
use Rattle.sd_replace.specs.Flags.{line_options_of}
use Rattle.sd_replace.specs.Making.{AnAskedReplacementIsReadable, IsUnreadable, OneReplacement, asked_options}
use Rattle.sd_replace.specs.declared.error.ReplacerFault.TheVariants as fault
use Rattle.sd_replace.proofs.making.TreeLemmas.{OneReading, OneListOfChars, OneListOfBytes, one_list_of_trees}

-- a text of which nothing is told has no ambiguous reference
pub none_told : (text : List ℕ) → ambiguity text ≡ None → ambiguous_reference text ≡ None
none_told text = none (ambiguous_reference text)
  where
    none : (found : Option Bare) → option_map (told_of text) (option_map place_of found) ≡ None → found ≡ None
    none None e = refl
    none (Some reference) e = absurd (cc)

-- ---- what is asked for

-- in line mode a line feed is the terminator
pub line_feed_ends : (o : Options) (is_literal : Bool) (letters : List ℕ) → o ≡ line_options_of is_literal letters → Contains (terminator o) 10
line_feed_ends o is_literal letters e = subst (λ (p : Options). Contains (terminator p) 10) (sym e) (0, omega arith, refl)

module _ (one_reading : OneReading) (of_chars : OneListOfChars) (of_bytes : OneListOfBytes) where
  one_pattern : (o : Options) (patterns : List (List ℕ)) (a b : Tree) → IsBuilt o patterns a → IsBuilt o patterns b → a ≡ b
  one_pattern o patterns a b p q =
      p.is ∙ ap (optioned o) (one_list_of_trees one_reading of_chars of_bytes o patterns p.trees q.trees p.passes.are q.passes.are) ∙ sym q.is

  pub one : OneReplacement
  one a x y p q =
      let pattern : x.pattern ≡ y.pattern = one_pattern (asked_options a) (a.find ∷ []) x.pattern y.pattern p.built q.built in
      let substitute : x.substitute ≡ y.substitute = p.substitute ∙ sym q.substitute in
      let limit : x.limit ≡ y.limit = p.limit ∙ sym q.limit in
      let counted : x.counted ≡ y.counted = p.counted ∙ sym q.counted in
      ap (λ t. record { pattern = t; substitute = x.substitute; limit = x.limit; counted = x.counted }) pattern
      ∙ ap (λ t. record { pattern = y.pattern; substitute = t; limit = x.limit; counted = x.counted }) substitute
      ∙ ap (λ t. record { pattern = y.pattern; substitute = y.substitute; limit = t; counted = x.counted }) limit
      ∙ ap (λ t. record { pattern = y.pattern; substitute = y.substitute; limit = y.limit; counted = t }) counted

  -- each of the patterns is read
  reading_of : (o : Options) (before : List (List ℕ)) (text : List ℕ) (behind : List (List ℕ)) (readings : List Found)
      → AreReadAs o false (before ++ text ∷ behind) readings → (found : Found) × IsReadAs o false text found
  reading_of o [] text behind [] are = absurd are
  reading_of o [] text behind (found ∷ readings) are = (found, are.0)
  reading_of o (first ∷ before) text behind [] are = absurd are
  reading_of o (first ∷ before) text behind (found ∷ readings) are = reading_of o before text behind readings are.1

  no_grammar : (o : Options) (patterns : List (List ℕ)) (tree : Tree) → IsBuilt o patterns tree → IsRefused o patterns (kind.Regex regex_fault.Grammar) → ⊥
  no_grammar o patterns tree built (ascii, first) =
      let one = reading_of o first.before first.text first.behind built.passes.are.plain (subst (λ ps. AreReadAs o false ps built.passes.are.plain) first.all built.passes.are.are_plain) in
      first.kind one.0 one.1.read

  no_nest : (o : Options) (patterns : List (List ℕ)) (tree : Tree) → IsBuilt o patterns tree → IsRefused o patterns (kind.Regex regex_fault.Nest) → ⊥
  no_nest o patterns tree built (ascii, first) =
      let one = reading_of o first.before first.text first.behind built.passes.are.plain (subst (λ ps. AreReadAs o false ps built.passes.are.plain) first.all built.passes.are.are_plain) in
      let deep = first.kind in
      let same : one.0 ≡ deep.0 = one_reading (flags_of (pattern_flags o false)) (chars (written o first.text)) one.0 deep.0 one.1.read.1 deep.1.0.1 in
      let nests : deep.0.part.depth ≤ most_depth (pattern_flags o false) = subst (λ (f : Found). f.part.depth ≤ most_depth (pattern_flags o false)) same one.1.nests in
      let deeper : most_depth (pattern_flags o false) < deep.0.part.depth = deep.1.1 in
      absurd (omega arith)

  no_ban : (o : Options) (patterns : List (List ℕ)) (tree : Tree) (byte : ℕ) → IsBuilt o patterns tree → IsRefused o patterns (kind.Banned byte) → ⊥
  no_ban o patterns tree byte built refused =
      let same = one_list_of_trees one_reading of_chars of_bytes o patterns built.trees refused.trees built.passes.are refused.passes.are in
      let free : asks_for byte (together built.trees) ≡ false = subst (λ b. IfSome b (λ x. asks_for x (together built.trees) ≡ false)) refused.ban built.unbanned in
      let asked : asks_for byte (together built.trees) ≡ true = ap (λ ts. asks_for byte (together ts)) same ∙ refused.asked in
      absurd (cc)

  no_loss : (o : Options) (patterns : List (List ℕ)) (tree : Tree) (byte : ℕ) → IsBuilt o patterns tree → IsRefused o patterns (kind.NotAllowed byte) → ⊥
  no_loss o patterns tree byte built refused =
      let same = one_list_of_trees one_reading of_chars of_bytes o patterns built.trees refused.trees built.passes.are refused.passes.are in
      let other : not_allowed (terminator o) (together built.trees) ≡ Some byte = ap (λ ts. not_allowed (terminator o) (together ts)) same ∙ refused.refused in
      let none = built.allowed in
      absurd (cc)

  no_size : (o : Options) (patterns : List (List ℕ)) (tree : Tree) (limit : ℕ) → IsBuilt o patterns tree → IsRefused o patterns (kind.Regex (regex_fault.Size limit)) → ⊥
  no_size o patterns tree limit built refused =
      let same = one_list_of_trees one_reading of_chars of_bytes o patterns built.trees refused.trees built.passes.are refused.passes.are in
      let size : size_of tree ≡ size_of (optioned o refused.trees) = ap size_of (built.is ∙ ap (optioned o) same) in
      let fits = built.fits in
      let large = refused.large in
      let limit_is = refused.limit_is in
      absurd (omega arith)

  no_edge : (o : Options) (patterns : List (List ℕ)) (tree : Tree) (byte : ℕ) → IsBuilt o patterns tree → IsRefused o patterns (kind.InvalidLineTerminator byte) → ⊥
  no_edge o patterns tree byte built refused =
      let there : Contains (terminator o) byte = subst (λ bytes. Contains bytes byte) (sym refused.all) (Contains-append_right refused.before (byte ∷ refused.behind) byte (0, omega arith, refl)) in
      let small : byte < 128 = All-contains (λ b. b < 128) (terminator o) byte built.passes.ascii there in
      let large = refused.beyond in
      absurd (omega arith)

  built_is_read : (o : Options) (find : List ℕ) (tree : Tree) (k : ErrorKind) → IsBuilt o (find ∷ []) tree → IsUnreadable o find k → ⊥
  built_is_read o find tree (kind.Regex regex_fault.Grammar) built h = no_grammar o (find ∷ []) tree built h
  built_is_read o find tree (kind.Regex regex_fault.Nest) built h = no_nest o (find ∷ []) tree built h
  built_is_read o find tree (kind.Regex regex_fault.DoubleName) built h = built.passes.single h.1
  built_is_read o find tree (kind.Regex (regex_fault.Size limit)) built h = no_size o (find ∷ []) tree limit built h
  built_is_read o find tree (kind.NotAllowed b) built h = no_loss o (find ∷ []) tree b built h
  built_is_read o find tree (kind.InvalidLineTerminator b) built h = no_edge o (find ∷ []) tree b built h
  built_is_read o find tree (kind.Banned b) built h = no_ban o (find ∷ []) tree b built h
  built_is_read o find tree kind.NoMemory built h = h

  pub readable : AnAskedReplacementIsReadable
  readable a replacement (fault.InvalidReplaceCapture told) asked h =
      let none : ambiguity a.replace_with ≡ None = ap (λ (found : Option Bare). option_map (told_of a.replace_with) (option_map place_of found)) (asked.unambiguous h.0) in
      let some : ambiguity a.replace_with ≡ Some told = h.1 in
      absurd (cc)
  readable a replacement (fault.Regex error) asked h = absurd (built_is_read (asked_options a) a.find replacement.pattern error.kind asked.built h.1)
  readable a replacement fault.NoMemory asked h = refl
