-- Patterns that are read, and one pattern more.
use Rattle.std.proofs.Common.{◌≡◌, ◌≤◌, ◌<◌, ℕ, ◌+◌, ◌||◌, Bool, true, false, not, MatchBool, Result, Ok, Err, IfErr, IsErrAnd, List, [], ◌∷◌, ◌++◌, length, map, sum, refl, sym, ap, ap₂, ◌∙◌, inl, inr, subst, arith}
use Rattle.std.specs.List.{list_any}
use Rattle.std.specs.Str.{chars}
use Rattle.std.proofs.lemmas.Grind.{flat_map-append}
use Rattle.std.proofs.lemmas.List.{append-nil, map-append}
use Rattle.std.proofs.lemmas.List.Folds.{list_any-append}
use Rattle.std.proofs.lemmas.List.Sums.{sum_by-append}
use Rattle.unicode.specs.Binary.{is_uppercase}
use Rattle.hir_tree.specs.Spots.{groups_of}
use Rattle.hir_tree.specs.Tree.{Tree, tree_of}
use Rattle.pattern_syntax.specs.Flags.{is_nil}
use Rattle.pattern_syntax.specs.Reads.{Found}
use Rattle.pattern_core.specs.Answers.{IsAmong, HasOneTwice, IsDoubleName, IsPattern, IsRead, flags_of, most_depth}
use Rattle.pattern_core.specs.declared.fault.PatternFault.TheVariants as pattern
use Rattle.pattern_core.specs.declared.parsed.Parsed.{Parsed}
use Rattle.grep_regex.specs.Building.{IsReadingRefused}
use Rattle.grep_regex.specs.Exact.{IsTidy}
use Rattle.grep_regex.specs.Readings.{AreReadAs, AreTreesOf, IsAlike, IsReadAs, IsTreeOf, all_literals, all_names, pattern_flags, written}
use Rattle.grep_regex.specs.ReadSoFar.{AreKept, AreRead, HaveSingleNames, IsPatternRefused}
use Rattle.grep_regex.specs.declared.error.Error.{Error}
use Rattle.grep_regex.specs.declared.error.ErrorKind.{ErrorKind}
use Rattle.grep_regex.specs.declared.error.ErrorKind.TheVariants as kind
use Rattle.grep_regex.specs.declared.error.RegexFault.TheVariants as regex
use Rattle.grep_regex.specs.declared.options.Options.{Options}
use Rattle.grep_regex.specs.declared.reading.ReadPatterns.{ReadPatterns}
use Rattle.grep_regex.proofs.reading.FoldingLemmas.{refolded}

-- ---- letters folded or not

-- what is read with letters folded or not is read the other way too
pub read_otherwise : (o : Options) (folded v : Bool) (text : List ℕ) (found : Found) → IsRead (pattern_flags o folded) (written o text) found
    → (other : Found) × (IsRead (pattern_flags o v) (written o text) other × IsAlike found other)
read_otherwise o folded v text found is =
    let other = refolded (flags_of (pattern_flags o folded)) v (chars (written o text)) found is.1 in
    (other.0, ((is.0, other.1.0), other.1.1))

as_otherwise : (o : Options) (folded v : Bool) (text : List ℕ) (found : Found) → IsReadAs o folded text found
    → (other : Found) × (IsReadAs o v text other × IsAlike found other)
as_otherwise o folded v text found is =
    let other = read_otherwise o folded v text found is.read in
    let nests : other.0.part.depth ≤ most_depth (pattern_flags o v) = subst (λ d. d ≤ most_depth (pattern_flags o v)) other.1.1.depth is.nests in
    (other.0, (record { read = other.1.0; nests = nests }, other.1.1))

-- the same of all patterns
pub record AreOtherwise (o : Options) (v : Bool) (texts : List (List ℕ)) (readings : List Found) : Type 0 where
  pub others : List Found
  pub are_read : AreReadAs o v texts others
  pub names : all_names readings ≡ all_names others
  pub literals : all_literals readings ≡ all_literals others

pub all_otherwise : (o : Options) (folded v : Bool) (texts : List (List ℕ)) (readings : List Found) → AreReadAs o folded texts readings → AreOtherwise o v texts readings
all_otherwise o folded v [] [] are = record { others = []; are_read = tt; names = refl; literals = refl }
all_otherwise o folded v [] (found ∷ rest) are = absurd are
all_otherwise o folded v (text ∷ texts) [] are = absurd are
all_otherwise o folded v (text ∷ texts) (found ∷ rest) are =
    let first = as_otherwise o folded v text found are.0 in
    let more = all_otherwise o folded v texts rest are.1 in
    record {
      others = first.0 ∷ more.others;
      are_read = (first.1.0, more.are_read);
      names = ap₂ (λ xs ys. xs ++ ys) first.1.1.names more.names;
      literals = ap₂ (λ xs ys. xs ++ ys) first.1.1.literals more.literals;
    }

-- ---- one more

reads_more : (o : Options) (folded : Bool) (texts : List (List ℕ)) (readings : List Found) (text : List ℕ) (found : Found) → AreReadAs o folded texts readings
    → IsReadAs o folded text found → AreReadAs o folded (texts ++ text ∷ []) (readings ++ found ∷ [])
reads_more o folded [] [] text found are is = (is, tt)
reads_more o folded [] (first ∷ rest) text found are is = absurd are
reads_more o folded (first ∷ texts) [] text found are is = absurd are
reads_more o folded (first ∷ texts) (other ∷ rest) text found are is = (are.0, reads_more o folded texts rest text found are.1 is)

trees_more : (readings : List Found) (trees : List Tree) (found : Found) (tree : Tree) → AreTreesOf readings trees → IsTreeOf found tree
    → AreTreesOf (readings ++ found ∷ []) (trees ++ tree ∷ [])
trees_more [] [] found tree are is = (is, tt)
trees_more [] (first ∷ trees) found tree are is = absurd are
trees_more (first ∷ readings) [] found tree are is = absurd are
trees_more (first ∷ readings) (other ∷ trees) found tree are is = (are.0, trees_more readings trees found tree are.1 is)

single_more : (readings : List Found) (found : Found) → HaveSingleNames readings → (HasOneTwice found.names → ⊥) → HaveSingleNames (readings ++ found ∷ [])
single_more [] found single one = (one, tt)
single_more (first ∷ readings) found single one = (single.0, single_more readings found single.1 one)

names_more : (readings : List Found) (found : Found) → all_names (readings ++ found ∷ []) ≡ all_names readings ++ found.names
names_more readings found =
    flat_map-append (λ (found : Found). found.names) readings (found ∷ []) ∙ ap (λ ns. all_names readings ++ ns) (append-nil found.names)

literals_more : (readings : List Found) (found : Found) → all_literals (readings ++ found ∷ []) ≡ all_literals readings ++ found.literals
literals_more readings found =
    flat_map-append (λ (found : Found). found.literals) readings (found ∷ []) ∙ ap (λ cs. all_literals readings ++ cs) (append-nil found.literals)

some_append : (xs ys : List ℕ) → not (is_nil (xs ++ ys)) ≡ (not (is_nil xs) || not (is_nil ys))
some_append [] ys = refl
some_append (x ∷ xs) ys = refl

sum_more : (ns : List ℕ) (n : ℕ) → sum (ns ++ n ∷ []) ≡ sum ns + n
sum_more ns n = let all = sum_by-append (λ (n : ℕ). n) ns (n ∷ []) in omega arith

-- ---- names that stand twice

pub among_left : (name : List ℕ) (names more : List (List ℕ)) → IsAmong name names → IsAmong name (names ++ more)
among_left name [] more h = absurd h
among_left name (n ∷ names) more (inl e) = inl e
among_left name (n ∷ names) more (inr h) = inr (among_left name names more h)

pub twice_left : (names more : List (List ℕ)) → HasOneTwice names → HasOneTwice (names ++ more)
twice_left [] more h = absurd h
twice_left (n ∷ names) more (inl h) = inl (among_left n names more h)
twice_left (n ∷ names) more (inr h) = inr (twice_left names more h)

pub twice_right : (names more : List (List ℕ)) → HasOneTwice more → HasOneTwice (names ++ more)
twice_right [] more h = h
twice_right (n ∷ names) more h = inr (twice_right names more h)

-- ---- a pattern that is read

module _ (o : Options) (folded : Bool) (texts : List (List ℕ)) (text : List ℕ) (old new : ReadPatterns) (are : AreRead o folded texts old) where
  -- a name stands twice in it
  pub doubled : IsDoubleName (pattern_flags o folded) (written o text) → new.has_double_name ≡ true → AreRead o folded (texts ++ text ∷ []) new
  doubled is now =
      let found = is.0 in
      let twice : HasOneTwice (all_names (are.readings ++ found ∷ [])) = subst HasOneTwice (sym (names_more are.readings found)) (twice_right (all_names are.readings) found.names is.1.2) in
      record {
        readings = are.readings ++ found ∷ [];
        are_read = reads_more o folded texts are.readings text found are.are_read (record { read = is.1.0; nests = is.1.1 });
        kept = subst (λ b. MatchBool b (HasOneTwice (all_names (are.readings ++ found ∷ []))) (AreKept (texts ++ text ∷ []) (are.readings ++ found ∷ []) new)) (sym now) twice;
      }

  -- it is kept
  module _ (parsed : Parsed) (is : IsPattern (pattern_flags o folded) (written o text) parsed) (tidy : IsTidy (tree_of parsed.hir)) (numbers : groups_of parsed.hir ≤ length text)
      (hirs : new.hirs.items ≡ old.hirs.items ++ parsed.hir ∷ []) (literal : new.any_literal ≡ (old.any_literal || parsed.any_literal))
      (uppercase : new.any_uppercase ≡ (old.any_uppercase || parsed.any_uppercase)) (double : new.has_double_name ≡ old.has_double_name) where
    trees_kept : map tree_of new.hirs.items ≡ map tree_of old.hirs.items ++ tree_of parsed.hir ∷ []
    trees_kept = ap (map tree_of) hirs ∙ map-append tree_of old.hirs.items (parsed.hir ∷ [])

    numbers_kept : sum (map groups_of old.hirs.items) ≤ sum (map length texts) → sum (map groups_of new.hirs.items) ≤ sum (map length (texts ++ text ∷ []))
    numbers_kept before =
        let groups : sum (map groups_of new.hirs.items) ≡ sum (map groups_of old.hirs.items) + groups_of parsed.hir =
        ap sum (ap (map groups_of) hirs ∙ map-append groups_of old.hirs.items (parsed.hir ∷ [])) ∙ sum_more (map groups_of old.hirs.items) (groups_of parsed.hir) in
        let lengths : sum (map length (texts ++ text ∷ [])) ≡ sum (map length texts) + length text =
        ap sum (map-append length texts (text ∷ [])) ∙ sum_more (map length texts) (length text) in
        omega arith

    kept_more : AreKept texts are.readings old → AreKept (texts ++ text ∷ []) (are.readings ++ is.found ∷ []) new
    kept_more kept =
        let cs = all_literals are.readings in
        record {
          trees = subst (AreTreesOf (are.readings ++ is.found ∷ [])) (sym trees_kept) (trees_more are.readings (map tree_of old.hirs.items) is.found (tree_of parsed.hir) kept.trees (record { sets = is.tree; tidy = tidy }));
          single = single_more are.readings is.found kept.single is.names;
          numbers = numbers_kept kept.numbers;
          literal = literal ∙ ap₂ ◌||◌ kept.literal is.literal ∙ sym (ap (λ cs. not (is_nil cs)) (literals_more are.readings is.found) ∙ some_append cs is.found.literals);
          uppercase = uppercase ∙ ap₂ ◌||◌ kept.uppercase is.uppercase ∙ sym (ap (list_any is_uppercase) (literals_more are.readings is.found) ∙ list_any-append is_uppercase cs is.found.literals);
        }

    kept_by : (b : Bool) → MatchBool b (HasOneTwice (all_names are.readings)) (AreKept texts are.readings old)
        → MatchBool b (HasOneTwice (all_names (are.readings ++ is.found ∷ []))) (AreKept (texts ++ text ∷ []) (are.readings ++ is.found ∷ []) new)
    kept_by true twice = subst HasOneTwice (sym (names_more are.readings is.found)) (twice_left (all_names are.readings) is.found.names twice)
    kept_by false kept = kept_more kept

    pub read_on : AreRead o folded (texts ++ text ∷ []) new
    read_on = record {
      readings = are.readings ++ is.found ∷ [];
      are_read = reads_more o folded texts are.readings text is.found are.are_read (record { read = is.read; nests = is.nests });
      kept = subst (λ b. MatchBool b (HasOneTwice (all_names (are.readings ++ is.found ∷ []))) (AreKept (texts ++ text ∷ []) (are.readings ++ is.found ∷ []) new)) (sym double) (kept_by old.has_double_name are.kept);
    }

-- ---- a pattern that is refused

module _ (o : Options) (folded : Bool) (texts : List (List ℕ)) (text : List ℕ) (behind : List (List ℕ)) (read : ReadPatterns) (are : AreRead o folded texts read) where
  -- nothing is read in it
  pub first_unread : IsPatternRefused (pattern_flags o folded) (written o text) pattern.Grammar → IsReadingRefused o (texts ++ text ∷ behind) (kind.Regex regex.Grammar)
  first_unread none =
      let plain = all_otherwise o folded false texts are.readings are.are_read in
      record {
        before = texts;
        text = text;
        behind = behind;
        all = refl;
        readings = plain.others;
        read = plain.are_read;
        kind = λ found is. let folds = read_otherwise o false folded text found is in none folds.0 folds.1.0;
      }

  -- it nests too deep
  pub first_deep : IsPatternRefused (pattern_flags o folded) (written o text) pattern.Nest → IsReadingRefused o (texts ++ text ∷ behind) (kind.Regex regex.Nest)
  first_deep is =
      let plain = all_otherwise o folded false texts are.readings are.are_read in
      let deep = read_otherwise o folded false text is.0 is.1.0 in
      record {
        before = texts;
        text = text;
        behind = behind;
        all = refl;
        readings = plain.others;
        read = plain.are_read;
        kind = (deep.0, (deep.1.0, subst (λ d. most_depth (pattern_flags o false) < d) deep.1.1.depth is.1.1));
      }

-- what an error is that goes on
pub error_if : {X : Type 0} (result : Result X Error) (e : Error) (P : ErrorKind → Type 0) → IsErrAnd result (λ f. f ≡ e) → P e.kind → IfErr result (λ f. P f.kind)
error_if (Ok x) e P is p = tt
error_if (Err f) e P is p = subst (λ (f : Error). P f.kind) (sym is) p
