-- What a parser answers, from what is read in the text.
use Rattle.std.proofs.Common.{◌≡◌, ◌<◌, ◌≤◌, ◌^◌, inl, inr, ℕ, true, false, List, length, Result, Ok, Err, IsErrAnd, sym, ap, ◌∙◌, subst, true≢false, arith}
use Rattle.std.specs.Str.{chars}
use Rattle.pattern_syntax.specs.Reads.{Part, Reads}
use Rattle.pattern_core.specs.Answers.{flags_of, most_depth, IsGrammar, IsNest, IsDoubleName, IsPattern}
use Rattle.pattern_core.specs.Parsing.{part_of, IsSamePart, Finds, IsWhole}
use Rattle.pattern_core.specs.declared.fault.PatternFault.{PatternFault}
use Rattle.pattern_core.specs.declared.fault.PatternFault.TheVariants as fault
use Rattle.pattern_core.specs.declared.flags.PatternFlags.{PatternFlags}
use Rattle.pattern_core.specs.declared.parsing.reading.Whole.{Whole}

-- the error of a result is this one
pub error_is : {X : Type 0} (r : Result X PatternFault) (e y : PatternFault) → IsErrAnd r (λ f. f ≡ e) → r ≡ Err y → e ≡ y
error_is (Ok x) e y h i = absurd h
error_is (Err f) e y h i = cc

part_deep : (limit : ℕ) (a b : Part) → IsSamePart limit a b → limit < a.depth → limit < b.depth
part_deep limit a b (inl e) h = subst (λ (b : Part). limit < b.depth) e h
part_deep limit a b (inr d) h = d.1

part_flat : (limit : ℕ) (a b : Part) → IsSamePart limit a b → a.depth ≤ limit → a ≡ b
part_flat limit a b (inl e) h = e
part_flat limit a b (inr d) h = absurd (omega (arith, d.0))

module _ (flags : PatternFlags) (bytes cs : List ℕ) (limit : ℕ) (short : length bytes < 2 ^ 32) (same : cs ≡ chars bytes) (is_limit : limit ≡ most_depth flags) where
  is_grammar : IsWhole limit cs (flags_of flags) (Err fault.Grammar) → IsGrammar flags bytes
  is_grammar none found r = none found (subst (λ cs. Reads (flags_of flags) cs found) (sym same) r.1)

  pub grammar_refused : (e : PatternFault) → IsWhole limit cs (flags_of flags) (Err e) → e ≡ fault.Grammar → IsGrammar flags bytes
  grammar_refused e h same = is_grammar (subst (λ e. IsWhole limit cs (flags_of flags) (Err e)) same h)

  module _ (whole : Whole) (finds : Finds limit cs (flags_of flags) whole) where
    reads_bytes : Reads (flags_of flags) (chars bytes) finds.found
    reads_bytes = subst (λ cs. Reads (flags_of flags) cs finds.found) same finds.reads

    pub nests_deep : limit < whole.piece.depth → IsNest flags bytes
    nests_deep h =
        (finds.found, ((short, reads_bytes), subst (λ limit. limit < finds.found.part.depth) is_limit (part_deep limit (part_of whole.piece) finds.found.part finds.part h)))

    flat : whole.piece.depth ≤ limit → part_of whole.piece ≡ finds.found.part
    flat h = part_flat limit (part_of whole.piece) finds.found.part finds.part h

    flat_depth : whole.piece.depth ≤ limit → finds.found.part.depth ≤ most_depth flags
    flat_depth h = subst (λ (a : Part). a.depth ≤ most_depth flags) (flat h) (subst (λ limit. whole.piece.depth ≤ limit) is_limit h)

    pub names_one_twice : whole.piece.depth ≤ limit → whole.names.has_one_twice ≡ true → IsDoubleName flags bytes
    names_one_twice h t = (finds.found, ((short, reads_bytes), flat_depth h, finds.names.twice.0 t))

    pub is_pattern : whole.piece.depth ≤ limit → whole.names.has_one_twice ≡ false
        → IsPattern flags bytes (record { hir = whole.piece.hir; groups = whole.groups; any_literal = whole.literals.any; any_uppercase = whole.literals.uppercase })
    is_pattern h t = record {
      found = finds.found;
      read = (short, reads_bytes);
      nests = flat_depth h;
      names = λ twice. true≢false (sym (finds.names.twice.1 twice) ∙ t);
      tree = ap (λ (a : Part). a.tree) (flat h);
      groups = finds.groups;
      literal = finds.literals.0;
      uppercase = finds.literals.1;
    }
