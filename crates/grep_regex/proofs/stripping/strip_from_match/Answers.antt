use Rattle.std.proofs.Common.{◌≡◌, ◌<◌, ◌≤◌, ℕ, List, length, Result, Ok, Err, OnOk, IfOk, ap, ◌∙◌, subst, sym, arith}
use Rattle.std.specs.Prelude.{None, filter}
use Rattle.grep_matcher.specs.Terminators.{bytes_of_ending}
use Rattle.grep_matcher.specs.declared.line_terminator.Ending.{Ending}
use Rattle.grep_matcher.specs.declared.line_terminator.Ending.TheVariants.{Byte, Crlf}
use Rattle.hir_tree.specs.Cores.{core_of, core_of_tree}
use Rattle.hir_tree.specs.Runs.{Run, runs}
use Rattle.hir_tree.specs.Tree.{tree_of}
use Rattle.hir_tree.specs.declared.hir.Hir.{Hir}
use Rattle.grep_regex.specs.Building.{IsAscii}
use Rattle.grep_regex.specs.Exact.{IsTidy, MustTake}
use Rattle.grep_regex.specs.Stripping.{is_clear, not_allowed, stripped}
use Rattle.grep_regex.proofs.laws.ExactLemmas.{refused-exactly}
use Rattle.grep_regex.proofs.laws.TreeLemmas.{stripping-filters}
use Rattle.grep_regex.proofs.stripping.strip_from_match.Goals as goal

some-bytes : (ending : Ending) → 0 < length (bytes_of_ending ending)
some-bytes (Byte b) = omega arith
some-bytes Crlf = omega arith

module _ {E : Type 0} (bytes terminator : List ℕ) (hir : Hir) (same : bytes ≡ terminator) (ascii : IsAscii bytes) where
  clear : (result : Result Hir E) → OnOk result (not_allowed bytes (tree_of hir) ≡ None) → IfOk result (λ new. tree_of new ≡ stripped bytes (tree_of hir))
      → IfOk result (λ new. (text : List ℕ) (n : ℕ) (r : Run) → r.at ≤ length text
      → runs text (core_of new) n r ≡ filter (λ s. is_clear terminator text r.at s.at) (runs text (core_of hir) n r))
  clear (Err e) allowed is = tt
  clear (Ok new) allowed is = λ text n r within.
      ap (λ t. runs text (core_of_tree t) n r) is ∙ stripping-filters bytes (tree_of hir) ascii allowed text n r within
      ∙ ap (λ bs. filter (λ s. is_clear bs text r.at s.at) (runs text (core_of hir) n r)) same

  rule : (result : Result Hir E) → 0 < length bytes → OnOk result (not_allowed bytes (tree_of hir) ≡ None)
      → OnOk result (0 < length bytes → IsTidy (tree_of hir)) → OnOk result (MustTake terminator (tree_of hir) → ⊥)
  rule (Err e) some allowed tidy = tt
  rule (Ok new) some allowed tidy =
      subst (λ bs. MustTake bs (tree_of hir) → ⊥) same ((refused-exactly bytes (tree_of hir) ascii (tidy some)).0 allowed)

pub returns-clause-clear : goal.returns-clause-clear
returns-clause-clear c =
    clear c.as_bytes-bytes.result.now _ c.args.hir c.as_bytes-bytes.ensures c.in_default.ensures.ascii c.strip.result c.strip.ensures.allowed c.strip.ensures.stripped

pub returns-clause-rule : goal.returns-clause-rule
returns-clause-rule c =
    rule c.as_bytes-bytes.result.now _ c.args.hir c.as_bytes-bytes.ensures c.in_default.ensures.ascii c.strip.result
    (subst (λ bs. 0 < length bs) (sym c.as_bytes-bytes.ensures) (some-bytes c.args.line_term.0)) c.strip.ensures.allowed c.strip.ensures.sorted
