use Rattle.std.proofs.Common.{◌≡◌, List, [], ◌∷◌, ◌++◌, refl, ap, subst, inl, arith}
use Rattle.std.specs.Prelude.{All, is_some}
use Rattle.std.proofs.lemmas.List.Elements.{All-nil, All-head}
use Rattle.sd_io.specs.Tree.{Tree}
use Rattle.sd_io.specs.Files.{file_of}
use Rattle.file_rewrite.specs.Examples.{OneToDigit}
use Rattle.many_files.proofs.KeepLemmas.{not_none}
use Rattle.sd_plan.specs.declared.line.PlanLine.{PlanLine}
use Rattle.planned_files.specs.Checked.{IsRight}
use Rattle.planned_files.specs.Examples.{a_line, a_path, empty_line}
use Rattle.planned_files.proofs.examples.lines_are_checked_as_in_the_examples.Goals as goal

pub returns-clause-right : goal.returns-clause-right
returns-clause-right c tree is =
    record { bytes = _; mode = 416; is_file = is; before = refl; new_bytes = _; count = 2; new_bytes_are = inl (refl, refl, refl); after = refl }

pub returns-clause-first : goal.returns-clause-first
returns-clause-first c tree = record { earlier = []; later = empty_line ∷ []; lines_are = refl; right = All-nil (IsRight OneToDigit tree) }

-- the first line comes before the second
comes_before : (tree : Tree) (earlier later : List PlanLine) → a_line ∷ empty_line ∷ [] ≡ earlier ++ empty_line ∷ later → All (IsRight OneToDigit tree) earlier → IsRight OneToDigit tree a_line
comes_before tree [] later e right =
    let same : a_line ≡ empty_line = cc in
    let count : 2 ≡ 0 = ap (λ (line : PlanLine). line.replaced) same in
    absurd (omega (arith, count))
comes_before tree (line ∷ earlier) later e right = let same : line ≡ a_line = cc in subst (IsRight OneToDigit tree) same (All-head (IsRight OneToDigit tree) line earlier right)

pub returns-clause-not_the_second : goal.returns-clause-not_the_second
returns-clause-not_the_second c tree none next =
    let right = comes_before tree next.earlier next.later next.lines_are next.right in not_none (file_of tree a_path) (ap is_some right.is_file) none
