-- A plan counts what the rewriting of its files counts, and is right where it was made.
use Rattle.std.proofs.Common.{◌≡◌, ℕ, zero, suc, ◌+◌, cond, List, [], ◌∷◌, map, length, refl, sym, ap, subst, ◌∙◌, arith, Less, Equal, true}
use Rattle.std.specs.Prelude.{Some, All, Contains}
use Rattle.std.specs.List.{AllByRecursion}
use Rattle.std.specs.List.Sorted.{IsStrictlySortedBy}
use Rattle.std.specs.Cmp.{IsTotalOrder, tied_itself, nat_cmp_total}
use Rattle.std.specs.Cmp.Lexicographic.{lists_total}
use Rattle.std.specs.Option.{option_and_then}
use Rattle.std.proofs.lemmas.Option.{same_Some}
use Rattle.std.proofs.lemmas.List.Sums.{sum_by-cons}
use Rattle.std.proofs.lemmas.List.Elements.{All-nil, All-cons, Contains-append_right}
use Rattle.sd_io.specs.Tree.{NameList, Tree, file_at, IsNonemptyFile, name_list_cmp}
use Rattle.sd_io.specs.Paths.{reached}
use Rattle.sd_io.specs.Files.{file_of}
use Rattle.sd_change.specs.Change.{Change, FileChange, IsOne}
use Rattle.many_files.specs.Files.{ListsFiles}
use Rattle.many_files.specs.Counts.{Counts, CountsFile, CountsFiles, change_count}
use Rattle.many_files.specs.declared.report.Report.{Report}
use Rattle.many_files.proofs.MemberLemmas.{none_in}
use Rattle.sd_plan.specs.Report.{report_text}
use Rattle.sd_plan.specs.Plan.{changed_in, replaced_in, report_of}
use Rattle.sd_plan.specs.declared.line.PlanLine.{PlanLine}
use Rattle.planned_files.specs.Planned.{IsLineOf, PlansFiles}
use Rattle.planned_files.specs.Checked.{IsRight}
use Rattle.planned_files.specs.Applied.{AreApart, CountsLine, CountsLines, AppliesPlan, LeadApart}
use Rattle.planned_files.proofs.applying.FileLemmas.{one_file_change, one_or_none}

-- ---- it is right there

right_line : (change : Change) (tree : Tree) (path : List ℕ) (line : PlanLine) → IsLineOf change tree path line → IsRight change tree line
right_line change tree path line is = record {
  bytes = is.bytes;
  mode = is.mode;
  is_file = ap (file_of tree) is.path_is ∙ is.is_file;
  before = is.becomes.before;
  new_bytes = is.becomes.new_bytes;
  count = line.replaced;
  new_bytes_are = is.becomes.new_bytes_are;
  after = is.becomes.after;
}

pub right_lines : (change : Change) (tree : Tree) (paths : List (List ℕ)) (lines : List PlanLine) → PlansFiles change tree paths lines → All (IsRight change tree) lines
right_lines change tree [] [] plans = All-nil (IsRight change tree)
right_lines change tree [] (line ∷ lines) plans = absurd plans
right_lines change tree (path ∷ paths) [] plans = absurd plans
right_lines change tree (path ∷ paths) (line ∷ lines) (first, plans) =
    All-cons (IsRight change tree) line lines (right_line change tree path line first) (right_lines change tree paths lines plans)

-- ---- it counts what is done there

one_line : (change : Change) → IsOne change → (tree : Tree) (path : List ℕ) (line : PlanLine) (changed replaced : ℕ) → IsLineOf change tree path line → CountsLine change tree line changed replaced
    → (changed ≡ cond line.changed 1 0) × (replaced ≡ line.replaced)
one_line change one tree path line changed replaced is counts =
    let pair = same_Some (is.bytes, is.mode) (counts.bytes, counts.mode) (sym (ap (file_of tree) is.path_is ∙ is.is_file) ∙ counts.is_file) in
    let bytes : is.bytes ≡ counts.bytes = ap (λ (p : List ℕ × ℕ). p.0) pair in
    let does = subst (λ (b : List ℕ). FileChange change b is.becomes.new_bytes line.replaced) bytes is.becomes.new_bytes_are in
    let same = one_file_change change one counts.bytes is.becomes.new_bytes counts.new_bytes line.replaced replaced does counts.new_bytes_are in (
      counts.changed_is ∙ (λ i. change_count (sym bytes i) (sym same.0 i)) ∙ sym (one_or_none line.changed is.bytes is.becomes.new_bytes is.becomes.changed),
      sym same.1,
    )

all_lines : (change : Change) → IsOne change → (tree : Tree) (paths : List (List ℕ)) (lines : List PlanLine) (changed replaced : ℕ) → PlansFiles change tree paths lines
    → CountsLines change tree lines changed replaced → (changed ≡ changed_in lines) × (replaced ≡ replaced_in lines)
all_lines change one tree [] [] changed replaced plans counts = counts
all_lines change one tree [] (line ∷ lines) changed replaced plans counts = absurd plans
all_lines change one tree (path ∷ paths) [] changed replaced plans counts = absurd plans
all_lines change one tree (path ∷ paths) (line ∷ lines) changed replaced (first, plans) (c, r, more_c, more_r, it, counts, c_is, r_is) =
    let here = one_line change one tree path line c r first it in
    let rest = all_lines change one tree paths lines more_c more_r plans counts in (
      c_is ∙ (λ i. here.0 i + rest.0 i) ∙ sym (sum_by-cons (λ (l : PlanLine). cond l.changed 1 0) line lines),
      r_is ∙ (λ i. here.1 i + rest.1 i) ∙ sym (sum_by-cons (λ (l : PlanLine). l.replaced) line lines),
    )

pub applied_report : (change : Change) → IsOne change → (old new : Tree) (paths : List (List ℕ)) (lines : List PlanLine) (places : List NameList) (report : Report) → PlansFiles change old paths lines
    → AppliesPlan change lines places report old new → report_of lines ≡ report_text report.chosen report.changed report.replaced
applied_report change one old new paths lines places report plans applied =
    let (changed, replaced) = all_lines change one old paths lines report.changed report.replaced plans applied.counts in
    λ i. report_text (sym applied.chosen i) (sym changed i) (sym replaced i)

-- ---- listed files

-- what a nonempty file becomes
nonempty_file : (change : Change) (bytes new_bytes : List ℕ) (count byte : ℕ) (rest : List ℕ) → bytes ≡ byte ∷ rest → change bytes new_bytes count → FileChange change bytes new_bytes count
nonempty_file change bytes new_bytes count byte rest e does =
    subst (λ (b : List ℕ). FileChange change b new_bytes count) (sym e) (subst (λ (b : List ℕ). change b new_bytes count) e does)

counts_line : (change : Change) (tree : Tree) (path : List ℕ) (place : NameList) (line : PlanLine) (changed replaced : ℕ) → reached tree path true ≡ Some place → IsNonemptyFile tree place
    → IsLineOf change tree path line → CountsFile change tree place changed replaced → CountsLine change tree line changed replaced
counts_line change tree path place line changed replaced leads (byte, rest, mode, holds) is counts =
    let pair = same_Some (counts.bytes, counts.mode) (byte ∷ rest, mode) (sym counts.is_file ∙ holds) in
    record {
      bytes = counts.bytes;
      mode = counts.mode;
      is_file = ap (file_of tree) is.path_is ∙ ap (option_and_then (file_at tree)) leads ∙ counts.is_file;
      new_bytes = counts.new_bytes;
      new_bytes_are = nonempty_file change counts.bytes counts.new_bytes replaced byte rest (ap (λ (p : List ℕ × ℕ). p.0) pair) counts.new_bytes_are;
      changed_is = counts.changed_is;
    }

-- the lines count what their files do, and are as many
counts_lines : (change : Change) (tree : Tree) (paths : List (List ℕ)) (places : List NameList) (lines : List PlanLine) (changed replaced : ℕ)
    → map (λ path. reached tree path true) paths ≡ map (λ place. Some place) places → ((place : NameList) → Contains places place → IsNonemptyFile tree place)
    → PlansFiles change tree paths lines → CountsFiles change tree places changed replaced → (length lines ≡ length places) × CountsLines change tree lines changed replaced
counts_lines change tree [] [] [] changed replaced lead files plans counts = (refl, counts)
counts_lines change tree [] (place ∷ places) lines changed replaced lead files plans counts = cc
counts_lines change tree [] [] (line ∷ lines) changed replaced lead files plans counts = absurd plans
counts_lines change tree (path ∷ paths) [] lines changed replaced lead files plans counts = cc
counts_lines change tree (path ∷ paths) (place ∷ places) [] changed replaced lead files plans counts = absurd plans
counts_lines change tree (path ∷ paths) (place ∷ places) (line ∷ lines) changed replaced lead files (first, plans) (c, r, more_c, more_r, it, counts, c_is, r_is) =
    let leads : reached tree path true ≡ Some place = cc in
    let rest_lead : map (λ path. reached tree path true) paths ≡ map (λ place. Some place) places = cc in
    let rest = counts_lines change tree paths places lines more_c more_r rest_lead (λ q has. files q (Contains-append_right (place ∷ []) places q has)) plans counts in (
      ap suc rest.0,
      (c, r, more_c, more_r, counts_line change tree path place line c r leads (files place (0, omega arith, refl)) first it, rest.1, c_is, r_is),
    )

pub ends_with_report : (change : Change) → IsOne change → (tree : Tree) (paths : List (List ℕ)) (places : List NameList) (lines : List PlanLine) (report : Report) → ListsFiles tree paths places
    → PlansFiles change tree paths lines → Counts change tree places report → report_of lines ≡ report_text report.chosen report.changed report.replaced
ends_with_report change one tree paths places lines report listed plans counts =
    let (long, here) = counts_lines change tree paths places lines report.changed report.replaced listed.lead listed.are_files plans counts.files in
    let (changed, replaced) = all_lines change one tree paths lines report.changed report.replaced plans here in
    λ i. report_text ((long ∙ sym counts.chosen) i) (sym changed i) (sym replaced i)

-- ---- places in order

place_total : IsTotalOrder name_list_cmp
place_total = lists_total (lists_total nat_cmp_total)

not_after : (place : NameList) (places : List NameList) → AllByRecursion (λ q. name_list_cmp place q ≡ Less) places → Contains places place → ⊥
not_after place [] less has = none_in place has
not_after place (q ∷ places) (first, less) (zero, lt, is) =
    let tied : name_list_cmp place place ≡ Equal = tied_itself place_total place in
    let before : name_list_cmp place place ≡ Less = subst (λ (p : NameList). name_list_cmp place p ≡ Less) is first in
    cc
not_after place (q ∷ places) (first, less) (suc k, lt, is) = not_after place places less (k, omega arith, is)

apart_in_order : (places : List NameList) → IsStrictlySortedBy name_list_cmp places → AreApart places
unfolding IsStrictlySortedBy
apart_in_order [] sorted = tt
apart_in_order (place ∷ places) (less, sorted) = (not_after place places less, apart_in_order places sorted)

pub listed_apart : (tree : Tree) (paths : List (List ℕ)) (places : List NameList) → ListsFiles tree paths places → LeadApart tree paths places
listed_apart tree paths places listed = record { lead = listed.lead; apart = apart_in_order places listed.in_order }
