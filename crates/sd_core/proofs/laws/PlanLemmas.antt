-- What a plan of a tree counts, and where its lines lead.
use Rattle.std.proofs.Common.{◌≡◌, ◌≢◌, ◌↔◌, ℕ, zero, suc, ◌+◌, Bool, true, false, cond, List, [], ◌∷◌, map, length, refl, sym, ap, subst, ◌∙◌, arith, Ordering, Less, Equal}
use Rattle.std.specs.Prelude.{Option, Some, IsTrue, Contains}
use Rattle.std.specs.List.{AllByRecursion}
use Rattle.std.specs.List.Sorted.{IsStrictlySortedBy}
use Rattle.std.specs.Cmp.{IsTotalOrder, tied_itself, nat_cmp_total}
use Rattle.std.specs.Cmp.Lexicographic.{lists_total}
use Rattle.std.specs.Option.{option_and_then}
use Rattle.std.specs.Str.{bytes_eq}
use Rattle.std.specs.Cmp.Lexicographic.{bytes_decides}
use Rattle.std.proofs.lemmas.Option.{same_Some}
use Rattle.std.proofs.lemmas.List.Sums.{sum_by-cons}
use Rattle.sd_io.specs.Tree.{NameList, Tree, IsTree, file_at, IsNonemptyFile, name_cmp, name_list_cmp}
use Rattle.chosen_files.proofs.ChosenLemmas.{one_list_of_paths}
use Rattle.many_files.proofs.MemberLemmas.{none_in}
use Rattle.sd_io.specs.Disk.{DiskState}
use Rattle.sd_io.specs.Paths.{reached}
use Rattle.sd_io.proofs.PathTextLemmas.{differs}
use Rattle.sd_change.specs.Change.{Change, FileChange, IsOne}
use Rattle.many_files.specs.Files.{ListsFiles}
use Rattle.many_files.specs.Counts.{Counts, CountsFile, CountsFiles, change_count}
use Rattle.many_files.specs.declared.report.Report.{Report}
use Rattle.sd_plan.specs.Report.{report_text}
use Rattle.sd_plan.specs.Plan.{changed_in, replaced_in, report_of}
use Rattle.sd_plan.specs.declared.line.PlanLine.{PlanLine}
use Rattle.planned_files.specs.Planned.{IsLineOf, PlansFiles, path_of}
use Rattle.planned_files.specs.Applied.{AreApart, LeadApart}
use Rattle.sd_core.specs.Plan.{IsPlanOf}
use Rattle.sd_core.specs.Report.{line_of}
use Rattle.sd_core.specs.Selection.{by_globs}
use Rattle.sd_core.specs.Sweep.{RewritesTree}
use Rattle.sd_core.proofs.selecting.SelectionLemmas.{globs_select}

-- whether a file's bytes change
change_is : (flag : Bool) (bytes new_bytes : List ℕ) → IsTrue flag ↔ (new_bytes ≢ bytes) → ◌≡◌ {A = ℕ} (cond flag 1 0) (change_count bytes new_bytes)
change_is true bytes new_bytes h = sym (ap (λ b. cond b 0 1) (differs new_bytes bytes (h.0 refl)))
change_is false bytes new_bytes h = by (bytes_eq new_bytes bytes) refl
  where
    by : (b : Bool) → bytes_eq new_bytes bytes ≡ b → ◌≡◌ {A = ℕ} 0 (cond b 0 1)
    by true e = refl
    by false e =
        let other : new_bytes ≢ bytes = λ same. (let yes : bytes_eq new_bytes bytes ≡ true = (bytes_decides new_bytes bytes).1 same in cc) in
        let wrong : false ≡ true = h.1 other in
        cc

-- one file
one_file : (change : Change) → IsOne change → (tree : Tree) (path : List ℕ) (place : NameList) (line : PlanLine) (changed replaced : ℕ) → reached tree path true ≡ Some place → IsNonemptyFile tree place
    → IsLineOf change tree path line → CountsFile change tree place changed replaced → (cond line.changed 1 0 ≡ changed) × (line.replaced ≡ replaced)
one_file change one tree path place line changed replaced leads (byte, rest, mode, holds) of counts =
    let at : file_at tree place ≡ Some (of.bytes, of.mode) = sym (ap (option_and_then (file_at tree)) leads) ∙ of.is_file in
    let mine = same_Some (of.bytes, of.mode) (byte ∷ rest, mode) (sym at ∙ holds) in
    let theirs = same_Some (counts.bytes, counts.mode) (byte ∷ rest, mode) (sym counts.is_file ∙ holds) in
    let my_bytes : of.bytes ≡ byte ∷ rest = ap (λ (p : List ℕ × ℕ). p.0) mine in
    let their_bytes : counts.bytes ≡ byte ∷ rest = ap (λ (p : List ℕ × ℕ). p.0) theirs in
    let does = subst (λ (b : List ℕ). FileChange change b of.becomes.new_bytes line.replaced) my_bytes of.becomes.new_bytes_are in
    let did = subst (λ (b : List ℕ). change b counts.new_bytes replaced) their_bytes counts.new_bytes_are in
    let (new, count) = one (byte ∷ rest) of.becomes.new_bytes counts.new_bytes line.replaced replaced does did in (
      change_is line.changed of.bytes of.becomes.new_bytes of.becomes.changed ∙ (λ i. change_count ((my_bytes ∙ sym their_bytes) i) (new i)) ∙ sym counts.changed_is,
      count,
    )

tail_has : (place : NameList) (places : List NameList) (q : NameList) → Contains places q → Contains (place ∷ places) q
tail_has place places q (k, lt, is) = (suc k, omega arith, is)

-- all files
all_files : (change : Change) → IsOne change → (tree : Tree) (paths : List (List ℕ)) (places : List NameList) (lines : List PlanLine) (changed replaced : ℕ)
    → map (λ path. reached tree path true) paths ≡ map (λ place. Some place) places → ((place : NameList) → Contains places place → IsNonemptyFile tree place)
    → PlansFiles change tree paths lines → CountsFiles change tree places changed replaced
    → (length lines ≡ length places) × (changed_in lines ≡ changed) × (replaced_in lines ≡ replaced)
all_files change one tree [] [] [] changed replaced lead files plans counts = (refl, sym counts.0, sym counts.1)
all_files change one tree [] (place ∷ places) lines changed replaced lead files plans counts = absurd (nothing (Some place) (map (λ place. Some place) places) lead)
  where
    nothing : (x : Option NameList) (xs : List (Option NameList)) → [] ≡ x ∷ xs → ⊥
    nothing x xs e = cc
all_files change one tree [] [] (line ∷ lines) changed replaced lead files plans counts = absurd plans
all_files change one tree (path ∷ paths) [] lines changed replaced lead files plans counts = absurd (nothing (reached tree path true) (map (λ path. reached tree path true) paths) lead)
  where
    nothing : (x : Option NameList) (xs : List (Option NameList)) → x ∷ xs ≡ [] → ⊥
    nothing x xs e = cc
all_files change one tree (path ∷ paths) (place ∷ places) [] changed replaced lead files plans counts = absurd plans
all_files change one tree (path ∷ paths) (place ∷ places) (line ∷ lines) changed replaced lead files (first, plans) (c, r, more_c, more_r, it, counts, c_is, r_is) =
    let (leads, rest_lead) = both (reached tree path true) (Some place) (map (λ path. reached tree path true) paths) (map (λ place. Some place) places) lead in
    let (flag, count) = one_file change one tree path place line c r leads (files place (0, omega arith, refl)) first it in
    let (long, in_changed, in_replaced) = all_files change one tree paths places lines more_c more_r rest_lead (λ q has. files q (tail_has place places q has)) plans counts in (
      ap suc long,
      sum_by-cons (λ (l : PlanLine). cond l.changed 1 0) line lines ∙ (λ i. flag i + in_changed i) ∙ sym c_is,
      sum_by-cons (λ (l : PlanLine). l.replaced) line lines ∙ (λ i. count i + in_replaced i) ∙ sym r_is,
    )
  where
    both : (x y : Option NameList) (xs ys : List (Option NameList)) → x ∷ xs ≡ y ∷ ys → (x ≡ y) × (xs ≡ ys)
    both x y xs ys e = (cc, cc)

same_text : (change : Change) → IsOne change → (tree : Tree) (paths : List (List ℕ)) (places : List NameList) (lines : List PlanLine) (report : Report) → ListsFiles tree paths places
    → PlansFiles change tree paths lines → Counts change tree places report → report_of lines ≡ line_of report
same_text change one tree paths places lines report listed plans counts =
    let (long, changed, replaced) = all_files change one tree paths places lines report.changed report.replaced listed.lead listed.are_files plans counts.files in
    λ i. report_text ((long ∙ sym counts.chosen) i) (changed i) (replaced i)

pub ends_with_report : (change : Change) → IsOne change → (root : List ℕ) (globs : List (List ℕ)) (old new : DiskState) (lines : List PlanLine) (report : Report) → IsTree old.tree
    → IsPlanOf change (by_globs root globs) old.tree lines → RewritesTree change (by_globs root globs) report old new → report_of lines ≡ line_of report
ends_with_report change one root globs old new lines report is plan rewrites =
    let law = globs_select root globs in
    let same = one_list_of_paths old.tree root globs plan.paths rewrites.paths plan.selected.0 rewrites.selected.0 in
    let plans = subst (λ (paths : List (List ℕ)). PlansFiles change old.tree paths lines) same plan.files in
    same_text change one old.tree rewrites.paths rewrites.places lines report (law.files old.tree is rewrites.paths rewrites.places rewrites.selected) plans rewrites.files.counts

-- ---- the lines of a tree's plan lead to different files

name_total : IsTotalOrder name_cmp
name_total = lists_total nat_cmp_total

place_total : IsTotalOrder name_list_cmp
place_total = lists_total name_total

not_after : (place : NameList) (places : List NameList) → AllByRecursion (λ q. name_list_cmp place q ≡ Less) places → Contains places place → ⊥
not_after place [] less has = none_in place has
not_after place (q ∷ places) (first, less) (zero, lt, is) =
    let tied : name_list_cmp place place ≡ Equal = tied_itself place_total place in
    let before : name_list_cmp place place ≡ Less = subst (λ (p : NameList). name_list_cmp place p ≡ Less) is first in
    unlike (sym before ∙ tied)
  where
    unlike : ◌≡◌ {A = Ordering} Less Equal → ⊥
    unlike e = cc
not_after place (q ∷ places) (first, less) (suc k, lt, is) = not_after place places less (k, omega arith, is)

apart_in_order : (places : List NameList) → IsStrictlySortedBy name_list_cmp places → AreApart places
unfolding IsStrictlySortedBy
apart_in_order [] sorted = tt
apart_in_order (place ∷ places) (less, sorted) = (not_after place places less, apart_in_order places sorted)

paths_of_lines : (change : Change) (tree : Tree) (paths : List (List ℕ)) (lines : List PlanLine) → PlansFiles change tree paths lines → map path_of lines ≡ paths
paths_of_lines change tree [] [] plans = refl
paths_of_lines change tree [] (line ∷ lines) plans = absurd plans
paths_of_lines change tree (path ∷ paths) [] plans = absurd plans
paths_of_lines change tree (path ∷ paths) (line ∷ lines) (first, plans) = λ i. first.path_is i ∷ paths_of_lines change tree paths lines plans i

pub leads_apart : (change : Change) (tree : Tree) → IsTree tree → (root : List ℕ) (globs : List (List ℕ)) (lines : List PlanLine) → IsPlanOf change (by_globs root globs) tree lines
    → (places : List NameList) × LeadApart tree (map path_of lines) places
leads_apart change tree is root globs lines plan =
    let listed = (globs_select root globs).files tree is plan.paths plan.places plan.selected in (
      plan.places,
      record {
        lead = ap (λ (paths : List (List ℕ)). map (λ path. reached tree path true) paths) (paths_of_lines change tree plan.paths lines plan.files) ∙ listed.lead;
        apart = apart_in_order plan.places listed.in_order;
      },
    )
