-- The report of a plan counts the chosen files.
use Rattle.std.proofs.Common.{◌≡◌, ◌≢◌, ◌↔◌, ℕ, suc, Bool, true, false, cond, List, [], ◌∷◌, map, length, refl, sym, ap, subst, ◌∙◌, arith}
use Rattle.std.specs.Prelude.{Option, Some, IsTrue, Contains}
use Rattle.std.specs.Option.{option_and_then}
use Rattle.std.specs.Str.{bytes_eq}
use Rattle.std.specs.Cmp.Lexicographic.{bytes_decides}
use Rattle.std.proofs.lemmas.Option.{same_Some}
use Rattle.std.proofs.lemmas.List.Sums.{sum_by-cons}
use Rattle.sd_io.specs.Tree.{NameList, Tree, file_at, IsNonemptyFile}
use Rattle.sd_io.specs.Paths.{reached}
use Rattle.sd_io.proofs.PathTextLemmas.{differs}
use Rattle.sd_change.specs.Change.{Change, FileChange}
use Rattle.many_files.specs.Files.{ListsFiles}
use Rattle.many_files.specs.Counts.{Counts, CountsFile, CountsFiles, change_count}
use Rattle.many_files.specs.declared.report.Report.{Report}
use Rattle.sd_plan.specs.Plan.{changed_in, replaced_in}
use Rattle.sd_plan.specs.declared.line.PlanLine.{PlanLine}
use Rattle.planned_files.specs.Planned.{IsLineOf, PlansFiles}
use Rattle.sd_journal.specs.Sweep.{CountsPlan}

-- whether a file's bytes change
change_is : (flag : Bool) (bytes new_bytes : List ℕ) → IsTrue flag ↔ (new_bytes ≢ bytes) → ◌≡◌ {A = ℕ} (cond flag 1 0) (change_count bytes new_bytes)
change_is true bytes new_bytes h = sym (ap (λ b. cond b 0 1) (differs new_bytes bytes (h.0 refl)))
change_is false bytes new_bytes h = by (bytes_eq new_bytes bytes) refl
  where
    by : (b : Bool) → bytes_eq new_bytes bytes ≡ b → ◌≡◌ {A = ℕ} 0 (cond b 0 1)
    by true e = refl
    by false e =
        let other : new_bytes ≢ bytes = λ same. (let yes : bytes_eq new_bytes bytes ≡ true = (bytes_decides new_bytes bytes).1 same in cc) in
        let wrong : false ≡ true = h.1 other in
        cc

module _ (change : Change) (tree : Tree) where
  -- one file
  one_file : (path : List ℕ) (place : NameList) (line : PlanLine) → reached tree path true ≡ Some place → IsNonemptyFile tree place → IsLineOf change tree path line
      → CountsFile change tree place (cond line.changed 1 0) line.replaced
  one_file path place line leads (byte, rest, mode, holds) of =
      let at : file_at tree place ≡ Some (of.bytes, of.mode) = sym (ap (option_and_then (file_at tree)) leads) ∙ of.is_file in
      let bytes : of.bytes ≡ byte ∷ rest = ap (λ (p : List ℕ × ℕ). p.0) (same_Some (of.bytes, of.mode) (byte ∷ rest, mode) (sym at ∙ holds)) in
      record {
        bytes = byte ∷ rest;
        mode = mode;
        is_file = holds;
        new_bytes = of.becomes.new_bytes;
        new_bytes_are = subst (λ (b : List ℕ). FileChange change b of.becomes.new_bytes line.replaced) bytes of.becomes.new_bytes_are;
        changed_is = change_is line.changed of.bytes of.becomes.new_bytes of.becomes.changed ∙ ap (λ (b : List ℕ). change_count b of.becomes.new_bytes) bytes;
      }

  tail_has : (place : NameList) (places : List NameList) (q : NameList) → Contains places q → Contains (place ∷ places) q
  tail_has place places q (k, lt, is) = (suc k, omega arith, is)

  -- all files
  all_files : (paths : List (List ℕ)) (places : List NameList) (lines : List PlanLine) → map (λ path. reached tree path true) paths ≡ map (λ place. Some place) places
      → ((place : NameList) → Contains places place → IsNonemptyFile tree place) → PlansFiles change tree paths lines
      → (length lines ≡ length places) × CountsFiles change tree places (changed_in lines) (replaced_in lines)
  all_files [] [] [] lead files plans = (refl, (refl, refl))
  all_files [] [] (line ∷ lines) lead files plans = absurd plans
  all_files [] (place ∷ places) lines lead files plans = absurd (nothing (Some place) (map (λ place. Some place) places) lead)
    where
      nothing : (x : Option NameList) (xs : List (Option NameList)) → [] ≡ x ∷ xs → ⊥
      nothing x xs e = cc
  all_files (path ∷ paths) [] lines lead files plans = absurd (nothing (reached tree path true) (map (λ path. reached tree path true) paths) lead)
    where
      nothing : (x : Option NameList) (xs : List (Option NameList)) → x ∷ xs ≡ [] → ⊥
      nothing x xs e = cc
  all_files (path ∷ paths) (place ∷ places) [] lead files plans = absurd plans
  all_files (path ∷ paths) (place ∷ places) (line ∷ lines) lead files (first, plans) =
      let (here, more) = both (reached tree path true) (Some place) (map (λ path. reached tree path true) paths) (map (λ place. Some place) places) lead in
      let one = one_file path place line here (files place (0, omega arith, refl)) first in
      let (long, counts) = all_files paths places lines more (λ q has. files q (tail_has place places q has)) plans in (
        ap suc long,
        (
          cond line.changed 1 0,
          line.replaced,
          changed_in lines,
          replaced_in lines,
          one,
          counts,
          sum_by-cons (λ (l : PlanLine). cond l.changed 1 0) line lines,
          sum_by-cons (λ (l : PlanLine). l.replaced) line lines,
        ),
      )
    where
      both : (x y : Option NameList) (xs ys : List (Option NameList)) → x ∷ xs ≡ y ∷ ys → (x ≡ y) × (xs ≡ ys)
      both x y xs ys e = (cc, cc)

  pub plan_counts : (paths : List (List ℕ)) (places : List NameList) (lines : List PlanLine) (report : Report) → ListsFiles tree paths places → PlansFiles change tree paths lines
      → CountsPlan lines report → Counts change tree places report
  plan_counts paths places lines report listed plans counted =
      let (long, counts) = all_files paths places lines listed.lead listed.are_files plans in
      record {
        chosen = counted.chosen ∙ long;
        files = subst (λ (n : ℕ). CountsFiles change tree places report.changed n) (sym counted.replaced)
            (subst (λ (n : ℕ). CountsFiles change tree places n (replaced_in lines)) (sym counted.changed) counts);
      }
