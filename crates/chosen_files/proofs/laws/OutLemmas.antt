-- Rules leave out the entries of what they ignore.
use Rattle.std.proofs.Common.{◌≡◌, ◌≢◌, ◌<◌, Bool, true, false, List, [], ◌∷◌, ◌++◌, length, Option, Some, None, refl, sym, ◌∙◌, ap, subst, arith, length-append}
use Rattle.std.specs.Prelude.{IsSome, is_some, unwrap_or, Contains}
use Rattle.std.specs.List.{AllByRecursion, join_with_byte}
use Rattle.std.proofs.lemmas.Bool.{false≢true}
use Rattle.sd_io.specs.Tree.{NameList, Name, Tree, IsTree, IsName, node_at}
use Rattle.sd_io.specs.Files.{path_text}
use Rattle.sd_io.proofs.PathTextLemmas.{names_of}
use Rattle.walk_rest.specs.declared.entry.DirEntry.{DirEntry}
use Rattle.walk_rest.specs.Plan.{is_directory, path_below}
use Rattle.sd_ignore.specs.declared.rule.Rule.{Rule}
use Rattle.sd_ignore.specs.Fitting.{RulesSay}
use Rattle.sd_ignore.specs.Fitting as fitting
use Rattle.sd_ignore.specs.Ignored.{Ignores}
use Rattle.sd_ignore.proofs.JoinLemmas.{joined}
use Rattle.sd_ignore.proofs.SayLemmas.{one_answer}
use Rattle.chosen_files.specs.Picks.{IsEntryAt}
use Rattle.chosen_files.specs.LeftOut.{leaves_out}
use Rattle.sd_ignore.specs.Says.{said_of, said_is}
use Rattle.chosen_files.proofs.left_out.AfterLemmas.{out_some}
use Rattle.chosen_files.proofs.laws.BelowLemmas.{below_place}

true_said : (said : Option Bool) → unwrap_or said false ≡ true → said ≡ Some true
true_said None e = absurd (false≢true e)
true_said (Some true) e = refl
true_said (Some false) e = absurd (false≢true e)

no_slashes : (front names : NameList) → AllByRecursion IsName (front ++ names) → AllByRecursion (λ (name : Name). ¬ Contains name 47) names
no_slashes [] [] real = tt
no_slashes [] (name ∷ names) real = (real.0.no_slash, no_slashes [] names real.1)
no_slashes (first ∷ front) names real = no_slashes front names real.1

some_long : (names : NameList) → names ≢ [] → 0 < length names
some_long [] some = absurd (some refl)
some_long (name ∷ names) some = omega arith

module _ (tree : Tree) (is : IsTree tree) (top : NameList) (there : IsSome (node_at tree top)) (rules : List Rule) where
  module _ (names : NameList) (entry : DirEntry) (at : IsEntryAt tree top (top ++ names) entry) (some : names ≢ []) where
    stands : IsSome (node_at tree (top ++ names))
    stands = ap is_some at.stands

    deep : 0 < entry.depth
    deep = let d = at.depth_is in let l = length-append top names in let n = some_long names some in omega (arith, d, l, n)

    path : entry.path ≡ path_below (path_text top) (join_with_byte 47 names)
    path = at.path_is ∙ sym (below_place tree top names is there some)

    parts : fitting.names_of (join_with_byte 47 names) ≡ names
    parts = joined names some (no_slashes top names (names_of tree is (top ++ names) stands))

    abbrev said : Option Bool
    said = said_of rules names (is_directory entry.kind)

    says : RulesSay rules names (is_directory entry.kind) said
    says = said_is rules names (is_directory entry.kind)

    out_is : unwrap_or said false ≡ leaves_out rules (path_text top) entry
    out_is = out_some rules (path_text top) entry (join_with_byte 47 names) (is_directory entry.kind) said path refl
        (subst (λ (ns : NameList). RulesSay rules ns (is_directory entry.kind) said) (sym parts) says) deep

    pub out_ignores : leaves_out rules (path_text top) entry ≡ true → Ignores rules names (is_directory entry.kind)
    out_ignores e = subst (RulesSay rules names (is_directory entry.kind)) (true_said said (out_is ∙ e)) says

    pub in_keeps : leaves_out rules (path_text top) entry ≡ false → Ignores rules names (is_directory entry.kind) → ⊥
    in_keeps e ignores =
        let same = one_answer names (is_directory entry.kind) rules said (Some true) says ignores in
        false≢true (sym e ∙ sym out_is ∙ ap (λ s. unwrap_or s false) same)
