use Rattle.std.proofs.Common.{◌≡◌, ℕ, ◌+◌, true, false, List, ◌++◌, map, take, drop, refl, sym, ap, ◌∙◌, subst, true≢false, arith}
use Rattle.std.proofs.lemmas.List.{append_assoc, take_all}
use Rattle.hir_tree.specs.Tree.{tree_of}
use Rattle.pattern_core.specs.Answers.{HasOneTwice}
use Rattle.grep_regex.specs.Options.{names_in}
use Rattle.grep_regex.specs.ReadSoFar.{AreAdded, AreKnown, names_in_all}
use Rattle.grep_regex.specs.declared.names.Named.{Named}
use Rattle.grep_regex.proofs.reading.KnownLemmas.{all_apart, all_pushed, names_only, none_known}
use Rattle.grep_regex.proofs.reading.ReadLemmas.{twice_left}
use Rattle.grep_regex.proofs.reading.has_double_name.Goals as goal

abbrev names_of : List Named → List (List ℕ)
names_of names = map (λ named. named.name) names

abbrev first_of : List (List ℕ × ℕ) → List (List ℕ)
first_of pairs = map (λ pair. pair.0) pairs

pub loop-hir-init : goal.loop-hir-init
loop-hir-init c = none_known c.new-known.result c.new-known.ensures.empty

pub returns-then-not-branch : goal.returns-then-not-branch
returns-then-not-branch c =
    let hirs = c.args.hirs.now in
    let i = c.loop-hir.hir-index in
    let hir = c.hir-item.result in
    let before = names_in_all (map tree_of (take i hirs)) in
    let here = first_of (names_in (tree_of hir)) in
    let behind = names_in_all (map tree_of (drop (i + 1) hirs)) in
    let names : names_of c.in_ok-names_in.field-0.items ≡ here = names_only c.in_ok-names_in.field-0.items (tree_of hir) c.in_ok-names_in.ensures in
    let added : AreAdded c.add_names.new.known (before ++ names_of c.in_ok-names_in.field-0.items) false =
    subst (AreAdded c.add_names.new.known (before ++ names_of c.in_ok-names_in.field-0.items)) c.if-not-branch.true (c.in_ok-add_names.ensures before c.loop-hir.invariant) in
    let twice : HasOneTwice (before ++ here) = subst (λ ns. HasOneTwice (before ++ ns)) names added in
    let all = all_apart hirs i hir (omega arith) (sym c.hir-item.is) in
    (λ _. subst HasOneTwice (append_assoc before here behind ∙ all) (twice_left (before ++ here) behind twice), λ _. refl)

pub loop-hir-preserved : goal.loop-hir-preserved
loop-hir-preserved c =
    let hirs = c.args.hirs.now in
    let i = c.loop-hir.hir-index in
    let hir = c.hir-item.result in
    let before = names_in_all (map tree_of (take i hirs)) in
    let here = first_of (names_in (tree_of hir)) in
    let names : names_of c.in_ok-names_in.field-0.items ≡ here = names_only c.in_ok-names_in.field-0.items (tree_of hir) c.in_ok-names_in.ensures in
    let added : AreAdded c.add_names.new.known (before ++ names_of c.in_ok-names_in.field-0.items) true =
    subst (AreAdded c.add_names.new.known (before ++ names_of c.in_ok-names_in.field-0.items)) c.if-not-branch.false (c.in_ok-add_names.ensures before c.loop-hir.invariant) in
    subst (AreKnown c.add_names.new.known) (ap (λ ns. before ++ ns) names ∙ all_pushed hirs i hir (omega arith) (sym c.hir-item.is)) added

pub returns : goal.returns
returns c =
    let all : take c.loop-hir.hir-index c.args.hirs.now ≡ c.args.hirs.now = take_all c.loop-hir.hir-index c.args.hirs.now (omega arith) in (
      λ t. absurd (true≢false (sym t)),
      λ twice. absurd (c.loop-hir.invariant.single (subst (λ hirs. HasOneTwice (names_in_all (map tree_of hirs))) (sym all) twice)),
    )
