use Rattle.std.proofs.Common.{sym, ◌∙◌}
use Rattle.std.proofs.lemmas.List.{nil_from_length}
use Rattle.mem_io.specs.MemTreeView.{mem_tree}
use Rattle.mem_io.proofs.walk.NamedLemmas.{names_none, names_up, names_nowhere, names_in_none, names_child, names_a_place}
use Rattle.mem_io.proofs.tree.MemTree.named.Goals as goal

pub returns-in_default-clause-answer : goal.returns-in_default-clause-answer
returns-in_default-clause-answer c =
    names_none (mem_tree c.args.self.now) c.args.path.now _ c.in_ok-parts.ensures (nil_from_length c.in_ok-parts.parts.items (sym c.in_ok-parts.parts.ok.0 ∙ c.in_default.ensures.cases.0))

pub returns-then-eq-clause-answer : goal.returns-then-eq-clause-answer
returns-then-eq-clause-answer c = names_up (mem_tree c.args.self.now) c.args.path.now _ _ _ _ c.in_ok-parts.ensures c.in-Some.ensures.items c.eq.ensures c.if-eq.true

pub returns-in-None-clause-answer : goal.returns-in-None-clause-answer
returns-in-None-clause-answer c =
    names_nowhere (mem_tree c.args.self.now) c.args.path.now _ _ _ _ c.in_ok-parts.ensures c.in-Some.ensures.items c.eq.ensures
    c.if-eq.false _ _ c.reverse.ensures.items c.in_ok-follow.ensures c.in-None.is

pub returns-then-not-is_directory-clause-answer : goal.returns-then-not-is_directory-clause-answer
returns-then-not-is_directory-clause-answer c =
    names_in_none (mem_tree c.args.self.now) c.args.path.now _ _ _ _ c.in_ok-parts.ensures c.in-Some.ensures.items c.eq.ensures
    c.if-eq.false _ _ c.reverse.ensures.items c.in_ok-follow.ensures _ _ c.in-Some-2.is c.is_directory.ensures c.if-not-is_directory.true

pub returns-in_ok-enter-in-Some-2-clause-answer : goal.returns-in_ok-enter-in-Some-2-clause-answer
returns-in_ok-enter-in-Some-2-clause-answer c =
    names_child (mem_tree c.args.self.now) c.args.path.now _ _ _ _ c.in_ok-parts.ensures c.in-Some.ensures.items c.eq.ensures
    c.if-eq.false _ _ c.reverse.ensures.items c.in_ok-follow.ensures _ _ c.in-Some-2.is c.is_directory.ensures _ c.if-not-is_directory.false c.in_ok-enter-in-Some-2.ensures.entered

pub returns-in_ok-enter-in-Some-2-clause-is_place : goal.returns-in_ok-enter-in-Some-2-clause-is_place
returns-in_ok-enter-in-Some-2-clause-is_place c =
    names_a_place (mem_tree c.args.self.now) c.args.path.now _ _ _ _ c.in_ok-parts.ensures c.in-Some.ensures.items c.eq.ensures
    c.if-eq.false _ _ c.reverse.ensures.items c.in_ok-follow.ensures _ _ c.in-Some-2.is c.is_directory.ensures _ c.if-not-is_directory.false c.in_ok-enter-in-Some-2.ensures.entered
