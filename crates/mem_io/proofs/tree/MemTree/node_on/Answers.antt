use Rattle.std.proofs.Common.{sym, ap, ◌∙◌, refl}
use Rattle.std.proofs.lemmas.Bool.{false≢true}
use Rattle.std.specs.Map.{lookup}
use Rattle.std.specs.BTreeMap.{is_at}
use Rattle.sd_io.specs.Tree.{name_list_cmp}
use Rattle.mem_io.specs.MemTrail.{names_of}
use Rattle.mem_io.proofs.tree.EntryLemmas.{node_at_top, node_at_below}
use Rattle.mem_io.proofs.trail.TrailLemmas.{below_top, found_here, passed_over}
use Rattle.mem_io.proofs.tree.MemTree.node_on.Goals as goal

pub returns-in-Top : goal.returns-in-Top
returns-in-Top c = rw c.in-Top.is (sym (node_at_top c.args.self.now.top c.args.self.now.nodes.entries))

pub loop-place-preserved : goal.loop-place-preserved
loop-place-preserved c =
    passed_over (names_of c.args.trail.now) c.in-Some.place.now c.in-Some.node.now _ c.next.new.self c.args.self.now.nodes.entries c.in-Some.ensures.steps
    (λ e. false≢true (c.if-is_at.ensures.1 (c.names.ensures ∙ e))) c.loop-place.invariant

pub returns-then-is_at : goal.returns-then-is_at
returns-then-is_at c =
    found_here (names_of c.args.trail.now) c.in-Some.place.now c.in-Some.node.now _ c.next.new.self c.args.self.now.nodes.entries c.in-Some.ensures.steps
    (sym c.names.ensures ∙ c.if-is_at.ensures.0 refl) c.loop-place.invariant
    ∙ sym (node_at_below c.args.self.now.top c.args.self.now.nodes.entries _ (below_top c.args.trail.now c.in_default.not-Top))

pub returns : goal.returns
returns c =
    ap (lookup (is_at (name_list_cmp (names_of c.args.trail.now)))) (sym c.in-None.ensures.steps.0) ∙ c.loop-place.invariant
    ∙ sym (node_at_below c.args.self.now.top c.args.self.now.nodes.entries _ (below_top c.args.trail.now c.in_default.not-Top))
