use Rattle.std.proofs.Common.{◌≡◌, [], List, sym, ◌∙◌, ap}
use Rattle.walk_rest.specs.declared.level.Level.{Level}
use Rattle.walk_rest.specs.Level.{chain_above}
use Rattle.walk_steps.specs.Seen.{ancestor_path}
use Rattle.walk_steps.proofs.see.SightLemmas.{chain_snoc, found_here, found_below}
use Rattle.walk_steps.proofs.see.ancestor.Goals as goal

pub returns-in-Some : goal.returns-in-Some
returns-in-Some g c =
    let lower = c.args.inside.now.stack.items in
    let level = c.args.level.now in
    sym (ap (ancestor_path c.args.ident) (chain_snoc [] lower level) ∙ found_here c.args.ident level.folder (chain_above [] lower) c.in-Some.path (sym c.in_ok-path.ensures ∙ c.in-Some.is))

pub loop-level-init : goal.loop-level-init
loop-level-init g c =
    let lower : List Level = c.args.inside.now.stack.items in
    let level = c.args.level.now in
    let same : c.as_slice-levels.result.now ≡ lower = c.as_slice-levels.ensures.value in
    ap (ancestor_path c.args.ident) (chain_snoc [] lower level) ∙ (found_below c.args.ident level.folder (chain_above [] lower) (sym c.in_ok-path.ensures ∙ c.in_default.is)
    ∙ ap (λ (levels : List Level). ancestor_path c.args.ident (chain_above [] levels)) (sym same))

pub returns-in-Some-2 : goal.returns-in-Some-2
returns-in-Some-2 g c =
    let lower : List Level = c.in-Some-split_last.lower.now in
    let level = c.in-Some-split_last.level.now in
    let parts = ap (λ (levels : List Level). ancestor_path c.args.ident (chain_above [] levels)) c.in-Some-split_last.ensures.cases.0 in
    sym (c.loop-level.invariant ∙ (parts ∙ (ap (ancestor_path c.args.ident) (chain_snoc [] lower level)
    ∙ found_here c.args.ident level.folder (chain_above [] lower) c.in-Some-2.path (sym c.in_ok-path-2.ensures ∙ c.in-Some-2.is))))

pub loop-level-preserved : goal.loop-level-preserved
loop-level-preserved g c =
    let lower : List Level = c.in-Some-split_last.lower.now in
    let level = c.in-Some-split_last.level.now in
    let parts = ap (λ (levels : List Level). ancestor_path c.args.ident (chain_above [] levels)) c.in-Some-split_last.ensures.cases.0 in
    c.loop-level.invariant ∙ (parts ∙ (ap (ancestor_path c.args.ident) (chain_snoc [] lower level)
    ∙ found_below c.args.ident level.folder (chain_above [] lower) (sym c.in_ok-path-2.ensures ∙ c.in_default-2.is)))
