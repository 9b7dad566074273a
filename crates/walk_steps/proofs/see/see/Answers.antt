use Rattle.std.proofs.Common.{◌≡◌, true, sym, subst, ◌∙◌, ap}
use Rattle.std.specs.Prelude.{IfOk, IfErr}
use Rattle.walk_rest.specs.declared.options.Options.{Options}
use Rattle.walk_rest.specs.Plan.{Seen, node_to}
use Rattle.walk_steps.specs.Inside.{chain_of, with_top}
use Rattle.walk_steps.specs.Seen.{seen_of, FailsAsSeen}
use Rattle.walk_steps.proofs.see.SightLemmas.{seen_followed, seen_root, seen_as_directory}
use Rattle.walk_steps.proofs.see.see.Goals as goal

pub returns-then-inside-clause-seen : goal.returns-then-inside-clause-seen
returns-then-inside-clause-seen g c = λ tells manner by.
    let node = node_to (g.D.Disk.state c.args.disk.now).tree c.args.entry.path true in
    let same = seen_followed manner (chain_of (with_top c.args.inside.now c.args.level.now)) c.args.entry node
    (ap (λ (o : Options). o.follow_links) by.options ∙ c.if-inside.true) (c.is_symlink.ensures.0 c.if-is_symlink.true) in
    let P : Seen → Type 0 = λ s. IfOk c.see_link.result (λ sight. seen_of sight ≡ s) in
    subst P (sym same) (c.see_link.ensures.seen tells manner by)

pub returns-then-inside-clause-failed : goal.returns-then-inside-clause-failed
returns-then-inside-clause-failed g c = λ tells manner by.
    let node = node_to (g.D.Disk.state c.args.disk.now).tree c.args.entry.path true in
    let same = seen_followed manner (chain_of (with_top c.args.inside.now c.args.level.now)) c.args.entry node
    (ap (λ (o : Options). o.follow_links) by.options ∙ c.if-inside.true) (c.is_symlink.ensures.0 c.if-is_symlink.true) in
    let P : Seen → Type 0 = λ s. IfErr c.see_link.result (FailsAsSeen (g.D.Disk.state c.args.disk.now).faults (g.D.Disk.state c.see_link.new.disk).faults c.args.entry s) in
    subst P (sym same) (c.see_link.ensures.failed tells manner by)

pub returns-then-inside-2-clause-seen : goal.returns-then-inside-2-clause-seen
returns-then-inside-2-clause-seen g c = λ tells manner by.
    let node = node_to (g.D.Disk.state c.args.disk.now).tree c.args.entry.path true in
    let same = seen_root manner (chain_of (with_top c.args.inside.now c.args.level.now)) c.args.entry node
    (ap (λ (o : Options). o.follow_links) by.options ∙ c.if-inside.false) (c.is_symlink.ensures.0 c.if-is_symlink.true) c.if-entry-eq0.true
    (ap (λ (o : Options). o.follow_root_links) by.options ∙ c.if-inside-2.true) in
    let P : Seen → Type 0 = λ s. IfOk c.see_root_link.result (λ sight. seen_of sight ≡ s) in
    subst P (sym same) (c.see_root_link.ensures.seen tells manner by)

pub returns-then-inside-2-clause-failed : goal.returns-then-inside-2-clause-failed
returns-then-inside-2-clause-failed g c = λ tells manner by.
    let node = node_to (g.D.Disk.state c.args.disk.now).tree c.args.entry.path true in
    let same = seen_root manner (chain_of (with_top c.args.inside.now c.args.level.now)) c.args.entry node
    (ap (λ (o : Options). o.follow_links) by.options ∙ c.if-inside.false) (c.is_symlink.ensures.0 c.if-is_symlink.true) c.if-entry-eq0.true
    (ap (λ (o : Options). o.follow_root_links) by.options ∙ c.if-inside-2.true) in
    let P : Seen → Type 0 = λ s. IfErr c.see_root_link.result (FailsAsSeen (g.D.Disk.state c.args.disk.now).faults (g.D.Disk.state c.see_root_link.new.disk).faults c.args.entry s) in
    subst P (sym same) (c.see_root_link.ensures.failed tells manner)

pub returns-then-is_dir-clause-seen : goal.returns-then-is_dir-clause-seen
returns-then-is_dir-clause-seen g c = λ tells manner by.
    let node = node_to (g.D.Disk.state c.args.disk.now).tree c.args.entry.path true in
    let same = seen_as_directory manner (chain_of (with_top c.args.inside.now c.args.level.now)) c.args.entry node (c.is_dir.ensures.0 c.if-is_dir.true) in
    let P : Seen → Type 0 = λ s. IfOk c.see_directory.result (λ sight. seen_of sight ≡ s) in
    subst P (sym same) (c.see_directory.ensures.seen tells manner by)
