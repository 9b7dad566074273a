use Rattle.std.proofs.Common.{◌≡◌, sym, ◌∙◌, ap, subst, rules, true}
use Rattle.std.specs.Prelude.{option_map, is_some}
use Rattle.sd_io.specs.Tree.{NameList, node_at}
use Rattle.sd_io.specs.Outcomes.{content_of, content_at}
use Rattle.mem_io.specs.Images.{StandsAlone, SameDevicesOutside}
use Rattle.mem_io.specs.Medium.{told_tree, outcomes_told}
use Rattle.mem_io.specs.MemNode as node
use Rattle.mem_io.specs.declared.medium.Medium.{Medium}
use Rattle.mem_io.proofs.crash.AloneLemmas.{alone_built}
use Rattle.mem_io.proofs.crash.DeviceLemmas.{nothing_left, top_stands, same_outside, outside_then, outside_added}
use Rattle.mem_io.proofs.medium.Medium.leave.Goals as goal
use Rattle.mem_io.proofs.medium.Medium.leave.Goals.{then-not-is_top+in_ok-try_clone+in_ok-build, else-not-is_top}

pub returns-in_default-clause-takes : goal.returns-in_default-clause-takes
returns-in_default-clause-takes c = λ below. ap content_of (c.requires.free below) ∙ ap (option_map node.content_of) (sym c.in_default.is) ∙ c.in_ok-content.ensures

pub returns-in_default-clause-device : goal.returns-in_default-clause-device
returns-in_default-clause-device c = nothing_left _ _ (sym c.in_ok-content.ensures ∙ ap (option_map node.content_of) c.in_default.is)

pub returns-in_default-clause-outside : goal.returns-in_default-clause-outside
returns-in_default-clause-outside c = same_outside c.args.place.now (told_tree c.args.self.now)

pub keep_dev-requires : goal.keep_dev-requires
keep_dev-requires c =
    let place = c.args.place.now in
    elim c.if-not-is_top.branch [
      | then-not-is_top+in_ok-try_clone+in_ok-build w ↦
          ap is_some ((λ i. node_at (told_tree (w.self-is i)) place) ∙ (λ i. node_at (told_tree w.build.new.self) (sym w.in_ok-try_clone.ensures i)) ∙ w.in_ok-build.ensures.added.stands)
      | else-not-is_top w ↦
          let yes : c.is_top.result ≡ true = search rules in
          ap is_some (λ i. node_at (told_tree (w.self-is i)) place) ∙ top_stands (told_tree c.args.self.now) place (c.is_top.ensures.0 yes) c.args.self.now.tree.sound.is_tree.top
    ]

pub returns-clause-outside : goal.returns-clause-outside
returns-clause-outside c =
    let place = c.args.place.now in
    outside_then place (told_tree c.args.self.now) (told_tree c.if-not-is_top.self) (told_tree c.keep_dev.new.self) (elim c.if-not-is_top.branch [
      | then-not-is_top+in_ok-try_clone+in_ok-build w ↦
          subst (λ (m : Medium). SameDevicesOutside place (told_tree c.args.self.now) (told_tree m)) (sym w.self-is)
          (subst (λ (q : NameList). SameDevicesOutside q (told_tree c.args.self.now) (told_tree w.build.new.self)) w.in_ok-try_clone.ensures (outside_added _ (told_tree c.args.self.now) (told_tree w.build.new.self) w.in_ok-build.ensures.added.others))
      | else-not-is_top w ↦ subst (λ (m : Medium). SameDevicesOutside place (told_tree c.args.self.now) (told_tree m)) (sym w.self-is) (same_outside place (told_tree c.args.self.now))
    ]) c.keep_dev.ensures.outside

pub returns-clause-takes : goal.returns-clause-takes
returns-clause-takes c =
    let place = c.args.place.now in
    elim c.if-not-is_top.branch [
      | then-not-is_top+in_ok-try_clone+in_ok-build w ↦ λ below.
          c.keep_dev.ensures.contents place ∙ (λ i. content_at (told_tree (w.self-is i)) place) ∙ (λ i. content_at (told_tree w.build.new.self) (sym w.in_ok-try_clone.ensures i))
          ∙ ap content_of w.in_ok-build.ensures.added.stands ∙ ap (option_map node.content_of) (sym c.in-Some.is) ∙ c.in_ok-content.ensures
      | else-not-is_top w ↦ λ below. let yes : c.is_top.result ≡ true = search rules in absurd (below (c.is_top.ensures.0 yes))
    ]

pub returns-clause-alone : goal.returns-clause-alone
returns-clause-alone c = λ alone. c.keep_dev.ensures.alone (elim c.if-not-is_top.branch [
  | then-not-is_top+in_ok-try_clone+in_ok-build w ↦
      subst (λ (m : Medium). StandsAlone (outcomes_told m) (told_tree m)) (sym w.self-is)
      (alone_built c.args.self.now w.build.new.self _ _ _ w.in_ok-build.ensures.added w.in_ok-build.ensures.noted alone)
  | else-not-is_top w ↦ subst (λ (m : Medium). StandsAlone (outcomes_told m) (told_tree m)) (sym w.self-is) alone
])
