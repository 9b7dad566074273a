use Rattle.std.proofs.Common.{◌≡◌, ◌+◌, ◌∷◌, ◌++◌, [], Some, List, refl, sym, subst, ◌∙◌, ap, arith, append-nil}
use Rattle.walk_rest.specs.declared.level.Level.{Level}
use Rattle.walk_steps.specs.Causes.{faults_due}
use Rattle.walk_steps.specs.Inside.{levels_of}
use Rattle.walk_steps.specs.Listed.{waits_in}
use Rattle.walk_steps.specs.Sound.{AreApart, AreShallow, AreSound, AreRead, opens, open_in}
use Rattle.walk_steps.specs.Work.{weight_all, weight_of}
use Rattle.walk_steps.proofs.leave.SoundLemmas.{sound_split, sound_one, sound_kept, read_split, opens_snoc, weight_kept, weight_snoc}
use Rattle.walk_steps.proofs.leave.WithinLemmas.{within_fewer}
use Rattle.walk_steps.proofs.leave.OthersLemmas.{fresh_top, others_closed, shallow_split}
use Rattle.walk_steps.proofs.next.StepLemmas.{top_is, skipped, skipped_none, rest_of, rest_parts, knows_at, no_items}
use Rattle.walk_steps.proofs.next.CauseLemmas.{due_snoc}
use Rattle.walk_steps.proofs.next.MeetLemmas.{read_top}
use Rattle.walk_steps.proofs.take.WaitsLemmas.{waits_snoc}
use Rattle.walk_steps.proofs.leave.skip_top.Given as given
use Rattle.walk_steps.proofs.leave.skip_top.Goals as goal

pub close_level-requires : goal.close_level-requires
close_level-requires g c =
    let s = g.D.Disk.state c.args.disk.now in
    let xs : List Level = c.args.inside.now.stack.items in
    let level = c.in-Some.level in
    let was = top_is c.args.inside.now level (sym c.take.ensures.value ∙ c.in-Some.is) in
    sound_one s level (sound_split s xs level (subst (AreSound s) was c.requires.lists)).1

pub returns-in-None-clause-skipped : goal.returns-in-None-clause-skipped
returns-in-None-clause-skipped g c = λ tells by rest h.
    let s = g.D.Disk.state c.args.disk.now in
    let level = c.in-Some.level in
    let empty = no_items c.pop.new.self.items (let z = c.in-None.ensures.cases.1 in omega (arith, z, c.pop.new.self.ok.0)) in
    let was = top_is c.args.inside.now level (sym c.take.ensures.value ∙ c.in-Some.is) in
    let same : levels_of c.args.inside.now ≡ c.pop.new.self.items ++ level ∷ [] = was ∙ ap (λ (xs : List Level). xs ++ level ∷ []) (c.in-None.ensures.items ∙ append-nil c.pop.new.self.items) in
    skipped_none s (g.S.Order.sorts c.args.inside.now.order) by _ level rest (ap (λ (xs : List Level). xs ++ level ∷ []) empty)
    (rest_of s (g.S.Order.sorts c.args.inside.now.order) by c.args.inside.now _ (c.pop.new.self.items ++ level ∷ []) rest (record { options = refl; order = refl; root = refl }) refl
    (rest_parts s (g.S.Order.sorts c.args.inside.now.order) by c.args.inside.now (c.pop.new.self.items ++ level ∷ []) rest same h)
    (knows_at s.tree c.args.inside.now (c.pop.new.self.items ++ level ∷ []) same h.device))

-- the levels before, with two on top
was_in : (g : given.Over) (c : goal.Joined-inside-5 g) → levels_of c.args.inside.now ≡ (c.pop.new.self.items ++ c.in-Some-pop.below ∷ []) ++ c.in-Some.level ∷ []
was_in g c = top_is c.args.inside.now c.in-Some.level (sym c.take.ensures.value ∙ c.in-Some.is) ∙ ap (λ (xs : List Level). xs ++ c.in-Some.level ∷ []) c.in-Some-pop.ensures.items

-- how many of them are open
opens_in : (g : given.Over) (c : goal.Joined-inside-5 g) → opens (levels_of c.args.inside.now) ≡ opens (c.pop.new.self.items ++ c.in-Some-pop.below ∷ []) + open_in c.in-Some.level.entries
opens_in g c = ap opens (was_in g c) ∙ opens_snoc (c.pop.new.self.items ++ c.in-Some-pop.below ∷ []) c.in-Some.level

sound_in : (g : given.Over) (c : goal.Joined-inside-5 g) → AreSound (g.D.Disk.state c.args.disk.now) ((c.pop.new.self.items ++ c.in-Some-pop.below ∷ []) ++ c.in-Some.level ∷ [])
sound_in g c = subst (AreSound (g.D.Disk.state c.args.disk.now)) (was_in g c) c.requires.lists

pub returns-in-Some-pop-clause-skipped : goal.returns-in-Some-pop-clause-skipped
returns-in-Some-pop-clause-skipped g c = λ tells by rest h.
    skipped (g.D.Disk.state c.args.disk.now) (g.D.Disk.state c.close_level.new.disk) (g.S.Order.sorts c.args.inside.now.order) by c.args.inside.now _ c.pop.new.self.items c.in-Some-pop.below c.in-Some.level rest
    (record { options = refl; order = refl; root = refl }) refl (was_in g c) refl (sound_in g c) c.close_level.ensures.others c.close_level.ensures.tree.tree h

pub returns-in-Some-pop-clause-sound : goal.returns-in-Some-pop-clause-sound
returns-in-Some-pop-clause-sound g c =
    let s = g.D.Disk.state c.args.disk.now in
    let last = g.D.Disk.state c.close_level.new.disk in
    let levels : List Level = c.pop.new.self.items ++ c.in-Some-pop.below ∷ [] in
    let parts = sound_split s levels c.in-Some.level (sound_in g c) in
    record {
      lists = sound_kept s last c.in-Some.level.entries levels parts.0 parts.2 c.close_level.ensures.others;
      read = (read_split c.pop.new.self.items c.in-Some-pop.below (subst AreRead c.in-Some-pop.ensures.items c.requires.read)).0;
      rooted = λ none. absurd (cc none);
      few = let a = opens_in g c in let f = c.requires.few in omega (arith, a, f);
      shallow = (shallow_split c.args.inside.now.options.max_depth levels c.in-Some.level (subst (AreShallow c.args.inside.now.options.max_depth) (was_in g c) c.requires.shallow)).0;
      fresh = fresh_top c.pop.new.self.items (Some c.in-Some-pop.below) (subst AreRead c.in-Some-pop.ensures.items c.requires.read);
    }

pub returns-in-Some-pop-clause-within : goal.returns-in-Some-pop-clause-within
returns-in-Some-pop-clause-within g c =
    within_fewer 0 (g.D.Disk.state c.args.disk.now) (g.D.Disk.state c.close_level.new.disk) (levels_of c.args.inside.now) (c.pop.new.self.items ++ c.in-Some-pop.below ∷ [])
    (let a = opens_in g c in let k = c.close_level.ensures.count in omega (arith, a, k)) c.close_level.ensures.most

pub returns-in-Some-pop-clause-not_more : goal.returns-in-Some-pop-clause-not_more
returns-in-Some-pop-clause-not_more g c =
    let s = g.D.Disk.state c.args.disk.now in
    let last = g.D.Disk.state c.close_level.new.disk in
    let levels : List Level = c.pop.new.self.items ++ c.in-Some-pop.below ∷ [] in
    let level = c.in-Some.level in
    let parts = sound_split s levels level (sound_in g c) in
    let kept = weight_kept s last level.entries levels parts.2 c.close_level.ensures.others in
    let a : weight_all s (levels_of c.args.inside.now) ≡ weight_all s levels + weight_of s level = ap (weight_all s) (was_in g c) ∙ weight_snoc s levels level in
    let same = c.close_level.ensures.listed in
    omega (arith, a, kept, same)

pub returns-in-Some-pop-clause-others : goal.returns-in-Some-pop-clause-others
returns-in-Some-pop-clause-others g c = λ number apart is.
    others_closed (g.D.Disk.state c.args.disk.now) (g.D.Disk.state c.close_level.new.disk) (c.pop.new.self.items ++ c.in-Some-pop.below ∷ []) c.in-Some.level c.close_level.ensures.others number (subst (AreApart number) (was_in g c) apart) is

pub returns-in-None-clause-others : goal.returns-in-None-clause-others
returns-in-None-clause-others g c = λ number apart is.
    let level = c.in-Some.level in
    let was = top_is c.args.inside.now level (sym c.take.ensures.value ∙ c.in-Some.is) in
    let same : levels_of c.args.inside.now ≡ c.pop.new.self.items ++ level ∷ [] = was ∙ ap (λ (xs : List Level). xs ++ level ∷ []) (c.in-None.ensures.items ∙ append-nil c.pop.new.self.items) in
    (refl, subst (AreApart number) same apart)

-- ---- what isn't due any more

pub returns-in-None-clause-waits : goal.returns-in-None-clause-waits
returns-in-None-clause-waits g c =
    let level = c.in-Some.level in
    let was = ap waits_in (top_is c.args.inside.now level (sym c.take.ensures.value ∙ c.in-Some.is)) in
    let same = ap (λ (xs : List Level). waits_in (xs ++ level ∷ [])) (c.in-None.ensures.items ∙ append-nil c.pop.new.self.items) in
    omega (arith, was, same)

pub returns-in-None-clause-due : goal.returns-in-None-clause-due
returns-in-None-clause-due g c =
    let level = c.in-Some.level in
    let was = ap faults_due (top_is c.args.inside.now level (sym c.take.ensures.value ∙ c.in-Some.is)) in
    let same = ap (λ (xs : List Level). faults_due (xs ++ level ∷ [])) (c.in-None.ensures.items ∙ append-nil c.pop.new.self.items) in
    omega (arith, was, same)

pub returns-in-Some-pop-clause-waits : goal.returns-in-Some-pop-clause-waits
returns-in-Some-pop-clause-waits g c =
    let was = ap waits_in (was_in g c) in
    let all = waits_snoc (c.pop.new.self.items ++ c.in-Some-pop.below ∷ []) c.in-Some.level in
    omega (arith, was, all)

pub returns-in-Some-pop-clause-due : goal.returns-in-Some-pop-clause-due
returns-in-Some-pop-clause-due g c =
    let was = ap faults_due (was_in g c) in
    let all = due_snoc (c.pop.new.self.items ++ c.in-Some-pop.below ∷ []) c.in-Some.level in
    omega (arith, was, all)

-- ---- what lies unread on top

pub returns-in-None-clause-unread : goal.returns-in-None-clause-unread
returns-in-None-clause-unread g c = λ unread.
    let level = c.in-Some.level in
    let was = top_is c.args.inside.now level (sym c.take.ensures.value ∙ c.in-Some.is) in
    sym (was ∙ ap (λ (xs : List Level). xs ++ level ∷ []) (c.in-None.ensures.items ∙ append-nil c.pop.new.self.items))

pub returns-in-Some-pop-clause-unread : goal.returns-in-Some-pop-clause-unread
returns-in-Some-pop-clause-unread g c = λ unread.
    absurd (read_top c.in-Some-pop.below (read_split c.pop.new.self.items c.in-Some-pop.below (subst AreRead c.in-Some-pop.ensures.items c.requires.read)).1 unread)
