use Rattle.std.proofs.Common.{◌≡◌, ◌++◌, [], Some, Bool, Option, refl, sym, subst, ◌∙◌, ap, arith, inl, inr, append-nil}
use Rattle.walk_rest.specs.declared.level.Level.{Level}
use Rattle.walk_steps.specs.Causes.{IsCaused, faults_due, faults_told}
use Rattle.walk_steps.specs.Inside.{HasRest, levels_of, top_levels, with_top}
use Rattle.walk_steps.specs.Progress.{IsTurnPart}
use Rattle.walk_steps.specs.Steps.{MovesTo, StepsTo}
use Rattle.walk_steps.specs.Sound.{AreApart, IsSound, KeepsWalk, opens, open_limit}
use Rattle.walk_steps.specs.Work.{work_in}
use Rattle.walk_steps.proofs.leave.OthersLemmas.{others_on}
use Rattle.walk_steps.proofs.leave.WithinLemmas.{sound_gone, keeps_on, keeps_same, retop_levels, within_on, within_more, gone_lighter}
use Rattle.walk_steps.proofs.next.StepLemmas.{moves_none, moves_more, moves_last, none_left, rest_retop}
use Rattle.walk_steps.proofs.next.CauseLemmas.{caused_later, counts_from, counts_on, no_level, still_fits}
use Rattle.walk_steps.proofs.next.next_item.Given as given
use Rattle.walk_steps.proofs.leave.SoundLemmas.{sound_front}
use Rattle.walk_steps.proofs.next.ListedLemmas.{risen_from, risen_on, room_at, room_entered, settled_at, to_list_at, to_list_none}
use Rattle.walk_steps.specs.Listed.{GivesAtOnce, IsToListOnTop, waits_in}
use Rattle.walk_steps.proofs.next.next_item.Goals as goal
use Rattle.walk_steps.proofs.next.next_item.Goals.{After-give_up}

pub loop-level-init : goal.loop-level-init
loop-level-init g c = record {
  sound = c.requires.sound;
  keeps = keeps_same (g.D.Disk.state c.args.disk.now) c.args.inside.now c.args.inside.now (record { options = refl; order = refl; root = refl }) refl c.requires.sound.lists;
  less = omega arith;
  moved = λ tells by rest same h. moves_none (g.D.Disk.state c.args.disk.now) (g.S.Order.sorts c.args.inside.now.order) by c.args.inside.now rest h;
  over = λ e. e;
  counted = λ fits. inl (omega arith);
  each = omega arith;
  once = λ unsorted gives few. (
    refl,
    room_entered (g.D.Disk.state c.args.disk.now) (open_limit c.args.inside.now.options) c.args.inside.now.options.max_depth c.args.inside.now.stack.items c.args.inside.now.top
        (sound_front (g.D.Disk.state c.args.disk.now) c.args.inside.now.stack.items (top_levels c.args.inside.now.top) c.requires.sound.lists) few,
  );
  whole = λ tells by count compares sorts gives to_list none. (count, to_list, refl);
}

pub loop-level-preserved : goal.loop-level-preserved
loop-level-preserved g c =
    let s0 = g.D.Disk.state c.args.disk.now in
    let s = g.D.Disk.state c.loop-level.disk in
    let now = g.D.Disk.state c.turn.new.disk in
    let inv = c.loop-level.invariant in
    let k = c.turn.ensures.keeps in
    let top = sym c.take.ensures.value ∙ c.in-Some.is in
    let mid = with_top c.loop-level.inside c.in-Some.level in
    let levels = retop_levels c.loop-level.inside c.loop-level.inside c.in-Some.level top refl in
    let put = keeps_same s c.loop-level.inside mid (record { options = refl; order = refl; root = refl }) levels inv.sound.lists in
    let order = ap g.S.Order.sorts inv.keeps.same.order in
    let order_now = ap g.S.Order.sorts (k.same.order ∙ inv.keeps.same.order) in
    let keeps = keeps_on s0 s now c.args.inside.now c.loop-level.inside c.turn.new.inside inv.keeps (keeps_on s s now c.loop-level.inside mid c.turn.new.inside put k) in
    let P : Bool → Type 0 = λ b. IsSound now b c.turn.new.inside in
    let part = (rw c.in-Ok-None.field-0-is at c.in-Ok-None.ensures.turns).part in
    record {
      sound = subst P order_now part.sound;
      keeps = keeps;
      over = λ e. absurd (no_level c.loop-level.inside c.in-Some.level (inv.over e) top);
      less = let a = part.less in let b = inv.less in let d = ap (work_in s) levels in omega (arith, a, b, d);
      moved = λ tells by rest same h.
          (let m = inv.moved tells by rest same h in
          let C : _ → Type 0 = λ o. g.S.Order.compares_by o by in
          let H : Bool → Type 0 = λ b. HasRest s b by mid m.new in
          let has = rest_retop s (g.S.Order.sorts c.args.inside.now.order) by c.loop-level.inside mid m.new (record { options = refl; order = refl; root = refl }) refl levels m.left in
          let turned = part.turns tells by m.new (subst C (sym inv.keeps.same.order) same) (subst H (sym order) has) in
          let M : Bool → Type 0 = λ b. MovesTo s b by m.new now c.turn.new.inside in
          moves_more s0 s now (g.S.Order.sorts c.args.inside.now.order) by c.loop-level.inside c.turn.new.inside rest inv.keeps.faults k.faults m (subst M order turned));
      counted = λ fits.
          (counts_on 0 s0 s now (levels_of c.args.inside.now) (levels_of c.loop-level.inside) (levels_of c.turn.new.inside) k.faults (inv.counted fits)
          (counts_from 0 s s now (levels_of c.loop-level.inside) (levels_of mid) (levels_of c.turn.new.inside) (omega arith) (ap faults_due levels)
          (part.counted (still_fits g.D.Disk.tells g.S.Order.compares_by g.S.Order.sorts s0 s c.args.inside.now c.loop-level.inside c.in-Some.level fits inv.moved inv.keeps.same (sym c.take.ensures.value ∙ c.in-Some.is)))));
      each =
          (let more = part.listed_each in
          let same = ap waits_in levels in
          let so_far = inv.each in
          omega (arith, more, same, so_far));
      once = λ unsorted gives few.
          (let o = inv.once unsorted gives few in
          let options = inv.keeps.same.options in
          let given_here = subst GivesAtOnce (sym options) gives in
          let passed = part.passes (order ∙ unsorted) given_here (room_at c.args.inside.now.options c.loop-level.inside.options c.loop-level.inside.stack.items c.loop-level.inside.top c.in-Some.level inv.keeps.same.options (sym c.take.ensures.value ∙ c.in-Some.is) o.1) in
          (passed ∙ o.0, inr (settled_at c.args.inside.now.options c.loop-level.inside.options c.turn.new.inside.top inv.keeps.same.options (part.settles (subst GivesAtOnce (sym inv.keeps.same.options) gives)))));
      whole = λ tells by count compares sorts gives to_list none.
          (let a = inv.keeps.faults in
          let w = inv.whole tells by count compares sorts gives to_list (λ risen. none (risen_on _ _ _ k.faults risen)) in
          let e = w.2 in
          let l = part.listed_whole tells by w.0 (let C : _ → Type 0 = λ o. g.S.Order.compares_by o by in subst C (sym inv.keeps.same.order) compares) (order ∙ sorts) (to_list_at (g.D.Disk.state c.loop-level.disk).tree c.args.inside.now.options c.loop-level.inside.options c.loop-level.inside.top c.in-Some.level w.0 inv.keeps.same.options (sym c.take.ensures.value ∙ c.in-Some.is) w.1) (λ risen. none (risen_from _ _ _ a risen)) in
          (0, to_list_none (g.D.Disk.state c.turn.new.disk).tree c.args.inside.now.options.max_depth c.turn.new.inside.top (settled_at c.args.inside.now.options c.loop-level.inside.options c.turn.new.inside.top inv.keeps.same.options (part.settles (subst GivesAtOnce (sym inv.keeps.same.options) gives))), omega (arith, e, l)));
    }

-- its last turn
turned : (g : given.Over) (c : goal.In-Ok-Some g)
    → IsTurnPart g.D.Disk.tells g.S.Order.sorts g.S.Order.compares_by (g.D.Disk.state c.loop-level.disk) (with_top c.loop-level.inside c.in-Some.level) (Some c.in-Ok-Some.item)
    (g.D.Disk.state c.turn.new.disk) c.turn.new.inside
turned g c = (rw c.in-Ok-Some.field-0-is at c.in-Ok-Some.ensures.turns).part

-- why the answer came
caused : (g : given.Over) (c : goal.In-Ok-Some g) → IsCaused g.D.Disk.tells (g.D.Disk.state c.args.disk.now) (g.D.Disk.state c.turn.new.disk) (Some c.in-Ok-Some.item) c.turn.new.inside
caused g c =
    caused_later g.D.Disk.tells (g.D.Disk.state c.args.disk.now) (g.D.Disk.state c.loop-level.disk) (g.D.Disk.state c.turn.new.disk) (Some c.in-Ok-Some.item) c.turn.new.inside c.loop-level.invariant.keeps.faults
    (turned g c).caused

-- what the loop kept, with its last turn
kept : (g : given.Over) (c : goal.In-Ok-Some g) → KeepsWalk (g.D.Disk.state c.args.disk.now) c.args.inside.now (g.D.Disk.state c.turn.new.disk) c.turn.new.inside
kept g c =
    let s0 = g.D.Disk.state c.args.disk.now in
    let s = g.D.Disk.state c.loop-level.disk in
    let now = g.D.Disk.state c.turn.new.disk in
    let inv = c.loop-level.invariant in
    let top = sym c.take.ensures.value ∙ c.in-Some.is in
    let mid = with_top c.loop-level.inside c.in-Some.level in
    let put = keeps_same s c.loop-level.inside mid (record { options = refl; order = refl; root = refl }) (retop_levels c.loop-level.inside c.loop-level.inside c.in-Some.level top refl) inv.sound.lists in
    keeps_on s0 s now c.args.inside.now c.loop-level.inside c.turn.new.inside inv.keeps (keeps_on s s now c.loop-level.inside mid c.turn.new.inside put c.turn.ensures.keeps)

-- the same, where that turn refused
kept_err : (g : given.Over) (c : After-give_up g) → KeepsWalk (g.D.Disk.state c.args.disk.now) c.args.inside.now (g.D.Disk.state c.turn.new.disk) c.turn.new.inside
kept_err g c =
    let s0 = g.D.Disk.state c.args.disk.now in
    let s = g.D.Disk.state c.loop-level.disk in
    let now = g.D.Disk.state c.turn.new.disk in
    let inv = c.loop-level.invariant in
    let top = sym c.take.ensures.value ∙ c.in-Some.is in
    let mid = with_top c.loop-level.inside c.in-Some.level in
    let put = keeps_same s c.loop-level.inside mid (record { options = refl; order = refl; root = refl }) (retop_levels c.loop-level.inside c.loop-level.inside c.in-Some.level top refl) inv.sound.lists in
    keeps_on s0 s now c.args.inside.now c.loop-level.inside c.turn.new.inside inv.keeps (keeps_on s s now c.loop-level.inside mid c.turn.new.inside put c.turn.ensures.keeps)

pub returns-in-Ok-Some-clause-gives : goal.returns-in-Ok-Some-clause-gives
returns-in-Ok-Some-clause-gives g c = record {
  step =
      (λ tells by rest same h.
      let s0 = g.D.Disk.state c.args.disk.now in
      let s = g.D.Disk.state c.loop-level.disk in
      let now = g.D.Disk.state c.turn.new.disk in
      let inv = c.loop-level.invariant in
      let mid = with_top c.loop-level.inside c.in-Some.level in
      let levels = retop_levels c.loop-level.inside c.loop-level.inside c.in-Some.level (sym c.take.ensures.value ∙ c.in-Some.is) refl in
      let order = ap g.S.Order.sorts inv.keeps.same.order in
      let m = inv.moved tells by rest same h in
      let C : _ → Type 0 = λ o. g.S.Order.compares_by o by in
      let H : Bool → Type 0 = λ b. HasRest s b by mid m.new in
      let has = rest_retop s (g.S.Order.sorts c.args.inside.now.order) by c.loop-level.inside mid m.new (record { options = refl; order = refl; root = refl }) refl levels m.left in
      let step = (turned g c).turns tells by m.new (subst C (sym inv.keeps.same.order) same) (subst H (sym order) has) in
      let M : Bool → Type 0 = λ b. StepsTo s b by m.new (Some c.in-Ok-Some.item) now c.turn.new.inside in
      inr (moves_last s0 s now (g.S.Order.sorts c.args.inside.now.order) by c.loop-level.inside c.turn.new.inside rest (Some c.in-Ok-Some.item) inv.keeps.faults c.turn.ensures.keeps.faults m (subst M order step)));
  over = λ e. absurd (no_level c.loop-level.inside c.in-Some.level (c.loop-level.invariant.over e) (sym c.take.ensures.value ∙ c.in-Some.is));
  ended = tt;
  gave_up = λ e. absurd ((turned g c).named e);
  sound =
      (let k = c.turn.ensures.keeps in
      let P : Bool → Type 0 = λ b. IsSound (g.D.Disk.state c.turn.new.disk) b c.turn.new.inside in
      subst P (ap g.S.Order.sorts (k.same.order ∙ c.loop-level.invariant.keeps.same.order)) (turned g c).sound);
  same = (kept g c).same;
  not_more =
      (let a = (turned g c).less in
      let b = c.loop-level.invariant.less in
      let d = ap (work_in (g.D.Disk.state c.loop-level.disk)) (retop_levels c.loop-level.inside c.loop-level.inside c.in-Some.level (sym c.take.ensures.value ∙ c.in-Some.is) refl) in
      omega (arith, a, b, d));
  within = (kept g c).within;
  others = (kept g c).others;
  tree = (kept g c).tree;
  faults = (kept g c).faults;
  later = (kept g c).later;
  counted =
      (λ fits.
      let s0 = g.D.Disk.state c.args.disk.now in
      let s = g.D.Disk.state c.loop-level.disk in
      let now = g.D.Disk.state c.turn.new.disk in
      let inv = c.loop-level.invariant in
      let told = faults_told g.D.Disk.tells (Some c.in-Ok-Some.item) in
      let mid = with_top c.loop-level.inside c.in-Some.level in
      let levels = retop_levels c.loop-level.inside c.loop-level.inside c.in-Some.level (sym c.take.ensures.value ∙ c.in-Some.is) refl in
      counts_on told s0 s now (levels_of c.args.inside.now) (levels_of c.loop-level.inside) (levels_of c.turn.new.inside) c.turn.ensures.keeps.faults (inv.counted fits)
      (counts_from told s s now (levels_of c.loop-level.inside) (levels_of mid) (levels_of c.turn.new.inside) (omega arith) (ap faults_due levels)
      ((turned g c).counted (still_fits g.D.Disk.tells g.S.Order.compares_by g.S.Order.sorts s0 s c.args.inside.now c.loop-level.inside c.in-Some.level fits inv.moved inv.keeps.same (sym c.take.ensures.value ∙ c.in-Some.is)))));
  absent = (caused g c).absent;
  looped = (caused g c).looped;
  uncapped = (caused g c).uncapped;
  entered = (caused g c).entered (λ e. cc e);
  listed_each =
      (let s = g.D.Disk.state c.loop-level.disk in
      let now = g.D.Disk.state c.turn.new.disk in
      let mid = with_top c.loop-level.inside c.in-Some.level in
      let same = ap waits_in (retop_levels c.loop-level.inside c.loop-level.inside c.in-Some.level (sym c.take.ensures.value ∙ c.in-Some.is) refl) in
      let more = (turned g c).listed_each in
      let so_far = c.loop-level.invariant.each in
      omega (arith, more, same, so_far));
  listed_once =
      (λ unsorted gives few.
      let inv = c.loop-level.invariant in
      let o = inv.once unsorted gives few in
      let same = o.0 in
      let a = c.turn.ensures.listed_once (ap g.S.Order.sorts inv.keeps.same.order ∙ unsorted) (subst GivesAtOnce (sym inv.keeps.same.options) gives)
      (room_at c.args.inside.now.options c.loop-level.inside.options c.loop-level.inside.stack.items c.loop-level.inside.top c.in-Some.level inv.keeps.same.options (sym c.take.ensures.value ∙ c.in-Some.is) o.1) in
      omega (arith, same, a));
  listed_whole =
      (λ tells by count compares sorts gives to_list none named.
      let inv = c.loop-level.invariant in
      let a = inv.keeps.faults in
      let b = c.turn.ensures.keeps.faults in
      let w = inv.whole tells by count compares sorts gives to_list (λ risen. none (risen_on _ _ _ b risen)) in
      let k = w.2 in
      let l = (turned g c).listed_whole tells by w.0 (let C : _ → Type 0 = λ o. g.S.Order.compares_by o by in subst C (sym inv.keeps.same.order) compares) (ap g.S.Order.sorts inv.keeps.same.order ∙ sorts) (to_list_at (g.D.Disk.state c.loop-level.disk).tree c.args.inside.now.options c.loop-level.inside.options c.loop-level.inside.top c.in-Some.level w.0 inv.keeps.same.options (sym c.take.ensures.value ∙ c.in-Some.is) w.1) (λ risen. none (risen_from _ _ _ a risen)) in
      omega (arith, k, l));
}

pub returns-in-Err-clause-gives : goal.returns-in-Err-clause-gives
returns-in-Err-clause-gives g c = record {
  step = λ tells by rest same h. inl refl;
  over = λ e. absurd (no_level c.loop-level.inside c.in-Some.level (c.loop-level.invariant.over e) (sym c.take.ensures.value ∙ c.in-Some.is));
  ended = tt;
  gave_up = λ e. c.give_up.ensures.gone;
  sound = sound_gone _ _ c.give_up.new.inside c.give_up.ensures.gone;
  same = (let k = kept_err g c in let u = c.give_up.ensures.same in record { options = u.options ∙ k.same.options; order = u.order ∙ k.same.order; root = u.root ∙ k.same.root });
  not_more =
      (let fewer = gone_lighter (g.D.Disk.state c.loop-level.disk) (g.D.Disk.state c.give_up.new.disk) c.loop-level.inside c.give_up.new.inside c.in-Some.level _ (sym c.take.ensures.value ∙ c.in-Some.is) c.give_up.ensures.gone
      (let a = c.turn.ensures.keeps.later in let b = c.give_up.ensures.listed in omega (arith, a, b)) c.loop-level.invariant.less in
      omega (arith, fewer));
  within =
      (let s0 = g.D.Disk.state c.args.disk.now in
      let s = g.D.Disk.state c.loop-level.disk in
      let now = g.D.Disk.state c.turn.new.disk in
      let inv = c.loop-level.invariant in
      let limit = open_limit c.args.inside.now.options in
      let top = sym c.take.ensures.value ∙ c.in-Some.is in
      let mid = with_top c.loop-level.inside c.in-Some.level in
      let put = keeps_same s c.loop-level.inside mid (record { options = refl; order = refl; root = refl }) (retop_levels c.loop-level.inside c.loop-level.inside c.in-Some.level top refl) inv.sound.lists in
      let so_far = (keeps_on s0 s now c.args.inside.now c.loop-level.inside c.turn.new.inside inv.keeps (keeps_on s s now c.loop-level.inside mid c.turn.new.inside put c.turn.ensures.keeps)).within in
      let closed = within_more 0 limit now (g.D.Disk.state c.give_up.new.disk) (levels_of c.turn.new.inside) [] (omega arith) c.give_up.ensures.within in
      let all = within_on limit s0 now (g.D.Disk.state c.give_up.new.disk) (levels_of c.args.inside.now) (levels_of c.turn.new.inside) [] so_far closed in
      let none = ap opens c.give_up.ensures.gone in
      λ others e. let w = all others e in (let a = w.0 in omega (arith, a, none), w.1));
  others =
      (let s0 = g.D.Disk.state c.args.disk.now in
      let s = g.D.Disk.state c.loop-level.disk in
      let now = g.D.Disk.state c.turn.new.disk in
      let last = g.D.Disk.state c.give_up.new.disk in
      let inv = c.loop-level.invariant in
      let top = sym c.take.ensures.value ∙ c.in-Some.is in
      let mid = with_top c.loop-level.inside c.in-Some.level in
      let put = keeps_same s c.loop-level.inside mid (record { options = refl; order = refl; root = refl }) (retop_levels c.loop-level.inside c.loop-level.inside c.in-Some.level top refl) inv.sound.lists in
      let so_far = (keeps_on s0 s now c.args.inside.now c.loop-level.inside c.turn.new.inside inv.keeps (keeps_on s s now c.loop-level.inside mid c.turn.new.inside put c.turn.ensures.keeps)).others in
      let all = others_on s0 now last (levels_of c.args.inside.now) (levels_of c.turn.new.inside) [] so_far c.give_up.ensures.others in
      λ number apart is. let k = all number apart is in (k.0, subst (AreApart number) (sym c.give_up.ensures.gone) k.1));
  tree = (let k = kept_err g c in let u = c.give_up.ensures.tree in record { tree = u.tree ∙ k.tree.tree; clock = u.clock ∙ k.tree.clock; outcomes = u.outcomes ∙ k.tree.outcomes });
  faults = (let k = kept_err g c in let a = k.faults in let b = c.give_up.ensures.faults in omega (arith, a, b));
  later = (let k = kept_err g c in let a = k.later in let b = c.give_up.ensures.listed in omega (arith, a, b));
  counted =
      (λ fits.
      let a = c.loop-level.invariant.keeps.faults in
      let b = c.turn.ensures.keeps.faults in
      let d = c.give_up.ensures.faults in
      let none = ap faults_due c.give_up.ensures.gone in
      inl (omega (arith, a, b, d, none)));
  absent = λ untold path depth e. absurd (cc e);
  looped = λ path depth ancestor ident e. absurd (cc e);
  uncapped = λ e. cc e;
  entered = λ level folder top unread in_it. absurd (no_level c.give_up.new.inside level c.give_up.ensures.gone top);
  listed_each =
      (let none = ap waits_in c.give_up.ensures.gone in
      let a = c.loop-level.invariant.keeps.later in
      let b = c.turn.ensures.keeps.later in
      let d = c.give_up.ensures.listed in
      omega (arith, none, a, b, d));
  listed_once =
      (λ unsorted gives few.
      let inv = c.loop-level.invariant in
      let o = inv.once unsorted gives few in
      let same = o.0 in
      let a = c.turn.ensures.listed_once (ap g.S.Order.sorts inv.keeps.same.order ∙ unsorted) (subst GivesAtOnce (sym inv.keeps.same.options) gives)
      (room_at c.args.inside.now.options c.loop-level.inside.options c.loop-level.inside.stack.items c.loop-level.inside.top c.in-Some.level inv.keeps.same.options (sym c.take.ensures.value ∙ c.in-Some.is) o.1) in
      let b = c.give_up.ensures.listed in
      omega (arith, same, a, b));
  listed_whole = λ tells by count compares sorts gives to_list none named. absurd (named refl);
}

pub returns-clause-gives : goal.returns-clause-gives
returns-clause-gives g c = record {
  step =
      (λ tells by rest same h.
      let s = g.D.Disk.state c.loop-level.disk in
      let inv = c.loop-level.invariant in
      let top = sym c.take.ensures.value ∙ c.in_default.is in
      let empty = inv.sound.rooted top in
      let none : levels_of c.loop-level.inside ≡ [] = ap (λ (t : Option Level). c.loop-level.inside.stack.items ++ top_levels t) top ∙ (append-nil _ ∙ empty) in
      let after = ap (λ (t : Option Level). c.loop-level.inside.stack.items ++ top_levels t) c.take.ensures.after ∙ (append-nil _ ∙ empty) in
      inr (none_left (g.D.Disk.state c.args.disk.now) s (g.S.Order.sorts c.args.inside.now.order) by c.loop-level.inside _ rest none after (record { options = refl; order = refl; root = refl }) refl (inv.moved tells by rest same h)));
  over = λ e. refl;
  ended =
      (let empty = c.loop-level.invariant.sound.rooted (sym c.take.ensures.value ∙ c.in_default.is) in
      ap (λ (t : Option Level). c.loop-level.inside.stack.items ++ top_levels t) c.take.ensures.after ∙ (append-nil _ ∙ empty));
  gave_up = λ e. absurd (cc e);
  sound =
      (let top = sym c.take.ensures.value ∙ c.in_default.is in
      let P : Option Level → Type 0 = λ t. IsSound (g.D.Disk.state c.loop-level.disk) (g.S.Order.sorts c.args.inside.now.order) (record c.loop-level.inside { top = t }) in
      subst P (sym (c.take.ensures.after ∙ sym top)) c.loop-level.invariant.sound);
  same = (let k = c.loop-level.invariant.keeps.same in record { options = k.options; order = k.order; root = k.root });
  not_more =
      (let top = sym c.take.ensures.value ∙ c.in_default.is in
      let after = ap (λ (t : Option Level). work_in (g.D.Disk.state c.loop-level.disk) (c.loop-level.inside.stack.items ++ top_levels t)) (c.take.ensures.after ∙ sym top) in
      let a = c.loop-level.invariant.less in
      omega (arith, after, a));
  within =
      (let inv = c.loop-level.invariant in
      let top = sym c.take.ensures.value ∙ c.in_default.is in
      let after = ap (λ (t : Option Level). opens (c.loop-level.inside.stack.items ++ top_levels t)) (c.take.ensures.after ∙ sym top) in
      λ others e. let w = inv.keeps.within others e in (let a = w.0 in omega (arith, a, after), w.1));
  others =
      (let inv = c.loop-level.invariant in
      let top = sym c.take.ensures.value ∙ c.in_default.is in
      λ number apart is. let k = inv.keeps.others number apart is in
      (k.0, (let P : Option Level → Type 0 = λ t. AreApart number (c.loop-level.inside.stack.items ++ top_levels t) in subst P (sym (c.take.ensures.after ∙ sym top)) k.1)));
  tree = c.loop-level.invariant.keeps.tree;
  faults = c.loop-level.invariant.keeps.faults;
  later = c.loop-level.invariant.keeps.later;
  counted =
      (λ fits.
      let inv = c.loop-level.invariant in
      let top = sym c.take.ensures.value ∙ c.in_default.is in
      let after = ap (λ (t : Option Level). faults_due (c.loop-level.inside.stack.items ++ top_levels t)) (c.take.ensures.after ∙ sym top) in
      elim (inv.counted fits) [ inl h ↦ inl (omega (arith, h, after)) | inr h ↦ inr h ]);
  absent = λ untold path depth e. absurd (cc e);
  looped = λ path depth ancestor ident e. absurd (cc e);
  uncapped = λ e. cc e;
  entered = λ level folder top unread in_it. absurd (let none = c.take.ensures.after in cc (none, top));
  listed_each =
      (let inv = c.loop-level.invariant in
      let top = sym c.take.ensures.value ∙ c.in_default.is in
      let after = ap (λ (t : Option Level). waits_in (c.loop-level.inside.stack.items ++ top_levels t)) (c.take.ensures.after ∙ sym top) in
      let so_far = inv.each in
      omega (arith, so_far, after));
  listed_once = λ unsorted gives few. let o = c.loop-level.invariant.once unsorted gives few in let a = o.0 in omega (arith, a);
  listed_whole =
      (λ tells by count compares sorts gives to_list none named.
      let w = c.loop-level.invariant.whole tells by count compares sorts gives to_list none in
      let T : Option Level → Type 0 = λ t. IsToListOnTop (g.D.Disk.state c.loop-level.disk).tree c.args.inside.now.options.max_depth t w.0 in
      let zero_is : w.0 ≡ 0 = subst T (sym c.take.ensures.value ∙ c.in_default.is) w.1 in
      let k = w.2 in
      omega (arith, k, zero_is));
}

pub returns-in-Err-clause-less : goal.returns-in-Err-clause-less
returns-in-Err-clause-less g c =
    gone_lighter (g.D.Disk.state c.loop-level.disk) (g.D.Disk.state c.give_up.new.disk) c.loop-level.inside c.give_up.new.inside c.in-Some.level _ (sym c.take.ensures.value ∙ c.in-Some.is) c.give_up.ensures.gone
    (let a = c.turn.ensures.keeps.later in let b = c.give_up.ensures.listed in omega (arith, a, b)) c.loop-level.invariant.less
