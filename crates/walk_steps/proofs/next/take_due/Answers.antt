use Rattle.std.proofs.Common.{◌<◌, ◌∷◌, [], ℕ, inl, inr, length, length-append, refl, sym, subst, ◌∙◌, ap, arith}
use Rattle.std.specs.Prelude.{OnOk}
use Rattle.walk_rest.specs.declared.level.Level.{Level}
use Rattle.walk_steps.specs.Inside.{levels_of, with_top}
use Rattle.walk_steps.specs.Work.{left_to_do}
use Rattle.walk_steps.proofs.leave.OthersLemmas.{fresh_first, fresh_given, fresh_read}
use Rattle.walk_steps.proofs.leave.WithinLemmas.{keeps_on, keeps_relevel, is_sound_relevel, fault_lighter, first_lighter, weight_relevel}
use Rattle.walk_steps.proofs.next.StepLemmas.{fault_turn, first_turn, rest_relevel, no_items}
use Rattle.walk_steps.proofs.next.CauseLemmas.{caused_disk, caused_ok, counts_result, due_cleared, due_snoc, first_not, given_not, read_not, top_not}
use Rattle.walk_steps.proofs.next.ListedLemmas.{ok_result, one_list, to_list_not}
use Rattle.walk_steps.proofs.leave.SoundLemmas.{opens_snoc}
use Rattle.walk_steps.specs.Sound.{held_limit}
use Rattle.walk_steps.specs.Listed.{waits_first}
use Rattle.walk_steps.proofs.take.ProgressLemmas.{progress_relevel}
use Rattle.walk_steps.proofs.next.TurnLemmas.{part_ok, turn_ok}
use Rattle.walk_steps.proofs.take.WaitsLemmas.{gives_first, gives_result, waits_relevel}
use Rattle.walk_steps.proofs.next.take_due.Goals as goal

pub returns-in-Some-clause-turns : goal.returns-in-Some-clause-turns
returns-in-Some-clause-turns g c = record {
  part = record {
    turns =
        (λ tells by rest same h.
        fault_turn (g.D.Disk.state c.args.disk.now) (g.S.Order.sorts c.args.inside.now.order) by c.args.inside.now c.args.level _ c.in-Some.due rest h c.in-Some.ensures.items refl refl refl);
    named = λ e. cc e;
    sound =
        (is_sound_relevel (g.D.Disk.state c.args.disk.now) (g.S.Order.sorts c.args.inside.now.order) c.args.inside.now c.args.level (record c.args.level { faults = c.pop.new.self }) refl refl
        (fresh_given c.args.level.entries c.args.level.first c.args.level.faults.items c.pop.new.self.items c.in-Some.due c.requires.sound.fresh c.in-Some.ensures.items) c.requires.sound);
    counted =
        (λ fits.
        let xs = c.args.inside.now.stack.items in
        let level : Level = record c.args.level { faults = c.pop.new.self } in
        let a = due_snoc xs c.args.level in
        let b = due_snoc xs level in
        let d = ap length c.in-Some.ensures.items in
        let e = length-append c.pop.new.self.items (c.in-Some.due ∷ []) in
        inl (omega (arith, a, b, d, e)));
    caused =
        (let s = g.D.Disk.state c.args.disk.now in
        let level : Level = record c.args.level { faults = c.pop.new.self } in
        caused_disk g.D.Disk.tells s s c.in-Some.due.path c.in-Some.due.depth (with_top c.args.inside.now level)
        (top_not _ level (given_not c.args.level.entries c.args.level.first c.args.level.faults.items c.pop.new.self.items c.in-Some.due c.requires.sound.fresh c.in-Some.ensures.items)));
    listed_each =
        (let level : Level = record c.args.level { faults = c.pop.new.self } in
        let less = waits_relevel c.args.inside.now.stack.items c.args.level level (omega arith) refl refl in
        omega (arith, less));
    settles = λ gives. tt;
    passes = λ unsorted gives room. tt;
    listed_whole =
        (λ tells by count compares sorts to_list none.
        let s = g.D.Disk.state c.args.disk.now in
        let zero_is = to_list_not s.tree c.args.inside.now.options.max_depth c.args.level.folder c.args.level.entries count
        (given_not c.args.level.entries c.args.level.first c.args.level.faults.items c.pop.new.self.items c.in-Some.due c.requires.sound.fresh c.in-Some.ensures.items) to_list in
        omega (arith, zero_is));
    less =
        (fault_lighter (g.D.Disk.state c.args.disk.now) c.args.inside.now c.args.level _ c.in-Some.due refl refl refl c.in-Some.ensures.items);
  };
  progress = inr (inr (inr (_, refl)));
}

pub returns-in-Some-clause-keeps : goal.returns-in-Some-clause-keeps
returns-in-Some-clause-keeps g c = keeps_relevel (g.D.Disk.state c.args.disk.now) c.args.inside.now c.args.level _ refl refl c.requires.sound.lists

pub returns-in-Some-take-clause-turns : goal.returns-in-Some-take-clause-turns
returns-in-Some-take-clause-turns g c = record {
  part = record {
    turns =
        (λ tells by rest same h.
        let faultless = no_items c.args.level.faults.items (let z = c.in_default.ensures.cases.0 in omega (arith, z, c.args.level.faults.ok.0)) in
        let popped = no_items c.pop.new.self.items (let z = c.in_default.ensures.cases.1 in omega (arith, z, c.pop.new.self.ok.0)) in
        first_turn (g.D.Disk.state c.args.disk.now) (g.S.Order.sorts c.args.inside.now.order) by c.args.inside.now c.args.level _ c.in-Some-take.entry rest h faultless
        (sym c.take.ensures.value ∙ c.in-Some-take.is)
        (first_not c.args.level.entries c.args.level.first c.args.level.faults.items c.in-Some-take.entry c.requires.sound.fresh (sym c.take.ensures.value ∙ c.in-Some-take.is)) refl c.take.ensures.after refl popped);
    named = λ e. cc e;
    sound =
        (is_sound_relevel (g.D.Disk.state c.args.disk.now) (g.S.Order.sorts c.args.inside.now.order) c.args.inside.now c.args.level (record c.args.level { first = c.take.new.self; faults = c.pop.new.self }) refl refl
        (fresh_first c.args.level.entries c.args.level.first c.take.new.self c.in-Some-take.entry c.args.level.faults.items c.pop.new.self.items c.requires.sound.fresh (sym c.take.ensures.value ∙ c.in-Some-take.is)) c.requires.sound);
    counted =
        (λ fits.
        let faultless = no_items c.args.level.faults.items (let z = c.in_default.ensures.cases.0 in omega (arith, z, c.args.level.faults.ok.0)) in
        let popped = no_items c.pop.new.self.items (let z = c.in_default.ensures.cases.1 in omega (arith, z, c.pop.new.self.ok.0)) in
        let level : Level = record c.args.level { first = c.take.new.self; faults = c.pop.new.self } in
        let e = due_cleared c.args.inside.now.stack.items c.args.level level faultless popped in
        inl (omega (arith, e)));
    caused =
        (let s = g.D.Disk.state c.args.disk.now in
        let level : Level = record c.args.level { first = c.take.new.self; faults = c.pop.new.self } in
        caused_ok g.D.Disk.tells s s c.in-Some-take.entry (with_top c.args.inside.now level)
        (top_not _ level (first_not c.args.level.entries c.args.level.first c.args.level.faults.items c.in-Some-take.entry c.requires.sound.fresh (sym c.take.ensures.value ∙ c.in-Some-take.is))));
    listed_each =
        (let level : Level = record c.args.level { first = c.take.new.self; faults = c.pop.new.self } in
        gives_first (g.D.Disk.state c.args.disk.now) c.args.inside.now.stack.items c.args.level level c.in-Some-take.entry (sym c.take.ensures.value ∙ c.in-Some-take.is) c.take.ensures.after refl refl);
    settles = λ gives. tt;
    passes = λ unsorted gives room. tt;
    listed_whole =
        (λ tells by count compares sorts to_list none.
        let s = g.D.Disk.state c.args.disk.now in
        let zero_is = to_list_not s.tree c.args.inside.now.options.max_depth c.args.level.folder c.args.level.entries count
        (first_not c.args.level.entries c.args.level.first c.args.level.faults.items c.in-Some-take.entry c.requires.sound.fresh (sym c.take.ensures.value ∙ c.in-Some-take.is)) to_list in
        omega (arith, zero_is));
    less =
        (let faultless = no_items c.args.level.faults.items (let z = c.in_default.ensures.cases.0 in omega (arith, z, c.args.level.faults.ok.0)) in
        let popped = no_items c.pop.new.self.items (let z = c.in_default.ensures.cases.1 in omega (arith, z, c.pop.new.self.ok.0)) in
        first_lighter (g.D.Disk.state c.args.disk.now) c.args.inside.now c.args.level _ c.in-Some-take.entry refl refl (sym c.take.ensures.value ∙ c.in-Some-take.is) c.take.ensures.after (popped ∙ sym faultless));
  };
  progress = inr (inr (inl (c.in-Some-take.entry, sym c.take.ensures.value ∙ c.in-Some-take.is, refl)));
}

pub returns-in-Some-take-clause-keeps : goal.returns-in-Some-take-clause-keeps
returns-in-Some-take-clause-keeps g c = keeps_relevel (g.D.Disk.state c.args.disk.now) c.args.inside.now c.args.level _ refl refl c.requires.sound.lists

pub take_next-requires-clause-sound : goal.take_next-requires-clause-sound
take_next-requires-clause-sound g c =
    is_sound_relevel (g.D.Disk.state c.args.disk.now) (g.S.Order.sorts c.args.inside.now.order) c.args.inside.now c.args.level (record c.args.level { first = c.take.new.self; faults = c.pop.new.self }) refl refl
    (fresh_read c.args.level.entries c.take.new.self c.pop.new.self.items c.requires.read) c.requires.sound

pub returns-clause-keeps : goal.returns-clause-keeps
returns-clause-keeps g c =
    keeps_on (g.D.Disk.state c.args.disk.now) (g.D.Disk.state c.args.disk.now) (g.D.Disk.state c.take_next.new.disk) _ _ _
    (keeps_relevel (g.D.Disk.state c.args.disk.now) c.args.inside.now c.args.level _ refl refl c.requires.sound.lists) c.take_next.ensures.keeps

pub returns-clause-listed_once : goal.returns-clause-listed_once
returns-clause-listed_once g c = let a = c.take_next.ensures.listed_once in let b = one_list c.args.level.entries in omega (arith, a, b)

pub returns-clause-turns : goal.returns-clause-turns
returns-clause-turns g c =
    let s = g.D.Disk.state c.args.disk.now in
    let now = g.D.Disk.state c.take_next.new.disk in
    let before = with_top c.args.inside.now c.args.level in
    let new = c.take_next.new.inside in
    turn_ok g.D.Disk.tells g.S.Order.sorts g.S.Order.compares_by s now before new c.take_next.result
    (part_ok g.D.Disk.tells g.S.Order.sorts g.S.Order.compares_by s now before new c.take_next.result
    (λ tells by rest same h.
    let faultless = no_items c.args.level.faults.items (let z = c.in_default.ensures.cases.0 in omega (arith, z, c.args.level.faults.ok.0)) in
    let popped = no_items c.pop.new.self.items (let z = c.in_default.ensures.cases.1 in omega (arith, z, c.pop.new.self.ok.0)) in
    let first = c.take.ensures.after ∙ sym (sym c.take.ensures.value ∙ c.in_default-take.is) in
    c.take_next.ensures.turns tells by rest
    (rest_relevel (g.D.Disk.state c.args.disk.now) (g.S.Order.sorts c.args.inside.now.order) by c.args.inside.now c.args.level _ rest refl first refl (popped ∙ sym faultless) h))
    c.take_next.ensures.named
    c.take_next.ensures.sound
    (λ fits.
    let s = g.D.Disk.state c.args.disk.now in
    let faultless = no_items c.args.level.faults.items (let z = c.in_default.ensures.cases.0 in omega (arith, z, c.args.level.faults.ok.0)) in
    let popped = no_items c.pop.new.self.items (let z = c.in_default.ensures.cases.1 in omega (arith, z, c.pop.new.self.ok.0)) in
    let level : Level = record c.args.level { first = c.take.new.self; faults = c.pop.new.self } in
    counts_result g.D.Disk.tells s s (g.D.Disk.state c.take_next.new.disk) (levels_of (with_top c.args.inside.now c.args.level)) (levels_of (with_top c.args.inside.now level)) (levels_of c.take_next.new.inside) c.take_next.result
    (omega arith) (due_cleared c.args.inside.now.stack.items c.args.level level faultless popped) c.take_next.ensures.counted)
    c.take_next.ensures.caused
    (let s = g.D.Disk.state c.args.disk.now in
    let level : Level = record c.args.level { first = c.take.new.self; faults = c.pop.new.self } in
    let first = ap waits_first (c.take.ensures.after ∙ sym (sym c.take.ensures.value ∙ c.in_default-take.is)) in
    gives_result s (g.D.Disk.state c.take_next.new.disk) (levels_of (with_top c.args.inside.now c.args.level)) (levels_of (with_top c.args.inside.now level)) (levels_of c.take_next.new.inside) c.take_next.result
    (waits_relevel c.args.inside.now.stack.items c.args.level level (omega (arith, first)) refl refl) c.take_next.ensures.listed_each)
    (λ gives. c.take_next.ensures.settles gives)
    (λ unsorted gives room. c.take_next.ensures.passes gives)
    (λ tells by count compares sorts to_list none.
    let s = g.D.Disk.state c.args.disk.now in
    let inside = c.args.inside.now in
    let zero_is = to_list_not s.tree inside.options.max_depth c.args.level.folder c.args.level.entries count (read_not c.args.level.entries c.requires.read) to_list in
    let held = ap (λ b. held_limit b inside.options) sorts in
    let few = c.requires.sound.few in
    let sum = opens_snoc inside.stack.items c.args.level in
    let most = c.take_next.ensures.listed_once in
    let later = c.take_next.ensures.keeps.later in
    ok_result c.take_next.result (omega (arith, zero_is, held, few, sum, most, later)))
    (let s = g.D.Disk.state c.args.disk.now in
    let faultless = no_items c.args.level.faults.items (let z = c.in_default.ensures.cases.0 in omega (arith, z, c.args.level.faults.ok.0)) in
    let popped = no_items c.pop.new.self.items (let z = c.in_default.ensures.cases.1 in omega (arith, z, c.pop.new.self.ok.0)) in
    let first = c.take.ensures.after ∙ sym (sym c.take.ensures.value ∙ c.in_default-take.is) in
    let mid : Level = record c.args.level { first = c.take.new.self; faults = c.pop.new.self } in
    let same = weight_relevel s c.args.inside.now c.args.level mid refl refl first (popped ∙ sym faultless) in
    let P : ℕ → Type 0 = λ n. OnOk c.take_next.result (left_to_do (g.D.Disk.state c.take_next.new.disk) c.take_next.new.inside < n) in
    subst P same c.take_next.ensures.less))
    (let level : Level = record c.args.level { first = c.take.new.self; faults = c.pop.new.self } in
    progress_relevel c.args.level.first s now c.args.inside.now.stack.items c.args.level level
    (levels_of c.take_next.new.inside) c.take_next.result refl refl c.take_next.ensures.progress)
