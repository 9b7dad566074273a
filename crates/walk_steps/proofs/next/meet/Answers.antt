use Rattle.std.proofs.Common.{◌≡◌, None, Some, Ok, Err, Option, Bool, inl, refl, sym, subst, ◌∙◌, ap, arith}
use Rattle.std.specs.Prelude.{option_map}
use Rattle.walk_rest.specs.declared.entry.DirEntry.{DirEntry}
use Rattle.walk_rest.specs.Level.{item_of}
use Rattle.walk_rest.specs.declared.error.Error.{Error}
use Rattle.walk_rest.specs.declared.error.Error.TheVariants as error
use Rattle.walk_rest.specs.Plan.{Seen, seen, enters, item_where}
use Rattle.walk_steps.specs.Seen.{FailsAsSeen}
use Rattle.walk_steps.specs.Causes.{faults_told}
use Rattle.walk_rest.specs.Listing.{manner_of}
use Rattle.walk_steps.specs.Inside.{chain_of, levels_of, with_top}
use Rattle.walk_steps.specs.Sound.{IsSound}
use Rattle.walk_steps.specs.Steps.{TurnsTo}
use Rattle.walk_steps.proofs.leave.SoundLemmas.{sound_split}
use Rattle.walk_steps.proofs.leave.WithinLemmas.{keeps_on}
use Rattle.walk_steps.proofs.next.MeetLemmas.{PutsBack, met_stays, met_error, met_enters, back_sound, back_keeps, back_work, seen_here, enters_sound, enters_keeps, enters_work, refused_keeps}
use Rattle.walk_steps.proofs.next.CauseLemmas.{caused_met, caused_none, caused_ok, counts_same, entered_by, enters_due, error_allowed, fails_for, read_not, top_not}
use Rattle.walk_steps.proofs.next.ListedLemmas.{enters_hidden, enters_settled, hidden_deep, settled_read}
use Rattle.walk_steps.specs.Listed.{waits_first}
use Rattle.walk_steps.proofs.take.ProgressLemmas.{enters_kept}
use Rattle.walk_steps.proofs.take.WaitsLemmas.{enters_waits, same_below}
use Rattle.walk_steps.proofs.next.meet.Goals as goal

pub returns-in_err-entry-in-Ok-Enters-clause-keeps : goal.returns-in_err-entry-in-Ok-Enters-clause-keeps
returns-in_err-entry-in-Ok-Enters-clause-keeps g c =
    let s = g.D.Disk.state c.args.disk.now in
    let now = g.D.Disk.state c.see.new.disk in
    let inside = with_top c.args.inside.now c.args.level in
    let back = back_keeps s now inside c.see.ensures.lists c.see.ensures.tree c.see.ensures.faults c.requires.sound.lists in
    let r = c.in_err-entry-in-Ok-Enters.ensures.refused in
    keeps_on s now now inside inside c.enter.new.inside back
    (refused_keeps now c.args.inside.now c.enter.new.inside c.args.level r.0 r.1 r.2 r.3 c.enter.ensures.same back.lists)

pub returns-then-is_shown-clause-turns : goal.returns-then-is_shown-clause-turns
returns-then-is_shown-clause-turns g c = λ tells by rest taken.
    let s = g.D.Disk.state c.args.disk.now in
    let now = g.D.Disk.state c.see.new.disk in
    let sorts = g.S.Order.sorts c.args.inside.now.order in
    let inside = c.args.inside.now in
    let m = manner_of s.tree inside.options sorts by inside.root in
    let back : PutsBack s now sorts by inside c.args.level c.args.entry rest = record {
      taken = taken;
      first = c.requires.first;
      faultless = c.requires.faultless;
      read = c.requires.read;
      readable = (sound_split s inside.stack.items c.args.level c.requires.sound.lists).1;
      lists = c.see.ensures.lists.open_list;
      tree = c.see.ensures.tree.tree;
      faults = c.see.ensures.faults;
    } in
    let seen = (rw c.in-Ok-Stays.field-0-is at c.in-Ok-Stays.ensures.seen) tells m (record { options = refl; device = taken.device }) in
    met_stays s now sorts by inside c.args.level c.args.entry c.in-Ok-Stays.entry rest _ back seen
    (ap (λ shown. item_where shown c.in-Ok-Stays.entry) (sym c.is_shown.ensures ∙ c.if-is_shown.true))

pub returns-then-is_shown-clause-sound : goal.returns-then-is_shown-clause-sound
returns-then-is_shown-clause-sound g c = back_sound (g.D.Disk.state c.args.disk.now) (g.D.Disk.state c.see.new.disk) (g.S.Order.sorts c.args.inside.now.order) (with_top c.args.inside.now c.args.level) c.see.ensures.lists c.requires.sound

pub returns-then-is_shown-clause-keeps : goal.returns-then-is_shown-clause-keeps
returns-then-is_shown-clause-keeps g c =
    back_keeps (g.D.Disk.state c.args.disk.now) (g.D.Disk.state c.see.new.disk) (with_top c.args.inside.now c.args.level) c.see.ensures.lists c.see.ensures.tree c.see.ensures.faults c.requires.sound.lists

pub returns-then-is_shown-clause-little : goal.returns-then-is_shown-clause-little
returns-then-is_shown-clause-little g c = let e = back_work (g.D.Disk.state c.args.disk.now) (g.D.Disk.state c.see.new.disk) (with_top c.args.inside.now c.args.level) c.see.ensures.lists in omega (arith, e)

pub returns-else-is_shown-clause-turns : goal.returns-else-is_shown-clause-turns
returns-else-is_shown-clause-turns g c = λ tells by rest taken.
    let s = g.D.Disk.state c.args.disk.now in
    let now = g.D.Disk.state c.see.new.disk in
    let sorts = g.S.Order.sorts c.args.inside.now.order in
    let inside = c.args.inside.now in
    let m = manner_of s.tree inside.options sorts by inside.root in
    let back : PutsBack s now sorts by inside c.args.level c.args.entry rest = record {
      taken = taken;
      first = c.requires.first;
      faultless = c.requires.faultless;
      read = c.requires.read;
      readable = (sound_split s inside.stack.items c.args.level c.requires.sound.lists).1;
      lists = c.see.ensures.lists.open_list;
      tree = c.see.ensures.tree.tree;
      faults = c.see.ensures.faults;
    } in
    let seen = (rw c.in-Ok-Stays.field-0-is at c.in-Ok-Stays.ensures.seen) tells m (record { options = refl; device = taken.device }) in
    met_stays s now sorts by inside c.args.level c.args.entry c.in-Ok-Stays.entry rest None back seen
    (ap (λ shown. item_where shown c.in-Ok-Stays.entry) (sym c.is_shown.ensures ∙ c.if-is_shown.false))

pub returns-else-is_shown-clause-sound : goal.returns-else-is_shown-clause-sound
returns-else-is_shown-clause-sound g c = back_sound (g.D.Disk.state c.args.disk.now) (g.D.Disk.state c.see.new.disk) (g.S.Order.sorts c.args.inside.now.order) (with_top c.args.inside.now c.args.level) c.see.ensures.lists c.requires.sound

pub returns-else-is_shown-clause-keeps : goal.returns-else-is_shown-clause-keeps
returns-else-is_shown-clause-keeps g c =
    back_keeps (g.D.Disk.state c.args.disk.now) (g.D.Disk.state c.see.new.disk) (with_top c.args.inside.now c.args.level) c.see.ensures.lists c.see.ensures.tree c.see.ensures.faults c.requires.sound.lists

pub returns-else-is_shown-clause-little : goal.returns-else-is_shown-clause-little
returns-else-is_shown-clause-little g c = let e = back_work (g.D.Disk.state c.args.disk.now) (g.D.Disk.state c.see.new.disk) (with_top c.args.inside.now c.args.level) c.see.ensures.lists in omega (arith, e)

pub returns-in-Some-clause-turns : goal.returns-in-Some-clause-turns
returns-in-Some-clause-turns g c = λ tells by rest taken.
    let s = g.D.Disk.state c.args.disk.now in
    let now = g.D.Disk.state c.see.new.disk in
    let sorts = g.S.Order.sorts c.args.inside.now.order in
    let inside = c.args.inside.now in
    let m = manner_of s.tree inside.options sorts by inside.root in
    let back : PutsBack s now sorts by inside c.args.level c.args.entry rest = record {
      taken = taken;
      first = c.requires.first;
      faultless = c.requires.faultless;
      read = c.requires.read;
      readable = (sound_split s inside.stack.items c.args.level c.requires.sound.lists).1;
      lists = c.see.ensures.lists.open_list;
      tree = c.see.ensures.tree.tree;
      faults = c.see.ensures.faults;
    } in
    let seen = (rw c.in-Ok-Enters.field-0-is at c.in-Ok-Enters.ensures.seen) tells m (record { options = refl; device = taken.device }) in
    let is : Seen = enters c.in-Ok-Enters.entry c.in-Ok-Enters.folder in
    let turned = met_enters s now sorts by inside c.enter.new.inside c.args.level c.args.entry c.in-Ok-Enters.entry c.in-Ok-Enters.folder c.in_ok-entry-in-Ok-Enters.field-0 rest back (seen_here s.tree m inside c.args.level c.args.entry is seen)
    c.in_ok-entry-in-Ok-Enters.ensures.entered c.enter.ensures.same c.enter.ensures.device in
    let T : Option DirEntry → Type 0 = λ given. TurnsTo s sorts by rest (option_map item_of given) now c.enter.new.inside in
    subst T c.in-Some.is turned

pub returns-in-Some-clause-sound : goal.returns-in-Some-clause-sound
returns-in-Some-clause-sound g c =
    let s = g.D.Disk.state c.args.disk.now in
    let now = g.D.Disk.state c.see.new.disk in
    let sorts = g.S.Order.sorts c.args.inside.now.order in
    let back = back_sound s now sorts (with_top c.args.inside.now c.args.level) c.see.ensures.lists c.requires.sound in
    let P : Bool → Type 0 = λ b. IsSound now b c.enter.new.inside in
    subst P (sym (ap g.S.Order.sorts c.enter.ensures.same.order))
    (enters_sound now sorts c.args.inside.now c.enter.new.inside c.args.level c.in-Ok-Enters.entry c.in-Ok-Enters.folder c.in_ok-entry-in-Ok-Enters.field-0 c.in_ok-entry-in-Ok-Enters.ensures.entered c.enter.ensures.same c.requires.read back)

pub returns-in-Some-clause-keeps : goal.returns-in-Some-clause-keeps
returns-in-Some-clause-keeps g c =
    let s = g.D.Disk.state c.args.disk.now in
    let now = g.D.Disk.state c.see.new.disk in
    let inside = with_top c.args.inside.now c.args.level in
    let back = back_keeps s now inside c.see.ensures.lists c.see.ensures.tree c.see.ensures.faults c.requires.sound.lists in
    keeps_on s now now inside inside c.enter.new.inside back
    (enters_keeps now c.args.inside.now c.enter.new.inside c.args.level c.in-Ok-Enters.entry c.in-Ok-Enters.folder c.in_ok-entry-in-Ok-Enters.field-0 c.in_ok-entry-in-Ok-Enters.ensures.entered c.enter.ensures.same back.lists)

pub returns-in-Some-clause-little : goal.returns-in-Some-clause-little
returns-in-Some-clause-little g c =
    let s = g.D.Disk.state c.args.disk.now in
    let now = g.D.Disk.state c.see.new.disk in
    let e = back_work s now (with_top c.args.inside.now c.args.level) c.see.ensures.lists in
    let w = enters_work now c.args.inside.now c.enter.new.inside c.args.level c.in-Ok-Enters.entry c.in-Ok-Enters.folder c.in_ok-entry-in-Ok-Enters.field-0 c.in_ok-entry-in-Ok-Enters.ensures.entered in
    omega (arith, e, w)

pub returns-in-None-clause-turns : goal.returns-in-None-clause-turns
returns-in-None-clause-turns g c = λ tells by rest taken.
    let s = g.D.Disk.state c.args.disk.now in
    let now = g.D.Disk.state c.see.new.disk in
    let sorts = g.S.Order.sorts c.args.inside.now.order in
    let inside = c.args.inside.now in
    let m = manner_of s.tree inside.options sorts by inside.root in
    let back : PutsBack s now sorts by inside c.args.level c.args.entry rest = record {
      taken = taken;
      first = c.requires.first;
      faultless = c.requires.faultless;
      read = c.requires.read;
      readable = (sound_split s inside.stack.items c.args.level c.requires.sound.lists).1;
      lists = c.see.ensures.lists.open_list;
      tree = c.see.ensures.tree.tree;
      faults = c.see.ensures.faults;
    } in
    let seen = (rw c.in-Ok-Enters.field-0-is at c.in-Ok-Enters.ensures.seen) tells m (record { options = refl; device = taken.device }) in
    let is : Seen = enters c.in-Ok-Enters.entry c.in-Ok-Enters.folder in
    let turned = met_enters s now sorts by inside c.enter.new.inside c.args.level c.args.entry c.in-Ok-Enters.entry c.in-Ok-Enters.folder c.in_ok-entry-in-Ok-Enters.field-0 rest back (seen_here s.tree m inside c.args.level c.args.entry is seen)
    c.in_ok-entry-in-Ok-Enters.ensures.entered c.enter.ensures.same c.enter.ensures.device in
    let T : Option DirEntry → Type 0 = λ given. TurnsTo s sorts by rest (option_map item_of given) now c.enter.new.inside in
    subst T c.in-None.is turned

pub returns-in-None-clause-sound : goal.returns-in-None-clause-sound
returns-in-None-clause-sound g c =
    let s = g.D.Disk.state c.args.disk.now in
    let now = g.D.Disk.state c.see.new.disk in
    let sorts = g.S.Order.sorts c.args.inside.now.order in
    let back = back_sound s now sorts (with_top c.args.inside.now c.args.level) c.see.ensures.lists c.requires.sound in
    let P : Bool → Type 0 = λ b. IsSound now b c.enter.new.inside in
    subst P (sym (ap g.S.Order.sorts c.enter.ensures.same.order))
    (enters_sound now sorts c.args.inside.now c.enter.new.inside c.args.level c.in-Ok-Enters.entry c.in-Ok-Enters.folder c.in_ok-entry-in-Ok-Enters.field-0 c.in_ok-entry-in-Ok-Enters.ensures.entered c.enter.ensures.same c.requires.read back)

pub returns-in-None-clause-keeps : goal.returns-in-None-clause-keeps
returns-in-None-clause-keeps g c =
    let s = g.D.Disk.state c.args.disk.now in
    let now = g.D.Disk.state c.see.new.disk in
    let inside = with_top c.args.inside.now c.args.level in
    let back = back_keeps s now inside c.see.ensures.lists c.see.ensures.tree c.see.ensures.faults c.requires.sound.lists in
    keeps_on s now now inside inside c.enter.new.inside back
    (enters_keeps now c.args.inside.now c.enter.new.inside c.args.level c.in-Ok-Enters.entry c.in-Ok-Enters.folder c.in_ok-entry-in-Ok-Enters.field-0 c.in_ok-entry-in-Ok-Enters.ensures.entered c.enter.ensures.same back.lists)

pub returns-in-None-clause-little : goal.returns-in-None-clause-little
returns-in-None-clause-little g c =
    let s = g.D.Disk.state c.args.disk.now in
    let now = g.D.Disk.state c.see.new.disk in
    let e = back_work s now (with_top c.args.inside.now c.args.level) c.see.ensures.lists in
    let w = enters_work now c.args.inside.now c.enter.new.inside c.args.level c.in-Ok-Enters.entry c.in-Ok-Enters.folder c.in_ok-entry-in-Ok-Enters.field-0 c.in_ok-entry-in-Ok-Enters.ensures.entered in
    omega (arith, e, w)

pub returns-in_err-named-in-Err-clause-keeps : goal.returns-in_err-named-in-Err-clause-keeps
returns-in_err-named-in-Err-clause-keeps g c =
    back_keeps (g.D.Disk.state c.args.disk.now) (g.D.Disk.state c.see.new.disk) (with_top c.args.inside.now c.args.level) c.see.ensures.lists c.see.ensures.tree c.see.ensures.faults c.requires.sound.lists

pub returns-in_ok-named-in-Err-clause-turns : goal.returns-in_ok-named-in-Err-clause-turns
returns-in_ok-named-in-Err-clause-turns g c = λ tells by rest taken.
    let s = g.D.Disk.state c.args.disk.now in
    let now = g.D.Disk.state c.see.new.disk in
    let sorts = g.S.Order.sorts c.args.inside.now.order in
    let inside = c.args.inside.now in
    let m = manner_of s.tree inside.options sorts by inside.root in
    let back : PutsBack s now sorts by inside c.args.level c.args.entry rest = record {
      taken = taken;
      first = c.requires.first;
      faultless = c.requires.faultless;
      read = c.requires.read;
      readable = (sound_split s inside.stack.items c.args.level c.requires.sound.lists).1;
      lists = c.see.ensures.lists.open_list;
      tree = c.see.ensures.tree.tree;
      faults = c.see.ensures.faults;
    } in
    let F : Error → Type 0 = FailsAsSeen s.faults now.faults c.args.entry (seen s.tree m (chain_of (with_top inside c.args.level)) c.args.entry) in
    met_error s now sorts by inside c.args.level c.args.entry rest c.in_ok-named-in-Err.field-0 back c.requires.depth c.in_ok-named-in-Err.ensures.named
    (subst F (sym c.in_ok-named-in-Err.ensures.same) (c.in-Err.ensures.failed tells m (record { options = refl; device = taken.device })))

pub returns-in_ok-named-in-Err-clause-named : goal.returns-in_ok-named-in-Err-clause-named
returns-in_ok-named-in-Err-clause-named g c = λ e. c.in_ok-named-in-Err.ensures.named (let f : c.in_ok-named-in-Err.field-0 ≡ error.NoMemory = cc in f)

pub returns-in_ok-named-in-Err-clause-sound : goal.returns-in_ok-named-in-Err-clause-sound
returns-in_ok-named-in-Err-clause-sound g c = back_sound (g.D.Disk.state c.args.disk.now) (g.D.Disk.state c.see.new.disk) (g.S.Order.sorts c.args.inside.now.order) (with_top c.args.inside.now c.args.level) c.see.ensures.lists c.requires.sound

pub returns-in_ok-named-in-Err-clause-keeps : goal.returns-in_ok-named-in-Err-clause-keeps
returns-in_ok-named-in-Err-clause-keeps g c =
    back_keeps (g.D.Disk.state c.args.disk.now) (g.D.Disk.state c.see.new.disk) (with_top c.args.inside.now c.args.level) c.see.ensures.lists c.see.ensures.tree c.see.ensures.faults c.requires.sound.lists

pub returns-in_ok-named-in-Err-clause-little : goal.returns-in_ok-named-in-Err-clause-little
returns-in_ok-named-in-Err-clause-little g c = let e = back_work (g.D.Disk.state c.args.disk.now) (g.D.Disk.state c.see.new.disk) (with_top c.args.inside.now c.args.level) c.see.ensures.lists in omega (arith, e)

-- ---- causes and counts

pub returns-then-is_shown-clause-caused : goal.returns-then-is_shown-clause-caused
returns-then-is_shown-clause-caused g c =
    caused_ok g.D.Disk.tells (g.D.Disk.state c.args.disk.now) (g.D.Disk.state c.see.new.disk) c.in-Ok-Stays.entry (with_top c.args.inside.now c.args.level)
    (top_not (Some (Ok c.in-Ok-Stays.entry)) c.args.level (read_not c.args.level.entries c.requires.read))

pub returns-then-is_shown-clause-counted : goal.returns-then-is_shown-clause-counted
returns-then-is_shown-clause-counted g c = let later = c.see.ensures.faults in inl (omega (arith, later))

pub returns-else-is_shown-clause-caused : goal.returns-else-is_shown-clause-caused
returns-else-is_shown-clause-caused g c = caused_none g.D.Disk.tells (g.D.Disk.state c.args.disk.now) (g.D.Disk.state c.see.new.disk) (with_top c.args.inside.now c.args.level)

pub returns-else-is_shown-clause-counted : goal.returns-else-is_shown-clause-counted
returns-else-is_shown-clause-counted g c = let later = c.see.ensures.faults in inl (omega (arith, later))

pub returns-in-Some-clause-caused : goal.returns-in-Some-clause-caused
returns-in-Some-clause-caused g c =
    caused_ok g.D.Disk.tells (g.D.Disk.state c.args.disk.now) (g.D.Disk.state c.see.new.disk) c.in-Some.entry c.enter.new.inside
    (entered_by c.args.inside.now c.enter.new.inside c.args.level c.in-Ok-Enters.entry c.in-Ok-Enters.folder c.in_ok-entry-in-Ok-Enters.field-0 c.in-Some.entry c.in_ok-entry-in-Ok-Enters.ensures.entered c.in-Some.is
    (rw c.in-Ok-Enters.field-0-is at c.in-Ok-Enters.ensures.sight).1)

pub returns-in-Some-clause-counted : goal.returns-in-Some-clause-counted
returns-in-Some-clause-counted g c =
    let later = c.see.ensures.faults in
    counts_same 0 (g.D.Disk.state c.args.disk.now) (g.D.Disk.state c.see.new.disk) (levels_of (with_top c.args.inside.now c.args.level)) (levels_of c.enter.new.inside)
    (enters_due c.args.inside.now c.enter.new.inside c.args.level c.in-Ok-Enters.entry c.in-Ok-Enters.folder c.in_ok-entry-in-Ok-Enters.field-0 c.in_ok-entry-in-Ok-Enters.ensures.entered) (inl (omega (arith, later)))

pub returns-in-None-clause-caused : goal.returns-in-None-clause-caused
returns-in-None-clause-caused g c = caused_none g.D.Disk.tells (g.D.Disk.state c.args.disk.now) (g.D.Disk.state c.see.new.disk) c.enter.new.inside

pub returns-in-None-clause-counted : goal.returns-in-None-clause-counted
returns-in-None-clause-counted g c =
    let later = c.see.ensures.faults in
    counts_same 0 (g.D.Disk.state c.args.disk.now) (g.D.Disk.state c.see.new.disk) (levels_of (with_top c.args.inside.now c.args.level)) (levels_of c.enter.new.inside)
    (enters_due c.args.inside.now c.enter.new.inside c.args.level c.in-Ok-Enters.entry c.in-Ok-Enters.folder c.in_ok-entry-in-Ok-Enters.field-0 c.in_ok-entry-in-Ok-Enters.ensures.entered) (inl (omega (arith, later)))

pub returns-in_ok-named-in-Err-clause-caused : goal.returns-in_ok-named-in-Err-clause-caused
returns-in_ok-named-in-Err-clause-caused g c =
    caused_met g.D.Disk.tells (g.D.Disk.state c.args.disk.now) (g.D.Disk.state c.see.new.disk) c.args.entry c.in_ok-named-in-Err.field-0 (with_top c.args.inside.now c.args.level) (fails_for g.D.Disk.tells (g.D.Disk.state c.args.disk.now) (g.D.Disk.state c.see.new.disk) c.args.inside.now (chain_of (with_top c.args.inside.now c.args.level)) c.args.entry c.in_ok-named-in-Err.field-0 _ c.in_ok-named-in-Err.ensures.same
    c.see.ensures.faults c.in-Err.ensures.cause c.in-Err.ensures.failed)
    (top_not (Some (Err c.in_ok-named-in-Err.field-0)) c.args.level (read_not c.args.level.entries c.requires.read))

pub returns-in_ok-named-in-Err-clause-counted : goal.returns-in_ok-named-in-Err-clause-counted
returns-in_ok-named-in-Err-clause-counted g c =
    let s = g.D.Disk.state c.args.disk.now in
    let now = g.D.Disk.state c.see.new.disk in
    let inside = with_top c.args.inside.now c.args.level in
    counts_same (faults_told g.D.Disk.tells (Some (Err c.in_ok-named-in-Err.field-0))) s now (levels_of inside) (levels_of inside) refl
    (error_allowed c.args.inside.now.options.follow_links g.D.Disk.tells s.faults now.faults c.args.entry (chain_of inside) c.in_ok-named-in-Err.field-0 (fails_for g.D.Disk.tells (g.D.Disk.state c.args.disk.now) (g.D.Disk.state c.see.new.disk) c.args.inside.now (chain_of (with_top c.args.inside.now c.args.level)) c.args.entry c.in_ok-named-in-Err.field-0 _ c.in_ok-named-in-Err.ensures.same
    c.see.ensures.faults c.in-Err.ensures.cause c.in-Err.ensures.failed))

-- ---- what is passed over

pub returns-else-is_shown-clause-hides : goal.returns-else-is_shown-clause-hides
returns-else-is_shown-clause-hides g c = λ gives.
    let deep = hidden_deep c.args.inside.now.options c.in-Ok-Stays.entry.depth gives (sym c.is_shown.ensures ∙ c.if-is_shown.false) in
    let same = rw c.in-Ok-Stays.field-0-is at c.in-Ok-Stays.ensures.sight in
    omega (arith, deep, same)

pub returns-else-is_shown-clause-settles : goal.returns-else-is_shown-clause-settles
returns-else-is_shown-clause-settles g c = λ gives. settled_read c.args.inside.now.options.max_depth c.args.level.folder c.args.level.entries c.requires.read

pub returns-in-None-clause-hides : goal.returns-in-None-clause-hides
returns-in-None-clause-hides g c = λ gives.
    let deep = enters_hidden c.args.inside.now c.enter.new.inside c.args.level c.in-Ok-Enters.entry c.in-Ok-Enters.folder c.in_ok-entry-in-Ok-Enters.field-0 c.in_ok-entry-in-Ok-Enters.ensures.entered c.in-None.is gives in
    let same = (rw c.in-Ok-Enters.field-0-is at c.in-Ok-Enters.ensures.sight).0 in
    omega (arith, deep, same)

pub returns-in-None-clause-settles : goal.returns-in-None-clause-settles
returns-in-None-clause-settles g c = λ gives.
    let entered = c.in_ok-entry-in-Ok-Enters.ensures.entered in
    enters_settled c.args.inside.now c.enter.new.inside c.args.level c.in-Ok-Enters.entry c.in-Ok-Enters.folder c.in_ok-entry-in-Ok-Enters.field-0 c.args.inside.now.options.max_depth entered (rw c.in-Ok-Enters.field-0-is at c.in-Ok-Enters.ensures.sight).1
    (enters_hidden c.args.inside.now c.enter.new.inside c.args.level c.in-Ok-Enters.entry c.in-Ok-Enters.folder c.in_ok-entry-in-Ok-Enters.field-0 entered c.in-None.is gives)

-- ---- entries below the root

pub returns-then-is_shown-clause-listed_each : goal.returns-then-is_shown-clause-listed_each
returns-then-is_shown-clause-listed_each g c = let same = same_below c.in-Ok-Stays.entry c.args.entry (rw c.in-Ok-Stays.field-0-is at c.in-Ok-Stays.ensures.sight) in omega (arith, same)

pub returns-else-is_shown-clause-listed_each : goal.returns-else-is_shown-clause-listed_each
returns-else-is_shown-clause-listed_each g c = omega arith

pub returns-in-Some-clause-listed_each : goal.returns-in-Some-clause-listed_each
returns-in-Some-clause-listed_each g c =
    let most = enters_waits c.args.inside.now c.enter.new.inside c.args.level c.in-Ok-Enters.entry c.in-Ok-Enters.folder c.in_ok-entry-in-Ok-Enters.field-0 c.in_ok-entry-in-Ok-Enters.ensures.entered c.requires.first in
    let given = ap waits_first c.in-Some.is in
    let same = same_below c.in-Ok-Enters.entry c.args.entry (rw c.in-Ok-Enters.field-0-is at c.in-Ok-Enters.ensures.sight).0 in
    omega (arith, most, given, same)

pub returns-in-None-clause-listed_each : goal.returns-in-None-clause-listed_each
returns-in-None-clause-listed_each g c =
    let most = enters_waits c.args.inside.now c.enter.new.inside c.args.level c.in-Ok-Enters.entry c.in-Ok-Enters.folder c.in_ok-entry-in-Ok-Enters.field-0 c.in_ok-entry-in-Ok-Enters.ensures.entered c.requires.first in
    let same = same_below c.in-Ok-Enters.entry c.args.entry (rw c.in-Ok-Enters.field-0-is at c.in-Ok-Enters.ensures.sight).0 in
    omega (arith, most, same)

pub returns-in_ok-named-in-Err-clause-listed_each : goal.returns-in_ok-named-in-Err-clause-listed_each
returns-in_ok-named-in-Err-clause-listed_each g c = omega arith

pub returns-in-Some-clause-kept : goal.returns-in-Some-clause-kept
returns-in-Some-clause-kept g c =
    enters_kept c.args.inside.now c.enter.new.inside c.args.level c.in-Ok-Enters.entry c.in-Ok-Enters.folder c.in_ok-entry-in-Ok-Enters.field-0 c.in_ok-entry-in-Ok-Enters.ensures.entered

pub returns-in-None-clause-kept : goal.returns-in-None-clause-kept
returns-in-None-clause-kept g c =
    enters_kept c.args.inside.now c.enter.new.inside c.args.level c.in-Ok-Enters.entry c.in-Ok-Enters.folder c.in_ok-entry-in-Ok-Enters.field-0 c.in_ok-entry-in-Ok-Enters.ensures.entered
