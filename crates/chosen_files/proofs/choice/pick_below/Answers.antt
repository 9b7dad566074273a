use Rattle.std.proofs.Common.{rules, ◌≡◌, ◌-◌, ◌^◌, ◌≤◌, ◌∙◌, Err, refl, sym, ap, subst, arith}
use Rattle.std.specs.Prelude.{IsTrue}
use Rattle.sd_io.specs.Count.{HasRisen}
use Rattle.sd_io.specs.Disk.{DiskState}
use Rattle.sd_io.specs.Files.{Resolves}
use Rattle.sd_course.specs.Course.{course}
use Rattle.walk_rest.specs.declared.options.Options.{Options}
use Rattle.walk_rest.specs.Listing.{first_options}
use Rattle.walk_rest.specs.Names.{by_file_name}
use Rattle.walk_rest.specs.Rest.{start}
use Rattle.walk_steps.specs.Inside.{levels_of}
use Rattle.walk_steps.specs.Listed.{GivesAtOnce}
use Rattle.walk_steps.specs.Sound.{open_limit}
use Rattle.walkdir.specs.Gather.{GathersAll}
use Rattle.chosen_files.specs.Choice.{KeepFails, KeepsLists, fault_of}
use Rattle.chosen_files.specs.Kept.{ListsKept}
use Rattle.chosen_files.specs.LeftOut.{leaves_out}
use Rattle.chosen_files.specs.declared.pick.Picking.{Picking}
use Rattle.chosen_files.specs.Picking.{PicksOn}
use Rattle.chosen_files.specs.Seen.{HasFewerSeen, ListsOnlySeen}
use Rattle.chosen_files.proofs.choice.BeginLemmas.{fails_as, kept_from}
use Rattle.chosen_files.proofs.choice.WalkLemmas.{Planned, WhyTold, picked_below, planned_few, planned_kept, planned_listed, planned_plain, planned_told, refused_from, walk_planned}
use Rattle.chosen_files.proofs.choice.pick_below.Goals as goal

pub returns-in_err-gather-clause-refused : goal.returns-in_err-gather-clause-refused
returns-in_err-gather-clause-refused g c =
    let end : c.gather.new.self.disk.now ≡ c.disk-1.given.0 = search rules in
    λ resolves.
    let s = g.D.Disk.state c.args.disk.now in
    let begun : DiskState = g.D.Disk.state c.into_iter-begun.result.disk.now in
    let same : begun ≡ s = ap g.D.Disk.state c.into_iter-begun.ensures.disk in
    let root = c.args.root.now in
    let top = c.args.top.now in
    let rules = c.args.rules.now in
    let inside = c.into_iter-begun.result.inside in
    let how : c.sort_by_file_name-walk.result.options ≡ first_options =
    c.sort_by_file_name-walk.ensures.same.1 ∙ ((λ i. (c.max_open.ensures i).options) ∙ ap (λ (o : Options). record o { max_open = 10 }) c.in_ok-new.ensures.options) in
    let from : c.sort_by_file_name-walk.result.root ≡ top = c.sort_by_file_name-walk.ensures.same.0 ∙ ((λ i. (c.max_open.ensures i).root) ∙ c.in_ok-new.ensures.root) in
    let planned : IsTrue g.D.Disk.tells → Resolves s root top → Planned begun root top inside =
    λ t to. walk_planned s begun _ _ root top inside same (g.met.D.Disk.is_tree c.into_iter-begun.result.disk.now t) to c.into_iter-begun.ensures.rest how from in
    let failed = c.in_err-gather.field-0.0 in
    let p : (t : IsTrue g.D.Disk.tells) → Planned begun root top inside = λ t. planned t (resolves t) in
    let plain = λ (t : IsTrue g.D.Disk.tells). planned_plain begun root top rules c.args.cap inside (p t) in
    let told : IsTrue g.D.Disk.tells → WhyTold rules c.args.cap begun.tree root failed =
    λ t. planned_told begun root top rules c.args.cap inside (p t) failed (c.in_err-gather.ensures.gathers.failed t by_file_name (start (p t).plan) refl (p t).has (plain t)) in
    let off = ap (λ (o : Options). o.follow_links) (c.into_iter-begun.ensures.options ∙ how) in
    fails_as _ c.from_residual-in_err-gather.result (fault_of failed) c.from_residual-in_err-gather.ensures.1
    (subst (λ (x : DiskState). KeepFails root rules c.args.cap (course g.D.Disk.tells s x) (fault_of failed)) (ap g.D.Disk.state end)
    (refused_from root rules c.args.cap g.D.Disk.tells s begun (g.D.Disk.state c.gather.new.self.disk.now) (levels_of inside) failed same told c.into_iter-begun.ensures.none_due
    (c.in_err-gather.ensures.gathers.counted (λ t. (by_file_name, start (p t).plan, refl, (p t).has, plain t)))
    (λ e. (let m = c.in_err-gather.ensures.gathers.capped (ap Err e) in let n = c.into_iter-begun.ensures.none_waits in omega (arith, m, n)))
    (c.in_err-gather.ensures.gathers.unlooped off)))

pub returns-in_err-gather-clause-lists : goal.returns-in_err-gather-clause-lists
returns-in_err-gather-clause-lists g c =
    let s = g.D.Disk.state c.args.disk.now in
    let how : c.sort_by_file_name-walk.result.options ≡ first_options =
    c.sort_by_file_name-walk.ensures.same.1 ∙ ((λ i. (c.max_open.ensures i).options) ∙ ap (λ (o : Options). record o { max_open = 10 }) c.in_ok-new.ensures.options) in
    let end : c.gather.new.self.disk.now ≡ c.disk-1.given.0 = search rules in
    subst (λ (x : DiskState). KeepsLists 10 s x) (ap g.D.Disk.state end)
    (kept_from (open_limit c.into_iter-begun.result.inside.options) s (g.D.Disk.state c.into_iter-begun.result.disk.now) (g.D.Disk.state c.gather.new.self.disk.now)
    (levels_of c.into_iter-begun.result.inside) (ap g.D.Disk.state c.into_iter-begun.ensures.disk) (ap open_limit (c.into_iter-begun.ensures.options ∙ how)) c.into_iter-begun.ensures.none_open c.gather.ensures.gathers.closed
    c.gather.ensures.gathers.others)

pub returns-clause-lists : goal.returns-clause-lists
returns-clause-lists g c =
    let s = g.D.Disk.state c.args.disk.now in
    let how : c.sort_by_file_name-walk.result.options ≡ first_options =
    c.sort_by_file_name-walk.ensures.same.1 ∙ ((λ i. (c.max_open.ensures i).options) ∙ ap (λ (o : Options). record o { max_open = 10 }) c.in_ok-new.ensures.options) in
    let end : c.gather.new.self.disk.now ≡ c.disk-2-1.given.0 = search rules in
    subst (λ (x : DiskState). KeepsLists 10 s x) (ap g.D.Disk.state end)
    (kept_from (open_limit c.into_iter-begun.result.inside.options) s (g.D.Disk.state c.into_iter-begun.result.disk.now) (g.D.Disk.state c.gather.new.self.disk.now)
    (levels_of c.into_iter-begun.result.inside) (ap g.D.Disk.state c.into_iter-begun.ensures.disk) (ap open_limit (c.into_iter-begun.ensures.options ∙ how)) c.into_iter-begun.ensures.none_open c.gather.ensures.gathers.closed
    c.gather.ensures.gathers.others)

pub returns-clause-kept : goal.returns-clause-kept
returns-clause-kept g c = λ t resolves.
    let s = g.D.Disk.state c.args.disk.now in
    let begun : DiskState = g.D.Disk.state c.into_iter-begun.result.disk.now in
    let same : begun ≡ s = ap g.D.Disk.state c.into_iter-begun.ensures.disk in
    let root = c.args.root.now in
    let top = c.args.top.now in
    let rules = c.args.rules.now in
    let inside = c.into_iter-begun.result.inside in
    let how : c.sort_by_file_name-walk.result.options ≡ first_options =
    c.sort_by_file_name-walk.ensures.same.1 ∙ ((λ i. (c.max_open.ensures i).options) ∙ ap (λ (o : Options). record o { max_open = 10 }) c.in_ok-new.ensures.options) in
    let from : c.sort_by_file_name-walk.result.root ≡ top = c.sort_by_file_name-walk.ensures.same.0 ∙ ((λ i. (c.max_open.ensures i).root) ∙ c.in_ok-new.ensures.root) in
    let planned : IsTrue g.D.Disk.tells → Resolves s root top → Planned begun root top inside =
    λ t to. walk_planned s begun _ _ root top inside same (g.met.D.Disk.is_tree c.into_iter-begun.result.disk.now t) to c.into_iter-begun.ensures.rest how from in
    let fit : c.args.cap ≤ 2 ^ 64 - 1 = let fits = c.ranges.cap.fits in omega (arith, fits) in
    let first : Picking = record { root = c.args.root; top = c.args.top; globs = c.args.globs; paths = c.new-2.result } in
    let p = planned t resolves in
    let all = c.in_ok-gather.ensures.gathers.all t by_file_name (start p.plan) refl p.has (planned_plain begun root top rules c.args.cap inside p) in
    subst (λ (x : DiskState). ListsKept x.tree root c.args.globs.now rules c.gather.new.gatherer.paths.items) same
    (planned_kept begun root top rules c.args.cap inside p c.args.globs.now c.gather.new.gatherer.paths.items first c.gather.new.gatherer fit (subst (λ b. GathersAll (leaves_out rules top) (PicksOn b begun.tree) (start p.plan) c.args.cap first c.gather.new.gatherer) t all) refl refl refl c.new-2.ensures.items refl)

pub returns-clause-few : goal.returns-clause-few
returns-clause-few g c = λ t resolves.
    let s = g.D.Disk.state c.args.disk.now in
    let begun : DiskState = g.D.Disk.state c.into_iter-begun.result.disk.now in
    let same : begun ≡ s = ap g.D.Disk.state c.into_iter-begun.ensures.disk in
    let root = c.args.root.now in
    let top = c.args.top.now in
    let rules = c.args.rules.now in
    let inside = c.into_iter-begun.result.inside in
    let how : c.sort_by_file_name-walk.result.options ≡ first_options =
    c.sort_by_file_name-walk.ensures.same.1 ∙ ((λ i. (c.max_open.ensures i).options) ∙ ap (λ (o : Options). record o { max_open = 10 }) c.in_ok-new.ensures.options) in
    let from : c.sort_by_file_name-walk.result.root ≡ top = c.sort_by_file_name-walk.ensures.same.0 ∙ ((λ i. (c.max_open.ensures i).root) ∙ c.in_ok-new.ensures.root) in
    let planned : IsTrue g.D.Disk.tells → Resolves s root top → Planned begun root top inside =
    λ t to. walk_planned s begun _ _ root top inside same (g.met.D.Disk.is_tree c.into_iter-begun.result.disk.now t) to c.into_iter-begun.ensures.rest how from in
    let fit : c.args.cap ≤ 2 ^ 64 - 1 = let fits = c.ranges.cap.fits in omega (arith, fits) in
    let first : Picking = record { root = c.args.root; top = c.args.top; globs = c.args.globs; paths = c.new-2.result } in
    let p = planned t resolves in
    let all = c.in_ok-gather.ensures.gathers.all t by_file_name (start p.plan) refl p.has (planned_plain begun root top rules c.args.cap inside p) in
    subst (λ (x : DiskState). HasFewerSeen c.args.cap x.tree root rules) same (planned_few begun root top rules c.args.cap inside p (PicksOn g.D.Disk.tells begun.tree) first c.gather.new.gatherer fit all)

pub returns-clause-listed : goal.returns-clause-listed
returns-clause-listed g c =
    let end : c.gather.new.self.disk.now ≡ c.disk-2-1.given.0 = search rules in
    λ t resolves quiet.
    let s = g.D.Disk.state c.args.disk.now in
    let begun : DiskState = g.D.Disk.state c.into_iter-begun.result.disk.now in
    let same : begun ≡ s = ap g.D.Disk.state c.into_iter-begun.ensures.disk in
    let root = c.args.root.now in
    let top = c.args.top.now in
    let rules = c.args.rules.now in
    let inside = c.into_iter-begun.result.inside in
    let how : c.sort_by_file_name-walk.result.options ≡ first_options =
    c.sort_by_file_name-walk.ensures.same.1 ∙ ((λ i. (c.max_open.ensures i).options) ∙ ap (λ (o : Options). record o { max_open = 10 }) c.in_ok-new.ensures.options) in
    let from : c.sort_by_file_name-walk.result.root ≡ top = c.sort_by_file_name-walk.ensures.same.0 ∙ ((λ i. (c.max_open.ensures i).root) ∙ c.in_ok-new.ensures.root) in
    let planned : IsTrue g.D.Disk.tells → Resolves s root top → Planned begun root top inside =
    λ t to. walk_planned s begun _ _ root top inside same (g.met.D.Disk.is_tree c.into_iter-begun.result.disk.now t) to c.into_iter-begun.ensures.rest how from in
    let fit : c.args.cap ≤ 2 ^ 64 - 1 = let fits = c.ranges.cap.fits in omega (arith, fits) in
    let first : Picking = record { root = c.args.root; top = c.args.top; globs = c.args.globs; paths = c.new-2.result } in
    let p = planned t resolves in
    let all = c.in_ok-gather.ensures.gathers.all t by_file_name (start p.plan) refl p.has (planned_plain begun root top rules c.args.cap inside p) in
    let options : inside.options ≡ first_options = c.into_iter-begun.ensures.options ∙ how in
    let at_once : GivesAtOnce inside.options = subst GivesAtOnce (sym options) (record { least = refl; before = refl }) in
    let u = g.D.Disk.state c.gather.new.self.disk.now in
    let still : HasRisen begun.faults u.faults → ⊥ = λ risen. quiet (subst (λ (x : DiskState). HasRisen s.faults x.faults) (ap g.D.Disk.state end) (subst (λ (x : DiskState). HasRisen x.faults u.faults) same risen)) in
    let listed = c.in_ok-gather.ensures.gathers.listed t by_file_name (start p.plan) refl p.has (planned_plain begun root top rules c.args.cap inside p) 0
    (t, refl, (by_file_name, refl), at_once, c.into_iter-begun.ensures.none_to_list begun.tree inside.options.max_depth) still in
    subst (λ (x : DiskState). ListsOnlySeen s.tree root rules s.listed x.listed) (ap g.D.Disk.state end)
    (subst (λ (x : DiskState). ListsOnlySeen x.tree root rules x.listed u.listed) same
    (planned_listed begun root top rules c.args.cap inside p (PicksOn g.D.Disk.tells begun.tree) first c.gather.new.gatherer begun.listed u.listed fit all listed))

pub returns-clause-below_root : goal.returns-clause-below_root
returns-clause-below_root g c =
    let first : Picking = record { root = c.args.root; top = c.args.top; globs = c.args.globs; paths = c.new-2.result } in
    let some = c.in_ok-gather.ensures.gathers.some in
    picked_below g.D.Disk.tells (g.D.Disk.state c.into_iter-begun.result.disk.now).tree c.args.root.now some.0 first c.gather.new.gatherer some.1 refl c.new-2.ensures.items

pub returns-in_err-gather-clause-later : goal.returns-in_err-gather-clause-later
returns-in_err-gather-clause-later g c =
    let end : c.gather.new.self.disk.now ≡ c.disk-1.given.0 = search rules in
    let s = g.D.Disk.state c.args.disk.now in
    let begun : DiskState = g.D.Disk.state c.into_iter-begun.result.disk.now in
    let same : begun ≡ s = ap g.D.Disk.state c.into_iter-begun.ensures.disk in
    subst (λ (x : DiskState). s.listed ≤ x.listed) (ap g.D.Disk.state end)
    (subst (λ (x : DiskState). x.listed ≤ (g.D.Disk.state c.gather.new.self.disk.now).listed) same c.gather.ensures.gathers.later)

pub returns-clause-later : goal.returns-clause-later
returns-clause-later g c =
    let end : c.gather.new.self.disk.now ≡ c.disk-2-1.given.0 = search rules in
    let s = g.D.Disk.state c.args.disk.now in
    let begun : DiskState = g.D.Disk.state c.into_iter-begun.result.disk.now in
    let same : begun ≡ s = ap g.D.Disk.state c.into_iter-begun.ensures.disk in
    subst (λ (x : DiskState). s.listed ≤ x.listed) (ap g.D.Disk.state end)
    (subst (λ (x : DiskState). x.listed ≤ (g.D.Disk.state c.gather.new.self.disk.now).listed) same c.gather.ensures.gathers.later)
