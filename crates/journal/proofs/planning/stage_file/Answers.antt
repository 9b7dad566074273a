use Rattle.std.proofs.Common.{ℕ, List, sym, ◌∙◌, ap, subst, refl}
use Rattle.sha2.specs.Sha256.{sha256}
use Rattle.sd_io.specs.Paths.{parts_of, parent_of}
use Rattle.file_exchange.specs.Exchange.{IsPathIn}
use Rattle.file_exchange.specs.Reserved.{reserved_names}
use Rattle.file_exchange.proofs.PlaceLemmas.{file_path_in}
use Rattle.journal.specs.Beside.{LeavesBeside}
use Rattle.journal.proofs.PlanningLemmas.{own_path, left_stage, staged}
use Rattle.journal.proofs.StagingLemmas.{not_found, made_fails, crowded_at, folder_text_is}
use Rattle.journal.proofs.CauseLemmas.{told_on, more_since}
use Rattle.journal.proofs.planning.stage_file.Goals as goal

pub make_beside-requires-clause-beside : goal.make_beside-requires-clause-beside
make_beside-requires-clause-beside g c =
    λ told.
    let change = g.R.Replaces.change c.args.replacer.now in
    let s0 = g.D.Disk.state c.args.disk.now in
    let s1 = g.D.Disk.state c.find.new.disk in
    let own = c.in_ok-found.found.path in
    let bytes = c.in_ok-found.found.bytes.items in
    let found = c.in_ok-found.ensures.found told in
    subst (IsPathIn s1.tree) (sym c.as_str.ensures.same)
    (file_path_in s1.tree own (g.met.D.Disk.is_tree c.find.new.disk told) (own_path change c.args.path.now own s0 s1 c.find.ensures.tree bytes found))

pub returns-in_err-made-clause-left : goal.returns-in_err-made-clause-left
returns-in_err-made-clause-left g c =
    λ told.
    let change = g.R.Replaces.change c.args.replacer.now in
    let s0 = g.D.Disk.state c.args.disk.now in
    let s1 = g.D.Disk.state c.find.new.disk in
    let own = c.in_ok-found.found.path in
    let bytes = c.in_ok-found.found.bytes.items in
    let found = c.in_ok-found.ensures.found told in
    let t = g.D.Disk.state c.make_beside.new.disk in
    left_stage change c.args.path.now own s0 s1 c.find.ensures.tree bytes found t
    (subst (λ (p : List ℕ). LeavesBeside s1 (parent_of (parts_of p)) t) c.as_str.ensures.same (c.make_beside.ensures.left told))

pub returns-in_err-new-clause-left : goal.returns-in_err-new-clause-left
returns-in_err-new-clause-left g c =
    λ told.
    let change = g.R.Replaces.change c.args.replacer.now in
    let s0 = g.D.Disk.state c.args.disk.now in
    let s1 = g.D.Disk.state c.find.new.disk in
    let own = c.in_ok-found.found.path in
    let bytes = c.in_ok-found.found.bytes.items in
    let found = c.in_ok-found.ensures.found told in
    let t = g.D.Disk.state c.make_beside.new.disk in
    left_stage change c.args.path.now own s0 s1 c.find.ensures.tree bytes found t
    (subst (λ (p : List ℕ). LeavesBeside s1 (parent_of (parts_of p)) t) c.as_str.ensures.same (c.make_beside.ensures.left told))

pub returns-in_default-2-clause-left : goal.returns-in_default-2-clause-left
returns-in_default-2-clause-left g c =
    λ told.
    let change = g.R.Replaces.change c.args.replacer.now in
    let s0 = g.D.Disk.state c.args.disk.now in
    let s1 = g.D.Disk.state c.find.new.disk in
    let own = c.in_ok-found.found.path in
    let bytes = c.in_ok-found.found.bytes.items in
    let found = c.in_ok-found.ensures.found told in
    let t = g.D.Disk.state c.make_beside.new.disk in
    left_stage change c.args.path.now own s0 s1 c.find.ensures.tree bytes found t
    (subst (λ (p : List ℕ). LeavesBeside s1 (parent_of (parts_of p)) t) c.as_str.ensures.same (c.make_beside.ensures.left told))

pub returns-in_err-path-clause-left : goal.returns-in_err-path-clause-left
returns-in_err-path-clause-left g c =
    λ told.
    let change = g.R.Replaces.change c.args.replacer.now in
    let s0 = g.D.Disk.state c.args.disk.now in
    let s1 = g.D.Disk.state c.find.new.disk in
    let own = c.in_ok-found.found.path in
    let bytes = c.in_ok-found.found.bytes.items in
    let found = c.in_ok-found.ensures.found told in
    let t = g.D.Disk.state c.make_beside.new.disk in
    left_stage change c.args.path.now own s0 s1 c.find.ensures.tree bytes found t
    (subst (λ (p : List ℕ). LeavesBeside s1 (parent_of (parts_of p)) t) c.as_str.ensures.same (c.make_beside.ensures.left told))

pub returns-clause-left : goal.returns-clause-left
returns-clause-left g c =
    λ told.
    let change = g.R.Replaces.change c.args.replacer.now in
    let s0 = g.D.Disk.state c.args.disk.now in
    let s1 = g.D.Disk.state c.find.new.disk in
    let own = c.in_ok-found.found.path in
    let bytes = c.in_ok-found.found.bytes.items in
    let found = c.in_ok-found.ensures.found told in
    let t = g.D.Disk.state c.make_beside.new.disk in
    left_stage change c.args.path.now own s0 s1 c.find.ensures.tree bytes found t
    (subst (λ (p : List ℕ). LeavesBeside s1 (parent_of (parts_of p)) t) c.as_str.ensures.same (c.make_beside.ensures.left told))

pub returns-clause-staged : goal.returns-clause-staged
returns-clause-staged g c =
    λ told.
    let change = g.R.Replaces.change c.args.replacer.now in
    let s0 = g.D.Disk.state c.args.disk.now in
    let s1 = g.D.Disk.state c.find.new.disk in
    let own = c.in_ok-found.found.path in
    let bytes = c.in_ok-found.found.bytes.items in
    let found = c.in_ok-found.ensures.found told in
    let t = g.D.Disk.state c.make_beside.new.disk in
    let tells = rw c.in-Other.is at c.in_ok-changed.ensures.told in
    let made = rw (c.as_str.ensures.same, c.as_str-2.ensures.same, c.deref.ensures.value, c.in-Some.is) at (c.in_ok-made.ensures.made told) in
    staged change c.args.path.now own s0 s1 c.find.ensures.tree bytes found c.in-Other.changed.new_bytes.items c.in-Other.changed.count tells.0 tells.1 c.in-Some.made t made _
    (c.digest.ensures ∙ ap sha256 c.deref-2.ensures.value) refl (rw c.in_ok-path.ensures.ok_part at c.new-2.ensures).0

pub returns-in_err-found-clause-fails : goal.returns-in_err-found-clause-fails
returns-in_err-found-clause-fails g c =
    told_on _ c.from_residual.result _ c.from_residual.ensures.1
    (not_found (g.R.Replaces.change c.args.replacer.now) g.D.Disk.tells (g.D.Disk.state c.args.disk.now) (g.D.Disk.state c.find.new.disk) c.args.path.now c.in_err-found.field-0.0 c.in_err-found.ensures.fails)

pub returns-in_err-made-clause-fails : goal.returns-in_err-made-clause-fails
returns-in_err-made-clause-fails g c =
    told_on _ c.from_residual-in_err-made.result _ c.from_residual-in_err-made.ensures.1
    (made_fails (g.R.Replaces.change c.args.replacer.now) g.D.Disk.tells (g.D.Disk.state c.args.disk.now) (g.D.Disk.state c.find.new.disk) (g.D.Disk.state c.make_beside.new.disk) c.args.path.now c.in_err-made.field-0.0
    c.find.ensures.never_falls c.in_err-made.ensures.cause)

pub returns-in_default-2-clause-fails : goal.returns-in_default-2-clause-fails
returns-in_default-2-clause-fails g c =
    let change = g.R.Replaces.change c.args.replacer.now in
    let s0 = g.D.Disk.state c.args.disk.now in
    let s1 = g.D.Disk.state c.find.new.disk in
    let own = c.in_ok-found.found.path in (
      (λ told.
          let bytes = c.in_ok-found.found.bytes.items in
          let found = c.in_ok-found.ensures.found told in
          let tells = rw c.in-Other.is at c.in_ok-changed.ensures.told in
          let path_in = file_path_in s1.tree own (g.met.D.Disk.is_tree c.find.new.disk told) (own_path change c.args.path.now own s0 s1 c.find.ensures.tree bytes found) in
          crowded_at change c.args.path.now own s0 s1 c.find.ensures.tree bytes found c.in-Other.changed.new_bytes.items c.in-Other.changed.count tells.0 tells.1 _
          (folder_text_is s1.tree own c.as_str-in_default-2.result.now c.folder_path.result.now c.in_ok-new.field-0 path_in c.as_str-in_default-2.ensures.same c.folder_path.ensures c.in_ok-new.ensures)
          (rw (c.as_str.ensures.same, c.in_default-2.is) at (c.in_ok-made.ensures.none_free told))),
      (λ untold. more_since reserved_names s0.faults s1.faults (g.D.Disk.state c.make_beside.new.disk).faults c.find.ensures.never_falls (rw c.in_default-2.is at (c.in_ok-made.ensures.risen untold))),
    )
