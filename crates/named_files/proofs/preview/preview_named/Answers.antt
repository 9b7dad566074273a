use Rattle.std.proofs.Common.{◌≡◌, ◌∙◌, ◌+◌, ℕ, List, take, drop, length, refl, sym, ap, subst, rules, arith, true≢false}
use Rattle.std.proofs.lemmas.List.{map-id}
use Rattle.std.proofs.lemmas.Iterator.Adapters.{YieldsList-from_vec}
use Rattle.std.proofs.lemmas.Iterator.Consumers.{YieldsList-turn, YieldsList-so_far, YieldsList-end}
use Rattle.std.proofs.lemmas.Result.{IfErr-weaker}
use Rattle.sd_course.specs.Course.{course}
use Rattle.file_rewrite.specs.Paths.{IsNoPath}
use Rattle.named_files.specs.Preview.{are_many, have_headers, Shows, ShowsNot, PreviewFails}
use Rattle.named_files.specs.declared.fault.PreviewFault.TheVariants as preview
use Rattle.named_files.proofs.preview.PreviewLemmas.{told_on, no_value, cut_here, none_shown, more_shown, stops_before, fails_here, shown_all}
use Rattle.named_files.proofs.preview.WhyLemmas.{fault_told, never_done, path_told, for_memory}
use Rattle.named_files.proofs.preview.preview_named.Goals as goal

pub loop-path-init : goal.loop-path-init
loop-path-init g c = record {
  lists = search rules;
  disk_low = omega arith;
  sink_low = omega arith;
  shown = none_shown _ _ _ _ _ _;
}

pub loop-path-preserved : goal.loop-path-preserved
loop-path-preserved g c =
    let change = g.R.Replaces.change c.args.replacer.now in
    let many = have_headers c.headers_for-headers.result in
    let s0 = g.D.Disk.state c.args.disk.now in
    let s1 = g.D.Disk.state c.loop-path.disk in
    let s2 = g.D.Disk.state c.show.new.disk in
    let o0 = g.O.Sink.state c.args.out.now in
    let o1 = g.O.Sink.state c.loop-path.out in
    let o2 = g.O.Sink.state c.show.new.out in
    let shown = c.in_ok-show.ensures.shown in
    record {
      lists = search rules;
      disk_low = omega (arith, c.loop-path.invariant.disk_low, c.in_ok-show.ensures.disk_never_falls);
      sink_low = omega (arith, c.loop-path.invariant.sink_low, c.in_ok-show.ensures.sink_never_falls);
      shown =
          more_shown change many g.D.Disk.tells g.O.Sink.tells s0 s1 s2 o0 o1 o2 c.loop-path.yielded c.in-Some.path c.loop-path.invariant.shown
          (λ no. true≢false (sym (c.if-is_no_path.ensures.1 (subst IsNoPath (sym c.as_str.ensures.same) no)))) c.in_ok-show.ensures.tree
          (subst (λ (p : List ℕ). Shows change many p (course g.D.Disk.tells s1 s2) (course g.O.Sink.tells o1 o2)) c.as_str-in-loop-path.ensures.same shown);
    }

pub returns-then-is_no_path-clause-fails : goal.returns-then-is_no_path-clause-fails
returns-then-is_no_path-clause-fails g c =
    let made = c.into_iter-path-iterator.ensures.into_iter_gives in
    let xs = c.loop-path.yielded in
    let items = c.args.paths.items in
    let all = YieldsList-from_vec items made.0 (made.1 ∙ c.args.paths.ok.0) in
    let turn = YieldsList-turn all xs _ c.loop-path.yielded_by _ c.next.new.self c.in-Some.path c.in-Some.is c.next.ensures.steps in
    let front : xs ≡ take (length xs) items = sym (map-id xs) ∙ YieldsList-so_far all xs _ c.loop-path.yielded_by in
    let s1 = g.D.Disk.state c.loop-path.disk in
    let o1 = g.O.Sink.state c.loop-path.out in (
      subst IsNoPath c.as_str.ensures.same (c.if-is_no_path.ensures.0 refl),
      stops_before (g.R.Replaces.change c.args.replacer.now) (have_headers c.headers_for-headers.result) g.D.Disk.tells g.O.Sink.tells (g.D.Disk.state c.args.disk.now) s1 s1
          (g.O.Sink.state c.args.out.now) o1 o1 xs c.in-Some.path c.loop-path.invariant.shown items (drop (length xs + 1) items) (c.headers_for-headers.ensures ∙ ap are_many c.deref.ensures.value)
          (cut_here items xs c.in-Some.path front turn.0 turn.1) refl,
    )

pub returns-in_err-show-clause-fails : goal.returns-in_err-show-clause-fails
returns-in_err-show-clause-fails g c =
    let made = c.into_iter-path-iterator.ensures.into_iter_gives in
    let xs = c.loop-path.yielded in
    let items = c.args.paths.items in
    let all = YieldsList-from_vec items made.0 (made.1 ∙ c.args.paths.ok.0) in
    let turn = YieldsList-turn all xs _ c.loop-path.yielded_by _ c.next.new.self c.in-Some.path c.in-Some.is c.next.ensures.steps in
    let front : xs ≡ take (length xs) items = sym (map-id xs) ∙ YieldsList-so_far all xs _ c.loop-path.yielded_by in
    let change = g.R.Replaces.change c.args.replacer.now in
    let many = have_headers c.headers_for-headers.result in
    let s0 = g.D.Disk.state c.args.disk.now in
    let s1 = g.D.Disk.state c.loop-path.disk in
    let s2 = g.D.Disk.state c.show.new.disk in
    let o0 = g.O.Sink.state c.args.out.now in
    let o1 = g.O.Sink.state c.loop-path.out in
    let o2 = g.O.Sink.state c.show.new.out in
    let fault = c.in_err-show.field-0.0 in
    told_on (PreviewFails change items (course g.D.Disk.tells s0 s2) (course g.O.Sink.tells o0 o2)) c.from_residual.result fault c.from_residual.ensures.1
    (fails_here change many g.D.Disk.tells g.O.Sink.tells s0 s1 s2 o0 o1 o2 xs c.in-Some.path c.loop-path.invariant.shown items (drop (length xs + 1) items)
    (c.headers_for-headers.ensures ∙ ap are_many c.deref.ensures.value) (cut_here items xs c.in-Some.path front turn.0 turn.1)
    c.loop-path.invariant.disk_low c.loop-path.invariant.sink_low (λ no. true≢false (sym (c.if-is_no_path.ensures.1 (subst IsNoPath (sym c.as_str.ensures.same) no)))) fault
    (subst (λ (p : List ℕ). ShowsNot change many p (course g.D.Disk.tells s1 s2) (course g.O.Sink.tells o1 o2) fault) c.as_str-in-loop-path.ensures.same c.in_err-show.ensures.fails))

pub returns-clause-done : goal.returns-clause-done
returns-clause-done g c =
    let made = c.into_iter-path-iterator.ensures.into_iter_gives in
    let xs = c.loop-path.yielded in
    let items = c.args.paths.items in
    let end = YieldsList-end (YieldsList-from_vec items made.0 (made.1 ∙ c.args.paths.ok.0)) xs _ c.loop-path.yielded_by _ c.next.new.self c.in-None.is c.next.ensures.steps in
    shown_all (g.R.Replaces.change c.args.replacer.now) (have_headers c.headers_for-headers.result) g.D.Disk.tells g.O.Sink.tells (g.D.Disk.state c.args.disk.now) (g.D.Disk.state c.loop-path.disk)
    (g.O.Sink.state c.args.out.now) (g.O.Sink.state c.loop-path.out) xs items c.loop-path.invariant.shown (c.headers_for-headers.ensures ∙ ap are_many c.deref.ensures.value) (sym (map-id xs) ∙ end.0)

-- ---- where a word names no file, and where nothing stands in the way

pub returns-then-is_no_path-clause-no_path : goal.returns-then-is_no_path-clause-no_path
returns-then-is_no_path-clause-no_path g c = λ told path first no.
    fault_told (g.R.Replaces.change c.args.replacer.now) c.args.paths.items (course g.D.Disk.tells (g.D.Disk.state c.args.disk.now) (g.D.Disk.state c.loop-path.disk))
    (course g.O.Sink.tells (g.O.Sink.state c.args.out.now) (g.O.Sink.state c.loop-path.out)) told path first no (preview.InvalidPath c.in-Some.path) (returns-then-is_no_path-clause-fails g c)

pub returns-in_err-show-clause-no_path : goal.returns-in_err-show-clause-no_path
returns-in_err-show-clause-no_path g c = λ told path first no.
    path_told (g.R.Replaces.change c.args.replacer.now) c.args.paths.items (course g.D.Disk.tells (g.D.Disk.state c.args.disk.now) (g.D.Disk.state c.show.new.disk))
    (course g.O.Sink.tells (g.O.Sink.state c.args.out.now) (g.O.Sink.state c.show.new.out)) told path first no c.from_residual.result
    (no_value _ c.from_residual.result _ c.from_residual.ensures.1) (returns-in_err-show-clause-fails g c)

pub returns-clause-no_path : goal.returns-clause-no_path
returns-clause-no_path g c = λ told path first no.
    never_done (g.R.Replaces.change c.args.replacer.now) c.args.paths.items (course g.D.Disk.tells (g.D.Disk.state c.args.disk.now) (g.D.Disk.state c.loop-path.disk))
    (course g.O.Sink.tells (g.O.Sink.state c.args.out.now) (g.O.Sink.state c.loop-path.out)) told path first no (returns-clause-done g c)

pub returns-then-is_no_path-clause-complete : goal.returns-then-is_no_path-clause-complete
returns-then-is_no_path-clause-complete g c = λ clear.
    for_memory (g.R.Replaces.change c.args.replacer.now) c.args.paths.items (course g.D.Disk.tells (g.D.Disk.state c.args.disk.now) (g.D.Disk.state c.loop-path.disk))
    (course g.O.Sink.tells (g.O.Sink.state c.args.out.now) (g.O.Sink.state c.loop-path.out)) clear (preview.InvalidPath c.in-Some.path) (returns-then-is_no_path-clause-fails g c)

pub returns-in_err-show-clause-complete : goal.returns-in_err-show-clause-complete
returns-in_err-show-clause-complete g c = λ clear.
    IfErr-weaker c.from_residual.result _ (λ fault. fault ≡ preview.NoMemory)
    (for_memory (g.R.Replaces.change c.args.replacer.now) c.args.paths.items (course g.D.Disk.tells (g.D.Disk.state c.args.disk.now) (g.D.Disk.state c.show.new.disk))
    (course g.O.Sink.tells (g.O.Sink.state c.args.out.now) (g.O.Sink.state c.show.new.out)) clear) (returns-in_err-show-clause-fails g c)
