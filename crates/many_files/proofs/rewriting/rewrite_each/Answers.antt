use Rattle.std.proofs.Common.{◌≡◌, ◌∙◌, ◌++◌, ◌∷◌, [], ℕ, List, length, sym, ap, subst, rules, arith}
use Rattle.std.proofs.lemmas.List.{map-id, length_push}
use Rattle.std.specs.Prelude.{IsTrue}
use Rattle.std.proofs.lemmas.List.Elements.{All-get_or}
use Rattle.std.proofs.lemmas.Iterator.Adapters.{YieldsList-from_vec}
use Rattle.std.proofs.lemmas.Iterator.Consumers.{YieldsList-turn, YieldsList-end}
use Rattle.sd_io.specs.Tree.{NameList}
use Rattle.file_rewrite.specs.Paths.{IsNoPath}
use Rattle.many_files.specs.Files.{ListsFiles}
use Rattle.many_files.specs.Jobs.{failed_of, end_of}
use Rattle.many_files.specs.OneFile.{ReplacesOne}
use Rattle.many_files.proofs.rewriting.FileLemmas.{IsNextFile, next_file}
use Rattle.many_files.proofs.rewriting.KeepLemmas.{one_keeps}
use Rattle.many_files.proofs.rewriting.CauseLemmas.{no_causes, more_causes}
use Rattle.many_files.proofs.rewriting.CrowdLemmas.{none_crowded, more_crowded}
use Rattle.many_files.proofs.rewriting.ChainLemmas.{none_named, added_as, more_named, as_one, done_all, fails_all}
use Rattle.many_files.proofs.rewriting.MemoryLemmas.{named_jobs, for_memory}
use Rattle.many_files.proofs.rewriting.SweptLemmas.{IsSweptTo, swept_none, swept_more, few_changed, few_replaced}
use Rattle.many_files.proofs.rewriting.EndLemmas.{listed_end}
use Rattle.many_files.proofs.rewriting.ListedLemmas.{listed_named}
use Rattle.many_files.proofs.rewriting.rewrite_each.Goals as goal

pub loop-path-init : goal.loop-path-init
loop-path-init g c = record {
  never_falls = search rules;
  lists = search rules;
  jobs_few = omega (arith, c.in_ok-done.ensures.none);
  room = omega (arith, c.in_ok-done.ensures.room, c.len.ensures, c.args.paths.ok.0);
  changed_few = omega (arith, c.in_ok-done.ensures.changed);
  replaced_few = omega (arith, c.in_ok-done.ensures.replaced);
  named = none_named _ _ _ _ _ _ c.in_ok-done.ensures.jobs c.in_ok-done.ensures.changed c.in_ok-done.ensures.replaced;
  causes = no_causes _ _ _ c.in_ok-done.ensures.jobs;
  crowded = λ told. none_crowded _ _ c.in_ok-done.ensures.jobs;
  swept = λ told places are. swept_none _ places _ _ _ _ c.in_ok-done.ensures.jobs c.in_ok-done.ensures.changed c.in_ok-done.ensures.replaced;
}

pub loop-path-preserved : goal.loop-path-preserved
loop-path-preserved g c =
    let made = c.into_iter-path-iterator.ensures.into_iter_gives in
    let xs = c.loop-path.yielded in
    let items = c.args.paths.items in
    let turn = YieldsList-turn (YieldsList-from_vec items made.0 (made.1 ∙ c.args.paths.ok.0)) xs _ c.loop-path.yielded_by _ c.next.new.self c.in-Some.path c.in-Some.is c.next.ensures.steps in
    let same : c.as_str.result.now ≡ c.in-Some.path = c.as_str.ensures.same in
    let text = c.as_str.result.now in
    let change = g.R.Replaces.change c.args.replacer.now in
    let s0 = g.D.Disk.state c.args.disk.now in
    let s1 = g.D.Disk.state c.loop-path.disk in
    let s2 = g.D.Disk.state c.replace_file-rewritten.new.disk in
    let result = c.replace_file-rewritten.result in
    let rewritten = c.replace_file-rewritten.ensures in
    let so = c.loop-path.invariant in
    let jobs = c.loop-path.done.jobs.items in
    let next = λ (places : List NameList) (are : ListsFiles s0.tree items places).
    subst (IsNextFile s0.tree places (length xs)) (sym same) (next_file s0.tree items places (length xs) c.in-Some.path are turn.0 turn.1) in
    let names = λ (told : IsTrue g.D.Disk.tells) (places : List NameList) (are : ListsFiles s0.tree items places).
    subst (λ (p : List ℕ). IsNoPath p → ⊥) (sym (same ∙ turn.1))
    (All-get_or (λ (p : List ℕ). IsNoPath p → ⊥) items (length xs) c.in-Some.path turn.0 (listed_named s0.tree (g.met.D.Disk.is_tree c.args.disk.now told) items places are)) in
    let added = added_as c.add.new.self.jobs.items jobs text c.in-Some.path result same c.add.ensures.jobs in
    record {
      never_falls = omega (arith, so.never_falls, rewritten.never_falls);
      lists = search rules;
      jobs_few = omega (arith, c.add.ensures.few, so.jobs_few, length_push xs c.in-Some.path);
      room = omega (arith, c.add.ensures.capacity, so.room);
      changed_few = omega (arith, c.add.ensures.changed, so.changed_few, few_changed result, length_push xs c.in-Some.path);
      replaced_few = omega (arith, c.add.ensures.replaced, so.replaced_few, few_replaced result rewritten.few, length_push xs c.in-Some.path);
      named =
          more_named change g.D.Disk.tells s0 s1 s2 xs jobs c.add.new.self.jobs.items c.loop-path.done.changed c.loop-path.done.replaced c.add.new.self.changed c.add.new.self.replaced so.named c.in-Some.path result
          (λ no. (rewritten.no_path (subst IsNoPath (sym same) no)).1) c.add.ensures.jobs c.add.ensures.changed c.add.ensures.replaced
          (λ told. subst (λ (p : List ℕ). ReplacesOne change p result s1 s2) same
          (as_one change g.D.Disk.tells text result s1 s2 told (rewritten.rewritten told) (rewritten.left told)
          rewritten.cause (rewritten.crash told) (rewritten.durable told) rewritten.never_falls));
      causes =
          more_causes change g.D.Disk.tells s0 s1 s2 so.never_falls rewritten.never_falls jobs c.add.new.self.jobs.items
          so.causes text result added rewritten.rewritten rewritten.left rewritten.cause;
      crowded = λ told.
          more_crowded g.D.Disk.tells told change s0 s1 s2 (one_keeps change text result s1 s2 (rewritten.rewritten told) (rewritten.left told))
          so.never_falls rewritten.never_falls jobs (so.crowded told) text c.add.new.self.jobs.items result added
          (rewritten.rewritten told) (rewritten.left told) rewritten.cause;
      swept = λ told places are.
          subst (λ (p : List ℕ). IsSweptTo change s0 places (xs ++ p ∷ []) c.add.new.self.jobs.items c.add.new.self.changed c.add.new.self.replaced s2) same
          (swept_more change s0 s1 items places are xs jobs _ _ (so.swept told places are) text (next places are) s2 g.D.Disk.tells told (names told places are) result
          c.add.new.self.jobs.items c.add.new.self.changed c.add.new.self.replaced added c.add.ensures.changed c.add.ensures.replaced rewritten.never_falls
          (rewritten.rewritten told) (rewritten.left told) rewritten.cause (rewritten.crash told) (rewritten.durable told));
    }

pub returns-clause-done : goal.returns-clause-done
returns-clause-done g c =
    let made = c.into_iter-path-iterator.ensures.into_iter_gives in
    let xs = c.loop-path.yielded in
    let end = YieldsList-end (YieldsList-from_vec c.args.paths.items made.0 (made.1 ∙ c.args.paths.ok.0)) xs _ c.loop-path.yielded_by _ c.next.new.self c.in-None.is c.next.ensures.steps in
    done_all _ g.D.Disk.tells (g.D.Disk.state c.args.disk.now) (g.D.Disk.state c.loop-path.disk) xs c.args.paths.items _ _ _ c.loop-path.invariant.named (sym (map-id xs) ∙ end.0) c.finish.result c.len-chosen.result
    (c.len-chosen.ensures ∙ c.args.paths.ok.0) c.finish.ensures.done

pub returns-clause-fails : goal.returns-clause-fails
returns-clause-fails g c =
    let made = c.into_iter-path-iterator.ensures.into_iter_gives in
    let xs = c.loop-path.yielded in
    let end = YieldsList-end (YieldsList-from_vec c.args.paths.items made.0 (made.1 ∙ c.args.paths.ok.0)) xs _ c.loop-path.yielded_by _ c.next.new.self c.in-None.is c.next.ensures.steps in
    fails_all _ g.D.Disk.tells (g.D.Disk.state c.args.disk.now) (g.D.Disk.state c.loop-path.disk) xs c.args.paths.items _ _ _ c.loop-path.invariant.named (sym (map-id xs) ∙ end.0) c.loop-path.invariant.causes c.loop-path.invariant.crowded c.finish.result c.finish.ensures.failed

pub returns-clause-listed : goal.returns-clause-listed
returns-clause-listed g c = λ told places are.
    let made = c.into_iter-path-iterator.ensures.into_iter_gives in
    let xs = c.loop-path.yielded in
    let end = YieldsList-end (YieldsList-from_vec c.args.paths.items made.0 (made.1 ∙ c.args.paths.ok.0)) xs _ c.loop-path.yielded_by _ c.next.new.self c.in-None.is c.next.ensures.steps in
    listed_end _ (g.D.Disk.state c.args.disk.now) (g.D.Disk.state c.loop-path.disk) _ places are xs _ _ _ (c.loop-path.invariant.swept told places are) (sym (map-id xs) ∙ end.0) c.finish.result c.len-chosen.result
    (c.len-chosen.ensures ∙ c.args.paths.ok.0) c.finish.ensures.done c.finish.ensures.failed

pub returns-clause-complete : goal.returns-clause-complete
returns-clause-complete g c = λ clear.
    let made = c.into_iter-path-iterator.ensures.into_iter_gives in
    let xs = c.loop-path.yielded in
    let end = YieldsList-end (YieldsList-from_vec c.args.paths.items made.0 (made.1 ∙ c.args.paths.ok.0)) xs _ c.loop-path.yielded_by _ c.next.new.self c.in-None.is c.next.ensures.steps in
    for_memory g.D.Disk.tells (g.D.Disk.state c.args.disk.now) (g.D.Disk.state c.loop-path.disk) c.args.paths.items c.loop-path.done.jobs.items clear c.loop-path.invariant.causes c.loop-path.invariant.crowded
    (named_jobs _ _ _ _ xs _ _ _ _ c.loop-path.invariant.named (sym (map-id xs) ∙ end.0)) c.finish.result c.finish.ensures.failed
