-- A file is created under a reserved name, written and put on the medium.
use Rattle.std.proofs.Common.{true, ◌≡◌, ◌⊎◌, ℕ, List, [], refl, sym, ◌∙◌, ap, subst, inl, inr}
use Rattle.std.specs.Prelude.{Some, None}
use Rattle.std.specs.Option.{option_and_then}
use Rattle.std.proofs.lemmas.Option.{same_Some}
use Rattle.sd_io.specs.Tree.{NameList, Tree, IsTree, SameBut, node_at, file_at}
use Rattle.sd_io.specs.Paths.{reached}
use Rattle.sd_io.specs.Outcomes.{Outcome, own_of, put}
use Rattle.sd_io.specs.Disk.{DiskState, SameTree, Advances, outcomes_now}
use Rattle.sd_io.specs.Files.{IsNoFile, Writes, Syncs}
use Rattle.sd_io.specs.Crashes.{LeavesSince, IsSettledAt, SettledBut}
use Rattle.sd_io.proofs.CrashLemmas.{since_same, since_loose, since_then, since_more, settled_same, settled_put, settled_then}
use Rattle.file_exchange.specs.Reserved.{FirstFree}
use Rattle.file_exchange.specs.declared.reserved.Temporary.{Temporary}
use Rattle.file_exchange.specs.Temporary.{CreatesTemporary}
use Rattle.file_exchange.proofs.FillingLemmas.{Wrote}
use Rattle.change_phases.specs.Phases.{AreAny}
use Rattle.change_phases.proofs.StepLemmas.{written_any, synced_settled}
use Rattle.journal.specs.Beside.{MakesBeside, LeavesBeside}
use Rattle.journal.proofs.FileLemmas.{text_to_file}

-- ---- only what is at one place may differ

pub record DiffersAt (place : NameList) (old new : DiskState) : Type 0 where
  pub others : SameBut place old.tree new.tree
  pub leaves : LeavesSince (λ q content. ⊥) (λ q. q ≡ place) old new
  pub settled : SettledBut place old new

pub differs_same : (place : NameList) (s t : DiskState) → SameTree s t → DiffersAt place s t
differs_same place s t same = record {
  others = λ q n. ap (λ (x : Tree). node_at x q) same.tree;
  leaves = since_same (λ q content. ⊥) (λ q. q ≡ place) s t same;
  settled = λ q n is. settled_same s t same q is;
}

pub differs_put : (place : NameList) (s t : DiskState) (q : NameList) (list : List Outcome) → q ≡ place → Advances s t (put q list (outcomes_now s)) → SameBut q s.tree t.tree → DiffersAt place s t
differs_put place s t q list e a others = subst (λ (p : NameList). DiffersAt p s t) e (record {
  others = others;
  leaves = since_loose (λ q content. ⊥) (λ p. p ≡ q) s t q list a refl;
  settled = settled_put s t q list a others;
})

pub differs_then : (place : NameList) (r s t : DiskState) → DiffersAt place r s → DiffersAt place s t → DiffersAt place r t
differs_then place r s t a b = record {
  others = λ q n. b.others q n ∙ a.others q n;
  leaves = since_then (λ q content. ⊥) (λ q. q ≡ place) r s t a.leaves b.leaves;
  settled = settled_then place r s t a.settled b.settled;
}

pub left_beside : (folder place : NameList) (s t : DiskState) → FirstFree s.tree folder place → DiffersAt place s t → LeavesBeside s folder t
left_beside folder place s t free d = record {
  temporary = Some place;
  was_free = λ q e. subst (λ (p : NameList). FirstFree s.tree folder p) (same_Some place q e) free;
  others = λ q n. d.others q (λ e. n (ap (λ (p : NameList). Some p) (sym e)));
  leaves = since_more (λ q content. ⊥) (λ q content. ⊥) (λ q. q ≡ place) (λ q. Some place ≡ Some q) s t (λ q content none. absurd none) (λ q e. ap (λ (p : NameList). Some p) (sym e)) d.leaves;
  settled = λ q n is. d.settled q (λ e. n (ap (λ (p : NameList). Some p) (sym e))) is;
}

pub nothing_beside : (folder : NameList) (s t : DiskState) → SameTree s t → LeavesBeside s folder t
nothing_beside folder s t same = record {
  temporary = None;
  was_free = λ q e. cc;
  others = λ q n. ap (λ (x : Tree). node_at x q) same.tree;
  leaves = since_same (λ q content. ⊥) (λ q. None ≡ Some q) s t same;
  settled = λ q n is. settled_same s t same q is;
}

-- ---- it is created

module _ (s0 s1 : DiskState) (folder like : NameList) (made : Temporary) (c : CreatesTemporary s0 folder like made s1) where
  differs_created : DiffersAt c.temporary s0 s1
  differs_created = record { others = c.others; leaves = c.leaves; settled = c.settled }

  written_place : IsTree s1.tree → (q : NameList) → reached s1.tree made.path true ≡ Some q → q ≡ c.temporary
  written_place is q leads = same_Some _ _ (sym leads ∙ ap (λ (x : List ℕ). reached s1.tree x true) c.path_is ∙ text_to_file s1.tree c.temporary ([], c.mode) is c.stands)

  module _ (is1 : IsTree s1.tree) where
    -- written, or not
    differs_written : (t : DiskState) → Wrote s1 made.path t → DiffersAt c.temporary s1 t
    differs_written t (inl same) = differs_same c.temporary s1 t same
    differs_written t (inr (bytes, w)) = differs_put c.temporary s1 t w.place _ (written_place is1 w.place w.leads) w.advances w.others

    -- a file stands there
    pub file_created : IsNoFile s1 made.path → ⊥
    file_created none =
        let leads : reached s1.tree made.path true ≡ Some c.temporary = ap (λ (x : List ℕ). reached s1.tree x true) c.path_is ∙ text_to_file s1.tree c.temporary ([], c.mode) is1 c.stands in
        cc (sym none ∙ ap (option_and_then (file_at s1.tree)) leads ∙ c.stands)

    pub left_written : (t : DiskState) → Wrote s1 made.path t → LeavesBeside s0 folder t
    left_written t wrote = left_beside folder c.temporary s0 t c.was_free (differs_then c.temporary s0 s1 t differs_created (differs_written t wrote))

    -- and put on the medium, or not
    module _ (s2 : DiskState) (bytes : List ℕ) (w : Writes s1 made.path bytes s2) (is2 : IsTree s2.tree) where
      at_temporary : w.place ≡ c.temporary
      at_temporary = written_place is1 w.place w.leads

      mode_is : w.mode ≡ c.mode
      mode_is = ap (λ (f : List ℕ × ℕ). f.1) (same_Some (w.before, w.mode) ([], c.mode) (sym w.was ∙ ap (file_at s1.tree) at_temporary ∙ c.stands))

      holds_there : file_at s2.tree c.temporary ≡ Some (bytes, c.mode)
      holds_there = ap (file_at s2.tree) (sym at_temporary) ∙ w.holds ∙ ap (λ (m : ℕ). Some (bytes, m)) mode_is

      synced_place : (q : NameList) → reached s2.tree made.path true ≡ Some q → q ≡ c.temporary
      synced_place q leads = same_Some _ _ (sym leads ∙ ap (λ (x : List ℕ). reached s2.tree x true) c.path_is ∙ text_to_file s2.tree c.temporary (bytes, c.mode) is2 holds_there)

      pub file_written : IsNoFile s2 made.path → ⊥
      file_written none =
          let leads : reached s2.tree made.path true ≡ Some c.temporary = ap (λ (x : List ℕ). reached s2.tree x true) c.path_is ∙ text_to_file s2.tree c.temporary (bytes, c.mode) is2 holds_there in
          cc (sym none ∙ ap (option_and_then (file_at s2.tree)) leads ∙ holds_there)

      differs_filled : DiffersAt c.temporary s0 s2
      differs_filled = differs_then c.temporary s0 s1 s2 differs_created (differs_written s2 (inr (bytes, w)))

      differs_synced : (t : DiskState) → Wrote s2 made.path t ⊎ Syncs s2 made.path t → DiffersAt c.temporary s2 t
      differs_synced t (inl (inl same)) = differs_same c.temporary s2 t same
      differs_synced t (inl (inr (b, v))) = differs_put c.temporary s2 t v.place _ (synced_place v.place v.leads) v.advances v.others
      differs_synced t (inr y) = differs_put c.temporary s2 t y.place _ (synced_place y.place y.leads.place_reached) y.advances (λ q n. ap (λ (x : Tree). node_at x q) y.tree)

      pub left_synced : (t : DiskState) → Wrote s2 made.path t ⊎ Syncs s2 made.path t → LeavesBeside s0 folder t
      left_synced t h = left_beside folder c.temporary s0 t c.was_free (differs_then c.temporary s0 s2 t differs_filled (differs_synced t h))

      pub made_beside : (t : DiskState) → Syncs s2 made.path t → MakesBeside s0 folder like bytes made t
      made_beside t y =
          let at_y : y.place ≡ c.temporary = synced_place y.place y.leads.place_reached in
          let any1 : AreAny (own_of (outcomes_now s1 c.temporary)) = subst AreAny (sym c.fresh) (refl, tt) in
          let any2 : AreAny (own_of (outcomes_now s2 c.temporary)) =
          subst (λ (q : NameList). AreAny (own_of (outcomes_now s2 q))) at_temporary (written_any s1 s2 made.path bytes w (subst (λ (q : NameList). AreAny (own_of (outcomes_now s1 q))) (sym at_temporary) any1)) in
          let all = differs_then c.temporary s0 s2 t differs_filled (differs_synced t (inr y)) in
          record {
            temporary = c.temporary;
            was_free = c.was_free;
            number_is = c.number_is;
            path_is = c.path_is;
            before = c.bytes;
            mode = c.mode;
            model = c.model;
            holds = ap (λ (x : Tree). file_at x c.temporary) y.tree ∙ holds_there;
            settled = subst (IsSettledAt t) at_y (synced_settled s2 t made.path y (subst (λ (q : NameList). AreAny (own_of (outcomes_now s2 q))) (sym at_y) any2));
            others = all.others;
            settled_others = all.settled;
            leaves = all.leaves;
          }
