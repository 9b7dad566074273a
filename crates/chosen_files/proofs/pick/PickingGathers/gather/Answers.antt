use Rattle.std.proofs.Common.{◌≡◌, [], ◌∷◌, ◌∙◌, inl, inr, refl, sym, ap, append-nil}
use Rattle.std.proofs.lemmas.Bool.{false≢true}
use Rattle.std.proofs.lemmas.List.Elements.{All-nil, All-push}
use Rattle.walk_rest.specs.Plan.{path_below}
use Rattle.chosen_files.specs.declared.pick.Picking.{Picking}
use Rattle.chosen_files.specs.Chosen.{IsPathBelow}
use Rattle.chosen_files.proofs.laws.BelowLemmas.{same_below}
use Rattle.chosen_files.proofs.pick.PickingGathers.gather.Goals as goal
use Rattle.chosen_files.proofs.pick.PickingGathers.gather.Goals.{then-branch+in_ok-join+in_ok-push, else-branch}

-- its path isn't below the top's
pub returns-in_default-clause-gathers : goal.returns-in_default-clause-gathers
returns-in_default-clause-gathers g c = record {
  root = refl;
  top = refl;
  globs = refl;
  more = [];
  added = sym (append-nil c.args.self.now.paths.items);
  below_root = All-nil (IsPathBelow c.args.self.now.root.now);
  picks = λ told. inr ((λ picked. c.in_default.ensures picked.names (c.path.ensures ∙ picked.path_is)), refl);
}

pub returns-clause-gathers : goal.returns-clause-gathers
returns-clause-gathers g c =
    let old = c.args.self.now in
    let root = old.root.now in
    let top = old.top.now in
    let names = c.in-Some.names.now in
    let named : c.args.entry.path ≡ path_below top names = sym c.path.ensures ∙ c.in-Some.ensures in
    elim c.if-branch.branch [
      | then-branch+in_ok-join+in_ok-push w ↦
          (let path = w.in_ok-join.field-0 in
          record {
            root = ap (λ (p : Picking). p.root.now) w.self-is;
            top = ap (λ (p : Picking). p.top.now) w.self-is;
            globs = ap (λ (p : Picking). p.globs.now) w.self-is;
            more = path ∷ [];
            added = ap (λ (p : Picking). p.paths.items) w.self-is ∙ w.in_ok-push.ensures.items;
            below_root = All-push (IsPathBelow root) [] path (All-nil (IsPathBelow root)) (names, w.in_ok-join.ensures);
            picks = λ told.
                (let picked = (c.in_ok-is_picked.ensures.picked told top named).0 w.if-branch.true in
                let is = w.in_ok-join.ensures ∙ ap (path_below root) (same_below top names picked.names (sym named ∙ picked.path_is)) in
                inl (picked, [], (λ i. is i ∷ []), refl));
          })
      | else-branch w ↦
          record {
            root = ap (λ (p : Picking). p.root.now) w.self-is;
            top = ap (λ (p : Picking). p.top.now) w.self-is;
            globs = ap (λ (p : Picking). p.globs.now) w.self-is;
            more = [];
            added = ap (λ (p : Picking). p.paths.items) w.self-is ∙ sym (append-nil old.paths.items);
            below_root = All-nil (IsPathBelow root);
            picks = λ told. inr ((λ picked. false≢true (sym w.if-branch.false ∙ (c.in_ok-is_picked.ensures.picked told top named).1 picked)), refl);
          }
    ]
