use Rattle.std.proofs.Common.{◌∷◌, ◌++◌, [], refl, ap, ◌∙◌}
use Rattle.std.specs.Prelude.{not, ◌&&◌}
use Rattle.walk_rest.specs.declared.level.Level.{Level}
use Rattle.walk_rest.specs.Plan.{item_where}
use Rattle.walk_steps.proofs.enter.enter.Goals as goal

pub returns-in-Err-clause-refused : goal.returns-in-Err-clause-refused
returns-in-Err-clause-refused g c =
    let h = c.in-Err.ensures.value_returned in
    (c.in-Err.refused.value, ap (λ levels. levels ++ c.in-Err.refused.value ∷ []) c.in-Err.ensures.items, ap (λ (l : Level). l.folder) h, ap (λ (l : Level). l.entries) h)

pub returns-clause-entered : goal.returns-clause-entered
returns-clause-entered g c =
    let o = c.args.inside.now.options in
    record {
      raised = record { folder = c.args.level.folder; first = c.split-given.result.1; entries = c.args.level.entries; faults = c.args.level.faults };
      opened = _;
      top = refl;
      stack = c.in_default.ensures.items;
      raised_is = refl;
      after = c.split-given.ensures.after ∙ ap (λ shown. item_where (o.contents_first && shown) c.args.entry) c.is_shown-shown.ensures;
      before = c.split-given.ensures.before ∙ ap (λ shown. item_where (not o.contents_first && shown) c.args.entry) c.is_shown-shown.ensures;
      folder_is = refl;
      first = refl;
      unread = refl;
      faultless = c.new.ensures.items;
    }
