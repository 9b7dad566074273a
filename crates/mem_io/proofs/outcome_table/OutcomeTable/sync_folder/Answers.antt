use Rattle.std.proofs.Common.{◌≡◌, rules, refl, Bool, true, false}
use Rattle.sd_io.specs.Outcomes.{is_in, never_used}
use Rattle.mem_io.specs.Log.{in_folder}
use Rattle.mem_io.proofs.outcome_table.TableLemmas.{retained_told}
use Rattle.mem_io.proofs.outcome_table.OutcomeTable.sync_folder.Goals as goal

unused_stays : (b : Bool) → in_folder b never_used ≡ never_used
unused_stays true = refl
unused_stays false = refl

pub returns : goal.returns
returns c = λ i q.
    retained_told _ _ (λ at list. in_folder (is_in c.args.folder.now at) list) (λ at. unused_stays (is_in c.args.folder.now at)) (λ k v b w f' t. search rules) _ _ c.retain.ensures.was_ordered
    c.retain.ensures.filtered q i
