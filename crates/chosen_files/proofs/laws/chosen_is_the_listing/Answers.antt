use Rattle.std.proofs.Common.{List, ap, sym, ◌∙◌, subst}
use Rattle.std.specs.Prelude.{is_some}
use Rattle.std.proofs.lemmas.Bool.{false≢true}
use Rattle.sd_io.specs.Tree.{is_directory_node}
use Rattle.walk_rest.specs.Plan.{Item}
use Rattle.chosen_files.specs.Picks.{Picks}
use Rattle.chosen_files.proofs.laws.ReachedLemmas.{reached_no_link}
use Rattle.chosen_files.proofs.laws.ListedLemmas.{directory_kind, nowhere_listed, whole_listed}
use Rattle.chosen_files.proofs.laws.PickLemmas.{listed_chosen, none_picked}
use Rattle.chosen_files.proofs.laws.chosen_is_the_listing.Goals as goal

pub returns-clause-chosen : goal.returns-clause-chosen
returns-clause-chosen c = listed_chosen

pub returns-clause-no_directory : goal.returns-clause-no_directory
returns-clause-no_directory c = λ tree how root top globs items paths is walk no_folder picks.
    let at = reached_no_link tree root top is walk.leads in
    none_picked tree is top globs (ap is_some at.stands) root at.node at.stands
    (λ folder. false≢true (sym no_folder ∙ ap is_directory_node at.stands ∙ directory_kind at.node.content folder)) items paths
    (whole_listed tree how root top items is walk) picks

pub returns-clause-nowhere : goal.returns-clause-nowhere
returns-clause-nowhere c = λ tree how sorts compare root globs items paths nowhere listing picks.
    subst (λ (xs : List Item). Picks tree root root globs xs paths) (nowhere_listed tree how sorts compare root items nowhere listing) picks
