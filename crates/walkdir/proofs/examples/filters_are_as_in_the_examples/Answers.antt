use Rattle.std.proofs.Common.{◌∷◌, [], List, ℕ, true, false, Some, None, Ok, refl, sym, inr}
use Rattle.walk_rest.specs.declared.level.Folder.{Folder}
use Rattle.walk_rest.specs.Plan.{Item, Plan, done, into, past}
use Rattle.walk_rest.specs.Rest.{IsStep, Part, entered, none}
use Rattle.walkdir.specs.Filter.{meets, passes}
use Rattle.walkdir.proofs.examples.filters_are_as_in_the_examples.Goals as goal

-- an entry that isn't entered comes
past_comes : (root : Part) (top : Folder) (path : List ℕ) (item : Item) (plan : Plan)
    → IsStep 0 (root ∷ entered top (past path (Some item) plan) ∷ []) (Some item) (root ∷ entered top plan ∷ [])
past_comes root top path item plan = record {
  mid = root ∷ entered top (past path (Some item) plan) ∷ [];
  moves = none;
  answers = inr (record { below = root ∷ []; part = entered top (past path (Some item) plan); was = refl; faultless = refl; comes = (refl, refl) });
}

-- a directory comes and is entered
into_comes : (root : Part) (top folder : Folder) (item : Item) (contents plan : Plan)
    → IsStep 0 (root ∷ entered top (into folder (Some item) contents None plan) ∷ []) (Some item) (root ∷ entered top plan ∷ entered folder contents ∷ [])
into_comes root top folder item contents plan = record {
  mid = root ∷ entered top (into folder (Some item) contents None plan) ∷ [];
  moves = none;
  answers = inr (record { below = root ∷ []; part = entered top (into folder (Some item) contents None plan); was = refl; faultless = refl; comes = (refl, refl) });
}

pub returns-clause-directory : goal.returns-clause-directory
returns-clause-directory c = λ root top folder refused given contents path keeps no yes.
    passes {mid = (true, root ∷ entered top (past path (Some (Ok given)) done) ∷ entered folder contents ∷ [])}
    {next = (false, root ∷ entered top (past path (Some (Ok given)) done) ∷ [])} {entry = refused}
    (into_comes root top folder (Ok refused) contents (past path (Some (Ok given)) done)) (sym no) (refl, (entered folder contents, refl))
    (meets {entry = given} (past_comes root top path (Ok given) done) (sym yes))

pub returns-clause-file : goal.returns-clause-file
returns-clause-file c = λ root top refused given path other keeps no yes.
    passes {mid = (false, root ∷ entered top (past other (Some (Ok given)) done) ∷ [])} {next = (false, root ∷ entered top (past other (Some (Ok given)) done) ∷ [])} {entry = refused}
    (past_comes root top path (Ok refused) (past other (Some (Ok given)) done)) (sym no) refl
    (meets {entry = given} (past_comes root top other (Ok given) done) (sym yes))
