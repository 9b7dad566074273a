use Rattle.std.proofs.Common.{◌∷◌, [], refl, inl, inr}
use Rattle.std.proofs.lemmas.List.Elements.{All-nil, All-cons}
use Rattle.file_rewrite.specs.Paths.{IsNoPath}
use Rattle.many_files.specs.Clear.{LeadsToFile}
use Rattle.named_files.specs.Examples.{a_path, b_path}
use Rattle.named_files.proofs.examples.named_files_are_shown_as_in_the_examples.Goals as goal

pub returns-clause-text : goal.returns-clause-text
returns-clause-text c tree is = record { bytes = _; mode = 416; is_file = is; text_is = (_, 1, inr (inl (refl, refl, refl)), refl) }

pub returns-clause-none_of_two : goal.returns-clause-none_of_two
returns-clause-none_of_two c tree is = record { bytes = _; mode = 416; is_file = is; text_is = (_, 0, inr (inr (refl, refl, refl)), refl) }

pub returns-clause-first_unshown : goal.returns-clause-first_unshown
returns-clause-first_unshown c tree leads = record {
  before = a_path ∷ [];
  after = b_path ∷ [];
  paths_are = refl;
  before_shown = All-cons (LeadsToFile tree) a_path [] leads (All-nil (LeadsToFile tree));
  before_name = All-cons (λ other. IsNoPath other → ⊥) a_path [] (λ no. cc) (All-nil (λ other. IsNoPath other → ⊥));
}
