use Rattle.journal_text.proofs.PathLemmas.{same_place, place_parts, path_parts}
use Rattle.journal_text.proofs.laws.a_path_has_one_place.Goals as goal

pub returns-clause-one : goal.returns-clause-one
returns-clause-one c = same_place

pub returns-clause-parts : goal.returns-clause-parts
returns-clause-parts c = place_parts

pub returns-clause-path : goal.returns-clause-path
returns-clause-path c = path_parts
