use Rattle.std.proofs.Common.{refl}
use Rattle.walk_rest.specs.Names.{by_file_name}
use Rattle.walk_rest.specs.Orders.{by_file_name_total}
use Rattle.walk_rest.proofs.laws.NameLemmas.{by_names}
use Rattle.walk_rest.proofs.laws.file_names_order_as_names.Goals as goal

pub returns-clause-names : goal.returns-clause-names
returns-clause-names c = by_names

pub returns-clause-total : goal.returns-clause-total
returns-clause-total c = by_file_name_total by_file_name refl
