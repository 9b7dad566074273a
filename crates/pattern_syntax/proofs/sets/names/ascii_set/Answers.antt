use Rattle.std.specs.Prelude.{is_some}
use Rattle.std.proofs.Common.{IfSome, IfNone, ◌≡◌, true, false}
use Rattle.std.proofs.lemmas.Result.{IfOk-weaker}
use Rattle.pattern_syntax.specs.Sets.{ascii_set, ascii_names, value_of}
use Rattle.pattern_syntax.specs.Readers.{IsSet}
use Rattle.pattern_syntax.proofs.sets.NameLemmas.{IsFound, ascii_rows, found_in_table, none_in_table}
use Rattle.pattern_syntax.proofs.sets.names.ascii_set.Goals as goal

pub returns-clause-found : goal.returns-clause-found
returns-clause-found c =
    IfOk-weaker _ (λ found. IsFound found (value_of ascii_rows c.args.name.now))
    (λ found. IfSome found (λ set. IsSet set (ascii_set c.args.name.now) × (is_some (value_of ascii_names c.args.name.now) ≡ true)))
    (found_in_table c.args.name.now) c.set_named.ensures

pub returns-clause-none : goal.returns-clause-none
returns-clause-none c =
    IfOk-weaker _ (λ found. IsFound found (value_of ascii_rows c.args.name.now))
    (λ found. IfNone found (is_some (value_of ascii_names c.args.name.now) ≡ false))
    (none_in_table c.args.name.now) c.set_named.ensures
