use Rattle.grep_matcher.proofs.references.ReferenceLemmas.{read_number, read_name}
use Rattle.grep_matcher.proofs.references.target.Goals as goal

pub returns-in-Ok : goal.returns-in-Ok
returns-in-Ok c = read_number c.args.name.now c.parse.result c.in-Ok.number c.parse.ensures.value.0 c.requires.no_plus c.in-Ok.is

pub returns-in-Err : goal.returns-in-Err
returns-in-Err c = read_name c.args.name.now c.parse.result c.in-Err.field-0 c.parse.ensures.value.0 c.requires.no_plus c.requires.not_empty c.in-Err.is
