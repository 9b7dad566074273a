use Rattle.file_exchange.proofs.reserved.ReservedPathLemmas.{before_found, none_found}
use Rattle.file_exchange.proofs.reserved.folder_of.Goals as goal

pub returns-in-None : goal.returns-in-None
returns-in-None c = λ folder name is none. absurd (none_found c.args.path.now folder name c.in-None.ensures.cases is)

pub returns-in-Some : goal.returns-in-Some
returns-in-Some c =
    let found = c.in-Some.ensures.cases in
    before_found c.args.path.now c.in-Some.folder.now c.in-Some._name.now found.0 found.1 found.2 found.3 found.4
