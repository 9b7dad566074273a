use Rattle.std.proofs.Common.{lit<, Some, None}
use Rattle.std.proofs.lemmas.Str.Pattern.{split_once_first}
use Rattle.mem_io.proofs.path.PieceLemmas.{uncut, cut_here}
use Rattle.mem_io.proofs.path.cut.Goals as goal

pub returns-in-None-clause-pieces : goal.returns-in-None-clause-pieces
returns-in-None-clause-pieces c = uncut _ c.args.text.now (split_once_first 47 c.args.text.now None c.in-None.ensures.cases (lit< tt))

pub returns-in-Some-clause-pieces : goal.returns-in-Some-clause-pieces
returns-in-Some-clause-pieces c = let s = split_once_first 47 c.args.text.now (Some (c.in-Some.part, c.in-Some.rest)) c.in-Some.ensures.cases (lit< tt) in cut_here c.args.text.now c.in-Some.part.now c.in-Some.rest.now s.0 s.1 s.2
