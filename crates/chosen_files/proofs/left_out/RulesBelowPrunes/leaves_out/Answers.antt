use Rattle.std.proofs.Common.{◌∙◌, ◌<◌, ap, sym, arith}
use Rattle.walk_rest.specs.Plan.{is_directory}
use Rattle.chosen_files.proofs.left_out.AfterLemmas.{out_none, out_some}
use Rattle.walkdir.proofs.NextLemmas.{dir_is}
use Rattle.chosen_files.proofs.left_out.RulesBelowPrunes.leaves_out.Goals as goal

pub returns-in_default : goal.returns-in_default
returns-in_default c = out_none c.args.self.now.rules.now c.args.self.now.top.now c.args.entry.now (λ names is. c.in_default.ensures names (c.path.ensures ∙ is))

pub returns : goal.returns
returns c =
    let entry = c.args.entry.now in
    let directory = dir_is c.file_type.result c.is_dir.result c.is_dir.ensures ∙ ap is_directory c.file_type.ensures in
    let deep : 0 < entry.depth = (let e = c.depth.ensures in let n = c.if-depth-eq0.false in omega (arith, e, n)) in
    c.unwrap_or.ensures
    ∙ out_some c.args.self.now.rules.now c.args.self.now.top.now entry c.in-Some.names.now c.is_dir.result c.in_ok-said.said (sym c.path.ensures ∙ c.in-Some.ensures) directory c.in_ok-said.ensures deep
