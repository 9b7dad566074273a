use Rattle.std.proofs.Common.{subst}
use Rattle.sd_plan.specs.Reading.{Lacks}
use Rattle.sd_plan.proofs.fields.CutLemmas.{cut_none}
use Rattle.sd_plan.proofs.escaping.EscapeLemmas.{escaped_tells, escaped_text, escaped_line}
use Rattle.sd_plan.proofs.laws.an_escape_has_one_path.Goals as goal

pub returns : goal.returns
returns c = record {
  one = escaped_tells;
  text = escaped_text;
  line = λ path front back e. cut_none 10 front back (subst (Lacks 10) e (escaped_line path));
}
