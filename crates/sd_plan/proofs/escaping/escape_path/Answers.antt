use Rattle.std.proofs.Common.{sym, subst, ◌∙◌, ◌++◌}
use Rattle.std.specs.Str.{IsUtf8}
use Rattle.sd_plan.specs.Escaped.{escaped}
use Rattle.sd_plan.proofs.escaping.EscapeLemmas.{escaped_text}
use Rattle.sd_plan.proofs.escaping.escape_path.Goals as goal

pub unwrap-requires : goal.unwrap-requires
unwrap-requires c =
    let bytes = c.in_ok-push_escaped.ensures ∙ (λ i. c.in_ok-bytes.ensures.items i ++ escaped (c.as_bytes.ensures.value i)) in
    c.from_utf8.ensures.succeeds (subst IsUtf8 (sym bytes) (escaped_text c.args.path.now c.utf8.path))
