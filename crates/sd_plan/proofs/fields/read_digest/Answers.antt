use Rattle.std.proofs.Common.{sym, ap, ◌∙◌}
use Rattle.sd_plan.specs.Digest.{digits_of}
use Rattle.sd_plan.proofs.fields.FoundLemmas.{differs, digest_refused, digest_same}
use Rattle.sd_plan.proofs.fields.read_digest.Goals as goal

pub returns-then-is_err : goal.returns-then-is_err
returns-then-is_err c digest is = digest_refused c.args.field.now digest _ _ c.decode_to_slice.ensures.value c.if-is_err.ensures.value is

pub returns-else-eq : goal.returns-else-eq
returns-else-eq c digest is =
    let same = digest_same c.args.field.now digest c.decode_to_slice.new.out c.decode_to_slice.result c.decode_to_slice.ensures.value is in
    differs c.as_slice.result.now c.args.field.now c.eq.result c.eq.ensures c.if-eq.false
    (c.as_slice.ensures ∙ c.digits-digits.ensures ∙ ap digits_of (c.from_slice-digest.ensures.same ∙ same) ∙ sym is.1)
