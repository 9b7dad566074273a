use Rattle.std.proofs.Common.{◌≡◌, ℕ, sym, ap, subst, ◌∙◌, true≢false, Vec, Global}
use Rattle.std.specs.Str.{IsUtf8}
use Rattle.std.proofs.lemmas.Str.{IsUtf8-string_bytes}
use Rattle.sd_plan.specs.Escaped.{escaped}
use Rattle.sd_plan.proofs.escaping.EscapeLemmas.{escaped_tells}
use Rattle.sd_plan.proofs.escaping.read_path.Goals as goal

pub returns-in-Ok : goal.returns-in-Ok
returns-in-Ok c =
    let written = rw c.in-Some.is at c.in_ok-bytes.ensures in
    let same = c.from.ensures ∙ ap (λ (v : Vec ℕ Global). v.items) c.in-Ok.ensures.ok in
    (subst IsUtf8 (sym c.from.ensures) (IsUtf8-string_bytes c.in-Ok.path), written ∙ ap escaped (sym same))

pub returns : goal.returns
returns c path is =
    let written = rw c.in-Some.is at c.in_ok-bytes.ensures in
    let same : c.in-Some.bytes.items ≡ path = escaped_tells _ _ (sym written ∙ is.1) in
    absurd (true≢false (sym (c.in-Err.ensures.succeeds (subst IsUtf8 (sym same) is.0))))
