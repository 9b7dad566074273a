use Rattle.std.proofs.Common.{◌≡◌, sym, ◌∙◌, true≢false}
use Rattle.sd_plan.proofs.escaping.EscapeLemmas.{escaped_tells}
use Rattle.sd_plan.proofs.fields.FieldLemmas.{digits_tell, mark_tells}
use Rattle.sd_plan.proofs.fields.FoundLemmas.{none_of_length, some_of_length}
use Rattle.sd_plan.proofs.reading.LineLemmas.{line_fields, fields_of_line, line_of_fields}
use Rattle.sd_plan.proofs.reading.read_line.Goals as goal

pub returns-in_default : goal.returns-in_default
returns-in_default c line is = c.in_default.ensures.none _ _ _ _ _ (line_fields c.args.text.now line is)

pub returns-in_default-read_digest : goal.returns-in_default-read_digest
returns-in_default-read_digest c line is = c.in_default-read_digest.ensures line.before (fields_of_line _ _ _ _ _ _ line c.in-Some.ensures.found is).before

pub returns-in_default-read_digest-2 : goal.returns-in_default-read_digest-2
returns-in_default-read_digest-2 c line is = c.in_default-read_digest-2.ensures line.after (fields_of_line _ _ _ _ _ _ line c.in-Some.ensures.found is).after

pub returns-in_default-read_mark : goal.returns-in_default-read_mark
returns-in_default-read_mark c line is = c.in_default-read_mark.ensures line.changed (fields_of_line _ _ _ _ _ _ line c.in-Some.ensures.found is).mark

pub returns-in_default-read_count : goal.returns-in_default-read_count
returns-in_default-read_count c line is = c.in_default-read_count.ensures line.replaced (fields_of_line _ _ _ _ _ _ line c.in-Some.ensures.found is).count

pub returns-in_default-2 : goal.returns-in_default-2
returns-in_default-2 c line is =
    let none = rw c.in_default-2.is at c.in_ok-path.ensures in
    none line.path (fields_of_line _ _ _ _ _ _ line c.in-Some.ensures.found is).path

pub returns-then-is_empty : goal.returns-then-is_empty
returns-then-is_empty c line is =
    let found = rw c.in-Some-2.is at c.in_ok-path.ensures in
    let same : c.in-Some-2.path ≡ line.path = escaped_tells _ _ (sym found.1 ∙ (fields_of_line _ _ _ _ _ _ line c.in-Some.ensures.found is).path.1) in
    let empty = none_of_length c.as_str.result.now (sym c.is_empty.ensures ∙ c.if-is_empty.true) in
    is.is_line.path_some (sym same ∙ sym c.as_str.ensures.same ∙ empty)

pub returns-then-not-may_stand : goal.returns-then-not-may_stand
returns-then-not-may_stand c line is =
    let fields = fields_of_line _ _ _ _ _ _ line c.in-Some.ensures.found is in
    let before = digits_tell _ _ c.in-Some-read_digest.ensures.0.are_bytes fields.before.0.are_bytes (sym c.in-Some-read_digest.ensures.1 ∙ fields.before.1) in
    let after = digits_tell _ _ c.in-Some-read_digest-2.ensures.0.are_bytes fields.after.0.are_bytes (sym c.in-Some-read_digest-2.ensures.1 ∙ fields.after.1) in
    let changed = mark_tells _ _ (sym c.in-Some-read_mark.ensures ∙ fields.mark) in
    let a = c.if-not-may_stand.true in
    true≢false (sym (c.may_stand.ensures.1 (λ e. before ∙ is.is_line.unchanged (sym changed ∙ e) ∙ sym after)) ∙ c.if-not-may_stand.true)

pub returns : goal.returns
returns c =
    let found = rw c.in-Some-2.is at c.in_ok-path.ensures in
    line_of_fields _ _ _ _ _ _ _ c.in-Some.ensures.found
    (record { before = c.in-Some-read_digest.ensures; after = c.in-Some-read_digest-2.ensures; mark = c.in-Some-read_mark.ensures; count = c.in-Some-read_count.ensures; path = found })
    (c.may_stand.ensures.0 c.if-not-may_stand.false)
    (λ e. some_of_length c.as_str.result.now (sym c.is_empty.ensures ∙ c.if-is_empty.false) (c.as_str.ensures.same ∙ e))
