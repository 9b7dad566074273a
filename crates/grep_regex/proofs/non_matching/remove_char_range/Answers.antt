use Rattle.std.proofs.Common.{min, max, arith}
use Rattle.grep_regex.proofs.non_matching.Utf8Lemmas.{range_of_chars_lost, same_form_lost}
use Rattle.grep_regex.proofs.non_matching.remove_char_range.Goals as goal

pub returns : goal.returns
returns c =
    let start = c.args.start in let end = c.args.end in
    let s0 = c.args.set.now in let s1 = c.remove_forms.new.set in let s2 = c.remove_forms-2.new.set in
    let s3 = c.remove_forms-3.new.set in let s4 = c.remove_forms-4.new.set in let s5 = c.remove_forms-5.new.set in
    range_of_chars_lost s0 s1 s2 s3 s4 s5 start end
    (same_form_lost s0 s1 0 0 c.from-start.result c.min.result start (min end 0x7F) (omega arith) (omega arith) c.remove_forms.ensures)
    (same_form_lost s1 s2 0xC0 1 c.max.result c.min-2.result (max start 0x80) (min end 0x7FF) (omega arith) (omega arith) c.remove_forms-2.ensures)
    (same_form_lost s2 s3 0xE0 2 c.max-2.result c.min-3.result (max start 0x800) (min end 0xD7FF) (omega arith) (omega arith) c.remove_forms-3.ensures)
    (same_form_lost s3 s4 0xE0 2 c.max-3.result c.min-4.result (max start 0xE000) (min end 0xFFFF) (omega arith) (omega arith) c.remove_forms-4.ensures)
    (same_form_lost s4 s5 0xF0 3 c.max-4.result c.min-5.result (max start 0x1_0000) (min end 0x10_FFFF) (omega arith) (omega arith) c.remove_forms-5.ensures)
