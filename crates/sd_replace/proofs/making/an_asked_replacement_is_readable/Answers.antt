use Rattle.sd_replace.proofs.making.MakingLemmas.{readable}
use Rattle.sd_replace.proofs.making.an_asked_replacement_is_readable.Goals as goal

pub returns : goal.returns
returns c =
    readable c.a_text_has_at_most_one_reading.ensures c.a_class_with_its_set_has_one_list_of_ranges.ensures.chars
    c.a_class_with_its_set_has_one_list_of_ranges.ensures.bytes
