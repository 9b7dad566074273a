use Rattle.sd_replace.proofs.making.MakingLemmas.{one}
use Rattle.sd_replace.proofs.making.one_replacement.Goals as goal

pub returns : goal.returns
returns c =
    one c.a_text_has_at_most_one_reading.ensures c.a_class_with_its_set_has_one_list_of_ranges.ensures.chars
    c.a_class_with_its_set_has_one_list_of_ranges.ensures.bytes
