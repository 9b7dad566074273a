use Rattle.grep_regex.proofs.non_matching_examples.ExamplesLemmas.{all_of_utf8, ascii, beside_surrogates, surrogates, two}
use Rattle.grep_regex.proofs.non_matching_examples.bytes_are_taken_as_in_the_examples.Goals as goal

pub returns : goal.returns
returns c = record {
  ascii = ascii;
  two_bytes = two;
  beside_surrogates = beside_surrogates;
  surrogates = surrogates;
  all = all_of_utf8;
}
