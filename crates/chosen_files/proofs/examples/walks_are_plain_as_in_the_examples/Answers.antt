use Rattle.std.proofs.Common.{refl}
use Rattle.chosen_files.proofs.examples.walks_are_plain_as_in_the_examples.Goals as goal

pub returns-clause-first : goal.returns-clause-first
returns-clause-first c = record { from_root = refl; contents_last = refl; no_links = refl; all_devices = refl }

pub returns-clause-links : goal.returns-clause-links
returns-clause-links c = λ plain. let followed = plain.no_links in cc
