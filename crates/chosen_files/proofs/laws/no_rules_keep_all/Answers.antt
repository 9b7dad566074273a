use Rattle.std.proofs.Common.{[]}
use Rattle.chosen_files.proofs.laws.KeptLemmas.{all_kept, below_seen, chosen_paths, fewer_below, fewer_seen_below, kept_paths, many_below, many_seen_below, seen_below}
use Rattle.chosen_files.proofs.laws.no_rules_keep_all.Goals as goal

pub returns : goal.returns
returns c = record {
  kept = λ tree top globs place. ((λ kept. kept.chosen), λ chosen. all_kept tree top globs place chosen);
  paths = λ tree root globs paths. (kept_paths tree root globs paths, chosen_paths tree root globs paths);
  seen = λ tree top place. (seen_below tree top [] place, below_seen tree top place);
  fewer = λ cap tree root. (fewer_below cap tree root, fewer_seen_below cap tree root);
  many = λ cap tree root. (many_below cap tree root, many_seen_below cap tree root);
}
