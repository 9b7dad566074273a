use Rattle.std.proofs.Common.{◌≡◌, map, take}
use Rattle.sd_words.proofs.matched.all_owned.Given as goal

abbrev pub invariant-loop-text : goal.invariant-loop-text
invariant-loop-text l = l.owned ≡ map (λ s. s.now) (take l.text-index l.texts)
