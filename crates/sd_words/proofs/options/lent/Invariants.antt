use Rattle.std.proofs.Common.{◌≡◌, map, take}
use Rattle.sd_words.proofs.options.lent.Given as goal

abbrev pub invariant-loop-i : goal.invariant-loop-i
invariant-loop-i l = map (λ s. s.now) l.texts.items ≡ take l.i l.words
