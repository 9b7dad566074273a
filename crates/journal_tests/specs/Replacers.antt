-- What the replacer of the tests does.
use Rattle.std.proofs.Common.{◌∙◌, sym}
use Rattle.std.specs.Prelude.{◌≡◌, ℕ, List}
use Rattle.sd_change.specs.Change.{Change, IsOne}

-- the bytes become this text, as one span
abbrev pub BecomesText : List ℕ → Change
BecomesText text bytes new_bytes count = (new_bytes ≡ text) × (count ≡ 1)

pub one_text : (text : List ℕ) → IsOne (BecomesText text)
one_text text bytes new_bytes others m n a b = (a.0 ∙ sym b.0, a.1 ∙ sym b.1)
