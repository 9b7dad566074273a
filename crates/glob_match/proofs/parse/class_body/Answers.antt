use Rattle.std.proofs.Common.{◌≡◌, ◌+◌, ◌-◌, ◌≤◌, ℕ, suc, Bool, List, [], ◌∷◌, length, take, drop, Option, Some, arith, refl, sym, ap, ◌∙◌, if◌then◌else◌}
use Rattle.std.proofs.lemmas.List.{take_all}
use Rattle.std.specs.List.{position}
use Rattle.glob_match.specs.declared.piece.Symbol.{Symbol}
use Rattle.glob_match.specs.declared.piece.CharacterRange.{CharacterRange}
use Rattle.glob_match.specs.declared.piece.Found.{Found}
use Rattle.glob_match.specs.declared.piece.Piece.TheVariants.{One}
use Rattle.glob_match.specs.declared.piece.Single.TheVariants.{Class}
use Rattle.glob_match.specs.Reading.{is_sign, ranges_of, found, class_of, class_body}
use Rattle.glob_match.proofs.parse.class_body.Goals as goal
use Rattle.glob_match.proofs.parse.class_body.Goals.{then-negated, else-negated}

class_read : (negated : Bool) (text : List Symbol) (n more : ℕ) (ranges : List CharacterRange) (one : Option Found) → 1 ≤ length text → Some n ≡ position (is_sign 93) (take (length text - 1) (drop 1 text))
    → ranges ≡ ranges_of (take (n + 1) text) → one ≡ found (One (Class negated ranges)) more → more ≡ (if negated then n + 3 else n + 2) → one ≡ class_body negated text
class_read negated [] n more ranges one some end members is count = absurd (omega arith)
class_read negated (first ∷ others) n more ranges one some end members is count =
    let length_of : n + 1 ≡ suc n = omega arith in
    let members_of : ranges ≡ ranges_of (first ∷ take n others) = members ∙ ap (λ k. ranges_of (take k (first ∷ others))) length_of in
    let all : take (length (first ∷ others) - 1) others ≡ others = take_all _ _ (omega arith) in
    is ∙ ap (λ k. found (One (Class negated ranges)) k) count ∙ ap (λ r. found (One (Class negated r)) (if negated then n + 3 else n + 2)) members_of ∙ ap (class_of negated first others) (end ∙ ap (position (is_sign 93)) all)

pub returns-clause-read : goal.returns-clause-read
returns-clause-read c = class_read c.args.negated c.args.text.now c.in-Some.end _ c.in_ok-ranges.ranges _ (omega arith) (sym c.in-Some.is ∙ c.class_end.ensures.first) c.in_ok-ranges.ensures c.found.ensures.read (elim c.if-negated.branch [
  | then-negated w ↦ w.found-is ∙ rw w.if-negated.true refl
  | else-negated w ↦ w.found-is ∙ rw w.if-negated.false refl
])
