use Rattle.std.proofs.Common.{◌≡◌, ℕ, zero, suc, List, ◌++◌, ap, sym, ◌∙◌, append_assoc, append-nil, add-one}
use Rattle.std.specs.String.{string_bytes}
use Rattle.std.specs.List.{repeat}
use Rattle.demo_tree.proofs.building.text_of.Goals as goal

repeat_more : (n : ℕ) (xs : List ℕ) → repeat (suc n) xs ≡ repeat n xs ++ xs
repeat_more zero xs = append-nil xs
repeat_more (suc n) xs = ap (λ (more : List ℕ). xs ++ more) (repeat_more n xs) ∙ sym (append_assoc xs (repeat n xs) xs)

pub loop-preserved : goal.loop-preserved
loop-preserved c =
    c.in_ok-push_str.ensures.bytes
    ∙ (λ i. c.loop.invariant i ++ c.as_str.ensures.value i)
    ∙ sym (repeat_more c.loop.counter (string_bytes c.in_ok-line.line))
    ∙ ap (λ n. repeat n (string_bytes c.in_ok-line.line)) (sym (add-one c.loop.counter))
