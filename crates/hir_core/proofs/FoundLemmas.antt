-- What a search of places finds, made into something else.
use Rattle.std.proofs.Common.{◌≡◌, ℕ, Bool, true, false, cond, Option, Some, None, refl, ap, ◌∙◌}
use Rattle.std.specs.Prelude.{option_map}
use Rattle.hir_core.specs.Found.{IsOfLeast}

-- what is made of something that is there or not
pub cond-map : {A B : Type 0} (f : A → B) (a : A) (b : Bool) → cond b (Some (f a)) None ≡ option_map f (cond b (Some a) None)
cond-map f a true = refl
cond-map f a false = refl

-- the least place that has something is the least that has what is made of that
pub IsOfLeast-map : {A B : Type 0} (f : A → B) (each : ℕ → Option A) (made : ℕ → Option B) (from to : ℕ) (r : Option A)
    → ((at : ℕ) → made at ≡ option_map f (each at)) → IsOfLeast each from to r → IsOfLeast made from to (option_map f r)
IsOfLeast-map f each made from to None is h = λ at low high. is at ∙ ap (option_map f) (h at low high)
IsOfLeast-map f each made from to (Some a) is (least, low, high, here, before) =
    (least, low, high, is least ∙ ap (option_map f) here, (λ at l h. is at ∙ ap (option_map f) (before at l h)))
