-- Bytes that are written piece by piece.
use Rattle.std.proofs.Common.{◌≡◌, ℕ, List, [], ◌++◌}

-- seven texts, each pushed behind those before it
pub pushed : (w x y z c h r l0 l1 l2 l3 l4 l5 l6 l7 : List ℕ) → l0 ≡ [] → l1 ≡ l0 ++ w → l2 ≡ l1 ++ c → l3 ≡ l2 ++ x → l4 ≡ l3 ++ h → l5 ≡ l4 ++ y → l6 ≡ l5 ++ r → l7 ≡ l6 ++ z
    → l7 ≡ ((((([] ++ w) ++ c) ++ x) ++ h) ++ y) ++ r ++ z
pushed w x y z c h r l0 l1 l2 l3 l4 l5 l6 l7 e0 e1 e2 e3 e4 e5 e6 e7 = rw (e7, e6, e5, e4, e3, e2, e1, e0)
