-- Bytes that are written piece by piece.
use Rattle.std.proofs.Common.{◌≡◌, ℕ, ◌+◌, ◌-◌, ◌≤◌, List, ◌++◌, length, take, drop, arith, append_assoc, take_all, length-drop}
use Rattle.std.proofs.Math.Seq.{take-add}

-- the rest of a slice from a place on
rest_from : (bytes : List ℕ) (at : ℕ) → take (length bytes - at) (drop at bytes) ≡ drop at bytes
rest_from bytes at = rw (← length-drop at bytes) (take_all (length (drop at bytes)) (drop at bytes) (omega arith))

pub rest_within : (bytes : List ℕ) (at n : ℕ) → at ≤ length bytes → n ≤ length (take (length bytes - at) (drop at bytes)) → at + n ≤ length bytes
rest_within bytes at n le h = let k = rw rest_from at h in omega (arith, length-drop at bytes)

-- some bytes more
pub some_more : (held held' held'' bytes : List ℕ) (at n : ℕ) → held' ≡ held ++ take at bytes → held'' ≡ held' ++ take n (take (length bytes - at) (drop at bytes)) → held'' ≡ held ++ take (at + n) bytes
some_more held held' held'' bytes at n e f = rw (f, e, rest_from, take-add at n bytes, append_assoc)
