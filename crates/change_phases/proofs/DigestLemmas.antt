-- A digest is a list of bytes.
use Rattle.std.proofs.Common.{◌<◌, ℕ, zero, suc, List, [], length, sym, subst, inl, inr, lit<, arith, All}
use Rattle.std.specs.Prelude.{slice_index}
use Rattle.std.proofs.lemmas.Bool.{cases_lt}
use Rattle.std.proofs.lemmas.List.{get_or_past}
use Rattle.sha2.proofs.Facts256.{length-sha256}
use Rattle.sd_plan.specs.Digest.{IsDigest}
use Rattle.std.specs.List.{AllByRecursion}
use Rattle.std.specs.Int.{to_be_bytes, w32}
use Rattle.std.proofs.lemmas.List.Elements.{All-from_recursion, All-append}
use Rattle.sha2.specs.Sha256.{digest_bytes, final_hash, initial_hash_256, sha256}

IsByte : ℕ → Type 0
IsByte b = b < 256

word_bytes : (n : ℕ) → AllByRecursion IsByte (to_be_bytes w32 n)
unfolding IsByte
word_bytes n = (omega arith, (omega arith, (omega arith, (omega arith, tt))))

bytes_of : (h : List ℕ) (n : ℕ) → All IsByte (digest_bytes h n)
unfolding digest_bytes
bytes_of h zero = All-from_recursion IsByte [] tt
bytes_of h (suc n) = All-append IsByte (digest_bytes h n) (to_be_bytes w32 (slice_index h n)) (bytes_of h n) (All-from_recursion IsByte (to_be_bytes w32 (slice_index h n)) (word_bytes (slice_index h n)))

bytes-sha256 : (m : List ℕ) → All IsByte (sha256 m)
unfolding sha256
bytes-sha256 m = bytes_of (final_hash initial_hash_256 m) 8

pub sha256_digest : (m : List ℕ) → IsDigest (sha256 m)
unfolding IsByte
sha256_digest m = record {
  length_is = length-sha256 m;
  are_bytes = λ i. elim (cases_lt i (length (sha256 m))) [
    | inl low ↦ bytes-sha256 m i 0 low
    | inr past ↦ let P : ℕ → Type 0 = λ b. b < 256 in subst P (sym (get_or_past (sha256 m) i 0 past)) (lit< tt)
  ];
}
