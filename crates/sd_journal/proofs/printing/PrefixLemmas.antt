-- A text that is written in pieces.
use Rattle.std.proofs.Common.{◌≡◌, ◌+◌, ◌∙◌, ℕ, List, ◌++◌, length, take, ap, sym, arith}
use Rattle.std.specs.Prelude.{Result, Ok, Err, OnErr}
use Rattle.std.proofs.lemmas.List.{take-append-le, append_assoc, length-append}
use Rattle.std.proofs.Math.Seq.{take-append-add}
use Rattle.sd_course.specs.Course.{AppendsPrefix}

-- a prefix of the first piece
pub in_front : (held front back now : List ℕ) → AppendsPrefix held front now → AppendsPrefix held (front ++ back) now
in_front held front back now p = record {
  count = p.count;
  within = let long = length-append front back in let low = p.within in omega (arith, long, low);
  appended = p.appended ∙ ap (λ (l : List ℕ). held ++ l) (sym (take-append-le p.count front back p.within));
}

-- the first piece, and a prefix of the rest
pub behind : (held front back between now : List ℕ) → between ≡ held ++ front → AppendsPrefix between back now → AppendsPrefix held (front ++ back) now
behind held front back between now wrote p = record {
  count = length front + p.count;
  within = let long = length-append front back in let low = p.within in omega (arith, long, low);
  appended = p.appended ∙ ap (λ (l : List ℕ). l ++ take p.count back) wrote ∙ append_assoc held front (take p.count back)
      ∙ ap (λ (l : List ℕ). held ++ l) (sym (take-append-add front back p.count));
}

-- ---- of answers

pub refused_by : {T E P : Type 0} (r : Result T E) → P → OnErr r P
refused_by (Ok x) p = tt
refused_by (Err e) p = p

pub refused_so : {T E P Q : Type 0} (r : Result T E) → OnErr r P → (P → Q) → OnErr r Q
refused_so (Ok x) p then = tt
refused_so (Err e) p then = then p
