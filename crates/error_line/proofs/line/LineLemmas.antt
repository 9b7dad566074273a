-- Texts that are written one after the other.
use Rattle.std.proofs.Common.{◌≡◌, ◌∙◌, ◌+◌, ◌≤◌, ℕ, Bool, List, ◌++◌, length, take, ap, subst, sym, inl, inr, arith, append_assoc, take_all, true≢false, true, false, [], codes, refl}
use Rattle.std.specs.Prelude.{Result, Ok, Err, IsTrue}
use Rattle.std.proofs.lemmas.List.{length-append, take-append-le}
use Rattle.std.proofs.Math.Seq.{take-append-add}
use Rattle.sd_io.specs.Count.{HasRisen}
use Rattle.sd_io.specs.Streams.{SinkState}
use Rattle.sd_io.specs.declared.fault.Failed.{Failed}
use Rattle.sd_course.specs.Course.{Course, AppendsPrefix, course}
use Rattle.error_line.specs.ErrorLine.{AppendsSome, Writes}

-- ---- prefixes

-- a prefix of the first of two texts
pub of_first : (held new a b : List ℕ) → AppendsPrefix held a new → AppendsPrefix held (a ++ b) new
of_first held new a b p = record {
  count = p.count;
  within = omega (arith, p.within, length-append a b);
  appended = p.appended ∙ ap (λ x. held ++ x) (sym (take-append-le p.count a b p.within));
}

-- the first of two texts, and then a prefix of the second
pub of_second : (held mid new a b : List ℕ) → mid ≡ held ++ a → AppendsPrefix mid b new → AppendsPrefix held (a ++ b) new
of_second held mid new a b whole p = record {
  count = length a + p.count;
  within = omega (arith, p.within, length-append a b);
  appended = p.appended ∙ ap (λ x. x ++ take p.count b) whole ∙ append_assoc held a (take p.count b) ∙ ap (λ x. held ++ x) (sym (take-append-add a b p.count));
}

-- all of a text
all_of : (held new text : List ℕ) → new ≡ held ++ text → AppendsPrefix held text new
all_of held new text is = record {
  count = length text;
  within = omega arith;
  appended = is ∙ ap (λ x. held ++ x) (sym (take_all (length text) text (omega arith)));
}

-- ---- texts that aren't named

pub grown : (held mid new bytes : List ℕ) → AppendsSome held mid → new ≡ mid ++ bytes → AppendsSome held new
grown held mid new bytes so is = (so.0 ++ bytes, is ∙ ap (λ x. x ++ bytes) so.1 ∙ append_assoc held so.0 bytes)

pub grown_by_part : (held mid new bytes : List ℕ) → AppendsSome held mid → AppendsPrefix mid bytes new → AppendsSome held new
grown_by_part held mid new bytes so p = grown held mid new (take p.count bytes) so p.appended

-- a text that is known where a sink tells its bytes, and any other where it doesn't
told_text : (tells : Bool) (P : List ℕ → Type 0) → (IsTrue tells → (text : List ℕ) × P text) → (text : List ℕ) × (IsTrue tells → P text)
told_text true P some = ((some refl).0, λ told. (some refl).1)
told_text false P some = ([], λ told. absurd (true≢false (sym told)))

-- ---- counts

pub risen_from : (before mid now : ℕ) → before ≤ mid → HasRisen mid now → HasRisen before now
risen_from before mid now le (inl rose) = inl (omega (arith, rose))
risen_from before mid now le (inr last) = inr last

-- ---- two writes

module _ (tells : Bool) (old : SinkState) (a b : List ℕ) where
  -- the first is refused
  pub stops : (fault : Failed) (new : SinkState) → Writes a (Err fault) (course tells old new) → Writes (a ++ b) (Err fault) (course tells old new)
  stops fault new w = record {
    written = λ told. tt;
    refused = λ told. of_first old.held new.held a b (w.refused told);
    never_falls = w.never_falls;
    cause = w.cause;
  }

  -- the first is done
  pub goes_on : (mid new : SinkState) (result : Result (Unit {0}) Failed) → Writes a (Ok tt) (course tells old mid) → Writes b result (course tells mid new) → Writes (a ++ b) result (course tells old new)
  goes_on mid new (Ok done) v w = record {
    written = λ told. w.written told ∙ ap (λ x. x ++ b) (v.written told) ∙ append_assoc old.held a b;
    refused = λ told. tt;
    never_falls = omega (arith, v.never_falls, w.never_falls);
    cause = λ err. absurd (true≢false (sym err));
  }
  goes_on mid new (Err fault) v w = record {
    written = λ told. tt;
    refused = λ told. of_second old.held mid.held new.held a b (v.written told) (w.refused told);
    never_falls = omega (arith, v.never_falls, w.never_falls);
    cause = λ err. risen_from old.faults mid.faults new.faults v.never_falls (w.cause err);
  }

-- ---- by other words for a text

pub same_text : (a c b : List ℕ) (result : Result (Unit {0}) Failed) (err : Course SinkState) → a ≡ c → Writes (a ++ b) result err → Writes (c ++ b) result err
same_text a c b result err is = subst (λ (x : List ℕ). Writes (x ++ b) result err) is

-- ---- what a value shows, and a newline

module _ (tells : Bool) (old : SinkState) where
  pub shown_and_end : (mid new : SinkState) (result : Result (Unit {0}) Failed) → (IsTrue tells → AppendsSome old.held mid.held) → old.faults ≤ mid.faults
      → Writes (codes "\n") result (course tells mid new) → (text : List ℕ) × Writes (text ++ codes "\n") result (course tells old new)
  shown_and_end mid new result some le w =
      let t = told_text tells (λ text. mid.held ≡ old.held ++ text) some in
      (t.0, goes_on tells old t.0 (codes "\n") mid new result (record { written = t.1; refused = λ told. tt; never_falls = le; cause = λ err. absurd (true≢false (sym err)) }) w)

  pub shown_in_part : (new : SinkState) (fault : Failed) → (IsTrue tells → AppendsSome old.held new.held) → old.faults ≤ new.faults → HasRisen old.faults new.faults
      → (text : List ℕ) × Writes (text ++ codes "\n") (Err fault) (course tells old new)
  shown_in_part new fault some le risen =
      let t = told_text tells (λ text. new.held ≡ old.held ++ text) some in
      (t.0, stops tells old t.0 (codes "\n") fault new (record { written = λ told. tt; refused = λ told. all_of old.held new.held t.0 (t.1 told); never_falls = le; cause = λ err. risen }))
