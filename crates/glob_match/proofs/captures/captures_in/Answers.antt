use Rattle.std.proofs.Common.{ap, sym, ◌∙◌, Some}
use Rattle.glob_match.specs.Reading.{pieces_of_tokens}
use Rattle.glob_match.proofs.matching.FittingLemmas.{found_plain, found_turned, found_none}
use Rattle.glob_match.proofs.captures.CaptureRangesLemmas.{found_lie}
use Rattle.glob_match.proofs.captures.captures_in.Goals as goal

pub returns-then-not-negated-clause-captured : goal.returns-then-not-negated-clause-captured
returns-then-not-negated-clause-captured c =
    let read = rw c.in-Some.is at c.in_ok-tokens.ensures.read in
    let found = c.in_ok-found.ensures read.0 (ap (λ ts. pieces_of_tokens (Some ts)) c.deref.ensures.value ∙ read.2) in
    found_plain (λ v. v.items) c.args.glob.now c.args.path.now _ read.0 c.in_ok-found.found c.after_signs-negated.ensures.rest read.1 (sym c.if-not-negated.true ∙ c.after_signs-negated.ensures.negated) found

pub returns-then-not-negated-clause-within : goal.returns-then-not-negated-clause-within
returns-then-not-negated-clause-within c =
    let read = rw c.in-Some.is at c.in_ok-tokens.ensures.read in
    let found = c.in_ok-found.ensures read.0 (ap (λ ts. pieces_of_tokens (Some ts)) c.deref.ensures.value ∙ read.2) in
    found_lie (λ v. v.items) read.0 c.args.path.now c.in_ok-found.found found

pub returns-in-None-clause-captured : goal.returns-in-None-clause-captured
returns-in-None-clause-captured c =
    let read = rw c.in-Some.is at c.in_ok-tokens.ensures.read in
    let found = c.in_ok-found.ensures read.0 (ap (λ ts. pieces_of_tokens (Some ts)) c.deref.ensures.value ∙ read.2) in
    rw c.new.ensures.items (found_none c.args.glob.now c.args.path.now _ read.0 c.after_signs-negated.ensures.rest read.1 (sym c.if-not-negated.false ∙ c.after_signs-negated.ensures.negated) (rw c.in-None.is at found))

pub returns-clause-captured : goal.returns-clause-captured
returns-clause-captured c =
    let read = rw c.in-Some.is at c.in_ok-tokens.ensures.read in
    let found = c.in_ok-found.ensures read.0 (ap (λ ts. pieces_of_tokens (Some ts)) c.deref.ensures.value ∙ read.2) in
    let taken = rw c.in-Some-found.is at found in
    found_turned c.args.glob.now c.args.path.now _ read.0 c.after_signs-negated.ensures.rest read.1 (sym c.if-not-negated.false ∙ c.after_signs-negated.ensures.negated) taken.0
