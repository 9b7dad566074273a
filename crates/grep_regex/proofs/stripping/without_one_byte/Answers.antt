use Rattle.std.proofs.Common.{ℕ, arith}
use Rattle.std.proofs.lemmas.Option.{get_or_from_slice_get}
use Rattle.hir_tree.specs.Ranges.{next_byte}
use Rattle.grep_regex.specs.Stripping.{without}
use Rattle.grep_regex.proofs.laws.WithoutLemmas.{bytes-without}
use Rattle.grep_regex.proofs.stripping.BesideLemmas.{range-ordered, without-all, without-next}
use Rattle.grep_regex.proofs.stripping.without_one_byte.Goals as goal

pub add_bytes_beside-requires : goal.add_bytes_beside-requires
add_bytes_beside-requires c = record {
  order =
      range-ordered next_byte c.args.set.now c.loop-i.i c.get-start.result c.len-i-end.ensures.apart.0 (omega (arith, c.loop-i-test.true, c.len-i-end.ensures.len))
      (get_or_from_slice_get c.args.set.now c.loop-i.i c.get-start.result c.get-start.result c.get-start.ensures);
}

pub loop-i-preserved : goal.loop-i-preserved
loop-i-preserved c = record {
  apart = c.in_ok-add_bytes_beside.ensures.apart c.loop-i.invariant.apart;
  holds =
      without-next (λ (b : ℕ). Unit {0}) c.args.byte c.loop-i.i c.args.set.now c.loop-i.rest c.add_bytes_beside.new.set c.get-start.result
      (omega (arith, c.loop-i-test.true, c.len-i-end.ensures.len))
      (get_or_from_slice_get c.args.set.now c.loop-i.i c.get-start.result c.get-start.result c.get-start.ensures)
      (λ b any. c.in_ok-add_bytes_beside.ensures.added b) c.loop-i.invariant.holds;
}

pub returns : goal.returns
returns c =
    c.a_set_has_one_list_of_ranges.ensures.bytes c.loop-i.rest (without c.args.byte c.args.set.now) c.loop-i.invariant.apart
    (bytes-without c.args.byte c.args.set.now c.len-i-end.ensures.apart)
    (λ b. without-all (λ (n : ℕ). Unit {0}) c.args.byte c.loop-i.i c.args.set.now c.loop-i.rest (omega (arith, c.loop-i-test.false, c.len-i-end.ensures.len)) c.loop-i.invariant.holds b tt)
