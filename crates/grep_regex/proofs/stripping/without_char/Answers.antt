use Rattle.std.proofs.Common.{arith}
use Rattle.std.proofs.lemmas.Option.{get_or_from_slice_get}
use Rattle.std.specs.Char.{IsScalar}
use Rattle.hir_tree.specs.Ranges.{next_char}
use Rattle.grep_regex.specs.Stripping.{without}
use Rattle.grep_regex.proofs.laws.WithoutLemmas.{chars-without}
use Rattle.grep_regex.proofs.stripping.BesideLemmas.{range-ordered, without-all, without-next}
use Rattle.grep_regex.proofs.stripping.without_char.Goals as goal

pub add_chars_beside-requires-clause-order : goal.add_chars_beside-requires-clause-order
add_chars_beside-requires-clause-order c =
    range-ordered next_char c.args.set.now c.loop-i.i c.get-start.result c.len-i-end.ensures.apart.0 (omega (arith, c.loop-i-test.true, c.len-i-end.ensures.len))
    (get_or_from_slice_get c.args.set.now c.loop-i.i c.get-start.result c.get-start.result c.get-start.ensures)

pub loop-i-preserved : goal.loop-i-preserved
loop-i-preserved c = record {
  apart = c.in_ok-add_chars_beside.ensures.apart c.loop-i.invariant.apart;
  holds =
      without-next IsScalar c.args.byte c.loop-i.i c.args.set.now c.loop-i.rest c.add_chars_beside.new.set c.get-start.result
      (omega (arith, c.loop-i-test.true, c.len-i-end.ensures.len))
      (get_or_from_slice_get c.args.set.now c.loop-i.i c.get-start.result c.get-start.result c.get-start.ensures)
      c.in_ok-add_chars_beside.ensures.added c.loop-i.invariant.holds;
}

pub returns : goal.returns
returns c =
    c.a_set_has_one_list_of_ranges.ensures.chars c.loop-i.rest (without c.args.byte c.args.set.now) c.loop-i.invariant.apart
    (chars-without c.args.byte c.args.set.now c.requires.ascii c.len-i-end.ensures.apart)
    (without-all IsScalar c.args.byte c.loop-i.i c.args.set.now c.loop-i.rest (omega (arith, c.loop-i-test.false, c.len-i-end.ensures.len)) c.loop-i.invariant.holds)
