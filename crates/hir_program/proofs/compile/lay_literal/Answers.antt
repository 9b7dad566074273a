use Rattle.std.proofs.Common.{◌≡◌, ◌-◌, ◌+◌, get_or, refl, sym, arith}
use Rattle.std.proofs.lemmas.Option.{get_or_from_slice_get}
use Rattle.hir_tree.specs.Core.{one_byte, literal}
use Rattle.hir_program.proofs.compile.CompileLemmas.{on_ok, row_holds, waits_pair, waits_row, lays_row}
use Rattle.hir_program.proofs.compile.lay_literal.Goals as goal

pub overflow_cast-first : goal.overflow_cast-first
overflow_cast-first c =
    let bytes = c.args.bytes.now in
    let held = row_holds one_byte bytes c.loop-i.i 0 (get_or bytes c.loop-i.i 0) (omega arith) refl in
    omega (arith, held, c.requires, c.loop-i.invariant.size)

pub overflow_cast-first-in-loop-i : goal.overflow_cast-first-in-loop-i
overflow_cast-first-in-loop-i c =
    let bytes = c.args.bytes.now in
    let held = row_holds one_byte bytes c.loop-i.i 0 (get_or bytes c.loop-i.i 0) (omega arith) refl in
    omega (arith, held, c.requires, c.loop-i.invariant.size)

pub loop-i-preserved : goal.loop-i-preserved
loop-i-preserved c =
    let bytes = c.args.bytes.now in
    let byte = c.get.result in
    waits_row one_byte bytes c.loop-i.i byte byte c.args.out.now.items c.loop-i.out.items c.push_byte.new.out.items c.args.next (literal bytes)
    (omega arith) (sym (get_or_from_slice_get bytes c.loop-i.i byte byte c.get.ensures))
    (λ next b. waits_pair c.loop-i.out.items c.push_jump.new.out.items c.push_byte.new.out.items next c.len-first.result (c.len-first.result + 1 + 1) (one_byte byte) b
    (omega arith) (omega arith) c.in_ok-push_jump.ensures c.in_ok-push_byte.ensures)
    c.loop-i.invariant

pub returns : goal.returns
returns c =
    let bytes = c.args.bytes.now in
    let byte = c.get-2.result in
    let last : c.loop-i.i ≡ c.len-last.result - 1 = omega arith in
    on_ok c.push_byte-2.result
    (lays_row one_byte bytes c.loop-i.i byte byte c.args.out.now.items c.loop-i.out.items c.push_byte-2.new.out.items c.args.next (literal bytes)
    (omega arith) (rw last (sym (get_or_from_slice_get bytes (c.len-last.result - 1) byte byte c.get-2.ensures))) c.loop-i.invariant)
    c.push_byte-2.ensures
