use Rattle.std.proofs.Common.{◌≡◌, ◌<◌, length, slice_index, bit_and, refl, sym, subst, arith}
use Rattle.std.proofs.lemmas.Option.{get_or_from_slice_get, slice_get_read}
use Rattle.hir_program.specs.Masks.{AreDead}
use Rattle.hir_program.proofs.scan.ScanLemmas.{AreDead-closed, open_where, zero_where}
use Rattle.hir_program.proofs.scan.Scan.may_go_on_by.Goals as goal

pub returns-else-spot-len : goal.returns-else-spot-len
returns-else-spot-len c fails spots filter text at within here =
    let firsts = c.args.self.now.firsts.items in
    let few : c.args.spot < length firsts = omega (arith, c.if-spot-len.false, c.len.ensures) in
    let mask : c.index.result.now ≡ slice_index firsts c.args.spot =
    sym (get_or_from_slice_get firsts c.args.spot c.index.result.now 0
    (slice_get_read firsts (length firsts) c.args.spot c.index.result.now refl few c.index.ensures)) in
    filter.firsts c.args.spot few text at
    (subst (AreDead text spots c.args.self.now.of.items c.args.self.now.last_look at) mask
    (AreDead-closed text spots c.args.self.now filter at c.index.result.now c.open_by.result (λ inside. omega (arith, here, c.ranges.byte.fits))
    (open_where c.args.self.now c.args.byte c.open_by.result c.open_by.ensures text at within here) (zero_where (bit_and c.index.result.now c.open_by.result) fails)))
