use Rattle.std.proofs.Common.{◌≡◌, ◌<◌, length, slice_index, refl, sym, subst, arith}
use Rattle.std.proofs.lemmas.Option.{get_or_from_slice_get, slice_get_read}
use Rattle.hir_program.specs.Masks.{AreDead}
use Rattle.hir_program.proofs.scan.Scan.may_go_on.Goals as goal

pub returns : goal.returns
returns c fails spots filter =
    let firsts = c.args.self.now.firsts.items in
    let few : c.args.spot < length firsts = omega (arith, c.if-spot-len.false, c.len.ensures) in
    let mask : c.index.result.now ≡ slice_index firsts c.args.spot =
    sym (get_or_from_slice_get firsts c.args.spot c.index.result.now 0
    (slice_get_read firsts (length firsts) c.args.spot c.index.result.now refl few c.index.ensures)) in
    filter.firsts c.args.spot few c.args.text.now c.args.place
    (subst (AreDead c.args.text.now spots c.args.self.now.of.items c.args.self.now.last_look c.args.place) mask (c.is_open.ensures fails spots filter))
