use Rattle.std.proofs.Common.{◌≡◌, ℕ, ◌<◌, List, length, slice_index, slice_index_or, bit_and, refl, sym, ap, ◌∙◌, true≢false, arith}
use Rattle.std.specs.Prelude.{◌==◌, not}
use Rattle.std.proofs.lemmas.Option.{get_or_from_slice_get, slice_get_read}
use Rattle.hir_program.proofs.scan.ScanLemmas.{takes_byte-is, zero_where}
use Rattle.hir_program.proofs.scan.Scan.takes_ascii.Goals as goal

-- a number of a list that was read
read_at : (masks : List ℕ) (i read : ℕ) → i < length masks → read ≡ slice_index_or masks i read → read ≡ slice_index masks i
read_at masks i read within e = sym (get_or_from_slice_get masks i read 0 (slice_get_read masks (length masks) i read refl within e))

pub returns : goal.returns
returns c =
    let s = c.args.self.now in
    let takes : ℕ = c.index.result.now in
    let mask : ℕ = c.index-2.result.now in
    let few : c.args.spot < length s.firsts.items = omega (arith, c.if-spot-len.false, c.len.ensures) in (
      omega arith,
      λ spots filter taker.
          takes_byte-is spots s filter c.args.spot c.args.byte takes mask (not (bit_and takes mask == 0)) few (omega arith)
          (read_at s.takes.items c.args.byte takes (omega arith) c.index.ensures) (read_at s.firsts.items c.args.spot mask few c.index-2.ensures) taker
          (λ some zero. true≢false (sym some ∙ ap (λ (n : ℕ). not (n == 0)) zero)) (zero_where (bit_and takes mask)),
    )
