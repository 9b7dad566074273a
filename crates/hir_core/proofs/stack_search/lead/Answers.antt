use Rattle.std.proofs.Common.{◌<◌, ◌^◌, length, arith}
use Rattle.hir_tree.specs.Runs.{byte_size, char_size}
use Rattle.hir_tree.proofs.RunsLemmas.{byte_size-within, char_size-within}
use Rattle.hir_core.proofs.stack_search.StackLemmas.{room}
use Rattle.hir_core.proofs.stack_search.lead.Goals as goal

pub go_past-requires : goal.go_past-requires
go_past-requires c =
    let small : length c.args.text.now < 2 ^ 64 = omega arith in
    rw c.byte_size.ensures (room c.args.text.now (byte_size _ c.args.text.now) (byte_size-within _ c.args.text.now) c.args.from.at small)

pub go_past-requires-in-Chars : goal.go_past-requires-in-Chars
go_past-requires-in-Chars c =
    let small : length c.args.text.now < 2 ^ 64 = omega arith in
    rw c.char_size.ensures (room c.args.text.now (char_size _ c.args.text.now) (char_size-within _ c.args.text.now) c.args.from.at small)
