use Rattle.std.proofs.Common.{◌≡◌, Some, sym, ap, ◌∙◌, rules}
use Rattle.mem_io.specs.MemNode.{now_of}
use Rattle.mem_io.specs.MemDisk.{mem_state}
use Rattle.mem_io.proofs.disk.DiskLemmas.{reads}
use Rattle.mem_io.proofs.disk.MemDiskDisk.read_file.Goals as goal

pub returns-clause-bytes : goal.returns-clause-bytes
returns-clause-bytes c =
    let copied : c.in_ok-to_vec-in-Some-bytes.field-0.items ≡ c.in-Some-bytes.bytes.now = search rules in
    reads (mem_state c.args.self.now) c.args.path.now _ c.in-Some.place _ _ c.in_ok-place.ensures c.in-Some.is c.bytes.ensures (ap now_of c.in-Some-bytes.is ∙ ap Some (sym copied))
