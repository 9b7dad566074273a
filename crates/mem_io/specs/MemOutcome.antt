-- What a disk in memory keeps of an outcome.
use Rattle.sd_io.specs.Outcomes.{Left, gone, this, any_file}
use Rattle.mem_io.specs.declared.outcome.MemLeft.{MemLeft}
use Rattle.mem_io.specs.declared.outcome.MemLeft.TheVariants as mem

abbrev pub left_of : MemLeft → Left
left_of mem.Gone = gone
left_of (mem.This node) = this node
left_of mem.AnyFile = any_file
