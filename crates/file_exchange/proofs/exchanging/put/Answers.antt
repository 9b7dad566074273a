use Rattle.sd_io.specs.Paths.{parts_of}
use Rattle.file_exchange.proofs.exchanging.PuttingLemmas.{left_held, crash_held, held_for_good, exchanged_for_good}
use Rattle.file_exchange.proofs.exchanging.put.Goals as goal

-- ---- the bytes are its own

pub returns-then-eq-clause-refused : goal.returns-then-eq-clause-refused
returns-then-eq-clause-refused g c = λ told. left_held (g.D.Disk.state c.args.disk.now) _ c.args.path.now c.args.bytes.now c.settle.result (c.settle.ensures.refused told)

pub returns-then-eq-clause-crash : goal.returns-then-eq-clause-crash
returns-then-eq-clause-crash g c =
    λ told. (crash_held (g.D.Disk.state c.args.disk.now) _ c.args.path.now c.args.bytes.now c.settle.result (g.met.D.Disk.holds_present c.args.disk.now told) (c.settle.ensures.settled told) (c.settle.ensures.refused told)).0

pub returns-then-eq-clause-settled : goal.returns-then-eq-clause-settled
returns-then-eq-clause-settled g c =
    λ told. (crash_held (g.D.Disk.state c.args.disk.now) _ c.args.path.now c.args.bytes.now c.settle.result (g.met.D.Disk.holds_present c.args.disk.now told) (c.settle.ensures.settled told) (c.settle.ensures.refused told)).1

pub returns-then-eq-clause-for_good : goal.returns-then-eq-clause-for_good
returns-then-eq-clause-for_good g c =
    λ told. held_for_good (g.D.Disk.state c.args.disk.now) _ c.args.path.now c.args.bytes.now c.settle.result (g.met.D.Disk.is_tree c.args.disk.now told) (c.requires.path told)
    (g.met.D.Disk.holds_present c.args.disk.now told) (c.settle.ensures.settled told)

-- ---- they are exchanged

pub returns-else-eq-clause-for_good : goal.returns-else-eq-clause-for_good
returns-else-eq-clause-for_good g c =
    λ told. exchanged_for_good (g.D.Disk.state c.args.disk.now) _ c.args.path.now c.args.bytes.now c.exchange.result (g.met.D.Disk.holds_present c.exchange.new.disk told)
    (c.exchange.ensures.exchanged told) (c.exchange.ensures.durable told)
