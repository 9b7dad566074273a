use Rattle.std.proofs.Common.{IfOk, sym, subst}
use Rattle.hir_core.specs.Trails.{ComesBack, way_of, stops_of}
use Rattle.hir_core.proofs.trail.TrailLemmas.{stops-none}
use Rattle.hir_core.proofs.trail.Trail.next.Goals as goal

pub returns : goal.returns
returns c =
    subst (λ ps. IfOk c.come_back.result (λ next. ComesBack next ps (way_of c.come_back.new.self) (stops_of c.come_back.new.self)))
    (sym (stops-none c.args.on c.args.self.now (sym c.if-is_some.ensures))) c.come_back.ensures
