use Rattle.std.proofs.Common.{length}
use Rattle.cutting.proofs.Steps.{zones_are}
use Rattle.cutting.proofs.set_zones.Goals as goal

pub returns : goal.returns
returns c =
    let a = c.args in
    zones_are a.order.now a.births.now a.n1 a.n2 (length a.out.now) c.find_cut-cut.ensures c.write_zones.ensures
