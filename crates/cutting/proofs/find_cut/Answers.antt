use Rattle.std.proofs.Common.{arith}
use Rattle.cutting.proofs.Steps.{cut_is}
use Rattle.cutting.proofs.find_cut.Goals as goal

pub returns : goal.returns
returns c = cut_is c.args.births.now c.args.n1 c.args.n2 c.find_ear-found.ensures (omega arith) (omega arith)
