use Rattle.std.proofs.Common.{arith}
use Rattle.mondschein.specs.Network.{size}
use Rattle.thirds.proofs.Following.{chain_next, chain_end}
use Rattle.thirds.proofs.follow_chain.Goals as goal

pub loop-h-preserved : goal.loop-h-preserved
unfolding size
loop-h-preserved c =
    let a = c.args in
    let l = c.loop-h in
    chain_next a.n a.links.now a.nexts.now a.start a.row.now a.dist.now l.h l.row l.dist l.invariant (omega arith) c.follow_half.ensures

pub returns : goal.returns
unfolding size
returns c =
    let a = c.args in
    let l = c.loop-h in
    chain_end a.n a.links.now a.nexts.now a.start a.row.now a.dist.now l.h l.row l.dist l.invariant (omega arith)
