use Rattle.std.proofs.Common.{arith}
use Rattle.thirds.proofs.Following.{half_longer, half_higher, half_shorter, half_lower}
use Rattle.thirds.proofs.follow_half.Goals as goal

pub returns-then-far-near : goal.returns-then-far-near
returns-then-far-near c =
    let a = c.args in
    half_longer a.n a.links.now a.h a.row.now a.dist.now c.far_end-x.ensures (omega arith) (omega arith)

pub returns-then-near-far : goal.returns-then-near-far
returns-then-near-far c =
    let a = c.args in
    half_shorter a.n a.links.now a.h a.row.now a.dist.now c.far_end-x.ensures (omega arith) (omega arith) (omega arith) (omega arith) _ (omega arith)

pub returns-then-x-row : goal.returns-then-x-row
returns-then-x-row c =
    let a = c.args in
    half_lower a.n a.links.now a.h a.row.now a.dist.now c.far_end-x.ensures (omega arith) (omega arith) (omega arith) (omega arith) (omega arith) (omega arith)

pub returns-else-x-row : goal.returns-else-x-row
returns-else-x-row c =
    let a = c.args in
    half_higher a.n a.links.now a.h a.row.now a.dist.now c.far_end-x.ensures (omega arith) (omega arith) (omega arith)
