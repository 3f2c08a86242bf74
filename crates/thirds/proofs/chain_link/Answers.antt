use Rattle.std.proofs.Common.{arith}
use Rattle.thirds.specs.Tree3.{birth_read}
use Rattle.thirds.proofs.Chaining.{read_most, chained_former, chained_latter, chained_level}
use Rattle.thirds.proofs.chain_link.Goals as goal

pub returns-then-a-b : goal.returns-then-a-b
returns-then-a-b c =
    let a = c.args in
    chained_former a.links.now (birth_read a.births.now) a.i c.requires.1 c.requires.2 a.heads.now a.nexts.now c.requires.0
    (read_most a.births.now) c.birth-a.ensures c.birth-b.ensures (omega arith)

pub returns-then-b-a : goal.returns-then-b-a
returns-then-b-a c =
    let a = c.args in
    chained_latter a.links.now (birth_read a.births.now) a.i c.requires.1 c.requires.2 a.heads.now a.nexts.now c.requires.0
    (read_most a.births.now) c.birth-a.ensures c.birth-b.ensures (omega arith)

pub returns-else-b-a : goal.returns-else-b-a
returns-else-b-a c =
    let a = c.args in
    chained_level a.links.now (birth_read a.births.now) a.i c.requires.1 c.requires.2 a.heads.now a.nexts.now c.requires.0
    (read_most a.births.now) c.birth-a.ensures c.birth-b.ensures (omega arith)
