use Rattle.std.proofs.Common.{ℕ, ◌<◌, ◌≡◌, List, arith}
use Rattle.reporting.specs.Reporting.{trees_of, losses_after}
use Rattle.reporting.proofs.Marks.{losses_none, losses_done}
use Rattle.reporting.proofs.add_losses.Goals as goal

pub returns-then-top-eq0 : goal.returns-then-top-eq0
returns-then-top-eq0 c =
    let a = c.args in
    let none : (k : ℕ) → 0 < k → (sums : List ℕ) → sums ≡ losses_after (trees_of a.n a.root a.links.now a.ducts.now a.row1.now a.row2.now a.row3.now) k sums
    = λ k l sums. losses_none a.n a.root a.links.now a.ducts.now a.row1.now a.row2.now a.row3.now k l sums c.highest-top.ensures (omega arith) (omega arith) in
    (none 2 (omega arith) a.two.now, none 3 (omega arith) a.three.now)

pub returns : goal.returns
returns c =
    let a = c.args in (
      losses_done a.n a.root a.links.now a.ducts.now a.row1.now a.row2.now a.row3.now 2 (omega arith) a.two.now c.highest-top.ensures (omega arith)
          c.ducts_along-ducts1.ensures c.ducts_along-ducts2.ensures c.ducts_along-ducts3.ensures c.add_switches.ensures.0,
      losses_done a.n a.root a.links.now a.ducts.now a.row1.now a.row2.now a.row3.now 3 (omega arith) a.three.now c.highest-top.ensures (omega arith)
          c.ducts_along-ducts1.ensures c.ducts_along-ducts2.ensures c.ducts_along-ducts3.ensures c.add_switches.ensures.1,
    )
