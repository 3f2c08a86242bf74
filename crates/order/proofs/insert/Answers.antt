use Rattle.std.proofs.Common.{◌≤◌, ◌∙◌, arith}
use Rattle.order.proofs.Insertion.{inserted_up, inserted_down, place_here, later_placed, later_not_placed}
use Rattle.order.proofs.insert.Goals as goal
use Rattle.order.proofs.insert.Goals.{then-place, else-place}

pub returns-then-order-grown : goal.returns-then-order-grown
returns-then-order-grown c =
    later_not_placed c.args.order.now c.args.ear.now c.args.born c.min-count.ensures (omega (arith, c.requires.1)) c.if-order-grown.true

pub returns : goal.returns
returns c =
    let some : 1 ≤ c.min-count.result = omega (arith, c.requires.1) in
    later_placed c.args.order.now c.args.ear.now c.args.born c.min-count.ensures some c.if-order-grown.false
    (elim c.if-place.branch [
      | then-place w ↦
          inserted_up c.args.order.now c.args.ear.now c.min-count.result some c.if-order-grown.false
          (place_here c.args.order.now c.args.ear.now c.args.born c.min-count.ensures c.requires.3) c.open_gap.ensures w.if-place.true (w.order-is ∙ w.write_at.ensures)
      | else-place w ↦
          inserted_down c.args.order.now c.args.ear.now c.min-count.result some c.if-order-grown.false
          (place_here c.args.order.now c.args.ear.now c.args.born c.min-count.ensures c.requires.3) c.open_gap.ensures w.if-place.false (w.order-is ∙ w.write_reversed.ensures)
    ])
