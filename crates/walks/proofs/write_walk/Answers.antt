use Rattle.std.proofs.Common.{◌≡◌, ℕ, length, arith, ◌∙◌, length-take}
use Rattle.walks.proofs.Visits.{visited_next, visited_last}
use Rattle.walks.proofs.write_walk.Goals as goal

pub loop-place-preserved : goal.loop-place-preserved
loop-place-preserved c =
    let l = c.loop-place in
    rw c.entry-x.ensures (visited_next _ c.args.left l.place-items l.x l.place-index (omega (arith, length-take {A = ℕ})) (omega (arith, length-take {A = ℕ})) ∙ l.invariant)

pub returns : goal.returns
returns c =
    let l = c.loop-place in
    let e : length l.place-items ≡ c.args.left = omega (arith, length-take {A = ℕ}) in
    let i : l.place-index ≡ c.args.left = omega (arith, length-take {A = ℕ}) in
    rw (← l.invariant, i) (visited_last _ c.args.left l.place-items c.args.out.now l.x e (omega arith))
