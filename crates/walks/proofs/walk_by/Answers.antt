use Rattle.std.proofs.Common.{[], ◌∷◌, pred, arith, refl, ap}
use Rattle.mondschein.specs.Network.{at}
use Rattle.mondschein.specs.Order.{walk_by}
use Rattle.mondschein.proofs.Routes.{walk_bound}
use Rattle.mondschein.specs.Judge.{given}
use Rattle.walks.proofs.Written.{walk_refused, walk_written}
use Rattle.walks.proofs.Visits.{visited_walk}
use Rattle.walks.proofs.walk_by.Goals as goal

pub overflow_add-count : goal.overflow_add-count
overflow_add-count c = omega (arith, walk_bound c.args.root (at c.args.row.now) c.most_links.result c.args.v)

pub returns-then-out-count : goal.returns-then-out-count
returns-then-out-count c =
    let w = walk_by c.args.root (at c.args.row.now) (pred c.args.n) c.args.v in
    let count = rw c.most_links.ensures at c.links_left-left.ensures in
    rw (walk_refused w c.args.out.now (omega arith)) (refl, refl)

pub write_walk-requires : goal.write_walk-requires
write_walk-requires c = omega arith

pub returns : goal.returns
returns c =
    let w = walk_by c.args.root (at c.args.row.now) (pred c.args.n) c.args.v in
    let count = rw c.most_links.ensures at c.links_left-left.ensures in
    let visits = visited_walk c.args.root (at c.args.row.now) (pred c.args.n) c.args.v c.links_left-left.result count in
    rw (walk_written w c.args.out.now (omega arith), ← count, ← visits) (ap (λ k. given (k ∷ [])) (omega arith), c.write_walk.ensures)
