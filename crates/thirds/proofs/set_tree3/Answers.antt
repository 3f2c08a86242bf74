use Rattle.thirds.proofs.Following.{tree3_is}
use Rattle.thirds.proofs.set_tree3.Goals as goal

pub returns : goal.returns
returns c =
    tree3_is c.args.row.now c.args.links.now c.args.births.now c.args.n c.args.root c.args.last c.set_nearest.ensures
    c.store.ensures c.store-2.ensures
