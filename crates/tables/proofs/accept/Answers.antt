use Rattle.std.proofs.Common.{eq-eqb, ne_eqb}
use Rattle.network.specs.Load.{table_of}
use Rattle.tables.proofs.Accepting.{after_first, after_later}
use Rattle.tables.proofs.accept.Goals as goal

pub returns-then-initial : goal.returns-then-initial
returns-then-initial c =
    after_first (table_of c.args.links.now) c.args.ear.now c.args.used.now c.args.births.now c.args.order.now c.args.tree1.now c.args.tree2.now c.args.longs c.args.born
    c.mark_ear.ensures c.count_long-longs.ensures (eq-eqb _ _ c.if-initial.true) c.accept_first-born.ensures

pub returns-else-initial : goal.returns-else-initial
returns-else-initial c =
    after_later (table_of c.args.links.now) c.args.ear.now c.args.used.now c.args.births.now c.args.order.now c.args.tree1.now c.args.tree2.now c.args.longs c.args.born
    c.mark_ear.ensures c.count_long-longs.ensures (ne_eqb _ _ c.if-initial.false) c.accept_later-born.ensures
