use Rattle.std.proofs.Common.{arith}
use Rattle.collect.proofs.Collecting.{link_full, link_more}
use Rattle.collect.proofs.collect_link.Goals as goal

pub returns-then-count-ge-MAX_LINKS-clause-responds :
    goal.returns-then-count-ge-MAX_LINKS-clause-responds
returns-then-count-ge-MAX_LINKS-clause-responds c =
    link_full c.args.d c.args.links.now c.args.ducts.now c.args.number c.args.a c.args.b c.args.duct c.requires.0 c.requires.1 _ c.unread.result (omega arith) c.unread.ensures.out_after

pub returns-clause-responds : goal.returns-clause-responds
returns-clause-responds c =
    rw c.from-at.ensures
    (link_more c.args.d c.args.links.now c.args.ducts.now c.args.number c.args.a c.args.b c.args.duct c.requires.0 c.requires.1 c.args.out.now (omega arith))
