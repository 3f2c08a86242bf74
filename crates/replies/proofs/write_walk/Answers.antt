use Rattle.replies.proofs.Slices.{wrote_walk}
use Rattle.replies.proofs.write_walk.Goals as goal

pub returns : goal.returns
returns c = wrote_walk c.args.switch c.args.tree c.args.switches.now c.args.out.now c.put_head-next.ensures.0 c.put-inner.ensures c.put_separated-end.ensures.0 c.put.ensures
