use Rattle.std.proofs.Common.{arith}
use Rattle.replies.proofs.Slices.{wrote_after}
use Rattle.replies.proofs.put_head.Goals as goal

pub returns : goal.returns
returns c =
    (wrote_after _ _ c.args.out.now (wrote_after _ _ c.args.out.now c.put-open.ensures c.put-next.ensures) c.put_spaced.ensures.0, omega arith)
