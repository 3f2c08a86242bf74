use Rattle.lines.specs.Writing.{spaced, separated, bracketed}
use Rattle.replies.specs.Replies.{reply, cleared}
use Rattle.replies.proofs.Slices.{wrote_over}
use Rattle.replies.proofs.write_cleared.Goals as goal

pub returns : goal.returns
unfolding spaced separated bracketed
returns c = wrote_over (reply cleared) c.args.out.now _ _ c.put.ensures
