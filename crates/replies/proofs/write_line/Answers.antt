use Rattle.replies.proofs.Slices.{wrote_line}
use Rattle.replies.proofs.write_line.Goals as goal

pub returns : goal.returns
returns c = wrote_line c.args.word.now c.args.numbers.now c.args.out.now c.put_head-next.ensures.0 c.put.ensures
