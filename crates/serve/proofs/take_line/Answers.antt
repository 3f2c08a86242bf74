use Rattle.collect.specs.Answering.{requested}
use Rattle.serve.proofs.take_line.Goals as goal

pub returns-in-None-clause-takes_line : goal.returns-in-None-clause-takes_line
unfolding requested
returns-in-None-clause-takes_line c = λ printed. rw c.in-None.is at (c.end_line-ending.ensures.ends c.args.s.now printed)
