use Rattle.thirds.specs.Tree3.{birth_read}
use Rattle.thirds.specs.Chains.{ChainedFrom}
use Rattle.thirds.proofs.chain_links.Given as goal

abbrev pub invariant-loop-i : goal.invariant-loop-i
invariant-loop-i l = ChainedFrom l.links (birth_read l.births) l.i l.heads l.nexts
