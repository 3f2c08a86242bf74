use Rattle.replies.proofs.Digits.{Begun}
use Rattle.replies.proofs.put_number.Given as goal

-- the digits for the powers so far
abbrev pub invariant-loop-power : goal.invariant-loop-power
invariant-loop-power l = Begun l.at l.n l.initial.out l.power-index l.rest l.next l.out
