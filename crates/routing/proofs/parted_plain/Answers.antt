use Rattle.std.proofs.Common.{sym, arith}
use Rattle.routing.proofs.Cuts.{lowest_zero, lowest_alone, lowest_two}
use Rattle.routing.proofs.parted_plain.Goals as goal

pub returns-in_default : goal.returns-in_default
returns-in_default c =
    let a = c.args in
    sym (lowest_zero a.n a.next.now a.mark.now a.n c.in_default.ensures.lowest 1 (omega arith))

pub returns : goal.returns
returns c =
    let a = c.args in
    let s = c.in-Some in
    let r = c.in-Some-first_in_cut in
    sym (lowest_two a.n a.next.now a.mark.now s.x s.ensures.lowest s.ensures.within r.y r.ensures.lowest r.ensures.within)

pub returns-in_default-first_in_cut : goal.returns-in_default-first_in_cut
returns-in_default-first_in_cut c =
    let a = c.args in
    let s = c.in-Some in
    sym (lowest_alone a.n a.next.now a.mark.now s.x s.ensures.lowest s.ensures.within a.n c.in_default-first_in_cut.ensures.lowest (omega arith))
