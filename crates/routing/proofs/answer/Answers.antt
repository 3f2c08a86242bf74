use Rattle.std.proofs.Common.{sym, ap, ◌∙◌, arith}
use Rattle.mondschein.specs.Network.{size}
use Rattle.network.specs.Load.{table_of}
use Rattle.disjoint.specs.Paths.{Routes}
use Rattle.disjoint.specs.Matching.{unnamed}
use Rattle.disjoint.specs.Replies.{told_of}
use Rattle.routing.proofs.Written.{joined_when, joined_unless, routes_plain, routes_direct}
use Rattle.routing.proofs.answer.Goals as goal

pub returns-in-Some : goal.returns-in-Some
unfolding size
returns-in-Some c =
    let a = c.args in
    let s = c.in-Some in
    c.answer_direct.ensures
    ∙ ap (λ (r : Routes). told_of r a.out.now) (sym (routes_direct (unnamed a.n a.links.now) a.s a.t (joined_when a.n a.links.now a.s a.t s.direct s.ensures.lowest s.ensures.within)))

pub returns-in-None : goal.returns-in-None
unfolding size
returns-in-None c =
    let a = c.args in
    c.answer_plain.ensures
    ∙ ap (λ (r : Routes). told_of r a.out.now) (sym (routes_plain (unnamed a.n a.links.now) a.s a.t (joined_unless a.n a.links.now a.s a.t (size (table_of a.links.now)) c.in-None.ensures.lowest (omega arith))))
