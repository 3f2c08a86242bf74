use Rattle.disjoint.specs.Matching.{unnamed, selves, tries}
use Rattle.routing.proofs.Written.{link_unnamed, short_direct, wrote_direct}
use Rattle.routing.proofs.answer_direct.Goals as goal

pub returns-in-Some : goal.returns-in-Some
returns-in-Some c =
    let a = c.args in
    let net = unnamed a.n a.links.now in
    let e = rw c.selves-next.ensures at c.in-Some.ensures in
    short_direct net a.s a.t (tries net a.s a.t 2 a.n selves) a.out.now e (link_unnamed a.n a.links.now a.s a.t a.direct c.requires.2) c.parted_direct.ensures

pub returns : goal.returns
returns c =
    let a = c.args in
    let net = unnamed a.n a.links.now in
    let e = rw c.selves-next.ensures at c.in_default.ensures in
    wrote_direct net a.s a.t (tries net a.s a.t 2 a.n selves) a.out.now _ e c.store.ensures c.store-2.ensures
    (c.write_path-b.ensures.0, c.write_path-b.ensures.1) (c.write_path-c.ensures.0, c.write_path-c.ensures.1)
