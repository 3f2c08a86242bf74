use Rattle.disjoint.specs.Matching.{unnamed, selves, tries}
use Rattle.routing.proofs.Written.{short_plain, wrote_plain}
use Rattle.routing.proofs.answer_plain.Goals as goal

pub returns-in-Some : goal.returns-in-Some
returns-in-Some c =
    let a = c.args in
    let net = unnamed a.n a.links.now in
    let e = rw c.selves-next.ensures at c.in-Some.ensures in
    short_plain net a.s a.t (tries net a.s a.t 3 a.n selves) a.out.now e c.parted_plain.ensures

pub returns : goal.returns
returns c =
    let a = c.args in
    let net = unnamed a.n a.links.now in
    let e = rw c.selves-next.ensures at c.in_default.ensures in
    wrote_plain net a.s a.t (tries net a.s a.t 3 a.n selves) a.out.now _ e
    (c.write_path-a.ensures.0, c.write_path-a.ensures.1) (c.write_path-b.ensures.0, c.write_path-b.ensures.1) (c.write_path-c.ensures.0, c.write_path-c.ensures.1)
