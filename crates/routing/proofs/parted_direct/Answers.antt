use Rattle.std.proofs.Common.{List, ◌∷◌, sym, ap, arith}
use Rattle.mondschein.specs.Routes.{Thing, link}
use Rattle.routing.proofs.Cuts.{lowest_zero, lowest_one}
use Rattle.routing.proofs.parted_direct.Goals as goal

pub returns-in-Some : goal.returns-in-Some
returns-in-Some c =
    let a = c.args in
    let s = c.in-Some in
    ap (λ (l : List Thing). link a.direct ∷ l) (sym (lowest_one a.n a.next.now a.mark.now s.x s.ensures.lowest s.ensures.within))

pub returns-in-None : goal.returns-in-None
returns-in-None c =
    let a = c.args in
    ap (λ (l : List Thing). link a.direct ∷ l) (sym (lowest_zero a.n a.next.now a.mark.now a.n c.in-None.ensures.lowest 0 (omega arith)))
