use Rattle.std.proofs.Common.{List, ℕ, refl, ap, ◌∙◌, arith, length, lt-ltb, le-ltb}
use Rattle.order.specs.Placed.{place_in}
use Rattle.order.proofs.Insertion.{place_found}
use Rattle.order.proofs.place_of.Goals as goal

pub returns-in-Some : goal.returns-in-Some
returns-in-Some c =
    let o = c.prefix-list.result.now in
    place_found o c.args.ear.now c.requires c.in-Some.ensures.lowest (omega (arith, c.in-Some.ensures.within)) (rw (lt-ltb c.in-Some.k (length o) c.in-Some.ensures.within) refl)
    ∙ ap (λ (x : List ℕ). place_in x c.args.ear.now) c.prefix-list.ensures

pub returns-in-None : goal.returns-in-None
returns-in-None c =
    let o = c.prefix-list.result.now in
    place_found o c.args.ear.now c.requires c.in-None.ensures.lowest (omega arith) (rw (le-ltb (length o) (length o) (omega arith)) refl)
    ∙ ap (λ (x : List ℕ). place_in x c.args.ear.now) c.prefix-list.ensures
