use Rattle.std.proofs.Common.{ℕ, eqb, rules, tests}
use Rattle.network.specs.Load.{table_of}
use Rattle.network.proofs.Indexing.{led_to}
use Rattle.network.proofs.link_along.Goals as goal

pub returns : goal.returns
returns c =
    let f = led_to (table_of c.args.links.now) c.args.a c.args.b c.half_link_to.result c.map.result (c.half_link_to.ensures (λ (x : ℕ). eqb x c.args.b) (λ x t p. search (rules, tests)))
    c.map.ensures.cases (λ h i p. search (rules, tests)) in
    record { lowest = f.0; within = f.1 }
