use Rattle.std.proofs.Common.{rules, tests, refl, ◌∙◌}
use Rattle.rows.specs.Rows.{marked}
use Rattle.shape.proofs.Between.{part_found}
use Rattle.shape.proofs.Shape.{first_14, later_14}
use Rattle.shape.proofs.first_born_between.Goals as goal

pub returns-then-initial-clause-lowest : goal.returns-then-initial-clause-lowest
returns-then-initial-clause-lowest c = first_14 (marked c.args.births.now) c.args.initial c.args.ear.now c.if-initial.true

pub returns-clause-lowest : goal.returns-clause-lowest
returns-clause-lowest c =
    part_found c.args.ear.now (marked c.args.births.now) c.first_born.ensures.lowest c.first_born.result c.map.result refl c.first_born.ensures.within
    c.map.ensures.cases (λ k j h. search (rules, tests))
    ∙ later_14 (marked c.args.births.now) c.args.initial c.args.ear.now c.if-initial.false
