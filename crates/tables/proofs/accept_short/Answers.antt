use Rattle.std.proofs.Common.{ap, ◌∙◌, List, ℕ, arith}
use Rattle.tables.specs.Tables.{tables_of}
use Rattle.tables.proofs.Accepting.{after_short}
use Rattle.tables.proofs.accept_short.Goals as goal

pub returns : goal.returns
returns c =
    λ net e births tree1 tree2 longs two l.
    ap (λ (u : List ℕ). tables_of u longs births c.same_count.result c.args.order.now tree1 tree2) c.mark.ensures
    ∙ after_short c.args.link c.args.born _ c.args.used.now c.args.order.now c.requires.0 (omega (arith, c.requires.1)) c.same_count.ensures net e births tree1 tree2 longs two l
