use Rattle.std.proofs.Common.{rules, tests}
use Rattle.network.proofs.Tables.{found_by_find}
use Rattle.routing.specs.Answers.{in_cut_but}
use Rattle.routing.proofs.first_in_cut.Goals as goal

pub returns : goal.returns
returns c =
    let f = found_by_find (in_cut_but c.args.next.now c.args.mark.now c.args.x) _ _ _ _ c.find.ensures.ran (λ x b q h. search (rules, tests)) in
    record { lowest = f.lowest; within = f.within }
