use Rattle.std.proofs.Common.{ℕ, eqb, not, ◌&&◌, rules, tests}
use Rattle.mondschein.specs.Network.{any, joined}
use Rattle.network.specs.Load.{table_of}
use Rattle.network.proofs.Tables.{found_by_position}
use Rattle.unborn.proofs.Neighbours.{free}
use Rattle.unborn.proofs.first_cut_off_by.Goals as goal

pub returns-clause-lowest : goal.returns-clause-lowest
returns-clause-lowest c =
    (found_by_position (λ (v : ℕ). not (eqb v c.args.last) && not (any (λ x. joined (table_of c.args.links.now) v x && free c.args.births.now c.args.ear.now x) c.args.n))
    c.args.new.now _ _ _ _ c.iter.ensures.rest c.position.ensures.ran (λ x b q h. search (rules, tests))).lowest
