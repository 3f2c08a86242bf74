use Rattle.std.proofs.Common.{rules}
use Rattle.rows.proofs.Rows.{position_is_either}
use Rattle.rows.proofs.position_of_either.Goals as goal

pub returns : goal.returns
returns c = record {
  lowest = position_is_either c.args.list.now c.args.a c.args.b c.position.result (search rules);
  within = search rules;
}
