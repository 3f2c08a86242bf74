-- What the contracts over the neighbours of a switch cite: the test that a scan of the links answers.
-- What a neighbour has to pass is a test q, for instance that it is below n and still unborn.
use Rattle.std.specs.Prelude.{Bool, ◌&&◌, ◌||◌, ℕ, eqb}
use Rattle.mondschein.specs.Network.{Network, former, latter}

-- link i leads from v to a switch that passes q: one end is v, and the other passes
unfoldable pub leads_to : Network → (ℕ → Bool) → ℕ → ℕ → Bool
leads_to net q v i = eqb (former net i) v && q (latter net i) || eqb (latter net i) v && q (former net i)
