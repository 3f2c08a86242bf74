-- What the contracts over the leftover links cite: how an empty ear (Note 2 of document 02) changes the used links that are kept in an
-- array, for any numbers in it.
use Rattle.std.specs.Prelude.{cond, List, ℕ}
use Rattle.mondschein.specs.Network.{Network, at, size}
use Rattle.mondschein.specs.EmptyEar.{left_over}
use Rattle.rows.specs.Rows.{marked, assigned}

-- used links after an empty ear: the leftover links are marked too
unfoldable pub used_after_empty : Network → List ℕ → List ℕ → List ℕ
used_after_empty net births used = assigned used (λ l. l) (λ l. cond (left_over net (marked births) (marked used) l) 1 (at used l)) (size net)
