-- Document 02, Note 6, of a session as a value, whatever it holds: bringing over changes tree 3 alone, and a session that was closed under
-- either rule and brought over is, to the letter, the one that today's close leaves. Proofs: proofs/BringingOver.antt.
use Rattle.std.specs.Prelude.{◌≡◌}
use Rattle.mondschein.specs.Order.{Rule, shortest}
use Rattle.in_place.specs.declared.Stage.TheVariants.{Open}
use Rattle.in_place.specs.declared.Session.{Session}
use Rattle.in_place.specs.Session.{stored_in, tables_in, closed_by, brought_by}

-- stage, network, used links, births, order, trees 1 and 2 stay
pub record OnlyThird : Type 0 where
  pub stage : (s : Session) → (brought_by s).after.stage ≡ s.stage
  pub network : (s : Session) → stored_in (brought_by s).after ≡ stored_in s
  pub tables : (s : Session) → tables_in (brought_by s).after ≡ tables_in s

-- as if it had been closed under Note 6's rule
abbrev pub AsIfClosed : Type 0
AsIfClosed = (rule : Rule) (s : Session) → s.stage ≡ Open → (brought_by (closed_by rule s).after).after ≡ (closed_by shortest s).after
