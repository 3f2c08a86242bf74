use Rattle.std.proofs.Common.{◌≡◌, ℕ, ◌<◌, Bool, false, eqb, List}
use Rattle.mondschein.specs.Network.{any, at}
use Rattle.shape.specs.Shape.{MarksOf}
use Rattle.shape.proofs.first_repeated_by.Given as goal

-- number k of the ear stood before
abbrev pub again : List ℕ → ℕ → Bool
again ear k = any (λ j. eqb (at ear j) (at ear k)) k

abbrev pub invariant-loop-k : goal.invariant-loop-k
invariant-loop-k l = record { marks : MarksOf l.ear l.k l.marks; before : (j : ℕ) → j < l.k → again l.ear j ≡ false }
