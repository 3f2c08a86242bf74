-- Refusal 24 of document 02, Note 4, and after it 18: what the sizes of zones are answered on a closed session.
-- Laws: proofs/Sizing.antt.
use Rattle.std.specs.Prelude.{Bool, not, ◌||◌, List, [], ℕ, ◌+◌, eqb}
use Rattle.mondschein.specs.Judge.{Answer, given, check}
use Rattle.mondschein.specs.Outcome.{room}

-- 24: a size is 0, or the sizes, as numbers, do not add up to N
unfoldable pub wrong_sizes : ℕ → ℕ → ℕ → ℕ → Bool
wrong_sizes n n₁ n₂ n₃ = eqb n₁ 0 || (eqb n₂ 0 || (eqb n₃ 0 || not (eqb (n₁ + n₂ + n₃) n)))

-- what zones of n switches are answered on a closed session: 24, then 18 where the slice is shorter than N
unfoldable pub sizing : ℕ → ℕ → ℕ → ℕ → List ℕ → Answer
sizing n n₁ n₂ n₃ out = check 24 1 (λ k. wrong_sizes n n₁ n₂ n₃) (room n out (given []))
