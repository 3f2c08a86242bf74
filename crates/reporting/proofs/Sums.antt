-- What the sums hold, by duct, after the switches of a session: for ducts 1 to 255 as many more as switches lose exactly c walks.
-- As long as no sum can pass 32 bits; at 0, and past 255, they stay.
use Rattle.std.proofs.Common.{◌≡◌, refl, ◌∙◌, ⊎_elim, ◌≢◌, Bool, true, false, not, ◌&&◌, cond, List, ℕ, zero, suc, ◌+◌, ◌≤◌, ◌<◌, arith, eqb, length, set, get_or-set_same, get_or-set_other, lt-ltb}
use Rattle.mondschein.specs.Network.{count, at}
use Rattle.mondschein.proofs.Logic.{less?}
use Rattle.mondschein.proofs.Search.{count_bound}
use Rattle.reporting.specs.Reporting.{more, raised, Trees, costs, switch_after, switches_after}
use Rattle.reporting.proofs.Steps.{raised_length, switches_length}

module _ (p : ℕ → Bool) (sums : List ℕ) where
  abbrev hit : ℕ → List ℕ
  hit k = set (raised p sums k) (suc k) (more (at (raised p sums k) (suc k)))

  -- a duct that the loop has not come to, and duct 0
  raised_other : (k d : ℕ) → ((j : ℕ) → 0 < j → j ≤ k → d ≢ j) → at (raised p sums k) d ≡ at sums d
  unfolding raised
  raised_other zero d h = refl
  raised_other (suc k) d h = go (p (suc k)) (raised_other k d (λ j a b. h j a (omega arith)))
    where
      go : (b : Bool) → at (raised p sums k) d ≡ at sums d → at (cond b (hit k) (raised p sums k)) d ≡ at sums d
      go true e = get_or-set_other (raised p sums k) (suc k) d (more (at (raised p sums k) (suc k))) 0 (h (suc k) (omega arith) (omega arith)) ∙ e
      go false e = e

  raised_in : (k d : ℕ) → 0 < d → d ≤ k → d < length sums → at (raised p sums k) d ≡ cond (p d) (more (at sums d)) (at sums d)
  unfolding raised
  raised_in zero d a b l = absurd (omega arith)
  raised_in (suc k) d a b l =
      ⊎_elim
      (λ (n : d < suc k). off (p (suc k)) (λ e. omega arith) ∙ raised_in k d a (omega arith) l)
      (λ (n : suc k ≤ d). here (omega arith))
      (less? d (suc k))
    where
      old : (x : ℕ) → x ≡ suc k → at (raised p sums k) x ≡ at sums x
      old x e = raised_other k x (λ j i m z. omega arith)

      on : (b : Bool) → suc k < length sums → at (cond b (hit k) (raised p sums k)) (suc k) ≡ cond b (more (at (raised p sums k) (suc k))) (at (raised p sums k) (suc k))
      on true m = get_or-set_same (raised p sums k) (suc k) (more (at (raised p sums k) (suc k))) 0 (omega (arith, raised_length p sums k))
      on false m = refl

      here : d ≡ suc k → at (cond (p (suc k)) (hit k) (raised p sums k)) d ≡ cond (p d) (more (at sums d)) (at sums d)
      here e = rw e (on (p (suc k)) (omega arith) ∙ rw (old (suc k) refl))

      off : (b : Bool) → d ≢ suc k → at (cond b (hit k) (raised p sums k)) d ≡ at (raised p sums k) d
      off true n = get_or-set_other (raised p sums k) (suc k) d (more (at (raised p sums k) (suc k))) 0 n
      off false n = refl

more_one : (x : ℕ) → x < 4294967295 → more x ≡ suc x
unfolding more
more_one x h = rw (lt-ltb x 4294967295 h)

-- duct 0 never fails
pub switches_none : (t : Trees) (c : ℕ) (sums : List ℕ) (v : ℕ) → at (switches_after t 255 c sums v) 0 ≡ at sums 0
unfolding switches_after switch_after
switches_none t c sums zero = refl
switches_none t c sums (suc v) = go (eqb v t.root) (switches_none t c sums v)
  where
    go : (x : Bool) → at (switches_after t 255 c sums v) 0 ≡ at sums 0
        → at (cond x (switches_after t 255 c sums v) (raised (costs t c v) (switches_after t 255 c sums v) 255)) 0 ≡ at sums 0
    go true e = e
    go false e = raised_other (costs t c v) (switches_after t 255 c sums v) 255 0 (λ j i m z. omega arith) ∙ e

module _ (t : Trees) (c : ℕ) (sums : List ℕ) (d : ℕ) (a : 0 < d) (b : d ≤ 255) (l : d < length sums) where
  -- switch v is counted
  abbrev pub counted : ℕ → Bool
  counted v = not (eqb v t.root) && costs t c v d

  pub switches_at : (v : ℕ) → at sums d + v ≤ 4294967295 → at (switches_after t 255 c sums v) d ≡ at sums d + count counted v
  unfolding switches_after switch_after count
  switches_at zero h = omega arith
  switches_at (suc v) h = go (eqb v t.root) (switches_at v (omega arith))
    where
      so : List ℕ
      so = switches_after t 255 c sums v

      step : (y : Bool) → at so d ≡ at sums d + count counted v → cond y (more (at so d)) (at so d) ≡ at sums d + cond y (suc (count counted v)) (count counted v)
      step true e = more_one (at so d) (omega (arith, e, count_bound counted v)) ∙ omega (arith, e)
      step false e = e

      go : (x : Bool) → at so d ≡ at sums d + count counted v
          → at (cond x so (raised (costs t c v) so 255)) d ≡ at sums d + cond (not x && costs t c v d) (suc (count counted v)) (count counted v)
      go true e = e
      go false e = raised_in (costs t c v) so 255 d a b (omega (arith, switches_length t 255 c sums v)) ∙ step (costs t c v d) e
