-- What the contracts over slices cite: the cut, what is passed along the order and the zones, as structs and numbers of the code. Order and
-- births are lists; the definitions are those of Rattle.zones.specs.Cut.
use Rattle.std.specs.Prelude.{◌≡◌, cond, List, ℕ, suc, ◌+◌, ◌-◌, ◌≤◌, min, eqb, ltb, length, set}
use Rattle.mondschein.specs.Network.{count, at}
use Rattle.zones.specs.Cut.{birth_in, born_before, born_in, ear_past, ahead, zone_at}
use Rattle.cutting.specs.declared.Found.{Found}
use Rattle.cutting.specs.declared.Cut.{Cut}
use Rattle.cutting.specs.declared.Passed.{Passed}

-- the counts of the first k births: at each number up to 1,024, how many of them it is
pub record Counted (births : List ℕ) (k : ℕ) (counts : List ℕ) : Type 0 where
  pub long : length counts ≡ 1025
  pub each : (i : ℕ) → i ≤ 1024 → at counts i ≡ count (λ v. eqb (birth_in births v) i) k

-- the first ear after which more than c switches are born, with how many are born before it, and in it
unfoldable pub found_in : List ℕ → ℕ → Found
found_in births c =
    let n = length births in
    let b = birth_in births in
    let i = ear_past n b c in
    record { ear = i; before = born_before n b i; new = born_in n b i }

-- the cut for zones 1 and 2 of n₁ and n₂ switches
unfoldable pub cut_of : List ℕ → ℕ → ℕ → Cut
cut_of births n₁ n₂ =
    let found = found_in births (n₁ + n₂) in
    let taken = n₁ + n₂ - found.before in
    record { ear = found.ear; one = n₁; taken = taken; left = found.new - taken }

-- one older switch more is passed, or one of the ear's
unfoldable pub past_older : Passed → Passed
past_older p = record { older = suc p.older; new = p.new; old = p.old; share = p.share }

unfoldable pub past_new : Passed → Cut → Passed
past_new p c =
    let u = min c.taken (c.one - p.older) in
    cond (eqb p.new 0) (record { older = p.older; new = 1; old = c.one - u; share = u })
    (record { older = p.older; new = suc p.new; old = p.old; share = p.share })

-- their zones: zone 1 has `old` older switches, and of the ear's `share`, after which zone 3 has those that are left
unfoldable pub zone_older : ℕ → ℕ → ℕ
zone_older older old = cond (ltb older old) 1 2

unfoldable pub zone_new : ℕ → ℕ → ℕ → ℕ
zone_new new share left = cond (ltb new share) 1 (cond (ltb new (share + left)) 3 2)

-- a switch of the order with this birth is passed, and its zone is written; one that is born later than the ear changes nothing
unfoldable pub past : ℕ → Passed → Cut → Passed
past birth p c = cond (ltb birth c.ear) (past_older p) (cond (eqb birth c.ear) (past_new p c) p)

unfoldable pub placed : List ℕ → ℕ → ℕ → Passed → Cut → List ℕ
placed row switch birth p c =
    cond (ltb birth c.ear) (set row switch (zone_older p.older p.old))
    (cond (eqb birth c.ear) (set row switch (zone_new p.new (past_new p c).share c.left)) row)

-- how many of the ear's switches zone 1 takes, and the zone of what stands at index k of the order
unfoldable pub share_of : List ℕ → List ℕ → Cut → ℕ
share_of o births c = min c.taken (c.one - ahead o (birth_in births) c.ear)

unfoldable pub zone_by : List ℕ → List ℕ → Cut → ℕ → ℕ
zone_by o births c = let u = share_of o births c in zone_at o (birth_in births) c.ear (c.one - u) u (u + c.left)
