-- How the zones are found from the order of switches and the births of a closed list: the order is cut at one ear. Document 02, Note 4,
-- leaves the cut free; this one is that of source document 000, Application 5, with all of its cases in one number, `share`.
use Rattle.std.specs.Prelude.{cond, List, ℕ, suc, ◌+◌, ◌-◌, min, eqb, ltb, length, get_or, replicate}
use Rattle.mondschein.specs.Network.{low, count, at}
use Rattle.rows.specs.Rows.{assigned}

-- the births of a list by switch number; a number that it does not hold is born later than every ear
unfoldable pub birth_in : List ℕ → ℕ → ℕ
birth_in births v = get_or births v 65536

-- n switches; b v is the birth of switch v, numbered in the order of the ears
module _ (n : ℕ) (b : ℕ → ℕ) where
  -- how many switches are born before ear i, and in it
  unfoldable pub born_before : ℕ → ℕ
  born_before i = count (λ v. ltb (b v) i) n

  unfoldable pub born_in : ℕ → ℕ
  born_in i = count (λ v. eqb (b v) i) n

  -- the first ear after which more than c switches are born
  unfoldable pub ear_past : ℕ → ℕ
  ear_past c = low (λ i. ltb c (born_before (suc i))) n

-- the order o, cut at ear i
module _ (o : List ℕ) (b : ℕ → ℕ) (i : ℕ) where
  -- among the first k of the order, how many are born before ear i, and in it
  unfoldable pub older : ℕ → ℕ
  older k = count (λ j. ltb (b (at o j)) i) k

  unfoldable pub in_ear : ℕ → ℕ
  in_ear k = count (λ j. eqb (b (at o j)) i) k

  -- how many older switches stand before its first switch in the order
  unfoldable pub ahead : ℕ
  ahead = older (low (λ j. eqb (b (at o j)) i) (length o))

  -- The zone of what stands at index k of the order. Of the older switches the first t in the order are zone 1, the others zone 2; of those
  -- born in ear i the first u are zone 1, those after them up to w zone 3, the others zone 2; all that are born later are zone 3.
  unfoldable pub zone_at : ℕ → ℕ → ℕ → ℕ → ℕ
  zone_at t u w k =
      cond (ltb (b (at o k)) i) (cond (ltb (older k) t) 1 2)
      (cond (ltb i (b (at o k))) 3
      (cond (ltb (in_ear k) u) 1 (cond (ltb (in_ear k) w) 3 2)))

-- n₁ and n₂ are the sizes wanted for zones 1 and 2; zone 3 has the rest
module _ (n : ℕ) (o : List ℕ) (b : ℕ → ℕ) (n₁ n₂ : ℕ) where
  -- the ear that is cut
  unfoldable pub cut_ear : ℕ
  cut_ear = ear_past n b (n₁ + n₂)

  -- how many of its switches zones 1 and 2 take
  unfoldable pub taken : ℕ
  taken = n₁ + n₂ - born_before n b cut_ear

  -- how many of them zone 1 takes: what the older ones ahead do not give it, and no more than are taken
  unfoldable pub share : ℕ
  share = min taken (n₁ - ahead o b cut_ear)

  -- the zone of what stands at index k of the order
  unfoldable pub zone_in : ℕ → ℕ
  zone_in k = zone_at o b cut_ear (n₁ - share) share (share + (born_in n b cut_ear - taken)) k

  -- the zones by switch number, for so many switches; a switch that the order does not hold is in zone 3, like one that is born later
  unfoldable pub zones_by : ℕ → List ℕ
  zones_by places = assigned (replicate places 3) (at o) zone_in (length o)
