-- A cut of the order gives the zones of document 02, Note 4, where positions and births rank the switches so that trees 1, 2 and 3 lead back
-- in the order, on in it and to later births: zone 1 goes back to root, zone 2 on to first, zone 3 out to last.
use mathlib.Core.Path.{◌≡◌, refl, sym, ap, ◌∙◌, subst}
use mathlib.Core.Logic.{◌⊎◌, inl, inr, ⊎_elim, ◌≢◌}
use mathlib.Core.Bool.{true}
use mathlib.Core.List.{List}
use Prim.Native.Nat.{ℕ, suc, ◌+◌, ◌-◌, ◌≤◌, ◌<◌}
use native.Mathlib.Omega.{arith}
use lib.Dec.{eqb, ltb}
use lib.ListN.{length, replicate, length-replicate}
use borrow.Author.Tests.{le-ltb, eqb-true, eqb-false}
use Rattle.mondschein.specs.Network.{low, count, Network, at, holds, Simple, Adjacent}
use Rattle.mondschein.specs.Order.{position}
use Rattle.mondschein.proofs.Logic.{same?, less?}
use Rattle.mondschein.proofs.Search.{low_is, low_found, count_ext, count_none, count_next, count_some, count_once}
use Rattle.mondschein.proofs.Lists.{holds_at}
use Rattle.mondschein.proofs.Order.{position_at}
use Rattle.rows.proofs.Assigned.{assigned_at}
use Rattle.connectivity.specs.Connected.{Path, Connected}
use Rattle.connectivity.proofs.Connected.{gather, adjacent_sym}
use Rattle.zones.specs.Zoning.{Sizes, size_of_zone, Zoning}
use Rattle.zones.specs.Cut.{born_before, born_in, older, in_ear, ahead, zone_at, cut_ear, taken, share, zone_in, zones_by}
use Rattle.zones.proofs.Births.{born_next, past_le, past_many, past_few, along, long, before_along, in_along}
use Rattle.zones.proofs.Tally.{older_more, in_ear_more, older_past, in_ear_past, old₁, old₂, late₃, cut₁, cut₃, cut₂, cases, tally, Tallied, tallied}

-- what zoning rests on: positions in the order, births b, and steps back, on and out
pub record Ranked (net : Network) (o : List ℕ) (b p₁ p₂ p₃ : ℕ → ℕ) : Type 0 where
  -- the order holds every switch once, and nothing else
  pub simple : Simple o
  pub below : (k : ℕ) → k < length o → at o k < net.n
  pub held : (x : ℕ) → x < net.n → holds o x ≡ true
  pub back : (x : ℕ) → x < net.n → x ≢ net.root → (p₁ x < net.n) × Adjacent net x (p₁ x) × (position o (p₁ x) < position o x) × (b (p₁ x) ≤ b x)
  pub onward : (x : ℕ) → x < net.n → x ≢ net.root → x ≢ net.first → (p₂ x < net.n) × Adjacent net x (p₂ x) × (position o x < position o (p₂ x)) × (b (p₂ x) ≤ b x)
  pub out : (x : ℕ) → x < net.n → x ≢ net.root → x ≢ net.last → (p₃ x < net.n) × Adjacent net x (p₃ x) × (b x < b (p₃ x))
  -- root comes first, and first last in the order; both are born first, and last is born last
  pub root_position : position o net.root ≡ 0
  pub first_top : (x : ℕ) → x < net.n → position o x ≤ position o net.first
  pub root_old : (x : ℕ) → x < net.n → b net.root ≤ b x
  pub first_old : b net.first ≡ b net.root
  pub last_top : (x : ℕ) → x < net.n → b x ≤ b net.last
  -- last is alone in its ear, and there are at most N ears
  pub few_ears : b net.last ≤ net.n
  pub alone : (x : ℕ) → x < net.n → b x ≡ b net.last → x ≡ net.last
  -- tree 1 leaves an ear only at its first new switch in the order
  pub opens : (x y : ℕ) → x < net.n → y < net.n → x ≢ net.root → b (p₁ x) < b x → b y ≡ b x → position o x ≤ position o y
  pub root_below : net.root < net.n
  pub first_below : net.first < net.n
  pub last_below : net.last < net.n

-- numbers that the sizes come from
takes : (m q t u k : ℕ) → t ≤ m → u ≤ q → k + (m - t) + (q - u) ≡ m + q → k ≡ t + u
takes m q t u k g h e = omega arith

left_over_lem : (j k l n₁ n₂ n₃ n : ℕ) → j + k + l ≡ n → j ≡ n₁ → k ≡ n₂ → n₁ + n₂ + n₃ ≡ n → l ≡ n₃
left_over_lem j k l n₁ n₂ n₃ n e f g h = omega arith

module _ (net : Network) (o : List ℕ) (b p₁ p₂ p₃ : ℕ → ℕ) (L : Ranked net o b p₁ p₂ p₃) (n₁ n₂ n₃ : ℕ) (S : Sizes net.n n₁ n₂ n₃) where
  abbrev s : ℕ → ℕ
  s = position o

  abbrev i : ℕ
  i = cut_ear net.n o b n₁ n₂

  abbrev m : ℕ
  m = older o b i (length o)

  abbrev q : ℕ
  q = in_ear o b i (length o)

  abbrev u : ℕ
  u = share net.n o b n₁ n₂

  abbrev a : ℕ
  a = ahead o b i

  abbrev r : ℕ
  r = taken net.n o b n₁ n₂

  placed : (x : ℕ) → x < net.n → (s x < length o) × (at o (s x) ≡ x)
  placed x l = position_at o x (L.held x l)

  at_position : (x : ℕ) → x < net.n → b (at o (s x)) ≡ b x
  at_position x l = ap b (placed x l).1

  at_in : (j : ℕ) → j < length o → s (at o j) ≡ j
  at_in j l = let (k, e) = position_at o (at o j) (holds_at o j l) in L.simple (s (at o j)) j k l e

  -- as many as there are switches
  whole : length o ≡ net.n
  whole = long net.n o L.simple L.below L.held

  -- first is the last in the order
  first_end : suc (s net.first) ≡ length o
  first_end =
      let (l, e) = placed net.first L.first_below in
      ⊎_elim
      (λ (h : suc (s net.first) < length o). absurd (omega (arith, at_in (suc (s net.first)) h, L.first_top (at o (suc (s net.first))) (L.below _ h))))
      (λ (h : length o ≤ suc (s net.first)). omega arith)
      (less? (suc (s net.first)) (length o))

  -- the ear that is cut
  m_is : born_before net.n b i ≡ m
  m_is = before_along net.n o L.simple L.below L.held b i

  q_is : born_in net.n b i ≡ q
  q_is = in_along net.n o L.simple L.below L.held b i

  many : n₁ + n₂ < m + q
  unfolding cut_ear
  many = omega (arith, S.some3, S.sum, m_is, q_is, born_next b net.n i, past_many b net.n (n₁ + n₂) (b net.last) L.few_ears L.last_top (omega (arith, S.some3, S.sum)))

  few : m ≤ n₁ + n₂
  unfolding cut_ear
  few = omega (arith, m_is, past_few b net.n (n₁ + n₂) (b net.last) L.few_ears L.last_top (omega (arith, S.some3, S.sum)))

  cut_le : i ≤ b net.last
  unfolding cut_ear
  cut_le = past_le b net.n (n₁ + n₂) (b net.last) L.few_ears L.last_top (omega (arith, S.some3, S.sum))

  -- its first switch in the order
  abbrev c : ℕ
  c = low (λ j. eqb (b (at o j)) i) (length o)

  c_is : (c < length o) × (b (at o c) ≡ i)
  unfolding in_ear
  c_is =
      let (j, l, t) = count_some (λ j. eqb (b (at o j)) i) (length o) (omega (arith, many, few)) in
      let (k, h) = low_found (λ j. eqb (b (at o j)) i) (length o) j l t in
      (k, eqb-true _ _ h)

  c_least : (x : ℕ) → x < net.n → b x ≡ i → c ≤ s x
  c_least x l e =
      ⊎_elim
      (λ h. absurd (eqb-false (b (at o (s x))) i ((low_is (λ j. eqb (b (at o j)) i) (length o)).before (s x) h) (at_position x l ∙ e)))
      (λ h. h)
      (less? (s x) c)

  c_switch : (at o c < net.n) × (s (at o c) ≡ c)
  c_switch = (L.below c c_is.0, at_in c c_is.0)

  -- the shares
  taken_is : r ≡ n₁ + n₂ - m
  unfolding taken
  taken_is = ap (λ (k : ℕ). n₁ + n₂ - k) m_is

  ahead_is : a ≡ older o b i c
  unfolding ahead
  ahead_is = refl

  share_is : (u ≤ r) × (u ≤ n₁ - a) × ((u ≡ r) ⊎ (u ≡ n₁ - a))
  unfolding share
  share_is =
      ⊎_elim
      (λ (h : r < n₁ - a). (omega arith, omega arith, inl (omega arith)))
      (λ (h : n₁ - a ≤ r). (omega arith, omega arith, inr (omega arith)))
      (less? r (n₁ - a))

  ahead_le : a ≤ m
  ahead_le = omega (arith, ahead_is, older_more o b i c (length o) (omega (arith, c_is.0)))

  abbrev z : ℕ → ℕ
  z v = at (zones_by net.n o b n₁ n₂ net.n) v

  abbrev t : ℕ
  t = n₁ - u

  abbrev w : ℕ
  w = u + (q - r)

  zone_is : (k : ℕ) → zone_in net.n o b n₁ n₂ k ≡ zone_at o b i t u w k
  unfolding zone_in
  zone_is k = ap (λ (y : ℕ). zone_at o b i t u (u + (y - r)) k) q_is

  z_is : (x : ℕ) → x < net.n → z x ≡ zone_at o b i t u w (s x)
  unfolding zones_by
  z_is x l =
      let (k, e) = placed x l in
      let row = replicate {A = ℕ} net.n 3 in
      let h : at o (s x) < length row = omega (arith, length-replicate {A = ℕ} net.n 3) in
      subst (λ (y : ℕ). z y ≡ zone_in net.n o b n₁ n₂ (s x)) e
      (assigned_at row (at o) (zone_in net.n o b n₁ n₂) (length o) (s x) k h (λ j g f. L.simple j (s x) g k f))
      ∙ zone_is (s x)

  shares : (t ≤ m) × (t + u ≡ n₁) × (u ≤ q) × (r < q) × ((m - t) + (q - w) ≡ n₂)
  shares =
      let (f, g, h) = share_is in
      ⊎_elim
      (λ e. omega (arith, few, many, taken_is, ahead_le))
      (λ e. omega (arith, few, many, taken_is, ahead_le))
      h

  -- a switch of each zone, by its birth
  in₁ : (x : ℕ) → x < net.n → z x ≡ 1 → ((b x < i) × (older o b i (s x) < t)) ⊎ ((b x ≡ i) × (in_ear o b i (s x) < u))
  in₁ x l e =
      let f = at_position x l in
      cases o b i t u w (λ y. y ≡ 1 → ((b x < i) × (older o b i (s x) < t)) ⊎ ((b x ≡ i) × (in_ear o b i (s x) < u))) (s x)
      (λ g h _. inl (omega arith, h)) (λ _ _ e. absurd (omega arith)) (λ _ e. absurd (omega arith))
      (λ g h _. inr (omega arith, h)) (λ _ _ _ e. absurd (omega arith)) (λ _ _ _ e. absurd (omega arith))
      (sym (z_is x l) ∙ e)

  in₂ : (x : ℕ) → x < net.n → z x ≡ 2 → ((b x < i) × (t ≤ older o b i (s x))) ⊎ ((b x ≡ i) × (w ≤ in_ear o b i (s x)))
  in₂ x l e =
      let f = at_position x l in
      cases o b i t u w (λ y. y ≡ 2 → ((b x < i) × (t ≤ older o b i (s x))) ⊎ ((b x ≡ i) × (w ≤ in_ear o b i (s x)))) (s x)
      (λ _ _ e. absurd (omega arith)) (λ g h _. inl (omega arith, h)) (λ _ e. absurd (omega arith))
      (λ _ _ e. absurd (omega arith)) (λ _ _ _ e. absurd (omega arith)) (λ g _ h _. inr (omega arith, h))
      (sym (z_is x l) ∙ e)

  in₃ : (x : ℕ) → x < net.n → z x ≡ 3 → i ≤ b x
  in₃ x l e =
      let f = at_position x l in
      cases o b i t u w (λ y. y ≡ 3 → i ≤ b x) (s x)
      (λ _ _ e. absurd (omega arith)) (λ _ _ e. absurd (omega arith)) (λ g _. omega arith)
      (λ _ _ e. absurd (omega arith)) (λ g _ _ _. omega arith) (λ _ _ _ e. absurd (omega arith))
      (sym (z_is x l) ∙ e)

  old_1 : (x : ℕ) → x < net.n → b x < i → older o b i (s x) < t → z x ≡ 1
  old_1 x l g h = z_is x l ∙ old₁ o b i t u w (s x) (omega (arith, at_position x l)) h

  old_2 : (x : ℕ) → x < net.n → b x < i → t ≤ older o b i (s x) → z x ≡ 2
  old_2 x l g h = z_is x l ∙ old₂ o b i t u w (s x) (omega (arith, at_position x l)) h

  cut_1 : (x : ℕ) → x < net.n → b x ≡ i → in_ear o b i (s x) < u → z x ≡ 1
  cut_1 x l g h = z_is x l ∙ cut₁ o b i t u w (s x) (omega (arith, at_position x l)) h

  cut_2 : (x : ℕ) → x < net.n → b x ≡ i → w ≤ in_ear o b i (s x) → z x ≡ 2
  cut_2 x l g h = z_is x l ∙ cut₂ o b i t u w (s x) (omega (arith, at_position x l)) (omega arith) h

  late_3 : (x : ℕ) → x < net.n → i < b x → z x ≡ 3
  late_3 x l g = z_is x l ∙ late₃ o b i t u w (s x) (omega (arith, at_position x l))

  -- the three named switches
  nothing_old : i ≤ b net.root → (k : ℕ) → k ≤ length o → older o b i k ≡ 0
  unfolding older
  nothing_old e k l = count_none (λ j. ltb (b (at o j)) i) k (λ j g. le-ltb (b (at o j)) i (omega (arith, L.root_old (at o j) (L.below j (omega arith)))))

  root_in : z net.root ≡ 1
  unfolding older in_ear count
  root_in =
      let (f, g, h) = share_is in
      let e = L.root_old (at o c) c_switch.0 in
      let e' = at_position net.root L.root_below in
      let p = L.root_position in
      let old : b net.root < i → 0 < a = λ k.
      let d : c ≢ 0 = λ y. omega (arith, c_is.1, ap b (ap (at o) (y ∙ sym p))) in
      omega (arith, ahead_is, older_past o b i (s net.root) c (omega arith) (omega arith)) in
      ⊎_elim
      (λ (k : b net.root < i). old_1 net.root L.root_below (omega arith) (rw p (omega (arith, old k))))
      (λ (k : i ≤ b net.root). cut_1 net.root L.root_below (omega (arith, c_is.1)) (rw p (⊎_elim (λ y. omega (arith, taken_is, nothing_old (omega arith) (length o) (omega arith))) (λ y. omega (arith, ahead_is, nothing_old (omega arith) c (omega (arith, c_is.0)))) h)))
      (less? (b net.root) i)

  first_in : z net.first ≡ 2
  unfolding older in_ear
  first_in =
      let (f, g, h) = share_is in
      let e = L.first_old in
      let k = L.first_top (at o c) c_switch.0 in
      let k' = c_switch.1 in
      let y = first_end in
      let near = count_next (λ j. ltb (b (at o j)) i) (s net.first) in
      let near' = count_next (λ j. eqb (b (at o j)) i) (s net.first) in
      let m' : m ≤ suc (older o b i (s net.first)) = subst (λ (x : ℕ). older o b i x ≤ suc (older o b i (s net.first))) y near in
      let q' : q ≤ suc (in_ear o b i (s net.first)) = subst (λ (x : ℕ). in_ear o b i x ≤ suc (in_ear o b i (s net.first))) y near' in
      ⊎_elim
      (λ (l : b net.root < i).
      old_2 net.first L.first_below (omega arith)
      (⊎_elim (λ p. omega (arith, taken_is, few)) (λ p. omega (arith, ahead_is, older_more o b i c (s net.first) (omega arith))) h))
      (λ (l : i ≤ b net.root).
      cut_2 net.first L.first_below (omega (arith, c_is.1, L.root_old (at o c) c_switch.0))
      (⊎_elim
      (λ p. omega (arith, taken_is, ahead_is, nothing_old (omega arith) c (omega (arith, c_is.0)), nothing_old (omega arith) (length o) (omega arith), many))
      (λ p. omega (arith, taken_is, ahead_is, nothing_old (omega arith) c (omega (arith, c_is.0)), nothing_old (omega arith) (length o) (omega arith), many))
      h))
      (less? (b net.root) i)

  last_in : z net.last ≡ 3
  unfolding in_ear
  last_in =
      ⊎_elim
      (λ l. late_3 net.last L.last_below l)
      (λ l.
      let (f, g, h) = share_is in
      let e : b net.last ≡ i = omega (arith, cut_le) in
      let e' = at_position net.last L.last_below in
      let k = placed net.last L.last_below in
      let one : q ≤ 1 =
      count_once (λ j. eqb (b (at o j)) i) (s net.last) (length o)
      (λ j p y. sym (at_in j p) ∙ ap s (L.alone (at o j) (L.below j p) (eqb-true _ _ y ∙ sym e))) in
      z_is net.last L.last_below
      ∙ cut₃ o b i t u w (s net.last) (e' ∙ e) (omega (arith, shares)) (omega (arith, shares, in_ear_past o b i (s net.last) (length o) k.0 (e' ∙ e))))
      (less? i (b net.last))

  -- each zone hangs together
  abbrev In : ℕ → ℕ → Type 0
  In k v = (v < net.n) × (z v ≡ k)

  zone₁ : Connected (In 1) (Adjacent net)
  zone₁ =
      gather (In 1) (Adjacent net) (adjacent_sym net) net.root s
      (λ x (l, e).
      ⊎_elim
      inl
      (λ d.
      let (f, g, h) = share_is in
      let y = p₁ x in
      let (k, link, down, old) = L.back x l d in
      inr (
        y,
        (
          k,
          ⊎_elim
              (λ (p, v). old_1 y k (omega arith) (omega (arith, older_more o b i (s y) (s x) (omega arith))))
              (λ (p, v).
              ⊎_elim
              (λ (a' : b y < i).
              old_1 y k a'
              (omega (arith, ahead_is, older_past o b i (s y) c (omega (arith, c_switch.1, L.opens x (at o c) l c_switch.0 d (omega arith) (c_is.1 ∙ sym p))) (omega (arith, at_position y k)))))
              (λ (a' : i ≤ b y). cut_1 y k (omega arith) (omega (arith, in_ear_more o b i (s y) (s x) (omega arith))))
              (less? (b y) i))
              (in₁ x l e),
        ),
        link,
        down,
      ))
      (same? x net.root))

  no_room_lem : (k : ℕ) → u ≡ r → w ≤ in_ear o b i k → in_ear o b i k < q → ⊥
  no_room_lem k e f g = omega (arith, shares.3)

  before_c : (k : ℕ) → u ≡ n₁ - a → older o b i c ≤ k → t ≤ k
  before_c k e f = omega (arith, ahead_is)

  zone₂ : Connected (In 2) (Adjacent net)
  zone₂ =
      gather (In 2) (Adjacent net) (adjacent_sym net) net.first (λ x. length o - s x)
      (λ x (l, e).
      ⊎_elim
      inl
      (λ n.
      let d : x ≢ net.root = λ v. absurd (omega (arith, sym (root_in) ∙ ap z (sym v) ∙ e)) in
      let (f, g, h) = share_is in
      let y = p₂ x in
      let (k, link, up, old) = L.onward x l d n in
      inr (
        y,
        (
          k,
          ⊎_elim
              (λ (p, v). old_2 y k (omega arith) (omega (arith, older_more o b i (s x) (s y) (omega arith))))
              (λ (p, v).
              ⊎_elim
              (λ (a' : b y < i).
              let room = in_ear_past o b i (s x) (length o) (placed x l).0 (at_position x l ∙ p) in
              let after = older_more o b i c (s y) (omega (arith, c_least x l p)) in
              old_2 y k a' (⊎_elim (λ v'. absurd (no_room_lem (s x) v' v room)) (λ v'. before_c (older o b i (s y)) v' after) h))
              (λ (a' : i ≤ b y). cut_2 y k (omega arith) (omega (arith, in_ear_more o b i (s x) (s y) (omega arith))))
              (less? (b y) i))
              (in₂ x l e),
        ),
        link,
        omega (arith, (placed y k).0),
      ))
      (same? x net.first))

  zone₃ : Connected (In 3) (Adjacent net)
  zone₃ =
      gather (In 3) (Adjacent net) (adjacent_sym net) net.last (λ x. b net.last - b x)
      (λ x (l, e).
      ⊎_elim
      inl
      (λ n.
      let d : x ≢ net.root = λ v. absurd (omega (arith, sym (root_in) ∙ ap z (sym v) ∙ e)) in
      let (k, link, up) = L.out x l d n in
      inr (p₃ x, (k, late_3 (p₃ x) k (omega (arith, in₃ x l e))), link, omega (arith, L.last_top (p₃ x) k)))
      (same? x net.last))

  -- the zones are counted along the order
  sized : (k : ℕ) → size_of_zone net.n z k ≡ tally o b i t u w k (length o)
  unfolding size_of_zone
  sized k =
      along net.n o L.simple L.below L.held (λ v. eqb (z v) k)
      ∙ count_ext (λ j. eqb (z (at o j)) k) (λ j. eqb (zone_at o b i t u w j) k) (length o)
      (λ j l. ap (λ (y : ℕ). eqb y k) (z_is (at o j) (L.below j l) ∙ ap (zone_at o b i t u w) (at_in j l)))

  pub zoned : Zoning net n₁ n₂ n₃ z
  zoned =
      record {
        each = each_by;
        root_in1 = root_in;
        first_in2 = first_in;
        last_in3 = last_in;
        size1 = sized 1 ∙ one;
        size2 = sized 2 ∙ two;
        size3 = sized 3 ∙ left_over_lem _ _ _ n₁ n₂ n₃ (length o) sizes.2 one two (S.sum ∙ sym whole);
        connected = all;
      }
    where
      sizes : Tallied o b i t u w (length o)
      sizes = tallied o b i t u w (omega arith) (length o)

      one : tally o b i t u w 1 (length o) ≡ n₁
      one = takes m q t u _ shares.0 shares.2 sizes.0 ∙ shares.1

      two : tally o b i t u w 2 (length o) ≡ n₂
      two = sizes.1 ∙ shares.4

      each_by : (v : ℕ) → v < net.n → (z v ≡ 1) ⊎ ((z v ≡ 2) ⊎ (z v ≡ 3))
      each_by v l =
          subst (λ (y : ℕ). (y ≡ 1) ⊎ ((y ≡ 2) ⊎ (y ≡ 3))) (sym (z_is v l))
          (cases o b i t u w (λ y. (y ≡ 1) ⊎ ((y ≡ 2) ⊎ (y ≡ 3))) (s v)
          (λ _ _. inl refl) (λ _ _. inr (inl refl)) (λ _. inr (inr refl))
          (λ _ _. inl refl) (λ _ _ _. inr (inr refl)) (λ _ _ _. inr (inl refl)))

      all : (k : ℕ) → Connected (In k) (Adjacent net)
      all k x y i j = ⊎_elim (zone 1 zone₁) (⊎_elim (zone 2 zone₂) (zone 3 zone₃)) (each_by x i.0)
        where
          zone : (h : ℕ) → Connected (In h) (Adjacent net) → z x ≡ h → Path (In k) (Adjacent net) x y
          zone h C g = subst (λ (k : ℕ). Path (In k) (Adjacent net) x y) (sym g ∙ i.1) (C x y (i.0, g) (j.0, j.1 ∙ sym i.1 ∙ g))
