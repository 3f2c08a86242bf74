-- What the sums say of a proper network whose rows lead along its links: for ducts 1 to 255 as many more as switches other than the root
-- lose exactly c walks. A duct is marked along a walk exactly where the walk is lost when the duct fails.
use Rattle.std.proofs.Common.{◌≡◌, refl, sym, ap, ap₂, ◌∙◌, ⊎_elim, ◌≢◌, Bool, true, false, not, ◌&&◌, ◌||◌, cond, List, [], ◌∷◌, ℕ, zero, suc, pred, ◌+◌, ◌≤◌, ◌<◌, arith, eqb, length, take, get_or-take, eqb-true, eq-eqb}
use Rattle.std.proofs.lemmas.Bool.{eqb-false}
use Rattle.mondschein.specs.Network.{Network, count, at, size, former, latter, Adjacent, joins, passes, link_of, Proper}
use Rattle.mondschein.specs.Order.{walk_by}
use Rattle.mondschein.proofs.Logic.{which, clash, and_true, true_and, or_true, or_left, true_or}
use Rattle.mondschein.proofs.Search.{any_true, true_any, count_ext}
use Rattle.mondschein.proofs.Links.{passes_nil, passes_on, joins_cases, adjacent_joined, passes_along, along_passes, link_found, link_unique, adjacent_below}
use Rattle.mondschein.proofs.Routes.{walk_bound}
use Rattle.losses.specs.Losses.{lost, bit, lost_walks, losers}
use Rattle.network.specs.Load.{table_of}
use Rattle.reporting.specs.Reporting.{duct_between, duct_row, losing, Trees, trees_of, marks_of, costs, losses_after}
use Rattle.reporting.proofs.Steps.{switches_length}
use Rattle.reporting.proofs.Ducts.{duct_at}
use Rattle.reporting.proofs.Marks.{along, marks_of_at}
use Rattle.reporting.proofs.Sums.{counted, switches_none, switches_at}

walk_head : (root : ℕ) (p : ℕ → ℕ) (k v : ℕ) → at (walk_by root p k v) 0 ≡ v
unfolding walk_by
walk_head root p zero v = refl
walk_head root p (suc k) v = go (eqb v root)
  where
    go : (b : Bool) → at (cond b (v ∷ []) (v ∷ walk_by root p k (p v))) 0 ≡ v
    go true = refl
    go false = refl

module _ (net : Network) (ducts : List ℕ) (d : ℕ) where
  -- some link of the duct lies along the walk
  lost_by : (walk : List ℕ) (i : ℕ) → i < size net → at ducts i ≡ d → passes net walk i ≡ true → lost net ducts d walk ≡ true
  unfolding lost
  lost_by walk i l e p = true_any _ (size net) i l (true_and _ _ (eq-eqb (at ducts i) d e) p)

  lost_alone : (v : ℕ) → lost net ducts d (v ∷ []) ≡ false
  unfolding lost
  lost_alone v = ⊎_elim (λ t. let (i, l, q) = any_true _ (size net) t in passes_nil net v i (and_true (eqb (at ducts i) d) _ q).1) (λ f. f) (which (lost net ducts d (v ∷ [])))

  -- a walk from v over b: the link between them lies in the duct, or the walk from there on is lost
  lost_cons : Proper net → (v b : ℕ) (w : List ℕ) → Adjacent net v b → at w 0 ≡ b → 0 < length w
      → lost net ducts d (v ∷ w) ≡ (eqb (at ducts (link_of net v b)) d || lost net ducts d w)
  unfolding lost
  lost_cons proper v b w j e h = ⊎_elim hit miss (which (lost net ducts d (v ∷ w)))
    where
      first : eqb (at ducts (link_of net v b)) d ≡ true → lost net ducts d (v ∷ w) ≡ true
      first t =
          let (l, q) = link_found net v b (adjacent_joined net v b j) in
          let x = joins_cases net (link_of net v b) v (at w 0) (ap (joins net (link_of net v b) v) e ∙ q) in
          lost_by (v ∷ w) (link_of net v b) l (eqb-true _ _ t) (along_passes net (v ∷ w) (link_of net v b) (0, omega arith, x))

      later : lost net ducts d w ≡ true → lost net ducts d (v ∷ w) ≡ true
      later t =
          let (i, l, q) = any_true _ (size net) t in
          let (u, p) = and_true _ _ q in
          let (k, m, x) = passes_along net w i p in
          lost_by (v ∷ w) i l (eqb-true _ _ u) (along_passes net (v ∷ w) i (suc k, omega arith, x))

      hit : lost net ducts d (v ∷ w) ≡ true → lost net ducts d (v ∷ w) ≡ (eqb (at ducts (link_of net v b)) d || lost net ducts d w)
      hit t =
          let (i, l, q) = any_true _ (size net) t in
          let (u, p) = and_true _ _ q in
          t
          ∙ sym (⊎_elim
          (λ x. or_left _ _ (eq-eqb _ d (ap (at ducts) (link_unique net proper i v b l x) ∙ eqb-true _ _ u)))
          (λ x. true_or (eqb (at ducts (link_of net v b)) d) _ (lost_by w i l (eqb-true _ _ u) x))
          (passes_on net v b w i e h p))

      miss : lost net ducts d (v ∷ w) ≡ false → lost net ducts d (v ∷ w) ≡ (eqb (at ducts (link_of net v b)) d || lost net ducts d w)
      miss f = f ∙ sym (⊎_elim (λ t. ⊎_elim (λ x. clash (first x) f) (λ x. clash (later x) f) (or_true _ _ t)) (λ g. g) (which (eqb (at ducts (link_of net v b)) d || lost net ducts d w)))

  module _ (proper : Proper net) (p duct : ℕ → ℕ) (leads : (x : ℕ) → x < net.n → x ≢ net.root → Adjacent net x (p x) × (duct x ≡ at ducts (link_of net x (p x)))) where
    along_lost : (k v : ℕ) → v < net.n → along net.root p duct k v d ≡ lost net ducts d (walk_by net.root p k v)
    unfolding along walk_by
    along_lost zero v h = sym (lost_alone v)
    along_lost (suc k) v h = go (eqb v net.root) refl (along_lost k (p v))
      where
        go : (b : Bool) → eqb v net.root ≡ b → (p v < net.n → along net.root p duct k (p v) d ≡ lost net ducts d (walk_by net.root p k (p v)))
            → cond b false (eqb (duct v) d || along net.root p duct k (p v) d) ≡ lost net ducts d (cond b (v ∷ []) (v ∷ walk_by net.root p k (p v)))
        go true e next = sym (lost_alone v)
        go false e next =
            let (j, q) = leads v h (eqb-false v net.root e) in
            ap₂ (λ (a b : Bool). a || b) (ap (λ (x : ℕ). eqb x d) q) (next (adjacent_below net proper v (p v) j).1)
            ∙ sym (lost_cons proper v (p v) (walk_by net.root p k (p v)) j (walk_head net.root p k (p v)) (walk_bound net.root p k (p v)).0)

-- a row leads from each switch other than the root along a link, and its walks are those of a tree
pub record Leads (net : Network) (row : List ℕ) (walk : ℕ → List ℕ) : Type 0 where
  pub linked : (v : ℕ) → v < net.n → v ≢ net.root → Adjacent net v (at row v)
  pub walks : (v : ℕ) → v < net.n → walk_by net.root (at row) (pred net.n) v ≡ walk v

table_link : (net : Network) (a b : ℕ) → link_of (table_of net.links) a b ≡ link_of net a b
unfolding link_of joins former latter size
table_link net a b = refl

table_size : (net : Network) → size (table_of net.links) ≡ size net
unfolding size
table_size net = refl

module _ (net : Network) (proper : Proper net) (ducts row₁ row₂ row₃ : List ℕ) (w : ℕ → ℕ → List ℕ) (h₁ : Leads net row₁ (w 1)) (h₂ : Leads net row₂ (w 2)) (h₃ : Leads net row₃ (w 3)) where
  abbrev t : Trees
  t = trees_of net.n net.root net.links ducts row₁ row₂ row₃

  -- the duct of a switch's link
  duct : (row : List ℕ) (walk : ℕ → List ℕ) → Leads net row walk → (x : ℕ) → x < net.n → x ≢ net.root → at (duct_row net.links ducts row) x ≡ at ducts (link_of net x (at row x))
  unfolding duct_between
  duct row walk h x k n =
      duct_at net.links ducts row x (omega (arith, proper.switches.1))
      ∙ ap₂ (λ (m i : ℕ). at (take m ducts) i) (table_size net) (table_link net x (at row x))
      ∙ get_or-take (size net) ducts (link_of net x (at row x)) 0 (link_found net x (at row x) (adjacent_joined net x (at row x) (h.linked x k n))).0

  -- a mark along one walk
  marked : (row : List ℕ) (walk : ℕ → List ℕ) → Leads net row walk → (v d : ℕ) → v < net.n → d < 256
      → at (marks_of t row (duct_row net.links ducts row) v) d ≡ bit (lost net ducts d (walk v))
  marked row walk h v d l m =
      marks_of_at t row (duct_row net.links ducts row) v d m
      ∙ ap bit
      (along_lost net ducts d proper (at row) (at (duct_row net.links ducts row)) (λ x k n. (h.linked x k n, duct row walk h x k n)) (pred net.n) v l
      ∙ ap (lost net ducts d) (h.walks v l))

  module _ (c d : ℕ) (a : 0 < d) (b : d ≤ 255) where
    costs_lost : (v : ℕ) → v < net.n → costs t c v d ≡ eqb (lost_walks net ducts w d v) c
    unfolding losing lost_walks
    costs_lost v l =
        rw (
          marked row₁ (w 1) h₁ v d l (omega arith),
          marked row₂ (w 2) h₂ v d l (omega arith),
          marked row₃ (w 3) h₃ v d l (omega arith),
        )

    counted_losers : (sums : List ℕ) (l : d < length sums) → count (counted t c sums d a b l) net.n ≡ losers net ducts w c d
    unfolding losers
    counted_losers sums l = count_ext _ _ net.n (λ v m. ap (λ (x : Bool). not (eqb v net.root) && x) (costs_lost v m))

    pub losses_at : (sums : List ℕ) → d < length sums → at sums d + net.n ≤ 4294967295 → at (losses_after t c sums) d ≡ at sums d + losers net ducts w c d
    unfolding losses_after
    losses_at sums l m = switches_at t c sums d a b l net.n m ∙ ap (λ (x : ℕ). at sums d + x) (counted_losers sums l)

-- duct 0 never fails, and a report keeps its lengths
module _ (t : Trees) (c : ℕ) (sums : List ℕ) where
  pub losses_no_duct : at (losses_after t c sums) 0 ≡ at sums 0
  unfolding losses_after
  losses_no_duct = switches_none t c sums t.n

  pub losses_length : length (losses_after t c sums) ≡ length sums
  unfolding losses_after
  losses_length = switches_length t 255 c sums t.n
