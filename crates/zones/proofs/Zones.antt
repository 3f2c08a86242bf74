-- Document 02, Note 4, holds of every Mondschein sequence of a proper network: its order, and births numbered as by long ears, rank the
-- switches as a cut of the order needs it. Zones that agree below N are zones alike.
use mathlib.Core.Path.{◌≡◌, sym, ap, ◌∙◌, subst}
use mathlib.Core.Logic.{◌⊎◌, ⊎_elim}
use mathlib.Core.Bool.{true}
use Prim.Native.Nat.{ℕ, ◌≤◌, ◌<◌}
use native.Mathlib.Omega.{arith}
use lib.Dec.{eqb}
use Rattle.mondschein.specs.Network.{count, Network, at, size, Adjacent, Proper, Ears, born, birth, used, long_birth}
use Rattle.mondschein.specs.Order.{order, parent1, parent2, lowest, parent3_of}
use Rattle.mondschein.proofs.Logic.{less?, trichotomy}
use Rattle.mondschein.proofs.Search.{count_ext}
use Rattle.mondschein.proofs.Lists.{holds_at, holds_in}
use Rattle.mondschein.proofs.Births.{Passing, born_at}
use Rattle.mondschein.proofs.Growth.{order_full, order_sound, order_simple}
use Rattle.mondschein.proofs.Trees.{all_born, root_birth, first_birth, root_place}
use Rattle.mondschein.proofs.Closed as closed
use Rattle.mondschein.proofs.Complete.{complete, complete_used}
use Rattle.mondschein.proofs.Bounds.{bounded, long_birth_bound}
use Rattle.connectivity.proofs.Connected.{path_larger}
use Rattle.zones.specs.Zoning.{size_of_zone, Zoning}
use Rattle.zones.specs.Statements.{Zones}
use Rattle.zones.proofs.Zoning.{Ranked, zoned}

module _ (net : Network) (proper : Proper net) (es : Ears) (acc : Passing net es) (done : (l : ℕ) → l < size net → used net es l ≡ true) where
  born_all : (x : ℕ) → x < net.n → born es x ≡ true
  born_all = all_born net proper es acc done

  -- b numbers the births as long ears do
  module _ (b : ℕ → ℕ) (same : (v : ℕ) → v < net.n → b v ≡ long_birth es v) where
    births_lt : (x y : ℕ) → x < net.n → y < net.n → birth es x < birth es y → b x < b y
    births_lt x y l m h = omega (arith, same x l, same y m, ((bounded net es acc).births x y (born_all x l) (born_all y m)).1 h)

    lt_births : (x y : ℕ) → x < net.n → y < net.n → b x < b y → birth es x < birth es y
    lt_births x y l m h = ((bounded net es acc).births x y (born_all x l) (born_all y m)).0 (omega (arith, same x l, same y m))

    births_le : (x y : ℕ) → x < net.n → y < net.n → birth es x ≤ birth es y → b x ≤ b y
    births_le x y l m h = ⊎_elim (λ g. absurd (omega (arith, lt_births y x m l g))) (λ g. g) (less? (b y) (b x))

    births_same : (x y : ℕ) → x < net.n → y < net.n → b x ≡ b y → birth es x ≡ birth es y
    births_same x y l m h =
        ⊎_elim
        (λ g. absurd (omega (arith, births_lt x y l m g)))
        (⊎_elim (λ g. absurd (omega (arith, births_lt y x m l g))) (λ g. g))
        (trichotomy (birth es x) (birth es y))

    ranked : Ranked net (order es) b (parent1 net es) (parent2 net es) (parent3_of net (birth es) lowest)
    ranked =
        record {
          simple = order_simple net es acc;
          below = λ k l.
              let (i, m, h) = born_at es (at (order es) k) (order_sound net es acc (at (order es) k) (holds_at (order es) k l)) in
              let (j, g, e) = holds_in _ _ h in
              subst (λ (y : ℕ). y < net.n) e ((acc i m).below j g);
          held = λ x l. order_full net es acc x (born_all x l);
          back = λ x l d. let (k, j, u, v) = closed.back net proper es acc done x l d in (k, j, u, births_le _ x k l v);
          onward = λ x l d f. let (k, j, u, v) = closed.onward net proper es acc done x l d f in (k, j, u, births_le _ x k l v);
          out = λ x l d f. let (k, j, h) = closed.out net proper es acc done x l d f in (k, j, births_lt x _ l k h);
          root_position = root_place net proper es acc done;
          first_top = closed.first_highest net proper es acc done;
          root_old = λ x l. births_le _ x proper.named.0 l (omega (arith, root_birth net proper es acc done));
          first_old =
              let r = root_birth net proper es acc done in
              let f = first_birth net proper es acc done in
              omega (arith, births_le _ _ proper.named.0 proper.named.1 (omega arith), births_le _ _ proper.named.1 proper.named.0 (omega arith));
          last_top = λ x l. births_le x _ l proper.named.2 (closed.last_latest net proper es acc done x l);
          few_ears = omega (arith, same _ proper.named.2, long_birth_bound net es acc net.last (born_all _ proper.named.2));
          alone = λ x l e. closed.last_alone net proper es acc done x l (births_same x _ l proper.named.2 e);
          opens = λ x y l m d h e.
              closed.ear_opens net proper es acc done x y l m d (lt_births _ x (closed.back net proper es acc done x l d).0 l h) (births_same y x m l e);
          root_below = proper.named.0;
          first_below = proper.named.1;
          last_below = proper.named.2;
        }

pub zones : Zones
zones net es proper M b same n₁ n₂ n₃ S =
    zoned net (order es) b (parent1 net es) (parent2 net es) (parent3_of net (birth es) lowest)
    (ranked net proper es (complete net proper es M) (complete_used net proper es M) b same) n₁ n₂ n₃ S

-- zones that agree below N
pub zoning_ext : (net : Network) → Proper net → (n₁ n₂ n₃ : ℕ) (z z' : ℕ → ℕ) → ((v : ℕ) → v < net.n → z' v ≡ z v) → Zoning net n₁ n₂ n₃ z → Zoning net n₁ n₂ n₃ z'
unfolding size_of_zone
zoning_ext net proper n₁ n₂ n₃ z z' e Z =
    record {
      each = λ v l. subst (λ (k : ℕ). (k ≡ 1) ⊎ ((k ≡ 2) ⊎ (k ≡ 3))) (sym (e v l)) (Z.each v l);
      root_in1 = e _ proper.named.0 ∙ Z.root_in1;
      first_in2 = e _ proper.named.1 ∙ Z.first_in2;
      last_in3 = e _ proper.named.2 ∙ Z.last_in3;
      size1 = sized 1 ∙ Z.size1;
      size2 = sized 2 ∙ Z.size2;
      size3 = sized 3 ∙ Z.size3;
      connected = λ k x y (l, f) (m, g).
          path_larger (λ v. (v < net.n) × (z v ≡ k)) (λ v. (v < net.n) × (z' v ≡ k)) (Adjacent net) (λ v (l, f). (l, e v l ∙ f))
          (Z.connected k x y (l, sym (e x l) ∙ f) (m, sym (e y m) ∙ g));
    }
  where
    sized : (k : ℕ) → count (λ v. eqb (z' v) k) net.n ≡ count (λ v. eqb (z v) k) net.n
    sized k = count_ext (λ v. eqb (z' v) k) (λ v. eqb (z v) k) net.n (λ v l. ap (λ (y : ℕ). eqb y k) (e v l))
