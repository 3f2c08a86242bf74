-- What is told and written of an answer, by what the code wrote: one number, one walk, and the walks one after another.
-- The tests for a direct link are those of the table.
use Rattle.std.proofs.Common.{◌≡◌, refl, sym, ap, ap₂, ◌∙◌, ◌⊎◌, ⊎_elim, ◌≢◌, true, false, List, [], ◌∷◌, ℕ, zero, suc, ◌+◌, ◌-◌, ◌/◌, ◌≤◌, ◌<◌, add-one, arith, length, set, lt-ltb, le-ltb, eq-eqb, ne_eqb}
use Rattle.std.proofs.Math.Numerals.{add-two}
use Rattle.std.proofs.lemmas.List.Edits.{sets}
use Rattle.mondschein.specs.Network.{Network, at, size, former, latter, joins, joined, link_of}
use Rattle.mondschein.specs.Order.{walk_by}
use Rattle.mondschein.specs.Routes.{Thing, link}
use Rattle.mondschein.proofs.Links.{joined_link}
use Rattle.network.specs.Load.{table_of}
use Rattle.disjoint.specs.Matching.{unnamed, lowest, path_of, selves, Tried, all, short, in_cut, tries, answer_by, routes_of}
use Rattle.disjoint.specs.Paths.{walks}
use Rattle.disjoint.specs.Replies.{Reply, counts, things, told_of}

-- the link that joins two switches, by the table alone
module _ (n : ℕ) (links : List ℕ) (s t d : ℕ) (q : d ≡ link_of (table_of links) s t) where
  pub link_unnamed : d ≡ link_of (unnamed n links) s t
  unfolding link_of joins former latter size
  link_unnamed = q

  pub joined_when : d < length links / 2 → joined (unnamed n links) s t ≡ true
  unfolding size
  joined_when l = joined_link (unnamed n links) s t ∙ lt-ltb (link_of (unnamed n links) s t) (length links / 2) (omega (arith, link_unnamed))

  pub joined_unless : length links / 2 ≤ d → joined (unnamed n links) s t ≡ false
  unfolding size
  joined_unless l = joined_link (unnamed n links) s t ∙ le-ltb (link_of (unnamed n links) s t) (length links / 2) (omega (arith, link_unnamed))

-- a walk written number by number: from place i of out on
walk_step : (t : ℕ) (p : ℕ → ℕ) (k v : ℕ) → v ≢ t → walk_by t p (suc k) v ≡ v ∷ walk_by t p k (p v)
unfolding walk_by
walk_step t p k v d = rw (ne_eqb v t d)

walk_stop : (t : ℕ) (p : ℕ → ℕ) (f v : ℕ) → (f ≤ 0) ⊎ (v ≡ t) → walk_by t p f v ≡ v ∷ []
unfolding walk_by
walk_stop t p zero v h = refl
walk_stop t p (suc f) v h = ⊎_elim (λ l. absurd (omega arith)) (λ e. rw (eq-eqb v t e)) h

module _ (t : ℕ) (p : ℕ → ℕ) (out : List ℕ) (i f v : ℕ) where
  pub write_on : 0 < f → v ≢ t → (sets out i (walk_by t p f v) ≡ sets (set out i v) (i + 1) (walk_by t p (f - 1) (p v))) × (i + length (walk_by t p f v) ≡ i + 1 + length (walk_by t p (f - 1) (p v)))
  write_on l d =
      let e : walk_by t p f v ≡ v ∷ walk_by t p (f - 1) (p v) = ap (λ (k : ℕ). walk_by t p k v) (let z : f ≡ suc (f - 1) = omega arith in z) ∙ walk_step t p (f - 1) v d in (
        ap (sets out i) e ∙ ap (λ (k : ℕ). sets (set out i v) k (walk_by t p (f - 1) (p v))) (sym (add-one i)),
        ap (λ (w : List ℕ). i + length w) e ∙ (let z : i + suc (length (walk_by t p (f - 1) (p v))) ≡ i + 1 + length (walk_by t p (f - 1) (p v)) = omega arith in z),
      )

  pub write_end : (f ≤ 0) ⊎ (v ≡ t) → (sets out i (walk_by t p f v) ≡ set out i v) × (i + length (walk_by t p f v) ≡ i + 1)
  write_end h = let e = walk_stop t p f v h in (ap (sets out i) e, ap (λ (w : List ℕ). i + length w) e)

-- three walks written one after another
wrote : (A B C out : List ℕ) {out₁ out₂ out₃ : List ℕ} {a b c : ℕ} → (out₁ ≡ sets out 0 A) × (a ≡ length A) → (out₂ ≡ sets out₁ a B) × (b ≡ a + length B) → (out₃ ≡ sets out₂ b C) × (c ≡ b + length C)
    → record { reply = counts a (b - a) (c - b); after = out₃ } ≡ told_of (walks A B C) out
wrote A B C out {out₁} {out₂} {out₃} {a} {b} {c} (p₁, q₁) (p₂, q₂) (p₃, q₃) =
    let lb : b - a ≡ length B = omega arith in
    let lc : c - b ≡ length C = omega arith in
    let at_b : b ≡ length A + length B = omega arith in
    ap₂ (λ (x : Reply) (y : List ℕ). record { reply = x; after = y })
    (ap (λ (x : ℕ). counts x (b - a) (c - b)) q₁ ∙ ap₂ (counts (length A)) lb lc)
    (p₃ ∙ ap₂ (λ (o : List ℕ) (k : ℕ). sets o k C) (p₂ ∙ ap₂ (λ (o : List ℕ) (k : ℕ). sets o k B) p₁ q₁) at_b)

-- what is told of an answer, by what the searches ended with
module _ (net : Network) (s t : ℕ) (r : Tried) (out : List ℕ) where
  -- one did not come to t, and the slice is as it was
  module _ {next mark : List ℕ} (e : short next mark ≡ r) where
    pub short_plain : {xs : List Thing} → xs ≡ lowest net.n 2 (in_cut next mark) → record { reply = things xs; after = out } ≡ told_of (answer_by net s t false r) out
    unfolding answer_by
    short_plain q = ap (λ (x : List Thing). record { reply = things x; after = out }) q ∙ ap (λ (z : Tried). told_of (answer_by net s t false z) out) e

    pub short_direct : {xs : List Thing} {l : ℕ} → l ≡ link_of net s t → xs ≡ link l ∷ lowest net.n 1 (in_cut next mark) → record { reply = things xs; after = out } ≡ told_of (answer_by net s t true r) out
    unfolding answer_by
    short_direct p q =
        ap (λ (x : List Thing). record { reply = things x; after = out }) (q ∙ ap (λ (x : ℕ). link x ∷ lowest net.n 1 (in_cut next mark)) p)
        ∙ ap (λ (z : Tried). told_of (answer_by net s t true z) out) e

  -- all copies are matched, and their walks were written
  module _ (next : List ℕ) (e : all next ≡ r) where
    abbrev W : ℕ → List ℕ
    W u = path_of net.n s t (at next) u

    pub wrote_plain : {out₁ out₂ out₃ : List ℕ} {a b c : ℕ} → (out₁ ≡ sets out 0 (W net.n)) × (a ≡ 0 + length (W net.n))
        → (out₂ ≡ sets out₁ a (W (net.n + 1))) × (b ≡ a + length (W (net.n + 1))) → (out₃ ≡ sets out₂ b (W (net.n + 2))) × (c ≡ b + length (W (net.n + 2)))
        → record { reply = counts a (b - a) (c - b); after = out₃ } ≡ told_of (answer_by net s t false r) out
    unfolding answer_by
    wrote_plain (x, l) y z =
        wrote (W net.n) (W (net.n + 1)) (W (net.n + 2)) out (x, omega (arith, l)) y z
        ∙ ap₂ (λ (b c : ℕ). told_of (walks (W net.n) (W b) (W c)) out) (add-one net.n) (add-two net.n)
        ∙ ap (λ (z : Tried). told_of (answer_by net s t false z) out) e

    pub wrote_direct : {out₁ out₂ out₃ out₄ : List ℕ} {b c : ℕ} → out₁ ≡ set out 0 s → out₂ ≡ set out₁ 1 t
        → (out₃ ≡ sets out₂ 2 (W net.n)) × (b ≡ 2 + length (W net.n)) → (out₄ ≡ sets out₃ b (W (net.n + 1))) × (c ≡ b + length (W (net.n + 1)))
        → record { reply = counts 2 (b - 2) (c - b); after = out₄ } ≡ told_of (answer_by net s t true r) out
    unfolding answer_by
    wrote_direct p q y z =
        wrote (s ∷ t ∷ []) (W net.n) (W (net.n + 1)) out (q ∙ ap (λ (o : List ℕ). set o 1 t) p, refl) y z
        ∙ ap (λ (c : ℕ). told_of (walks (s ∷ t ∷ []) (W net.n) (W c)) out) (add-one net.n)
        ∙ ap (λ (z : Tried). told_of (answer_by net s t true z) out) e

-- the whole, by the test for a direct link
module _ (net : Network) (s t : ℕ) where
  pub routes_plain : joined net s t ≡ false → routes_of net s t ≡ answer_by net s t false (tries net s t 3 net.n selves)
  unfolding routes_of
  routes_plain q = rw q

  pub routes_direct : joined net s t ≡ true → routes_of net s t ≡ answer_by net s t true (tries net s t 2 net.n selves)
  unfolding routes_of
  routes_direct q = rw q
