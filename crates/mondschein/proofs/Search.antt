-- Laws of `low`, `any` and `count`: `low` is the least index that passes, `any` says whether there is one, `count` grows with the
-- test; and the pigeonhole principle.
use mathlib.Core.Path.{◌≡◌, refl, sym, ap, ap₂, ◌∙◌}
use mathlib.Core.Logic.{◌⊎◌, inl, inr, ⊎_elim}
use mathlib.Core.Bool.{Bool, true, false, ◌&&◌, ◌||◌, cond}
use Prim.Native.Nat.{ℕ, zero, suc, ◌+◌, ◌-◌, ◌≤◌, ◌<◌}
use native.Mathlib.Omega.{arith}
use lib.Dec.{eqb, ltb}
use borrow.Author.Tests.{ltb-true, ltb-false, lt-ltb, le-ltb, eq-eqb, ne_eqb}
use Rattle.mondschein.specs.Network.{low, any, count}
use Rattle.mondschein.proofs.Logic.{which, clash, trichotomy, less?, same?}

-- k is that index
pub record IsLow (p : ℕ → Bool) (n k : ℕ) : Type 0 where
  pub le : k ≤ n
  pub before : (j : ℕ) → j < k → p j ≡ false
  pub hit : k < n → p k ≡ true

shift : (p : ℕ → Bool) (n k : ℕ) → p zero ≡ false → IsLow (λ j. p (suc j)) n k → IsLow p (suc n) (suc k)
shift p n k e h = record { le = omega arith; before = before'; hit = λ l. h.hit (omega arith) }
  where
    before' : (j : ℕ) → j < suc k → p j ≡ false
    before' zero l = e
    before' (suc j) l = h.before j (omega arith)

pub low_is : (p : ℕ → Bool) (n : ℕ) → IsLow p n (low p n)
unfolding low
low_is p zero = record { le = omega arith; before = λ j h. absurd (omega arith); hit = λ h. absurd (omega arith) }
low_is p (suc n) = go (p zero) refl (low_is (λ k. p (suc k)) n)
  where
    go : (b : Bool) → p zero ≡ b → IsLow (λ k. p (suc k)) n (low (λ k. p (suc k)) n) → IsLow p (suc n) (cond b zero (suc (low (λ k. p (suc k)) n)))
    go true e h = record { le = omega arith; before = λ j l. absurd (omega arith); hit = λ l. e }
    go false e h = shift p n _ e h

-- nothing else is
low_unique : (p : ℕ → Bool) (n j k : ℕ) → IsLow p n j → IsLow p n k → j ≡ k
low_unique p n j k g h = go (trichotomy j k)
  where
    go : (j < k) ⊎ ((k < j) ⊎ (j ≡ k)) → j ≡ k
    go (inl l) = clash (g.hit (omega (arith, h.le))) (h.before j l)
    go (inr (inl l)) = clash (h.hit (omega (arith, g.le))) (g.before k l)
    go (inr (inr e)) = e

pub low_eq : (p : ℕ → Bool) (n k : ℕ) → IsLow p n k → low p n ≡ k
low_eq p n k h = low_unique p n _ k (low_is p n) h

pub low_ext : (p q : ℕ → Bool) (n : ℕ) → ((k : ℕ) → k < n → p k ≡ q k) → low p n ≡ low q n
low_ext p q n e =
    low_eq p n (low q n)
    record {
      le = (low_is q n).le;
      before = λ j l. e j (omega (arith, (low_is q n).le)) ∙ (low_is q n).before j l;
      hit = λ l. e _ l ∙ (low_is q n).hit l;
    }

-- `any`
pub any_true : (p : ℕ → Bool) (n : ℕ) → any p n ≡ true → (k : ℕ) × (k < n) × (p k ≡ true)
unfolding any
any_true p n e = let l : low p n < n = ltb-true _ _ e in (low p n, l, (low_is p n).hit l)

pub any_false : (p : ℕ → Bool) (n : ℕ) → any p n ≡ false → (k : ℕ) → k < n → p k ≡ false
unfolding any
any_false p n e k l = (low_is p n).before k (omega (arith, ltb-false (low p n) n e))

pub true_any : (p : ℕ → Bool) (n k : ℕ) → k < n → p k ≡ true → any p n ≡ true
true_any p n k l e = ⊎_elim (λ t. t) (λ f. clash e (any_false p n f k l)) (which (any p n))

pub false_any : (p : ℕ → Bool) (n : ℕ) → ((k : ℕ) → k < n → p k ≡ false) → any p n ≡ false
false_any p n h = ⊎_elim (λ t. let w : (k : ℕ) × (k < n) × (p k ≡ true) = any_true p n t in clash w.2 (h w.0 w.1)) (λ f. f) (which (any p n))

pub low_found : (p : ℕ → Bool) (n k : ℕ) → k < n → p k ≡ true → (low p n < n) × (p (low p n) ≡ true)
low_found p n k l e =
    let m : low p n < n = ⊎_elim (λ h. clash e ((low_is p n).before k h)) (λ (h : low p n ≤ k). omega arith) (less? k (low p n)) in
    (m, (low_is p n).hit m)

-- for a loop that looks for the first hit: it stopped at k, or came to n
pub low_stop : (p : ℕ → Bool) (n k : ℕ) → ((j : ℕ) → j < k → p j ≡ false) → k < n → p k ≡ true → low p n ≡ k
low_stop p n k b l t = low_eq p n k (record { le = omega arith; before = b; hit = λ _. t })

pub low_none : (p : ℕ → Bool) (n : ℕ) → ((j : ℕ) → j < n → p j ≡ false) → low p n ≡ n
low_none p n b = low_eq p n n (record { le = omega arith; before = b; hit = λ l. absurd (omega arith) })

-- a search below n tells of every lower bound
pub any_low : (p : ℕ → Bool) (n k : ℕ) → k ≤ n → any p k ≡ ltb (low p n) k
any_low p n k l =
    ⊎_elim
    (λ (m : low p n < k). true_any p k (low p n) m ((low_is p n).hit (omega arith)) ∙ sym (lt-ltb (low p n) k m))
    (λ (m : k ≤ low p n). false_any p k (λ j h. (low_is p n).before j (omega arith)) ∙ sym (le-ltb (low p n) k m))
    (less? (low p n) k)

-- one index more
pub any_suc : (p : ℕ → Bool) (n : ℕ) → any p (suc n) ≡ (any p n || p n)
any_suc p n = ⊎_elim hit miss (which (any p n))
  where
    hit : any p n ≡ true → any p (suc n) ≡ (any p n || p n)
    hit t = let w = any_true p n t in true_any p (suc n) w.0 (omega (arith, w.1)) w.2 ∙ sym (ap (λ (b : Bool). b || p n) t)

    miss : any p n ≡ false → any p (suc n) ≡ (any p n || p n)
    miss f = ⊎_elim (λ t. true_any p (suc n) n (omega arith) t ∙ sym (ap₂ ◌||◌ f t)) (λ g. false_any p (suc n) (λ k l. ⊎_elim (λ m. any_false p n f k m) (λ (m : n ≤ k). ap p (let z : k ≡ n = omega arith in z) ∙ g) (less? k n)) ∙ sym (ap₂ ◌||◌ f g)) (which (p n))

pub any_ext : (p q : ℕ → Bool) (n : ℕ) → ((k : ℕ) → k < n → p k ≡ q k) → any p n ≡ any q n
unfolding any
any_ext p q n e = ap (λ (k : ℕ). ltb k n) (low_ext p q n e)

-- `count`
module _ (x y : ℕ) where
  step_le : (a b : Bool) → (a ≡ true → b ≡ true) → x ≤ y → cond a (suc x) x ≤ cond b (suc y) y
  step_le true true i l = omega arith
  step_le true false i l = clash (i refl) refl
  step_le false true i l = omega arith
  step_le false false i l = omega arith

  step_lt : (a b : Bool) → (a ≡ true → b ≡ true) → (x < y) ⊎ ((a ≡ false) × (b ≡ true) × (x ≤ y)) → cond a (suc x) x < cond b (suc y) y
  step_lt true true i (inl l) = omega arith
  step_lt true true i (inr w) = clash refl w.0
  step_lt true false i l = clash (i refl) refl
  step_lt false true i (inl l) = omega arith
  step_lt false true i (inr w) = omega arith
  step_lt false false i (inl l) = omega arith
  step_lt false false i (inr w) = clash w.1 refl

module _ (p q : ℕ → Bool) where
  pub count_le : (n : ℕ) → ((k : ℕ) → k < n → p k ≡ true → q k ≡ true) → count p n ≤ count q n
  unfolding count
  count_le zero i = omega arith
  count_le (suc n) i = step_le _ _ (p n) (q n) (i n (omega arith)) (count_le n (λ k l. i k (omega arith)))

  -- one index more passes q than p
  pub count_lt : (n : ℕ) → ((k : ℕ) → k < n → p k ≡ true → q k ≡ true) → (j : ℕ) → j < n → p j ≡ false → q j ≡ true → count p n < count q n
  unfolding count
  count_lt zero i j l f t = absurd (omega arith)
  count_lt (suc n) i j l f t =
      step_lt _ _ (p n) (q n) (i n (omega arith))
      (⊎_elim
      (λ e. inr (ap p (sym e) ∙ f, ap q (sym e) ∙ t, count_le n (λ k m. i k (omega arith))))
      (λ d. inl (count_lt n (λ k m. i k (omega arith)) j (omega arith) f t))
      (same? j n))

pub count_bound : (p : ℕ → Bool) (n : ℕ) → count p n ≤ n
unfolding count
count_bound p zero = omega arith
count_bound p (suc n) = go (p n) (count_bound p n)
  where
    go : (b : Bool) → count p n ≤ n → cond b (suc (count p n)) (count p n) ≤ suc n
    go true h = omega arith
    go false h = omega arith

-- the pigeonhole principle: k different numbers below n
pub pigeon : (k n : ℕ) (f : ℕ → ℕ) → ((i : ℕ) → i < k → f i < n) → ((i j : ℕ) → i < k → j < k → f i ≡ f j → i ≡ j) → k ≤ n
pigeon k n f below inj = omega (arith, go k below inj, count_bound (hits f k) n)
  where
    hits : (ℕ → ℕ) → ℕ → ℕ → Bool
    hits f k y = any (λ i. eqb (f i) y) k

    go : (k : ℕ) → ((i : ℕ) → i < k → f i < n) → ((i j : ℕ) → i < k → j < k → f i ≡ f j → i ≡ j) → k ≤ count (hits f k) n
    go zero below inj = omega arith
    go (suc k) below inj =
        omega (
          arith,
          go k (λ i l. below i (omega arith)) (λ i j l m. inj i j (omega arith) (omega arith)),
          count_lt (hits f k) (hits f (suc k)) n
              (λ y l t. let w = any_true (λ i. eqb (f i) y) k t in true_any (λ i. eqb (f i) y) (suc k) w.0 (omega (arith, w.1)) w.2)
              (f k) (below k (omega arith))
              (false_any (λ i. eqb (f i) (f k)) k (λ i l. ne_eqb (f i) (f k) (λ q. let z = inj i k (omega arith) (omega arith) q in omega arith)))
              (true_any (λ i. eqb (f i) (f k)) (suc k) k (omega arith) (eq-eqb (f k) (f k) refl)),
        )

pub count_ext : (p q : ℕ → Bool) (n : ℕ) → ((k : ℕ) → k < n → p k ≡ q k) → count p n ≡ count q n
unfolding count
count_ext p q zero e = refl
count_ext p q (suc n) e = rw (e n (omega arith), count_ext p q n (λ k l. e k (omega arith)))

pub count_skip : (p : ℕ → Bool) (n : ℕ) → p n ≡ false → count p (suc n) ≡ count p n
unfolding count
count_skip p n f = rw f

pub count_hit : (p : ℕ → Bool) (n : ℕ) → p n ≡ true → count p (suc n) ≡ suc (count p n)
unfolding count
count_hit p n t = rw t

pub count_more : (p : ℕ → Bool) (m n : ℕ) → m ≤ n → count p m ≤ count p n
count_more p m zero l = rw (let z : m ≡ 0 = omega arith in z) (omega arith)
count_more p m (suc n) l =
    ⊎_elim
    (λ (k : m < suc n). ⊎_elim (λ t. omega (arith, count_hit p n t, count_more p m n (omega arith))) (λ f. omega (arith, count_skip p n f, count_more p m n (omega arith))) (which (p n)))
    (λ (k : suc n ≤ m). rw (let z : m ≡ suc n = omega arith in z) (omega arith))
    (less? m (suc n))

-- counting from the other end
pub count_shift : (p : ℕ → Bool) (n : ℕ) → count p (suc n) ≡ cond (p 0) 1 0 + count (λ k. p (suc k)) n
unfolding count
count_shift p zero = omega arith
count_shift p (suc n) = go (p (suc n)) (count_shift p n)
  where
    go : (b : Bool) → count p (suc n) ≡ cond (p 0) 1 0 + count (λ k. p (suc k)) n
        → cond b (suc (count p (suc n))) (count p (suc n)) ≡ cond (p 0) 1 0 + cond b (suc (count (λ k. p (suc k)) n)) (count (λ k. p (suc k)) n)
    go true h = omega arith
    go false h = h

-- two tests that no index passes both
pub count_or : (p q : ℕ → Bool) (n : ℕ) → ((k : ℕ) → k < n → p k ≡ true → q k ≡ false) → count (λ k. p k || q k) n ≡ count p n + count q n
unfolding count
count_or p q zero d = refl
count_or p q (suc n) d = go (p n) (q n) (d n (omega arith)) (count_or p q n (λ k l. d k (omega arith)))
  where
    go : (a b : Bool) → (a ≡ true → b ≡ false) → count (λ k. p k || q k) n ≡ count p n + count q n
        → cond (a || b) (suc (count (λ k. p k || q k) n)) (count (λ k. p k || q k) n) ≡ cond a (suc (count p n)) (count p n) + cond b (suc (count q n)) (count q n)
    go true true x h = clash refl (x refl)
    go true false x h = omega arith
    go false true x h = omega arith
    go false false x h = h

pub count_none : (p : ℕ → Bool) (n : ℕ) → ((k : ℕ) → k < n → p k ≡ false) → count p n ≡ 0
unfolding count
count_none p zero h = refl
count_none p (suc n) h = rw (h n (omega arith)) (count_none p n (λ k l. h k (omega arith)))

pub count_all : (p : ℕ → Bool) (n : ℕ) → ((k : ℕ) → k < n → p k ≡ true) → count p n ≡ n
unfolding count
count_all p zero h = refl
count_all p (suc n) h = rw (h n (omega arith)) (ap suc (count_all p n (λ k l. h k (omega arith))))

-- one number more counts one at the most
pub count_next : (p : ℕ → Bool) (n : ℕ) → count p (suc n) ≤ suc (count p n)
count_next p n = ⊎_elim (λ h. omega (arith, count_hit p n h)) (λ h. omega (arith, count_skip p n h)) (which (p n))

-- numbers that pass below n, and one at the most
pub count_some : (p : ℕ → Bool) (n : ℕ) → 0 < count p n → (k : ℕ) × (k < n) × (p k ≡ true)
count_some p n h = ⊎_elim (any_true p n) (λ f. absurd (omega (arith, count_none p n (any_false p n f)))) (which (any p n))

pub count_once : (p : ℕ → Bool) (c n : ℕ) → ((k : ℕ) → k < n → p k ≡ true → k ≡ c) → count p n ≤ 1
unfolding count
count_once p c zero h = omega arith
count_once p c (suc n) h =
    ⊎_elim
    (λ t. omega (arith, count_hit p n t, count_none p n (λ k l. ⊎_elim (λ u. absurd (omega (arith, h k (omega arith) u, h n (omega arith) t))) (λ f. f) (which (p k)))))
    (λ f. omega (arith, count_skip p n f, count_once p c n (λ k l. h k (omega arith))))
    (which (p n))

-- a test of one number alone
pub count_one : (q : ℕ → Bool) (x n : ℕ) → x < n → count (λ y. eqb x y && q y) n ≡ cond (q x) 1 0
unfolding count
count_one q x zero l = absurd (omega arith)
count_one q x (suc n) l =
    ⊎_elim
    (λ (e : x ≡ n).
    rw (eq-eqb x n e, count_none (λ y. eqb x y && q y) n (λ k m. ap (λ (b : Bool). b && q k) (ne_eqb x k (λ z. omega arith))))
    (ap (λ (y : ℕ). cond (q y) 1 0) (sym e)))
    (λ d. rw (ne_eqb x n d) (count_one q x n (omega arith)))
    (same? x n)

-- a loop that looks for the first hit: what it gives from index i on
module _ (p : ℕ → Bool) (n : ℕ) where
  unfoldable pub rest : ℕ → ℕ
  rest i = i + low (λ k. p (i + k)) (n - i)

  pub rest_begin : low p n ≡ rest 0
  unfolding rest
  rest_begin =
      let e : n - 0 ≡ n = omega arith in
      rw e (omega (arith, low_ext p (λ k. p (0 + k)) n (λ k l. ap p (let z : k ≡ 0 + k = omega arith in z))))

  pub rest_hit : (i : ℕ) → i < n → p i ≡ true → rest i ≡ i
  unfolding rest
  rest_hit i l t =
      omega (arith, low_stop (λ k. p (i + k)) (n - i) 0 (λ j m. absurd (omega arith)) (omega arith) (ap p (let z : i + 0 ≡ i = omega arith in z) ∙ t))

  pub rest_miss : (i : ℕ) → i < n → p i ≡ false → rest i ≡ rest (i + 1)
  unfolding rest low
  rest_miss i l f =
      let e : n - i ≡ suc (n - (i + 1)) = omega arith in
      let z : p (i + 0) ≡ false = ap p (let z : i + 0 ≡ i = omega arith in z) ∙ f in
      rw (e, z)
      (omega (arith, low_ext (λ k. p (i + suc k)) (λ k. p (i + 1 + k)) (n - (i + 1)) (λ k m. ap p (let z : i + suc k ≡ i + 1 + k = omega arith in z))))

  pub rest_end : (i : ℕ) → n ≤ i → rest i ≡ i
  unfolding rest low
  rest_end i l = let e : n - i ≡ 0 = omega arith in rw e (omega arith)

  pub any_end : (i : ℕ) → low p n ≡ rest i → n ≤ i → any p n ≡ false
  unfolding any
  any_end i q l = ap (λ (k : ℕ). ltb k n) (q ∙ rest_end i l) ∙ le-ltb i n l
