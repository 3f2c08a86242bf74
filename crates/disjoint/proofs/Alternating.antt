-- Traces of an alternating search, and matchings of left numbers below k with right numbers below n, where t may be taken often: one
-- step of an augmentation, its end, and the whole along a trace.
use mathlib.Core.Path.{◌≡◌, refl, sym, ap, ◌∙◌, subst}
use mathlib.Core.Logic.{◌⊎◌, inl, inr, ⊎_elim, ◌≢◌}
use mathlib.Core.Bool.{Bool, true, false, ◌||◌, cond}
use Prim.Native.Nat.{ℕ, suc, ◌<◌}
use native.Mathlib.Omega.{arith}
use lib.Dec.{eqb}
use borrow.Author.Tests.{eqb-true, eqb-false, eq-eqb, ne_eqb}
use Rattle.mondschein.proofs.Logic.{clash, same?, or_true, or_left, true_or}

-- f with v at k
unfoldable pub upd : (ℕ → ℕ) → ℕ → ℕ → ℕ → ℕ
upd f k v j = cond (eqb j k) v (f j)

-- what a search has entered, newest first: w was entered after u was left
pub data Trace : Type 0 where
  start : Trace
  enter : (w u : ℕ) → Trace → Trace

unfoldable pub seen : Trace → ℕ → Bool
seen start x = false
seen (enter w u tr) x = eqb w x || seen tr x

-- w is to be entered anew: the newest entry of w gives the u after which it shall be, what u had before is to be entered anew; until
-- copy k is matched
unfoldable pub alternate : ℕ → Trace → (ℕ → ℕ) → ℕ → ℕ → ℕ
alternate k start next w = next
alternate k (enter h u tr) next w =
    cond (eqb h w) (cond (eqb u k) (upd next k w) (alternate k tr (upd next u w) (next u))) (alternate k tr next w)

pub upd_at : (f : ℕ → ℕ) (k v j : ℕ) → j ≡ k → upd f k v j ≡ v
unfolding upd
upd_at f k v j e = rw (eq-eqb j k e)

pub upd_off : (f : ℕ → ℕ) (k v j : ℕ) → j ≢ k → upd f k v j ≡ f j
unfolding upd
upd_off f k v j d = rw (ne_eqb j k d)

pub seen_new : (w u : ℕ) (tr : Trace) → seen (enter w u tr) w ≡ true
unfolding seen
seen_new w u tr = or_left _ _ (eq-eqb w w refl)

pub seen_old : (w u : ℕ) (tr : Trace) (x : ℕ) → seen tr x ≡ true → seen (enter w u tr) x ≡ true
unfolding seen
seen_old w u tr x h = true_or (eqb w x) _ h

pub seen_cases : (w u : ℕ) (tr : Trace) (x : ℕ) → seen (enter w u tr) x ≡ true → (w ≡ x) ⊎ (seen tr x ≡ true)
unfolding seen
seen_cases w u tr x h = ⊎_elim (λ q. inl (eqb-true w x q)) (λ q. inr q) (or_true (eqb w x) (seen tr x) h)

pub seen_start : {X : Type 0} (x : ℕ) → seen start x ≡ true → X
unfolding seen
seen_start x h = clash h refl

alternate_cases : (P : (ℕ → ℕ) → Type 0) (k h u : ℕ) (tr : Trace) (next : ℕ → ℕ) (w : ℕ)
    → (h ≡ w → u ≡ k → P (upd next k w))
    → (h ≡ w → u ≢ k → P (alternate k tr (upd next u w) (next u)))
    → (h ≢ w → P (alternate k tr next w))
    → P (alternate k (enter h u tr) next w)
unfolding alternate
alternate_cases P k h u tr next w ends on past = go (eqb h w) refl (eqb u k) refl
  where
    go : (b : Bool) → eqb h w ≡ b → (c : Bool) → eqb u k ≡ c → P (cond b (cond c (upd next k w) (alternate k tr (upd next u w) (next u))) (alternate k tr next w))
    go true q true r = ends (eqb-true h w q) (eqb-true u k r)
    go true q false r = on (eqb-true h w q) (eqb-false u k r)
    go false q true r = past (eqb-false h w q)
    go false q false r = past (eqb-false h w q)

module _ (n t : ℕ) (Edge : ℕ → ℕ → Type 0) where
  -- left numbers below k are matched, each right number but t at most once, and each but t and w at least once
  pub record Almost (k : ℕ) (next : ℕ → ℕ) (w : ℕ) : Type 0 where
    pub one : (a b : ℕ) → a < k → b < k → next a ≡ next b → next a ≢ t → a ≡ b
    pub edge : (a : ℕ) → a < k → Edge a (next a)
    pub onto : (x : ℕ) → x < n → x ≢ t → x ≢ w → (a : ℕ) × (a < k) × (next a ≡ x)
    pub free : (a : ℕ) → a < k → next a ≡ w → w ≡ t

  -- all but t are matched
  abbrev pub Matching : ℕ → (ℕ → ℕ) → Type 0
  Matching k next = Almost k next t

  module _ (k : ℕ) (next : ℕ → ℕ) (w : ℕ) (m : Almost k next w) where
    -- u takes w and leaves what it had
    swap : (u : ℕ) → u < k → next u ≢ t → Edge u w → Almost k (upd next u w) (next u)
    swap u l d g = record { one = one'; edge = edge'; onto = onto'; free = free' }
      where
        one' : (a b : ℕ) → a < k → b < k → upd next u w a ≡ upd next u w b → upd next u w a ≢ t → a ≡ b
        one' a b la lb q z =
            ⊎_elim
            (λ ea. ⊎_elim
            (λ eb. ea ∙ sym eb)
            (λ fb. absurd (z (upd_at next u w a ea ∙ m.free b lb (sym (upd_off next u w b fb) ∙ sym q ∙ upd_at next u w a ea))))
            (same? b u))
            (λ fa. ⊎_elim
            (λ eb. absurd (z (q ∙ upd_at next u w b eb ∙ m.free a la (sym (upd_off next u w a fa) ∙ q ∙ upd_at next u w b eb))))
            (λ fb. m.one a b la lb (sym (upd_off next u w a fa) ∙ q ∙ upd_off next u w b fb) (λ y. z (upd_off next u w a fa ∙ y)))
            (same? b u))
            (same? a u)

        edge' : (a : ℕ) → a < k → Edge a (upd next u w a)
        edge' a la =
            ⊎_elim
            (λ ea. rw (upd_at next u w a ea, ea) g)
            (λ fa. rw (upd_off next u w a fa) (m.edge a la))
            (same? a u)

        onto' : (x : ℕ) → x < n → x ≢ t → x ≢ next u → (a : ℕ) × (a < k) × (upd next u w a ≡ x)
        onto' x lx xt xu =
            ⊎_elim
            (λ e. (u, l, upd_at next u w u refl ∙ sym e))
            (λ f. let (a, la, q) = m.onto x lx xt f in (a, la, upd_off next u w a (λ e. xu (sym q ∙ ap next e)) ∙ q))
            (same? x w)

        free' : (a : ℕ) → a < k → upd next u w a ≡ next u → next u ≡ t
        free' a la q =
            ⊎_elim
            (λ ea. let z : w ≡ next u = sym (upd_at next u w a ea) ∙ q in sym z ∙ m.free u l (sym z))
            (λ fa. absurd (fa (m.one a u la l (sym (upd_off next u w a fa) ∙ q) (λ y. d (sym q ∙ upd_off next u w a fa ∙ y)))))
            (same? a u)

    -- the new left number k takes w
    finish : Edge k w → Matching (suc k) (upd next k w)
    finish g = record { one = one'; edge = edge'; onto = onto'; free = λ a la q. refl }
      where
        old : (a : ℕ) → a < suc k → a ≢ k → a < k
        old a l d = omega arith

        one' : (a b : ℕ) → a < suc k → b < suc k → upd next k w a ≡ upd next k w b → upd next k w a ≢ t → a ≡ b
        one' a b la lb q z =
            ⊎_elim
            (λ ea. ⊎_elim
            (λ eb. ea ∙ sym eb)
            (λ fb. absurd (z (upd_at next k w a ea ∙ m.free b (old b lb fb) (sym (upd_off next k w b fb) ∙ sym q ∙ upd_at next k w a ea))))
            (same? b k))
            (λ fa. ⊎_elim
            (λ eb. absurd (z (q ∙ upd_at next k w b eb ∙ m.free a (old a la fa) (sym (upd_off next k w a fa) ∙ q ∙ upd_at next k w b eb))))
            (λ fb. m.one a b (old a la fa) (old b lb fb) (sym (upd_off next k w a fa) ∙ q ∙ upd_off next k w b fb) (λ y. z (upd_off next k w a fa ∙ y)))
            (same? b k))
            (same? a k)

        edge' : (a : ℕ) → a < suc k → Edge a (upd next k w a)
        edge' a la =
            ⊎_elim
            (λ ea. rw (upd_at next k w a ea, ea) g)
            (λ fa. rw (upd_off next k w a fa) (m.edge a (old a la fa)))
            (same? a k)

        onto' : (x : ℕ) → x < n → x ≢ t → x ≢ t → (a : ℕ) × (a < suc k) × (upd next k w a ≡ x)
        onto' x lx xt _ =
            ⊎_elim
            (λ e. (k, omega arith, upd_at next k w k refl ∙ sym e))
            (λ f. let (a, la, q) = m.onto x lx xt f in (a, omega (arith, la), upd_off next k w a (λ e. absurd (omega (arith, la))) ∙ q))
            (same? x w)

  -- the trace of a search from k in the matching old
  module _ (k : ℕ) (old : ℕ → ℕ) where
    pub record Entered (w u : ℕ) (tr : Trace) : Type 0 where
      pub link : Edge u w
      pub below : w < n
      pub fresh : seen tr w ≡ false
      pub goes : seen tr t ≡ false
      pub cause : (u ≡ k) ⊎ ((u < k) × (seen tr (old u) ≡ true))

    unfoldable pub Traced : Trace → Type 0
    Traced start = Unit {0}
    Traced (enter w u tr) = Entered w u tr × Traced tr

    pub traced_below : (tr : Trace) → Traced tr → (x : ℕ) → seen tr x ≡ true → x < n
    unfolding Traced
    traced_below start g x h = seen_start x h
    traced_below (enter w u tr) g x h = ⊎_elim (λ q. subst (λ (z : ℕ). z < n) q g.0.below) (traced_below tr g.1 x) (seen_cases w u tr x h)

    module _ (m : Matching k old) where
      -- what is matched with something still to come is matched as it was
      Kept : Trace → (ℕ → ℕ) → Type 0
      Kept tr next = (a : ℕ) → a < k → seen tr (next a) ≡ true → next a ≡ old a

      -- then an entry's left number is as it was
      unmoved : (w u : ℕ) (tr : Trace) (next : ℕ → ℕ) → Entered w u tr → Traced tr → Almost k next w → Kept (enter w u tr) next → u < k → seen tr (old u) ≡ true → next u ≡ old u
      unfolding Kept
      unmoved w u tr next g gs a kept l h =
          let xt : old u ≢ t = λ z. clash (subst (λ (x : ℕ). seen tr x ≡ true) z h) g.goes in
          let (b, lb, q) = a.onto (old u) (traced_below tr gs (old u) h) xt (λ z. clash (subst (λ (x : ℕ). seen tr x ≡ true) z h) g.fresh) in
          let r : next b ≡ old b = kept b lb (subst (λ (x : ℕ). seen (enter w u tr) x ≡ true) (sym q) (seen_old w u tr (old u) h)) in
          let e : b ≡ u = m.one b u lb l (sym r ∙ q) (λ z. xt (sym q ∙ r ∙ z)) in
          subst (λ (x : ℕ). next x ≡ old u) e q

      along : (tr : Trace) → Traced tr → (next : ℕ → ℕ) (w : ℕ) → Almost k next w → seen tr w ≡ true → Kept tr next → Matching (suc k) (alternate k tr next w)
      unfolding Traced Kept
      along start g next w a h kept = seen_start w h
      along (enter x u tr) g next w a h kept =
          alternate_cases (λ f. Matching (suc k) f) k x u tr next w
          (λ xw uk. finish k next w a (subst (λ (z : ℕ). Edge z w) uk (subst (λ (z : ℕ). Edge u z) xw g.0.link)))
          (λ xw uk. ⊎_elim
          (λ e. absurd (uk e))
          (λ (l, c).
          let a' : Almost k next x = subst (λ (z : ℕ). Almost k next z) (sym xw) a in
          let q : next u ≡ old u = unmoved x u tr next g.0 g.1 a' kept l c in
          let h' : seen tr (next u) ≡ true = subst (λ (z : ℕ). seen tr z ≡ true) (sym q) c in
          along tr g.1 (upd next u w) (next u)
          (swap k next w a u l (λ z. clash (subst (λ (y : ℕ). seen tr y ≡ true) z h') g.0.goes) (subst (λ (z : ℕ). Edge u z) xw g.0.link))
          h'
          (λ b lb hb. ⊎_elim
          (λ e. clash (subst (λ (y : ℕ). seen tr y ≡ true) (upd_at next u w b e ∙ sym xw) hb) g.0.fresh)
          (λ f. upd_off next u w b f ∙ kept b lb (seen_old x u tr (next b) (subst (λ (y : ℕ). seen tr y ≡ true) (upd_off next u w b f) hb)))
          (same? b u)))
          g.0.cause)
          (λ xw. along tr g.1 next w a (⊎_elim (λ e. absurd (xw e)) (λ q. q) (seen_cases x u tr w h)) (λ b lb hb. kept b lb (seen_old x u tr (next b) hb)))

      -- a trace that came to t gives one more pair
      pub augmented : (tr : Trace) → Traced tr → seen tr t ≡ true → Matching (suc k) (alternate k tr old t)
      unfolding Kept
      augmented tr g h = along tr g old t m h (λ a l q. refl)
