-- Laws of the checks: of one, when it refuses; and of a list of them asked in some order, where what passes is what no check finds bad, and
-- the first that finds a bad place is told.
use mathlib.Core.Path.{◌≡◌, refl, sym, ap, ◌∙◌, subst, subst₂}
use mathlib.Core.Logic.{◌⊎◌, inl, inr, ⊎_elim, ◌≢◌}
use mathlib.Core.Bool.{Bool, true, false, cond}
use mathlib.Core.List.{List, [], ◌∷◌, ◌++◌}
use Prim.Native.Nat.{ℕ, ◌≤◌, ◌<◌}
use native.Mathlib.Omega.{arith}
use lib.Dec.{eqb, ltb}
use borrow.Author.Tests.{ltb-true, ltb-false, lt-ltb, le-ltb, eqb-true, eq-eqb, ne_eqb}
use Rattle.mondschein.specs.Network.{low, holds}
use Rattle.mondschein.specs.Judge.{Answer, given, refused, check, Check, numbered, checked}
use Rattle.mondschein.proofs.Logic.{same?}
use Rattle.mondschein.proofs.Search.{low_is, low_stop, low_none, low_found, low_ext}
use Rattle.mondschein.proofs.Lists.{holds_here, holds_there, holds_cons, holds_nil}

-- a refusal is no grant
pub never : {X : Type 0} {num place : ℕ} {vs : List ℕ} → refused num place ≡ given vs → X
never q = let z : ◌≡◌ {A = ℕ} 0 1 = cc in absurd (omega arith)

-- no position below c is bad
abbrev pub Clear : ℕ → (ℕ → Bool) → Type 0
Clear c bad = (k : ℕ) → k < c → bad k ≡ false

pub check_pass : (num c : ℕ) (bad : ℕ → Bool) (after : Answer) → Clear c bad → check num c bad after ≡ after
unfolding check
check_pass num c bad after h =
    ap (λ (k : ℕ). cond (ltb k c) (refused num k) after) (low_none bad c h)
    ∙ ap (λ (b : Bool). cond b (refused num c) after) (le-ltb c c (omega arith))

-- it tells its lowest bad place, or has none and leaves the answer to what comes after
pub check_cases : (num c : ℕ) (bad : ℕ → Bool) (after ans : Answer) → check num c bad after ≡ ans
    → ((low bad c < c) × (refused num (low bad c) ≡ ans)) ⊎ (Clear c bad × (after ≡ ans))
unfolding check
check_cases num c bad after ans e = go (ltb (low bad c) c) refl e
  where
    go : (b : Bool) → ltb (low bad c) c ≡ b → cond b (refused num (low bad c)) after ≡ ans → ((low bad c < c) × (refused num (low bad c) ≡ ans)) ⊎ (Clear c bad × (after ≡ ans))
    go true h q = inl (ltb-true _ _ h, q)
    go false h q = inr (λ j l. (low_is bad c).before j (omega (arith, ltb-false (low bad c) c h)), q)

pub check_given : (num c : ℕ) (bad : ℕ → Bool) (after : Answer) (vs : List ℕ) → check num c bad after ≡ given vs → Clear c bad × (after ≡ given vs)
check_given num c bad after vs e = ⊎_elim (λ (_, q). never q) (λ h. h) (check_cases num c bad after _ e)

-- a check whose first bad place, or c, was found to be r
module _ (num c : ℕ) (bad : ℕ → Bool) (after : Answer) {r : ℕ} (q : r ≡ low bad c) where
  pub check_hit : r < c → check num c bad after ≡ refused num r
  unfolding check
  check_hit l = rw (← q, lt-ltb r c l)

  pub check_miss : c ≤ r → check num c bad after ≡ after
  unfolding check
  check_miss l = rw (← q, le-ltb r c l)

-- a check with one place
pub check_fail : (num : ℕ) (bad : ℕ → Bool) (after : Answer) → bad 0 ≡ true → check num 1 bad after ≡ refused num 0
unfolding check
check_fail num bad after h = rw (low_stop bad 1 0 (λ j l. absurd (omega arith)) (omega arith) h)

-- a check refuses with its number at one of its places, or leaves the answer to what comes after
pub check_either : (Q : Answer → Type 0) (num c : ℕ) (bad : ℕ → Bool) (after : Answer) → ((k : ℕ) → k < c → Q (refused num k)) → Q after → Q (check num c bad after)
unfolding check
check_either Q num c bad after r q = go (ltb (low bad c) c) refl
  where
    go : (b : Bool) → ltb (low bad c) c ≡ b → Q (cond b (refused num (low bad c)) after)
    go true h = r (low bad c) (ltb-true _ _ h)
    go false h = q

-- a refusal of a last check tells its first bad place
pub check_refused : (num c : ℕ) (bad : ℕ → Bool) (vs : List ℕ) (num' place : ℕ) → check num c bad (given vs) ≡ refused num' place
    → (num' ≡ num) × (place < c) × (bad place ≡ true) × ((k : ℕ) → k < place → bad k ≡ false)
check_refused num c bad vs num' place e =
    ⊎_elim
    (λ (l, q).
    let z : low bad c ≡ place = cc in
    (cc, omega arith, ap bad (sym z) ∙ (low_is bad c).hit l, λ k m. (low_is bad c).before k (omega arith)))
    (λ (_, q). never (sym q))
    (check_cases num c bad (given vs) _ e)

-- two checks agree when their places do, and what comes after does where they are clear
pub check_ext : (num c : ℕ) (p q : ℕ → Bool) (a z : Answer) → ((k : ℕ) → k < c → p k ≡ q k) → (Clear c p → a ≡ z) → check num c p a ≡ check num c q z
unfolding check
check_ext num c p q a z e h =
    subst (λ (k : ℕ). cond (ltb (low p c) c) (refused num (low p c)) a ≡ cond (ltb k c) (refused num k) z) (low_ext p q c e) (go (ltb (low p c) c) refl)
  where
    go : (b : Bool) → ltb (low p c) c ≡ b → cond b (refused num (low p c)) a ≡ cond b (refused num (low p c)) z
    go true t = refl
    go false t = h (λ k l. (low_is p c).before k (omega (arith, ltb-false (low p c) c t)))

-- what holds of each check of a list, and of a check with no places, holds of the check of any number
pub numbered_none : (Q : Check → Type 0) → ((num : ℕ) → Q (num, 0, λ k. false)) → (num : ℕ) → Q (numbered num [])
unfolding numbered
numbered_none Q q = q

pub numbered_more : (Q : Check → Type 0) (c : Check) (cs : List Check) → Q c → ((num : ℕ) → Q (numbered num cs)) → (num : ℕ) → Q (numbered num (c ∷ cs))
unfolding numbered
numbered_more Q c cs q h num = go (eqb c.0 num)
  where
    go : (b : Bool) → Q (cond b c (numbered num cs))
    go true = q
    go false = h num

-- the same of two lists with the same numbers, and of what may ask for the number
module _ (R : ℕ → Check → Check → Type 0) where
  pub pair_none : ((num : ℕ) → R num (num, 0, λ k. false) (num, 0, λ k. false)) → (num : ℕ) → R num (numbered num []) (numbered num [])
  unfolding numbered
  pair_none q = q

  pub pair_more : (num c c' : ℕ) (p p' : ℕ → Bool) (cs ds : List Check) → R num (num, c, p) (num, c', p') → ((m : ℕ) → R m (numbered m cs) (numbered m ds))
      → (m : ℕ) → R m (numbered m ((num, c, p) ∷ cs)) (numbered m ((num, c', p') ∷ ds))
  unfolding numbered
  pair_more num c c' p p' cs ds r h m = go (eqb num m) refl
    where
      go : (b : Bool) → eqb num m ≡ b → R m (cond b (num, c, p) (numbered m cs)) (cond b (num, c', p') (numbered m ds))
      go true q = subst (λ (x : ℕ). R x (num, c, p) (num, c', p')) (eqb-true num m q) r
      go false q = h m

numbered_number : (num : ℕ) (cs : List Check) → (numbered num cs).0 ≡ num
unfolding numbered
numbered_number num [] = refl
numbered_number num (c ∷ cs) = go (eqb c.0 num) refl (numbered_number num cs)
  where
    go : (b : Bool) → eqb c.0 num ≡ b → (numbered num cs).0 ≡ num → (cond b c (numbered num cs)).0 ≡ num
    go true h q = eqb-true c.0 num h
    go false h q = q

-- the numbers before num in an order, and those other than num
unfoldable pub before : ℕ → List ℕ → List ℕ
before num [] = []
before num (m ∷ nums) = cond (eqb m num) [] (m ∷ before num nums)

unfoldable pub without : ℕ → List ℕ → List ℕ
without num [] = []
without num (m ∷ nums) = cond (eqb m num) (without num nums) (m ∷ without num nums)

before_here : (m : ℕ) (nums : List ℕ) → before m (m ∷ nums) ≡ []
unfolding before
before_here m nums = ap (λ (b : Bool). cond b [] (m ∷ before m nums)) (eq-eqb m m refl)

before_there : (num m : ℕ) (nums : List ℕ) → m ≢ num → before num (m ∷ nums) ≡ m ∷ before num nums
unfolding before
before_there num m nums d = ap (λ (b : Bool). cond b [] (m ∷ before num nums)) (ne_eqb m num d)

-- the check of that number finds nothing bad
abbrev pub Passes : List Check → ℕ → Type 0
Passes cs num = Clear (numbered num cs).1 (numbered num cs).2

pub passes_none : (num : ℕ) → Passes [] num
passes_none = numbered_none (λ (c : Check). Clear c.1 c.2) (λ num k l. refl)

pub passes_more : (c : Check) (cs : List Check) → Clear c.1 c.2 → ((num : ℕ) → Passes cs num) → (num : ℕ) → Passes (c ∷ cs) num
passes_more = numbered_more (λ (c : Check). Clear c.1 c.2)

module _ (cs : List Check) where
  -- the checks of these numbers do
  abbrev pub AllPass : List ℕ → Type 0
  AllPass nums = (num : ℕ) → holds nums num ≡ true → Passes cs num

  pub all_none : AllPass []
  all_none num h = holds_nil num h

  pub all_more : (m : ℕ) (nums : List ℕ) → Passes cs m → AllPass nums → AllPass (m ∷ nums)
  all_more m nums c d num h = ⊎_elim (λ e. subst (Passes cs) e c) (d num) (holds_cons m nums num h)

  passed_before : (num m : ℕ) (nums : List ℕ) → Passes cs m → AllPass (before num nums) → AllPass (before num (m ∷ nums))
  passed_before num m nums c d =
      ⊎_elim
      (λ (e : m ≡ num). subst (λ (x : ℕ). AllPass (before x (m ∷ nums))) e (subst AllPass (sym (before_here m nums)) all_none))
      (λ n. subst AllPass (sym (before_there num m nums n)) (all_more m (before num nums) c d))
      (same? m num)

  -- asked in this order, the checks before num pass, and num finds its lowest bad place
  pub record Finds (nums : List ℕ) (num place : ℕ) : Type 0 where
    pub earlier : AllPass (before num nums)
    pub below : place < (numbered num cs).1
    pub bad : (numbered num cs).2 place ≡ true
    pub lowest : (k : ℕ) → k < place → (numbered num cs).2 k ≡ false

  -- what passes is what no check finds bad
  pub checked_given : (nums : List ℕ) (after : Answer) (vs : List ℕ) → checked cs nums after ≡ given vs
      → AllPass nums × (after ≡ given vs)
  unfolding checked
  checked_given [] after vs q = (all_none, q)
  checked_given (m ∷ nums) after vs q =
      let (c, q') = check_given _ _ _ _ vs q in
      let (d, q'') = checked_given nums after vs q' in
      (all_more m nums c d, q'')

  pub checked_pass : (nums : List ℕ) (after : Answer) → AllPass nums → checked cs nums after ≡ after
  unfolding checked
  checked_pass [] after h = refl
  checked_pass (m ∷ nums) after h = check_pass _ _ _ _ (h m (holds_here m nums)) ∙ checked_pass nums after (λ num t. h num (holds_there m nums num t))

  -- the first that finds a bad place is told
  finds_here : (m : ℕ) (nums : List ℕ) → low (numbered m cs).2 (numbered m cs).1 < (numbered m cs).1 → Finds (m ∷ nums) m (low (numbered m cs).2 (numbered m cs).1)
  finds_here m nums l =
      let is = low_is (numbered m cs).2 (numbered m cs).1 in
      record { earlier = subst AllPass (sym (before_here m nums)) all_none; below = l; bad = is.hit l; lowest = is.before }

  finds_there : (num place m : ℕ) (nums : List ℕ) → Passes cs m → Finds nums num place → Finds (m ∷ nums) num place
  finds_there num place m nums c f = record { earlier = passed_before num m nums c f.earlier; below = f.below; bad = f.bad; lowest = f.lowest }

  pub checked_refused : (nums vs : List ℕ) (num place : ℕ) → checked cs nums (given vs) ≡ refused num place → Finds nums num place
  unfolding checked
  checked_refused [] vs num place q = never (sym q)
  checked_refused (m ∷ nums) vs num place q =
      ⊎_elim
      (λ (l, r).
      let e : m ≡ num = cc in
      let z : low (numbered m cs).2 (numbered m cs).1 ≡ place = cc in
      subst₂ (Finds (m ∷ nums)) e z (finds_here m nums l))
      (λ (c, r). finds_there num place m nums c (checked_refused nums vs num place r))
      (check_cases m _ _ _ _ q)

  pub checked_hit : (nums : List ℕ) (after : Answer) (num place : ℕ) → holds nums num ≡ true → Finds nums num place → checked cs nums after ≡ refused num place
  unfolding checked
  checked_hit [] after num place h f = holds_nil num h
  checked_hit (m ∷ nums) after num place h f =
      ⊎_elim
      (λ e. subst (λ (x : ℕ). check x (numbered x cs).1 (numbered x cs).2 (checked cs nums after) ≡ refused num place) (sym e) (check_hit num _ _ _ (sym (low_stop _ _ place f.lowest f.below f.bad)) f.below))
      (λ d.
      let there : AllPass (m ∷ before num nums) = subst AllPass (before_there num m nums d) f.earlier in
      check_pass _ _ _ _ (there m (holds_here m (before num nums)))
      ∙ checked_hit nums after num place (⊎_elim (λ e. absurd (d e)) (λ t. t) (holds_cons m nums num h))
      (record { earlier = λ j t. there j (holds_there m (before num nums) j t); below = f.below; bad = f.bad; lowest = f.lowest }))
      (same? m num)

  pub checked_found : (nums : List ℕ) (after : Answer) (num : ℕ) → holds nums num ≡ true → AllPass (before num nums)
      → (k : ℕ) → k < (numbered num cs).1 → (numbered num cs).2 k ≡ true → checked cs nums after ≡ refused num (low (numbered num cs).2 (numbered num cs).1)
  checked_found nums after num h earlier k l t =
      let (below, bad) = low_found (numbered num cs).2 (numbered num cs).1 k l t in
      checked_hit nums after num _ h (record { earlier = earlier; below = below; bad = bad; lowest = (low_is (numbered num cs).2 (numbered num cs).1).before })

  -- a check that passes may as well not be asked
  pub checked_without : (nums : List ℕ) (after : Answer) (num : ℕ) → Passes cs num → checked cs nums after ≡ checked cs (without num nums) after
  unfolding checked without
  checked_without [] after num c = refl
  checked_without (m ∷ nums) after num c = go (eqb m num) refl (checked_without nums after num c)
    where
      go : (b : Bool) → eqb m num ≡ b → checked cs nums after ≡ checked cs (without num nums) after
          → check m (numbered m cs).1 (numbered m cs).2 (checked cs nums after) ≡ checked cs (cond b (without num nums) (m ∷ without num nums)) after
      go true h q = check_pass _ _ _ _ (subst (Passes cs) (sym (eqb-true m num h)) c) ∙ q
      go false h q = ap (check m (numbered m cs).1 (numbered m cs).2) q

  -- one part of the order and then the rest
  pub checked_append : (nums more : List ℕ) (after : Answer) → checked cs (nums ++ more) after ≡ checked cs nums (checked cs more after)
  unfolding checked
  checked_append [] more after = refl
  checked_append (m ∷ nums) more after = ap (check m (numbered m cs).1 (numbered m cs).2) (checked_append nums more after)

  -- a refusal by the one part is told; where it finds nothing, the rest is asked
  checked_swap : (nums : List ℕ) (a a' ans : Answer) → (a ≡ ans → a' ≡ ans) → checked cs nums a ≡ ans → checked cs nums a' ≡ ans
  unfolding checked
  checked_swap [] a a' ans h q = h q
  checked_swap (m ∷ nums) a a' ans h q =
      ⊎_elim
      (λ (l, r). check_hit m _ _ _ refl l ∙ r)
      (λ (c, r). check_pass m _ _ _ c ∙ checked_swap nums a a' ans h r)
      (check_cases m _ _ _ _ q)

  pub append_refused : (nums more vs : List ℕ) (after : Answer) (num place : ℕ) → checked cs nums (given vs) ≡ refused num place → checked cs (nums ++ more) after ≡ refused num place
  append_refused nums more vs after num place q = checked_append nums more after ∙ checked_swap nums _ _ _ (λ r. never (sym r)) q

  pub append_given : (nums more vs ws : List ℕ) (after : Answer) → checked cs nums (given vs) ≡ given ws → checked cs (nums ++ more) after ≡ checked cs more after
  append_given nums more vs ws after q = checked_append nums more after ∙ checked_pass nums _ (checked_given nums (given vs) ws q).0

  -- a refusal with the number of a check at one of its places, or what comes after
  pub checked_either : (Q : Answer → Type 0) (nums : List ℕ) (after : Answer) → ((num k : ℕ) → k < (numbered num cs).1 → Q (refused (numbered num cs).0 k)) → Q after → Q (checked cs nums after)
  unfolding checked
  checked_either Q [] after r q = q
  checked_either Q (m ∷ nums) after r q =
      check_either Q m _ _ _ (λ k l. subst (λ (num : ℕ). Q (refused num k)) (numbered_number m cs) (r m k l)) (checked_either Q nums after r q)

  -- two lists of checks answer alike, where each check of the order does once those before it pass
  abbrev pub Agrees : Check → Check → Type 0
  Agrees c d = (c.1 ≡ d.1) × ((k : ℕ) → k < c.1 → c.2 k ≡ d.2 k)

  pub checked_ext : (ds : List Check) (nums : List ℕ) (after : Answer) → ((num : ℕ) → AllPass (before num nums) → Agrees (numbered num cs) (numbered num ds))
      → checked cs nums after ≡ checked ds nums after
  unfolding checked
  checked_ext ds [] after h = refl
  checked_ext ds (m ∷ nums) after h =
      let (p, q) = h m (subst AllPass (sym (before_here m nums)) all_none) in
      check_ext m _ _ (numbered m ds).2 _ (checked ds nums after) q
      (λ c. checked_ext ds nums after (λ num d. h num (passed_before num m nums c d)))
      ∙ ap (λ (k : ℕ). check m k (numbered m ds).2 (checked ds nums after)) p
