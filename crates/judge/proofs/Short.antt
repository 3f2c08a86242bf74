-- A later ear of two numbers: what the code asks of it says that it is accepted.
-- The law of the checks is in Rattle.mondschein.proofs.Short.
use Rattle.std.proofs.Common.{◌≡◌, ◌≢◌, ℕ, ◌/◌, ◌≤◌, ◌<◌, Bool, true, false, eqb, ltb, List, [], ◌∷◌, length, Option, Some, None, unwrap_or, IfSome, MatchOption, refl, sym, ap, ◌∙◌, subst, ⊎_elim, arith, lt-ltb, le-ltb, eqb-true}
use Rattle.std.specs.Bool.{then_some}
use Rattle.mondschein.specs.Network.{any, at, size, former, latter, joins, joined, link_of}
use Rattle.mondschein.specs.Judge.{given, verdict}
use Rattle.mondschein.proofs.Logic.{less?}
use Rattle.mondschein.proofs.Short.{short_given}
use Rattle.network.specs.Load.{network_of, table_of}
use Rattle.rows.specs.Rows.{marked}
use Rattle.judge.specs.Ear.{ShortLink}

-- a list of two numbers
two_numbers : (e : List ℕ) → length e ≡ 2 → e ≡ at e 0 ∷ at e 1 ∷ []
two_numbers [] q = absurd (omega (arith, q))
two_numbers (a ∷ []) q = absurd (omega (arith, q))
two_numbers (a ∷ b ∷ []) q = refl
two_numbers (a ∷ b ∷ c ∷ l) q = absurd (omega (arith, q))

-- what the code has asked of the ear
module _ (n : ℕ) (links births used e : List ℕ) (two : length e ≡ 2) (a-below : at e 0 < n) (b-below : at e 1 < n) (differ : at e 0 ≢ at e 1)
    (a-born : at births (at e 0) ≢ 0) (b-born : at births (at e 1) ≢ 0) where
  pub short_link : {is_first : Bool} {l : ℕ} → is_first ≡ false → l ≡ link_of (table_of links) (at e 0) (at e 1) → l < length links / 2 → at used l ≤ 0 → ShortLink n links births used is_first e l
  unfolding link_of joined any joins former latter size
  short_link f q m u =
      λ _. (
        f,
        two,
        q,
        λ root first last.
            let net = network_of n links root first last in
            subst (λ (x : List ℕ). verdict net (marked births) (marked used) false x ≡ given (0 ∷ [])) (sym (two_numbers e two))
            (short_given net (marked births) (marked used) (at e 0) (at e 1) a-below b-below differ (is_marked _ a-born) (is_marked _ b-born)
            (ap (λ (k : ℕ). ltb k (length links / 2)) (sym q) ∙ lt-ltb _ _ m) (ap (λ (k : ℕ). ltb 0 (at used k)) (sym q) ∙ le-ltb _ _ u)),
      )
    where
      is_marked : (x : ℕ) → x ≢ 0 → ltb 0 x ≡ true
      is_marked x d = ⊎_elim (λ (h : 0 < x). lt-ltb 0 x h) (λ (h : x ≤ 0). absurd (d (omega arith))) (less? 0 x)

  -- the lowest link between the two, where it is not used
  pub short_found : {Q : ℕ → Bool → Type 0} {is_first : Bool} → is_first ≡ false → (r s : Option ℕ) → unwrap_or r (length links / 2) ≡ link_of (table_of links) (at e 0) (at e 1)
      → IfSome r (λ l. l < length links / 2) → MatchOption r (s ≡ None) (λ l. (b : Bool) × Q l b × (s ≡ then_some b l)) → ((l : ℕ) (b : Bool) → Q l b → b ≡ eqb (at used l) 0)
      → ShortLink n links births used is_first e (unwrap_or s (length links / 2)) × IfSome s (λ l. l < length links / 2)
  short_found {Q} {is_first} f r s q m h t = go r q m h
    where
      go : (r : Option ℕ) → unwrap_or r (length links / 2) ≡ link_of (table_of links) (at e 0) (at e 1) → IfSome r (λ l. l < length links / 2)
          → MatchOption r (s ≡ None) (λ l. (b : Bool) × Q l b × (s ≡ then_some b l)) → ShortLink n links births used is_first e (unwrap_or s (length links / 2)) × IfSome s (λ l. l < length links / 2)
      go None q m h = rw h (λ l. absurd (omega (arith, l)), tt)
      go (Some l) q m (b, p, k) = told b k (t l b p)
        where
          told : (b : Bool) → s ≡ then_some b l → b ≡ eqb (at used l) 0 → ShortLink n links births used is_first e (unwrap_or s (length links / 2)) × IfSome s (λ l. l < length links / 2)
          told true k u = let z : at used l ≡ 0 = eqb-true _ _ (sym u) in rw k (short_link f q m (omega arith), m)
          told false k u = rw k (λ n. absurd (omega (arith, n)), tt)
