-- A list of ears while the code offers them: what the whole list does is what the ears that are left do to the session reached.
-- Begun, one more ear accepted, an ear refused, and all accepted. A session is given by its ducts and tree 3, which an ear leaves.
use Rattle.std.proofs.Common.{◌≡◌, ℕ, suc, ◌+◌, ◌≤◌, ◌<◌, List, [], ◌∷◌, length, take, drop, length-drop, refl, sym, ap, ◌∙◌, arith}
use Rattle.mondschein.specs.Judge.{Answer, given, refused}
use Rattle.mondschein.specs.Outcome.{Outcome}
use Rattle.mondschein.specs.WholeList.{all_accepted, next_refused, offering_from, ears_from, ears_in}
use Rattle.mondschein.proofs.WholeList.{offering_next, offering_ends, ears_whole, ears_past_end}
use Rattle.in_place.specs.declared.Session.{Session}
use Rattle.in_place.specs.Session.{offered_by, listed_by}
use Rattle.in_place.proofs.Stores.{offered_m}
use Rattle.offering.specs.Offering.{FirstEar}

-- the first ear of a list: its numbers after their count, or a count past the end alone
module _ {l : List ℕ} (count : ℕ) {rest : List ℕ} (q : l ≡ count ∷ rest) where
  pub whole_ear : count ≤ length rest → FirstEar l (take count rest) (drop count rest)
  whole_ear h = record { ears = ap ears_in q ∙ ears_whole count rest h; shorter = omega (arith, ap length q, length-drop count rest) }

  pub count_past_end : length rest < count → FirstEar l (take 1 l) []
  unfolding ears_from
  count_past_end h =
      record {
        ears = ap ears_in q ∙ ears_past_end count rest h ∙ ap (λ (e : List ℕ). e ∷ []) (sym (ap (take 1) q));
        shorter = omega (arith, ap length q);
      }

-- k ears of the list are accepted, which leave the rest of it and reach the session s
pub record Reaches (l : List ℕ) (s₀ s : List ℕ → List ℕ → Session) (k : ℕ) (rest : List ℕ) : Type 0 where
  pub left : (ducts tree3 : List ℕ) → listed_by (s₀ ducts tree3) l ≡ offering_from offered_by k (s ducts tree3) (ears_in rest)
  pub counted : k + length rest ≤ length l

pub reaches_begin : (l : List ℕ) (s : List ℕ → List ℕ → Session) → Reaches l s s 0 l
unfolding listed_by
reaches_begin l s = record { left = λ ducts tree3. refl; counted = omega arith }

module _ (l : List ℕ) (s₀ s : List ℕ → List ℕ → Session) (k : ℕ) {rest : List ℕ} (r : Reaches l s₀ s k rest) where
  pub reaches_all : rest ≡ [] → (ducts tree3 : List ℕ) → record { answer = all_accepted k; after = s ducts tree3 } ≡ listed_by (s₀ ducts tree3) l
  unfolding offering_from ears_from
  reaches_all q ducts tree3 = sym (r.left ducts tree3 ∙ ap (λ (x : List ℕ). offering_from offered_by k (s ducts tree3) (ears_in x)) q)

  -- its first ear is offered, and leaves s'
  module _ {ear others : List ℕ} (f : FirstEar rest ear others) (s' : List ℕ → List ℕ → Session) where
    next_ear : (ducts tree3 : List ℕ) → listed_by (s₀ ducts tree3) l ≡ offering_from offered_by k (s ducts tree3) (ear ∷ ears_in others)
    next_ear ducts tree3 = r.left ducts tree3 ∙ ap (offering_from offered_by k (s ducts tree3)) f.ears

    pub reaches_more : {vs : List ℕ} → ((ducts tree3 : List ℕ) → record { answer = given vs; after = s' ducts tree3 } ≡ offered_by (s ducts tree3) ear) → Reaches l s₀ s' (k + 1) others
    reaches_more q =
        record {
          left = λ ducts tree3.
              next_ear ducts tree3 ∙ offering_next offered_by k (s ducts tree3) ear _ (sym (q ducts tree3))
              ∙ ap (λ (j : ℕ). offering_from offered_by j (s' ducts tree3) (ears_in others)) (let z : suc k ≡ k + 1 = omega arith in z);
          counted = omega (arith, r.counted, f.shorter);
        }

    pub reaches_end : {num place : ℕ} → ((ducts tree3 : List ℕ) → record { answer = refused num place; after = s' ducts tree3 } ≡ offered_by (s ducts tree3) ear)
        → (ducts tree3 : List ℕ) → record { answer = next_refused k num place; after = s' ducts tree3 } ≡ listed_by (s₀ ducts tree3) l
    reaches_end q ducts tree3 = sym (next_ear ducts tree3 ∙ offering_ends offered_by k (s ducts tree3) ear _ (sym (q ducts tree3)))

-- an ear leaves the count of links
pub same_m : (s s' : Session) (e : List ℕ) {a : Answer} → record { answer = a; after = s' } ≡ offered_by s e → s'.m ≡ s.m
same_m s s' e q = ap (λ (o : Outcome Session). o.after.m) q ∙ offered_m s e
