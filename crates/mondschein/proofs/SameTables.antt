-- Two lists of ears with the same switches born, the same order and the same trees 1 and 2; they stay so with one more ear, in two
-- writings with the same switches and direction.
use mathlib.Core.Path.{◌≡◌, refl, sym, ap, ap₂, ◌∙◌}
use mathlib.Core.Logic.{⊎_elim}
use mathlib.Core.Bool.{true, false, ◌||◌, cond}
use mathlib.Core.List.{List, [], ◌∷◌, ◌++◌}
use Prim.Native.Nat.{ℕ, suc, pred}
use lib.Dec.{eqb}
use lib.ListN.{length}
use Rattle.mondschein.specs.Network.{Network, at, holds, Ears, born}
use Rattle.mondschein.specs.Order.{position, from_a, extend, order, parent1, parent2}
use Rattle.mondschein.proofs.Logic.{which, clash, same?, or_true}
use Rattle.mondschein.proofs.Births.{born_snoc}
use Rattle.mondschein.proofs.Growth.{order_snoc, parent1_root, parent2_root, parent2_first, parent1_old, parent2_old, parent1_new, parent2_new}

pub record SameTables (net : Network) (es es' : Ears) : Type 0 where
  pub borns : (x : ℕ) → born es x ≡ born es' x
  pub orders : order es ≡ order es'
  pub firsts : (x : ℕ) → born es x ≡ true → parent1 net es x ≡ parent1 net es' x
  pub seconds : (x : ℕ) → born es x ≡ true → parent2 net es x ≡ parent2 net es' x

pub same_itself : (net : Network) (es : Ears) → SameTables net es es
same_itself net es = record { borns = λ x. refl; orders = refl; firsts = λ x h. refl; seconds = λ x h. refl }

pub same_on : (net : Network) (es ds cs : Ears) → SameTables net es ds → SameTables net ds cs → SameTables net es cs
same_on net es ds cs u w =
    record {
      borns = λ x. u.borns x ∙ w.borns x;
      orders = u.orders ∙ w.orders;
      firsts = λ x b. u.firsts x b ∙ w.firsts x (sym (u.borns x) ∙ b);
      seconds = λ x b. u.seconds x b ∙ w.seconds x (sym (u.borns x) ∙ b);
    }

-- an ear from A to B, or as written if it is the first
abbrev pub directed : Ears → List ℕ → List ℕ
directed es e = cond (eqb (length es) 0) e (from_a (order es) e)

module _ (net : Network) (es es' : Ears) (tw : SameTables net es es') (e e' : List ℕ) (hs : (x : ℕ) → holds e x ≡ holds e' x) (ds : directed es e ≡ directed es' e')
    (xs : extend (order es) e ≡ extend (order es') e') where
  abbrev more : Ears
  more = es ++ (e ∷ [])

  abbrev more' : Ears
  more' = es' ++ (e' ∷ [])

  fresh : (x : ℕ) → born more x ≡ true → born es x ≡ false → holds e x ≡ true
  fresh x b f = ⊎_elim (λ t. clash t f) (λ h. h) (or_true (born es x) (holds e x) (sym (born_snoc es e x) ∙ b))

  -- an entry is an old one, the root's or first's, or read off the direction
  more_firsts : (x : ℕ) → born more x ≡ true → parent1 net more x ≡ parent1 net more' x
  more_firsts x b =
      ⊎_elim
      (λ t. parent1_old es e net x t ∙ tw.firsts x t ∙ sym (parent1_old es' e' net x (sym (tw.borns x) ∙ t)))
      (λ f. ⊎_elim
      (λ z. parent1_root net more x z ∙ sym (parent1_root net more' x z))
      (λ d.
      let h = fresh x b f in
      parent1_new net es e x d f h
      ∙ ap (λ (c : List ℕ). at c (pred (position c x))) ds
      ∙ sym (parent1_new net es' e' x d (sym (tw.borns x) ∙ f) (sym (hs x) ∙ h)))
      (same? x net.root))
      (which (born es x))

  more_seconds : (x : ℕ) → born more x ≡ true → parent2 net more x ≡ parent2 net more' x
  more_seconds x b =
      ⊎_elim
      (λ t. parent2_old es e net x t ∙ tw.seconds x t ∙ sym (parent2_old es' e' net x (sym (tw.borns x) ∙ t)))
      (λ f. ⊎_elim
      (λ z. parent2_root net more x z ∙ sym (parent2_root net more' x z))
      (λ d. ⊎_elim
      (λ z. parent2_first net more x d z ∙ sym (parent2_first net more' x d z))
      (λ d'.
      let h = fresh x b f in
      parent2_new net es e x d f h d'
      ∙ ap (λ (c : List ℕ). at c (suc (position c x))) ds
      ∙ sym (parent2_new net es' e' x d (sym (tw.borns x) ∙ f) (sym (hs x) ∙ h) d'))
      (same? x net.first))
      (same? x net.root))
      (which (born es x))

  pub same_more : SameTables net more more'
  same_more =
      record {
        borns = λ x. born_snoc es e x ∙ ap₂ ◌||◌ (tw.borns x) (hs x) ∙ sym (born_snoc es' e' x);
        orders = order_snoc es e ∙ xs ∙ sym (order_snoc es' e');
        firsts = more_firsts;
        seconds = more_seconds;
      }
