-- What a call leaves by its answer and by the session's stage, and the link table of a session as the code lends it.
-- A refusal leaves the session that was given.
use mathlib.Core.Path.{◌≡◌, sym, ap, ◌∙◌}
use mathlib.Core.Bool.{Bool, true, false, cond}
use mathlib.Core.List.{List, [], ◌∷◌}
use Prim.Native.Nat.{ℕ, ◌*◌, ◌≤◌}
use native.Mathlib.Omega.{arith}
use lib.Dec.{eqb}
use lib.ListN.{length, take}
use Rattle.std.specs.Prelude.{Result, Ok, Err}
use Rattle.refusals.specs.declared.Refusal.{Refusal}
use Rattle.refusals.specs.Refusals.{number, place, answer_of}
use Rattle.mondschein.specs.Network.{Network, size, former, latter, joins, link_of}
use Rattle.mondschein.specs.Judge.{Answer, given, refused, verdict, closing}
use Rattle.mondschein.specs.Order.{shortest}
use Rattle.mondschein.specs.Outcome.{granted, settle}
use Rattle.mondschein.specs.EmptyEar.{left_over, is_empty, entering}
use Rattle.mondschein.proofs.Passed.{given_passed}
use Rattle.network.specs.Load.{network_of, table_of}
use Rattle.rows.specs.Rows.{marked}
use Rattle.left_over.specs.LeftOver.{used_after_empty}
use Rattle.thirds.specs.Tree3.{tree3_of}
use Rattle.thirds.proofs.Tree3.{tree3_named}
use Rattle.tables.specs.Tables.{tables_of, used_after, after_ear}
use Rattle.in_place.specs.declared.Stage.{Stage}
use Rattle.in_place.specs.declared.Stage.TheVariants.{Empty, Open, Closed}
use Rattle.in_place.specs.declared.Session.{Session}
use Rattle.in_place.specs.Session.{network_in, tables_in, after_offer, with_tables, third_in, by_stage}

-- by the answer
module _ (s next : Session) {a : Answer} where
  pub after_refused : {num place : ℕ} → a ≡ refused num place → record { answer = refused num place; after = s } ≡ settle s next a
  unfolding settle granted
  after_refused q = sym (ap (settle s next) q)

  pub after_given : {vs : List ℕ} {after : Session} → a ≡ given vs → after ≡ next → record { answer = given vs; after = after } ≡ settle s next a
  unfolding settle granted
  after_given {vs} q p = ap (λ (t : Session). record { answer = given vs; after = t }) p ∙ sym (ap (settle s next) q)

-- by the stage
module _ {A : Type 0} (a b c : A) {stage : Stage} where
  pub on_empty_lem : stage ≡ Empty → by_stage stage a b c ≡ a
  unfolding by_stage
  on_empty_lem q = ap (λ (t : Stage). by_stage t a b c) q

  pub on_open_lem : stage ≡ Open → by_stage stage a b c ≡ b
  unfolding by_stage
  on_open_lem q = ap (λ (t : Stage). by_stage t a b c) q

  pub on_closed_lem : stage ≡ Closed → by_stage stage a b c ≡ c
  unfolding by_stage
  on_closed_lem q = ap (λ (t : Stage). by_stage t a b c) q

-- by what a part of the call answered
module _ (s next : Session) {A : Type 0} (values : A → List ℕ) {r : Result A Refusal} {a : Answer} (q : answer_of values r ≡ a) where
  pub refused_as : {e : Refusal} → r ≡ Err e → record { answer = refused (number e) (place e); after = s } ≡ settle s next a
  refused_as p = after_refused s next (sym q ∙ ap (answer_of values) p)

  pub given_as : {x : A} {after : Session} → r ≡ Ok x → after ≡ next → record { answer = given (values x); after = after } ≡ settle s next a
  given_as p h = after_given s next (sym q ∙ ap (answer_of values) p) h

-- the link table as the code lends it: the links that are stored
module _ (s : Session) {table : List ℕ} (q : table ≡ take (2 * s.m) s.links) where
  -- the judge asks the whole network
  pub verdict_lent : (e : List ℕ) → verdict (network_of s.n table s.root s.first s.last) (marked s.births) (marked s.used) (eqb s.born 0) e
      ≡ verdict (network_in s) (marked s.births) (marked s.used) (eqb s.born 0) e
  verdict_lent e = ap (λ (l : List ℕ). verdict (network_of s.n l s.root s.first s.last) (marked s.births) (marked s.used) (eqb s.born 0) e) q

  -- an ear changes the tables by the links alone
  pub after_lent : (e : List ℕ) → after_ear (table_of table) e (tables_in s) ≡ after_ear (network_in s) e (tables_in s)
  unfolding after_ear used_after link_of joins former latter size
  after_lent e = ap (λ (l : List ℕ). after_ear (table_of l) e (tables_in s)) q

  -- and so does an empty one
  empty_lent : used_after_empty (table_of table) s.births s.used ≡ used_after_empty (network_in s) s.births s.used
  unfolding used_after_empty left_over former latter size
  empty_lent = ap (λ (l : List ℕ). used_after_empty (table_of l) s.births s.used) q

  pub after_empty : (e : List ℕ) {after : List ℕ} → is_empty (eqb s.born 0) e ≡ true → after ≡ used_after_empty (table_of table) s.births s.used
      → tables_of after s.longs s.births s.born s.order s.tree1 s.tree2 ≡ after_offer (network_in s) e (tables_in s)
  unfolding after_offer
  after_empty e t p = rw t (ap (λ (u : List ℕ). tables_of u s.longs s.births s.born s.order s.tree1 s.tree2) (p ∙ empty_lent))

  -- closing asks of the links which of them are used
  pub closing_lent : closing (table_of table) (marked s.used) ≡ closing (network_in s) (marked s.used)
  unfolding closing size
  closing_lent = ap (λ (l : List ℕ). closing (table_of l) (marked s.used)) q

  -- tree 3 does not ask for first
  pub tree3_lent : tree3_of shortest (network_of s.n table s.root 0 s.last) s.births s.tree3 ≡ third_in shortest s
  tree3_lent =
      ap (λ (l : List ℕ). tree3_of shortest (network_of s.n l s.root 0 s.last) s.births s.tree3) q
      ∙ tree3_named s.n (take (2 * s.m) s.links) s.root 0 s.first s.last s.births s.tree3

-- an empty ear is given 0, and any other is judged
module _ (s : Session) (e : List ℕ) where
  pub empty_given : is_empty (eqb s.born 0) e ≡ true → entering (network_in s) (marked s.births) (marked s.used) (eqb s.born 0) e ≡ given (0 ∷ [])
  unfolding entering
  empty_given t = rw t

  pub as_judged : is_empty (eqb s.born 0) e ≡ false
      → settle s (with_tables s (after_ear (network_in s) e (tables_in s))) (verdict (network_in s) (marked s.births) (marked s.used) (eqb s.born 0) e)
      ≡ settle s (with_tables s (after_offer (network_in s) e (tables_in s))) (entering (network_in s) (marked s.births) (marked s.used) (eqb s.born 0) e)
  unfolding entering after_offer
  as_judged f = rw f

-- an ear that is accepted has two numbers or more
pub accepted_two : (net : Network) (is_born is_used : ℕ → Bool) (b : Bool) (e vs : List ℕ) → verdict net is_born is_used b e ≡ given vs → 2 ≤ length e
accepted_two net is_born is_used b e vs q = omega (arith, (given_passed net is_born is_used b e vs q).at_least, two b)
  where
    two : (c : Bool) → 2 ≤ cond c 3 2
    two true = omega arith
    two false = omega arith
