-- Laws of the routes call by the stage, in the code's terms, and the links of a session as the code lends them.
-- The answer asks for N and the links alone: on the network that a session holds it is that network's.
use mathlib.Core.Path.{◌≡◌, refl, sym, ap, ◌∙◌}
use mathlib.Core.Logic.{◌⊎◌, ⊎_elim}
use mathlib.Core.Bool.{cond}
use mathlib.Core.List.{List}
use Prim.Native.Nat.{ℕ, min, ◌+◌, ◌*◌}
use native.Mathlib.Omega.{arith}
use lib.Dec.{ltb}
use lib.ListN.{length, take}
use Rattle.mondschein.specs.Network.{Network, size, former, latter, joins, joined, link_of, Proper}
use Rattle.network.specs.Index.{far_end}
use Rattle.in_place.specs.declared.Stage.TheVariants.{Empty, Open, Closed}
use Rattle.in_place.specs.declared.Session.{Session}
use Rattle.in_place.specs.Session.{network_in}
use Rattle.in_place.proofs.Answers.{on_empty_lem, on_open_lem, on_closed_lem}
use Rattle.disjoint.specs.Paths.{Routes}
use Rattle.disjoint.specs.Matching.{unnamed, leave_by, leave, turns, explore, matched, tries, answer_by, routes_of}
use Rattle.disjoint.specs.Replies.{refusing, told_of, wrong_pair, routes_into}
use Rattle.routes.specs.Calls.{links_as, between_by}

module _ (s : Session) (a b : ℕ) (out : List ℕ) where
  pub between_empty : s.stage ≡ Empty → between_by s a b out ≡ refusing 19 out
  unfolding between_by
  between_empty q = on_empty_lem _ _ _ q

  pub between_open : s.stage ≡ Open → between_by s a b out ≡ routes_into (links_as s.n s.m s.links) a b out
  unfolding between_by
  between_open q = on_open_lem _ _ _ q

  pub between_closed : s.stage ≡ Closed → between_by s a b out ≡ routes_into (links_as s.n s.m s.links) a b out
  unfolding between_by
  between_closed q = on_closed_lem _ _ _ q

  pub between_loaded_lem : (s.stage ≡ Open) ⊎ (s.stage ≡ Closed) → between_by s a b out ≡ routes_into (links_as s.n s.m s.links) a b out
  between_loaded_lem q = ⊎_elim between_open between_closed q

-- N and the links alone
routes_unnamed : (net : Network) (s t : ℕ) → routes_of net s t ≡ routes_of (unnamed net.n net.links) s t
unfolding size former latter joins joined link_of far_end leave_by leave turns explore matched tries answer_by routes_of
routes_unnamed net s t = refl

into_unnamed : (net : Network) (s t : ℕ) (out : List ℕ) → routes_into net s t out ≡ routes_into (unnamed net.n net.links) s t out
unfolding routes_into
into_unnamed net s t out =
    ap (λ (r : Routes). cond (wrong_pair net.n s t) (refusing 26 out) (cond (ltb (length out) (net.n + 4)) (refusing 18 out) (told_of r out))) (routes_unnamed net s t)

-- of the network that a session holds
pub held_routes : (s : Session) (net : Network) → network_in s ≡ net → Proper net → (a b : ℕ) (out : List ℕ) → routes_into (links_as s.n s.m s.links) a b out ≡ routes_into net a b out
held_routes s net q proper a b out =
    ap (λ (n : ℕ). routes_into (unnamed n (take (2 * s.m) s.links)) a b out) (let z : min s.n 1024 ≡ s.n = omega (arith, ap (λ (x : Network). x.n) q, proper.switches) in z)
    ∙ sym (into_unnamed (network_in s) a b out)
    ∙ ap (λ (x : Network). routes_into x a b out) q
