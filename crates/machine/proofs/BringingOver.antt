-- Note 6 of the machine: a closed session is brought over, trees 1 and 2 and the order stay, and it is as if it had been closed under the
-- rule of shortest third walks; and no choice of later-born neighbours gives a shorter third walk than that rule.
use mathlib.Core.Path.{◌≡◌, refl, sym, ap, ◌∙◌, subst}
use mathlib.Core.Logic.{◌≢◌}
use mathlib.Core.List.{List, [], ◌∷◌, ◌++◌, foldl, foldl-append}
use Prim.Native.Nat.{ℕ, ◌≤◌, ◌<◌}
use native.Mathlib.Omega.{arith}
use lib.ListN.{length}
use Rattle.mondschein.specs.Network.{Network, Ears, birth, used}
use Rattle.mondschein.specs.Judge.{Answer, given, refused, closing}
use Rattle.mondschein.specs.Outcome.{Outcome}
use Rattle.mondschein.specs.Order.{Rule, shortest, parent3_of, parent_of, walk_of}
use Rattle.mondschein.specs.Routes.{Tree, Walk, Third}
use Rattle.mondschein.proofs.Outcomes.{parent_ext, written_ext}
use Rattle.mondschein.proofs.Births.{accepted_passing}
use Rattle.mondschein.proofs.Routes.{by_tree}
use Rattle.mondschein.proofs.Thirds.{third_rule, none_shorter, routes_by}
use Rattle.machine.specs.Machine.{Plan, Closed, closed_plan, State, empty, opened, closed, Call, close, bring_over, answers, told, tells, parent_call, walk_call, order_of, duct_of, machine, history, session}
use Rattle.machine.specs.Demands.{Alike, BringingOver, NoShorterWalk}
use Rattle.machine.proofs.Calls.{writes}
use Rattle.machine.proofs.History.{state_is_history, Reached, state_of_lem, reached_of}

-- trees 1 and 2, and the walks by them, do not ask for the rule
same_entry : (rule rule' : Rule) (net : Network) (es : Ears) (t v : ℕ) → Tree t → t ≢ 3 → parent_of rule net es t v ≡ parent_of rule' net es t v
unfolding parent_of
same_entry rule rule' net es t v = by_tree (λ t. t ≢ 3 → parent_of rule net es t v ≡ parent_of rule' net es t v) (λ _. refl) (λ _. refl) (λ d. absurd (d refl)) t

same_walk : (rule rule' : Rule) (net : Network) (es : Ears) (t v : ℕ) → Tree t → t ≢ 3 → walk_of rule net es t v ≡ walk_of rule' net es t v
unfolding walk_of parent_of
same_walk rule rule' net es t v = by_tree (λ t. t ≢ 3 → walk_of rule net es t v ≡ walk_of rule' net es t v) (λ _. refl) (λ _. refl) (λ d. absurd (d refl)) t

-- a state that is brought over
brought : (p : Closed) → machine.after (closed p) bring_over ≡ closed (closed_plan shortest p.net p.ducts p.ears)
unfolding answers tells told
brought p = refl

-- closed under either rule and brought over is closed under Note 6's
closed_brought : (p : Plan) (rule : Rule) → machine.after (machine.after (opened p) (close rule)) bring_over ≡ machine.after (opened p) (close shortest)
unfolding answers tells told
closed_brought p rule = go (closing p.net (used p.net p.ears))
  where
    go : (a : Answer) → machine.after (tells (close rule) a (opened p)) bring_over ≡ tells (close shortest) a (opened p)
    go (given vs) = refl
    go (refused num place) = refl

-- the state after calls of which the last brings over
module _ (cs : List Call) where
  over_after : session machine (cs ++ (bring_over ∷ [])) ≡ machine.after (session machine cs) bring_over
  over_after = foldl-append machine.after empty cs (bring_over ∷ [])

  module _ (p : Closed) (h : history machine cs ≡ closed p) where
    over_closed : session machine (cs ++ (bring_over ∷ [])) ≡ closed (closed_plan shortest p.net p.ducts p.ears)
    over_closed = over_after ∙ ap (λ (s : State). machine.after s bring_over) (state_of_lem cs (closed p) h) ∙ brought p

order_stays : (s : State) → order_of (machine.after s bring_over) ≡ order_of s
unfolding answers tells told order_of
order_stays empty = refl
order_stays (opened p) = refl
order_stays (closed p) = refl

alike_itself : (s s' : State) → s ≡ s' → Alike machine s s'
alike_itself s s' q =
    record {
      calls = λ c. ap (answers c) q;
      parents = λ v t. ap (λ (z : State). parent_call z v t) q;
      walks = λ v t out. ap (λ (z : State). walk_call z v t out) q;
      orders = ap order_of q;
      ducts = λ i. ap (λ (z : State). duct_of z i) q;
    }

pub bringing_over_lem : BringingOver machine
unfolding answers parent_call walk_call
bringing_over_lem =
    record {
      on_empty = λ cs h. ap (answers bring_over) (state_of_lem cs empty h);
      on_open = λ cs p h. ap (answers bring_over) (state_of_lem cs (opened p) h);
      grants = λ cs p h. ap (answers bring_over) (state_of_lem cs (closed p) h);
      entries = λ cs p h v t d.
          ap (λ (s : State). parent_call s v t) (over_closed cs p h)
          ∙ parent_ext p.net v t _ _ (λ l m. same_entry shortest p.rule p.net p.ears t v m d)
          ∙ ap (λ (s : State). parent_call s v t) (sym (state_of_lem cs (closed p) h));
      walks = λ cs p h v t d out.
          ap (λ (s : State). walk_call s v t out) (over_closed cs p h)
          ∙ written_ext p.net v t out _ _ (λ l m. same_walk shortest p.rule p.net p.ears t v m d)
          ∙ ap (λ (s : State). walk_call s v t out) (sym (state_of_lem cs (closed p) h));
      orders = λ cs. ap order_of (over_after cs) ∙ order_stays (session machine cs);
      as_closed = λ cs p h rule ds.
          let q : session machine (cs ++ (close rule ∷ bring_over ∷ ds)) ≡ session machine (cs ++ (close shortest ∷ ds)) =
          foldl-append machine.after empty cs (close rule ∷ bring_over ∷ ds)
          ∙ ap (λ (s : State). foldl machine.after (machine.after (machine.after s (close rule)) bring_over) ds) (state_of_lem cs (opened p) h)
          ∙ ap (λ (s : State). foldl machine.after s ds) (closed_brought p rule)
          ∙ ap (λ (s : State). foldl machine.after (machine.after s (close shortest)) ds) (sym (state_of_lem cs (opened p) h))
          ∙ sym (foldl-append machine.after empty cs (close shortest ∷ ds)) in
          (sym (state_is_history _) ∙ q ∙ state_is_history _, alike_itself _ _ q);
    }

-- the walks by Note 6's rule are as short as any
least_walk : (net : Network) (ducts : List ℕ) (es : Ears) → Reached (closed (closed_plan shortest net ducts es)) → (q : ℕ → ℕ) → Third net es q → (v : ℕ) → v < net.n
    → (w : List ℕ) → Walk net.root q v w → length (walk_of shortest net es 3 v) ≤ length w
unfolding Reached parent_of
least_walk net ducts es ((proper, a), u) q T v l w W =
    let acc = accepted_passing net es a in
    none_shorter net proper es acc u (parent3_of net (birth es) shortest) (third_rule net proper es acc u shortest) q T v l (walk_of shortest net es 3 v) w
    ((routes_by shortest net proper es acc u).walks 3 (omega arith) v l) W

pub no_shorter_walk_lem : NoShorterWalk machine
unfolding Reached
no_shorter_walk_lem cs p h r q T v l w W out m =
    let least : length (walk_of p.rule p.net p.ears 3 v) ≤ length w =
    subst (λ (rule : Rule). length (walk_of rule p.net p.ears 3 v) ≤ length w) (sym r) (least_walk p.net p.ducts p.ears (reached_of cs (closed p) h) q T v l w W) in (
      length (walk_of p.rule p.net p.ears 3 v),
      ap (λ (s : State). (walk_call s v 3 out).answer) (state_of_lem cs (closed p) h)
          ∙ ap (λ (o : Outcome (List ℕ)). o.answer) ((writes p).long_enough 3 v (omega arith) l out (omega arith)),
      least,
    )
