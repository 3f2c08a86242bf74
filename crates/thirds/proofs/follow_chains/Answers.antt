use Rattle.std.proofs.Common.{◌≡◌, ℕ, ◌-◌, ◌<◌, List, [], ◌∷◌, ◌++◌, length, get_or, reverse, subst, arith, length-append}
use Rattle.std.proofs.lemmas.Grind.{elements}
use Rattle.std.proofs.lemmas.Iterator.Adapters.{YieldsList-from_rev_slice}
use Rattle.std.proofs.lemmas.Iterator.Consumers.{YieldsList-turn, YieldsList-end}
use Rattle.std.proofs.lemmas.List.{length-reverse}
use Rattle.mondschein.specs.Network.{at}
use Rattle.thirds.specs.Nearing.{FollowsChains}
use Rattle.thirds.proofs.Following.{chains_more}
use Rattle.thirds.proofs.follow_chains.Goals as goal

-- what comes k-th from behind
from_behind : (xs : List ℕ) (k x : ℕ) → k < length (reverse xs) → x ≡ get_or (reverse xs) k x → x ≡ at xs (length xs - 1 - k)
from_behind xs k x l e = grind (arith, elements)

pub loop-head-preserved : goal.loop-head-preserved
loop-head-preserved c =
    let a = c.args in
    let l = c.loop-head in
    let t = YieldsList-turn (YieldsList-from_rev_slice a.heads.now cc) l.yielded _ l.yielded_by _ _ c.in-Some.head c.in-Some.is c.next.ensures.steps in
    let same = from_behind a.heads.now (length l.yielded) c.in-Some.head.now t.0 t.1 in
    let more = length-append l.yielded (c.in-Some.head ∷ []) in
    let long = length-reverse a.heads.now in
    let e : length a.heads.now - 1 - length l.yielded ≡ 1024 - length (l.yielded ++ c.in-Some.head ∷ []) = omega arith in
    chains_more a.n a.links.now a.heads.now a.nexts.now a.row.now a.dist.now (1024 - length l.yielded) _ c.in-Some.head.now
    (omega arith) (omega arith) (rw e at same) l.invariant c.follow_chain.ensures

pub returns : goal.returns
returns c =
    let a = c.args in
    let l = c.loop-head in
    let t = YieldsList-end (YieldsList-from_rev_slice a.heads.now cc) l.yielded _ l.yielded_by _ _ c.in-None.is c.next.ensures.steps in
    let long = length-reverse a.heads.now in
    subst (λ (k : ℕ). FollowsChains a.n a.links.now a.heads.now a.nexts.now k a.row.now a.dist.now l.row l.dist) (omega arith) l.invariant
