-- An offered ear and close leave M and the links, and with them the index of the links that are stored.
use Rattle.std.proofs.Common.{◌≡◌, List, ℕ, refl}
use Rattle.mondschein.specs.Judge.{Answer, given, refused}
use Rattle.mondschein.specs.Order.{Rule}
use Rattle.mondschein.specs.Outcome.{granted, settle}
use Rattle.in_place.specs.declared.Session.{Session}
use Rattle.in_place.specs.Session.{offered_by, closed_by}
use Rattle.in_place.specs.InPlace.{state_in, IndexedIn}

-- the same M and the same links
pub record SameLinks (s next : Session) : Type 0 where
  pub m : next.m ≡ s.m
  pub links : next.links ≡ s.links

same_settled : (s next : Session) → SameLinks s next → (a : Answer) → SameLinks s (settle s next a).after
unfolding settle granted
same_settled s next q (given vs) = q
same_settled s next q (refused num place) = record { m = refl; links = refl }

pub offered_same : (s : Session) (e : List ℕ) → SameLinks s (offered_by s e).after
unfolding offered_by
offered_same s e = same_settled s _ (record { m = refl; links = refl }) _

pub closed_same : (rule : Rule) (s : Session) → SameLinks s (closed_by rule s).after
unfolding closed_by
closed_same rule s = same_settled s _ (record { m = refl; links = refl }) _

pub index_same : (s next : Session) → SameLinks s next → (index : List ℕ) → IndexedIn (state_in s) s.links index → IndexedIn (state_in next) next.links index
index_same s next q index i = rw (q.m, q.links) i
