-- Ear and close leave M, and with it the index of the links that are stored.
-- So do their refusals, which leave the session.
use mathlib.Core.Path.{◌≡◌, refl, sym, subst}
use mathlib.Core.List.{List}
use Prim.Native.Nat.{ℕ, ◌*◌}
use lib.ListN.{take}
use Rattle.mondschein.specs.Judge.{Answer, given, refused}
use Rattle.mondschein.specs.Order.{Rule}
use Rattle.mondschein.specs.Outcome.{granted, settle}
use Rattle.network.specs.Load.{table_of}
use Rattle.network.specs.Index.{Indexed}
use Rattle.in_place.specs.declared.Session.{Session}
use Rattle.in_place.specs.declared.State.{State}
use Rattle.in_place.specs.Session.{offered_by, closed_by}
use Rattle.in_place.specs.InPlace.{IndexedIn}

m_left : (s next : Session) → next.m ≡ s.m → (a : Answer) → (settle s next a).after.m ≡ s.m
unfolding settle granted
m_left s next q (given vs) = q
m_left s next q (refused num place) = refl

pub offered_m : (s : Session) (e : List ℕ) → (offered_by s e).after.m ≡ s.m
unfolding offered_by
offered_m s e = m_left s _ refl _

pub closed_m : (rule : Rule) (s : Session) → (closed_by rule s).after.m ≡ s.m
unfolding closed_by
closed_m rule s = m_left s _ refl _

pub index_kept : (st st' : State) (links index : List ℕ) → st'.m ≡ st.m → IndexedIn st links index → IndexedIn st' links index
index_kept st st' links index q i = subst (λ (m : ℕ). Indexed (table_of (take (2 * m) links)) index) (sym q) i
