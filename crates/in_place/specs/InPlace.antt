-- What the contracts of the calls in place cite: a session whose arrays are lent, and each call's equation with what the same call does to
-- a session. The index of the links stands beside the arrays, and is no part of what a session holds.
use Rattle.std.specs.Prelude.{◌≡◌, List, ℕ, ◌*◌, ◌/◌, ◌≤◌, eqb, length, take, Result, ⊤}
use Rattle.mondschein.specs.Network.{Network}
use Rattle.mondschein.specs.Judge.{Answer, refused, verdict, closing}
use Rattle.mondschein.specs.Order.{shortest}
use Rattle.mondschein.specs.Outcome.{settle}
use Rattle.mondschein.specs.EmptyEar.{entering}
use Rattle.refusals.specs.declared.Refusal.{Refusal}
use Rattle.network.specs.declared.Loaded.{Loaded}
use Rattle.network.specs.Load.{table_of, load_answer}
use Rattle.network.specs.Index.{Indexed}
use Rattle.rows.specs.Rows.{marked}
use Rattle.judge.specs.Ear.{ear_answer}
use Rattle.closing.specs.Closing.{close_answer}
use Rattle.tables.specs.Tables.{tables_of, after_ear}
use Rattle.walks.specs.Walks.{parent_answer, walk_answer}
use Rattle.in_place.specs.declared.Stage.TheVariants.{Empty}
use Rattle.in_place.specs.declared.Session.{Session}
use Rattle.in_place.specs.declared.State.{State}
use Rattle.in_place.specs.Session.{session_of, network_in, tables_in, after_offer, with_tables, closed_with, third_in, loaded_by, offered_by, closed_by}
use Rattle.in_place.specs.Queries.{parent_by, walked_by}

-- the session with this state and these arrays
abbrev pub session_in : State → List ℕ → List ℕ → List ℕ → List ℕ → List ℕ → List ℕ → List ℕ → List ℕ → Session
session_in st links ducts used births order tree1 tree2 tree3 =
    session_of st.stage (record { n = st.n; m = st.m; root = st.root; first = st.first; last = st.last; links = links; ducts = ducts })
    (tables_of used st.longs births st.born order tree1 tree2) tree3

-- what a session holds beside its arrays
abbrev pub state_in : Session → State
state_in s =
    record { stage = s.stage; n = s.n; m = s.m; root = s.root; first = s.first; last = s.last; longs = s.longs; born = s.born }

-- the session with another state, and the same arrays
abbrev pub with_state : Session → State → Session
with_state s st = session_in st s.links s.ducts s.used s.births s.order s.tree1 s.tree2 s.tree3

abbrev pub empty_state : State
empty_state = record { stage = Empty; n = 0; m = 0; root = 0; first = 0; last = 0; longs = 0; born = 0 }

-- the arrays have the lengths of the session's type
pub record SizedAs (l d u b o p q t : List ℕ) : Type 0 where
  pub links : length l ≡ 8192
  pub ducts : length d ≡ 4096
  pub used : length u ≡ 4096
  pub births : length b ≡ 1024
  pub order : length o ≡ 1024
  pub tree1 : length p ≡ 1024
  pub tree2 : length q ≡ 1024
  pub tree3 : length t ≡ 1024

-- the arrays that tree 3 is set from and in have those lengths
pub record SizedForThird (l b t : List ℕ) : Type 0 where
  pub links : length l ≡ 8192
  pub births : length b ≡ 1024
  pub tree3 : length t ≡ 1024

-- numbers that are whole links, and no more than the table has room for
pub record Paired (links : List ℕ) : Type 0 where
  pub fits : length links ≤ 8192
  pub whole : 2 * (length links / 2) ≡ length links

-- the slice is the index of the links that are stored, or none
abbrev pub IndexedIn : State → List ℕ → List ℕ → Type 0
IndexedIn st links index = Indexed (table_of (take (2 * st.m) links)) index

-- a call that loads keeps the index: of the network that it loads; and where it refuses, the slice as it was
pub record KeepsIndex (st : State) (links index : List ℕ) (answer : Answer) (st' : State) (links' index' : List ℕ) : Type 0 where
  pub keeps : IndexedIn st links index → IndexedIn st' links' index'
  pub leaves : (num place : ℕ) → answer ≡ refused num place → index' ≡ index

-- load
abbrev pub LoadsIn : Session → Network → List ℕ → Result Loaded Refusal → Session → Type 0
LoadsIn s net ducts r s' = record { answer = load_answer r; after = s' } ≡ loaded_by s net ducts

-- checks 7 to 16 of an ear on an open session
abbrev pub JudgesOpen : State → List ℕ → List ℕ → List ℕ → List ℕ → List ℕ → List ℕ → List ℕ → Result ℕ Refusal → State → List ℕ → List ℕ → List ℕ → List ℕ → List ℕ → Type 0
JudgesOpen st links used births order tree1 tree2 e r st' used' births' order' tree1' tree2' =
    (ducts tree3 : List ℕ) → record { answer = ear_answer r; after = session_in st' links ducts used' births' order' tree1' tree2' tree3 }
    ≡ (let s = session_in st links ducts used births order tree1 tree2 tree3 in
    settle s (with_tables s (after_ear (network_in s) e (tables_in s))) (verdict (network_in s) (marked births) (marked used) (eqb st.born 0) e))

-- ear on an open session: an empty one, or checks 7 to 16
abbrev pub OffersOpen : State → List ℕ → List ℕ → List ℕ → List ℕ → List ℕ → List ℕ → List ℕ → Result ℕ Refusal → State → List ℕ → List ℕ → List ℕ → List ℕ → List ℕ → Type 0
OffersOpen st links used births order tree1 tree2 e r st' used' births' order' tree1' tree2' =
    (ducts tree3 : List ℕ) → record { answer = ear_answer r; after = session_in st' links ducts used' births' order' tree1' tree2' tree3 }
    ≡ (let s = session_in st links ducts used births order tree1 tree2 tree3 in
    settle s (with_tables s (after_offer (network_in s) e (tables_in s))) (entering (network_in s) (marked births) (marked used) (eqb st.born 0) e))

-- ear, whatever the ducts and tree 3 hold
abbrev pub OffersIn : State → List ℕ → List ℕ → List ℕ → List ℕ → List ℕ → List ℕ → List ℕ → Result ℕ Refusal → State → List ℕ → List ℕ → List ℕ → List ℕ → List ℕ → Type 0
OffersIn st links used births order tree1 tree2 e r st' used' births' order' tree1' tree2' =
    (ducts tree3 : List ℕ) → record { answer = ear_answer r; after = session_in st' links ducts used' births' order' tree1' tree2' tree3 }
    ≡ offered_by (session_in st links ducts used births order tree1 tree2 tree3) e

-- close on an open session: check 23
abbrev pub ClosesOpen : State → List ℕ → List ℕ → List ℕ → List ℕ → Result ⊤ Refusal → State → List ℕ → Type 0
ClosesOpen st links used births tree3 r st' tree3' =
    (ducts order tree1 tree2 : List ℕ) → record { answer = close_answer r; after = session_in st' links ducts used births order tree1 tree2 tree3' }
    ≡ (let s = session_in st links ducts used births order tree1 tree2 tree3 in
    settle s (closed_with s (third_in shortest s)) (closing (network_in s) (marked used)))

-- close, whatever the ducts, the order and trees 1 and 2 hold
abbrev pub ClosesIn : State → List ℕ → List ℕ → List ℕ → List ℕ → Result ⊤ Refusal → State → List ℕ → Type 0
ClosesIn st links used births tree3 r st' tree3' =
    (ducts order tree1 tree2 : List ℕ) → record { answer = close_answer r; after = session_in st' links ducts used births order tree1 tree2 tree3' }
    ≡ closed_by shortest (session_in st links ducts used births order tree1 tree2 tree3)

-- parent and walk, whatever the other arrays hold
abbrev pub ParentIn : State → List ℕ → List ℕ → List ℕ → ℕ → ℕ → Result ℕ Refusal → Type 0
ParentIn st tree1 tree2 tree3 switch tree r =
    (links ducts used births order : List ℕ) → parent_answer r ≡ parent_by (session_in st links ducts used births order tree1 tree2 tree3) switch tree

abbrev pub WalksIn : State → List ℕ → List ℕ → List ℕ → ℕ → ℕ → List ℕ → Result ℕ Refusal → List ℕ → Type 0
WalksIn st tree1 tree2 tree3 switch tree out r out' =
    (links ducts used births order : List ℕ) → record { answer = walk_answer r; after = out' } ≡ walked_by (session_in st links ducts used births order tree1 tree2 tree3) switch tree out
