-- What the contracts over a call or a walk that a line asks for cite: what is known once the line has it, and its reply.
-- The index of the links that are stored stays one.
use Rattle.std.specs.Prelude.{◌≡◌, Bool, false, List, ◌++◌, ℕ, ◌*◌, take, Some}
use Rattle.mondschein.specs.Network.{at}
use Rattle.mondschein.specs.Order.{shortest}
use Rattle.network.specs.Load.{network_of}
use Rattle.in_place.specs.declared.Session.{Session}
use Rattle.in_place.specs.Session.{loaded_by, offered_by, closed_by}
use Rattle.in_place.specs.InPlace.{state_in, IndexedIn}
use Rattle.replies.specs.Replies.{Reply, opened, new, closed, reply}
use Rattle.collect.specs.declared.Kept.{Kept}
use Rattle.collect.specs.declared.Request.{Request}
use Rattle.collect.specs.declared.Request.TheVariants.{Walk}
use Rattle.collect.specs.declared.Reader.{Reader}
use Rattle.collect.specs.Dialogue.{reply_to}
use Rattle.collect.specs.Answering.{reader_in, served}

-- what is known once a line is answered: more is read
abbrev pub read_on : Reader → Reader
read_on r = record { kept = r.kept; number = r.number; held = r.held; stopped = false }

-- what is known after a call or a walk, with its reply, and the session
pub record Replied : Type 0 where
  pub kept : Kept
  pub number : ℕ
  pub held : ℕ
  pub stopped : Bool
  pub session : Session
  pub printed : List ℕ

abbrev pub replied_in : Reader → Session → List ℕ → Replied
replied_in x s bytes = record { kept = x.kept; number = x.number; held = x.held; stopped = x.stopped; session = s; printed = bytes }

-- the line goes on to be answered: what is collected, the session and the reply
abbrev pub replied_by : Reader → Kept → Session → Reply → Replied
replied_by r d s w = record { kept = d; number = r.number; held = r.held; stopped = false; session = s; printed = reply w }

-- the network that was collected is loaded, with its ducts
abbrev pub Opens : Reader → Session → List ℕ → List ℕ → Reader → Session → List ℕ → Type 0
Opens r s links ducts x s' bytes =
    replied_in x s' bytes
    ≡ (let d = r.kept in
    let o = loaded_by s (network_of d.n (take (2 * d.count) links) d.root d.first d.last) (take d.count ducts) in
    replied_by r d o.after (reply_to (λ vs. opened (at vs 0) (at vs 1)) o.answer))

-- an ear is offered
abbrev pub Offers : Reader → Session → List ℕ → Reader → Session → List ℕ → Type 0
Offers r s e x s' bytes =
    replied_in x s' bytes
    ≡ (let o = offered_by s e in
    replied_by r r.kept o.after (reply_to (λ vs. new (at vs 0)) o.answer))

-- the session is closed
abbrev pub Closes : Reader → Session → Reader → Session → List ℕ → Type 0
Closes r s x s' bytes =
    replied_in x s' bytes
    ≡ (let o = closed_by shortest s in
    replied_by r r.kept o.after (reply_to (λ vs. closed) o.answer))

-- an index of the links that are stored stays one
abbrev pub KeepsIndexed : Session → List ℕ → Session → List ℕ → Type 0
KeepsIndexed s index s' index' = IndexedIn (state_in s) s.links index → IndexedIn (state_in s') s'.links index'

-- the line has what it asks of the session, whatever was printed before
abbrev pub Serves : Request → List ℕ → Reader → Session → List ℕ → List ℕ → Reader → Session → List ℕ → Type 0
Serves q numbers r s links ducts x s' bytes =
    (line own printed : List ℕ) → reader_in x s' links ducts line (printed ++ bytes) ≡ served (Some q) numbers own (reader_in r s links ducts line printed)

-- the line has the walk that it asks for, whatever is collected
abbrev pub ServesWalk : ℕ → ℕ → Reader → Session → Reader → List ℕ → Type 0
ServesWalk switch tree r s x bytes = (numbers links ducts : List ℕ) → Serves (Walk switch tree) numbers r s links ducts x s bytes
