-- Document 01, "Lines of threeways": what is collected between the lines, what one line does and prints, and the transcript of an
-- input.
use Rattle.std.specs.Prelude.{true, false, cond, List, [], ◌∷◌, ◌++◌, ℕ, ◌*◌, ltb, length, take, replicate}
use Rattle.std.proofs.Math.Option.{Option, none, some}
use Rattle.mondschein.specs.Network.{at}
use Rattle.mondschein.specs.Judge.{Answer, given, refused, limits}
use Rattle.mondschein.specs.Order.{shortest}
use Rattle.network.specs.Load.{network_of}
use Rattle.in_place.specs.declared.Session.{Session}
use Rattle.in_place.specs.Session.{empty_session, loaded_by, offered_by, closed_by}
use Rattle.in_place.specs.Queries.{walked_by}
use Rattle.lines.specs.Writing.{Form, net, link, ducted, opening, ear, closing, walk, clearing}
use Rattle.lines.specs.Reading.{reading}
use Rattle.replies.specs.Replies.{Reply, opened, new, closed, walked, cleared, unread, reply}
use Rattle.replies.specs.Replies as Replies
use Rattle.transcript.specs.Transcript.{Turn, transcript}

-- the numbers of the last net line (0 where there is none), the links collected, two numbers each, with their ducts, one each (document
-- 02, Note 7), and the session
pub record Dialogue : Type 0 where
  pub n : ℕ
  pub root : ℕ
  pub first : ℕ
  pub last : ℕ
  pub links : List ℕ
  pub ducts : List ℕ
  pub session : Session

-- nothing collected, and the fresh session
abbrev pub fresh : Dialogue
fresh = record { n = 0; root = 0; first = 0; last = 0; links = []; ducts = []; session = empty_session }

abbrev pub with_session : Dialogue → Session → Dialogue
with_session d s = record { n = d.n; root = d.root; first = d.first; last = d.last; links = d.links; ducts = d.ducts; session = s }

abbrev pub with_links : Dialogue → List ℕ → List ℕ → Dialogue
with_links d links ducts = record { n = d.n; root = d.root; first = d.first; last = d.last; links = links; ducts = ducts; session = d.session }

-- a line that prints nothing
abbrev pub silent : Dialogue → Turn Dialogue
silent d = record { after = d; printed = []; stops = false }

-- a line that is answered
abbrev pub answered : Dialogue → Reply → Turn Dialogue
answered d r = record { after = d; printed = reply r; stops = false }

-- a line that is no form, or one link too many
abbrev pub unread_at : Dialogue → ℕ → Turn Dialogue
unread_at d k = record { after = d; printed = reply (unread k); stops = true }

-- the reply to the values that a call gave, or its refusal
unfoldable pub reply_to : (List ℕ → Reply) → Answer → Reply
reply_to f (given values) = f values
reply_to f (refused num place) = Replies.refused num place

-- line number k collects a link with its duct, up to the most that a network has
unfoldable pub collected : Dialogue → ℕ → ℕ → ℕ → ℕ → Turn Dialogue
collected d k a b duct =
    cond (ltb (length d.links) (2 * limits.max_links)) (silent (with_links d (d.links ++ (a ∷ b ∷ [])) (d.ducts ++ (duct ∷ [])))) (unread_at d k)

-- what line number k does, by the form that it is read as
unfoldable pub respond : Dialogue → ℕ → Option Form → Turn Dialogue
respond d k none = unread_at d k
respond d k (some (net n root first last)) = silent (record { n = n; root = root; first = first; last = last; links = d.links; ducts = d.ducts; session = d.session })
respond d k (some (link a b)) = collected d k a b 0
respond d k (some (ducted a b duct)) = collected d k a b duct
respond d k (some opening) =
    let o = loaded_by d.session (network_of d.n d.links d.root d.first d.last) d.ducts in
    answered (with_session d o.after) (reply_to (λ vs. opened (at vs 0) (at vs 1)) o.answer)
respond d k (some (ear e)) =
    let o = offered_by d.session e in
    answered (with_session d o.after) (reply_to (λ vs. new (at vs 0)) o.answer)
respond d k (some closing) =
    let o = closed_by shortest d.session in
    answered (with_session d o.after) (reply_to (λ vs. closed) o.answer)
respond d k (some (walk switch tree)) =
    let o = walked_by d.session switch tree (replicate limits.max_switches 0) in
    answered d (reply_to (λ vs. walked switch tree (take (at vs 0) o.after)) o.answer)
respond d k (some clearing) = answered fresh cleared

-- line number k with these bytes
unfoldable pub turn : Dialogue → ℕ → List ℕ → Turn Dialogue
turn d k bytes = respond d k (reading bytes)

-- what threeways prints for an input
abbrev pub threeways : List ℕ → List ℕ
threeways input = transcript turn fresh input
