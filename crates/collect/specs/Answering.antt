-- What the contracts over one line cite: the dialogue as the code holds it, what a line asks of the session, and what is known after it.
-- The collected links stand at the start of a slice beside the dialogue, two numbers each, and their ducts in another; the numbers of an
-- ear in a third.
use Rattle.std.specs.Prelude.{◌≡◌, Bool, true, false, List, [], ◌++◌, ℕ, pred, ◌*◌, take, drop, Option, None, Some, Result, Ok, Err}
use Rattle.std.proofs.Math.Option.{none, some}
use Rattle.in_place.specs.declared.Session.{Session}
use Rattle.lines.specs.declared.Form.{Form as Code-as-Form}
use Rattle.lines.specs.declared.Form.TheVariants as Code
use Rattle.lines.specs.Writing.{Form, net, ducted, opening, ear, closing, walk, clearing}
use Rattle.collect.specs.declared.Kept.{Kept}
use Rattle.collect.specs.declared.Call.{Call as Code-as-Call}
use Rattle.collect.specs.declared.Call.TheVariants.{Open, Ear, Close, Clear}
use Rattle.collect.specs.declared.Request.{Request}
use Rattle.collect.specs.declared.Request.TheVariants.{Walk, Call}
use Rattle.collect.specs.declared.Asked.{Asked}
use Rattle.collect.specs.declared.Unreadable.{Unreadable}
use Rattle.collect.specs.declared.Reader.{Reader as Code-as-Reader}
use Rattle.collect.specs.declared.Ending.{Ending}
use Rattle.transcript.specs.Transcript.{Turn, Reader, over, ended}
use Rattle.collect.specs.Dialogue.{Dialogue, respond, turn}

-- what is collected, with its links and their ducts in slices, and a session
abbrev pub dialogue_in : Kept → Session → List ℕ → List ℕ → Dialogue
dialogue_in d s links ducts =
    record { n = d.n; root = d.root; first = d.first; last = d.last; links = take (2 * d.count) links; ducts = take d.count ducts; session = s }

-- nothing collected
abbrev pub fresh_kept : Kept
fresh_kept = record { n = 0; root = 0; first = 0; last = 0; count = 0 }

-- the form of a line that makes a call, the numbers of an ear at the start of a slice
unfoldable pub form_of : Code-as-Call → List ℕ → Form
form_of Open numbers = opening
form_of (Ear count) numbers = ear (take count numbers)
form_of Close numbers = closing
form_of Clear numbers = clearing

-- line number k with what it asks of the session, from what it leads to without
unfoldable pub requested : Option Request → List ℕ → ℕ → Turn Dialogue → Turn Dialogue
requested None numbers k t = t
requested (Some (Walk switch tree)) numbers k t = respond t.after k (some (walk switch tree))
requested (Some (Call c)) numbers k t = respond t.after k (some (form_of c numbers))

-- what a line leads to, with its reply in a slice
pub record Effect : Type 0 where
  pub kept : Kept
  pub request : Option Request
  pub printed : List ℕ
  pub stops : Bool

-- of a line that cannot be read, what was collected before it is left
abbrev pub effect_in : Kept → Result Asked Unreadable → List ℕ → Effect
effect_in d (Ok a) out = record { kept = a.kept; request = a.request; printed = []; stops = false }
effect_in d (Err u) out = record { kept = d; request = None; printed = take u.written out; stops = true }

-- the count of the bytes of its reply: a line that is read has none of its own
abbrev pub unread_count : Result Asked Unreadable → ℕ
unread_count (Ok a) = 0
unread_count (Err u) = u.written

-- the count of the bytes of a line's own reply: a line that asks something of the session has its reply from there
abbrev pub own_count : Option Request → ℕ → ℕ
own_count None written = written
own_count (Some q) written = 0

-- a slice holds what it held, but for the first k
abbrev pub Keeps : ℕ → List ℕ → List ℕ → Type 0
Keeps k held holds = drop k holds ≡ drop k held

-- the same as a turn of the dialogue, of line number k with a session, and with the links, their ducts and the numbers of an ear in slices
abbrev pub turn_of : Session → ℕ → List ℕ → List ℕ → List ℕ → Effect → Turn Dialogue
turn_of s k numbers links ducts t = requested t.request numbers k (record { after = dialogue_in t.kept s links ducts; printed = t.printed; stops = t.stops })

-- what a form that was read leads to, the numbers of an ear at the start of a slice; a link without a duct has duct 0
unfoldable pub respond_to : Dialogue → ℕ → Code-as-Form → List ℕ → Turn Dialogue
respond_to d k Code.Unread numbers = respond d k none
respond_to d k (Code.Net n root first last) numbers = respond d k (some (net n root first last))
respond_to d k (Code.Link a b duct) numbers = respond d k (some (ducted a b duct))
respond_to d k Code.Open numbers = respond d k (some opening)
respond_to d k (Code.Ear count) numbers = respond d k (some (ear (take count numbers)))
respond_to d k Code.Close numbers = respond d k (some closing)
respond_to d k (Code.Walk switch tree) numbers = respond d k (some (walk switch tree))
respond_to d k Code.Clear numbers = respond d k (some clearing)

-- line number k leads to what its form says, whatever the session
abbrev pub Responds : Kept → List ℕ → List ℕ → ℕ → Code-as-Form → Result Asked Unreadable → List ℕ → List ℕ → List ℕ → Type 0
Responds d links ducts k form r links' ducts' out =
    (s : Session) (numbers : List ℕ) → turn_of s k numbers links' ducts' (effect_in d r out) ≡ respond_to (dialogue_in d s links ducts) k form numbers

-- line number k leads to what its bytes say, whatever the session
abbrev pub Answers : Kept → List ℕ → List ℕ → ℕ → List ℕ → Result Asked Unreadable → List ℕ → List ℕ → List ℕ → List ℕ → Type 0
Answers d links ducts k bytes r numbers links' ducts' out =
    (s : Session) → turn_of s k numbers links' ducts' (effect_in d r out) ≡ turn (dialogue_in d s links ducts) k bytes

-- what is known between two bytes, with a session, and the links, their ducts, the bytes of the line and what was printed in lists
abbrev pub reader_in : Code-as-Reader → Session → List ℕ → List ℕ → List ℕ → List ℕ → Reader Dialogue
reader_in r s links ducts line output = record { state = dialogue_in r.kept s links ducts; number = r.number; line = take r.held line; output = output; stopped = r.stopped }

-- whether no more is read, whatever else is known
abbrev pub Over : Code-as-Reader → Bool → Type 0
Over r b = (s : Session) (links ducts line output : List ℕ) → b ≡ over (reader_in r s links ducts line output)

-- what is known once a line has what it asks of the session; a line that asks for nothing has its reply
abbrev pub served : Option Request → List ℕ → List ℕ → Reader Dialogue → Reader Dialogue
served q numbers own r =
    let t = requested q numbers (pred r.number) (record { after = r.state; printed = own; stops = r.stopped }) in
    record { state = t.after; number = r.number; line = r.line; output = r.output ++ t.printed; stopped = t.stops }

-- the line ends, but for what it asks of the session, whatever the session and whatever was printed before
abbrev pub Ends : Code-as-Reader → List ℕ → List ℕ → List ℕ → Ending → List ℕ → List ℕ → List ℕ → List ℕ → Type 0
Ends r links ducts line e numbers links' ducts' out =
    (s : Session) (printed : List ℕ) → served e.request numbers (take e.written out) (reader_in e.reader s links' ducts' line printed)
    ≡ ended turn (reader_in r s links ducts line printed)

-- before the first byte
abbrev pub start_reader : Code-as-Reader
start_reader = record { kept = fresh_kept; number = 1; held = 0; stopped = false }
