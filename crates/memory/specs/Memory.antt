-- What the functions for C promise: a session as the memory of struct threeways_session holds it, what a call does to that memory, and what
-- it gives back. Each call is the one defined on a session (Rattle.in_place.specs.Session and .Queries), for any contents of the memory.
use Rattle.std.specs.Prelude.{◌≡◌, Bool, not, ◌||◌, cond, List, [], ◌∷◌, ℕ, eqb, length}
use Rattle.mondschein.specs.Network.{at}
use Rattle.mondschein.specs.Judge.{Answer, given, refused}
use Rattle.mondschein.specs.Outcome.{Outcome, settle}
use Rattle.in_place.specs.declared.Stage.{Stage}
use Rattle.in_place.specs.declared.Stage.TheVariants.{Empty, Open, Closed}
use Rattle.in_place.specs.declared.Session.{Session}
use Rattle.in_place.specs.declared.State.{State}
use Rattle.in_place.specs.InPlace.{session_in, state_in}
use Rattle.memory.specs.declared.Refusal.{Refusal}

-- the numbers of struct threeways_session, as they are
pub record Numbers : Type 0 where
  pub stage : ℕ
  pub n : ℕ
  pub m : ℕ
  pub root : ℕ
  pub first : ℕ
  pub last : ℕ
  pub longs : ℕ
  pub born : ℕ

abbrev pub numbers_by : ℕ → ℕ → ℕ → ℕ → ℕ → ℕ → ℕ → ℕ → Numbers
numbers_by stage n m root first last longs born = record { stage = stage; n = n; m = m; root = root; first = first; last = last; longs = longs; born = born }

-- the memory of struct threeways_session: its numbers and its arrays
pub record Memory : Type 0 where
  pub numbers : Numbers
  pub links : List ℕ
  pub ducts : List ℕ
  pub used : List ℕ
  pub births : List ℕ
  pub order : List ℕ
  pub tree1 : List ℕ
  pub tree2 : List ℕ
  pub tree3 : List ℕ

abbrev pub memory_by : Numbers → List ℕ → List ℕ → List ℕ → List ℕ → List ℕ → List ℕ → List ℕ → List ℕ → Memory
memory_by k links ducts used births order tree1 tree2 tree3 =
    record { numbers = k; links = links; ducts = ducts; used = used; births = births; order = order; tree1 = tree1; tree2 = tree2; tree3 = tree3 }

-- the stage that a number means: 1 open, 2 closed, any other empty
unfoldable pub stage_of : ℕ → Stage
stage_of k = cond (eqb k 1) Open (cond (eqb k 2) Closed Empty)

-- the number of a stage
unfoldable pub stage_number : Stage → ℕ
stage_number Empty = 0
stage_number Open = 1
stage_number Closed = 2

-- the state that the numbers mean, and the numbers of a state
abbrev pub state_of : Numbers → State
state_of k =
    record { stage = stage_of k.stage; n = k.n; m = k.m; root = k.root; first = k.first; last = k.last; longs = k.longs; born = k.born }

abbrev pub numbers_of : State → Numbers
numbers_of st =
    record { stage = stage_number st.stage; n = st.n; m = st.m; root = st.root; first = st.first; last = st.last; longs = st.longs; born = st.born }

-- the session that the memory means, and the memory of a session
abbrev pub session_at : Memory → Session
session_at mem = session_in (state_of mem.numbers) mem.links mem.ducts mem.used mem.births mem.order mem.tree1 mem.tree2 mem.tree3

abbrev pub memory_of : Session → Memory
memory_of s =
    record { numbers = numbers_of (state_in s); links = s.links; ducts = s.ducts; used = s.used; births = s.births; order = s.order; tree1 = s.tree1; tree2 = s.tree2; tree3 = s.tree3 }

-- what a call on the session leaves of the memory: after a refusal all as it was, to the letter
unfoldable pub in_memory : Memory → Outcome Session → Outcome Memory
in_memory mem o = settle mem (memory_of o.after) o.answer

-- arrays of other lengths than the struct's
unfoldable pub wrong_lengths : ℕ → ℕ → ℕ → ℕ → ℕ → ℕ → ℕ → ℕ → Bool
wrong_lengths links ducts used births order tree1 tree2 tree3 =
    not (eqb links 8192)
    || (not (eqb ducts 4096)
    || (not (eqb used 4096) || (not (eqb births 1024) || (not (eqb order 1024) || (not (eqb tree1 1024) || (not (eqb tree2 1024) || not (eqb tree3 1024)))))))

abbrev pub wrong_in : Memory → Bool
wrong_in mem =
    wrong_lengths (length mem.links) (length mem.ducts) (length mem.used) (length mem.births) (length mem.order) (length mem.tree1) (length mem.tree2) (length mem.tree3)

-- a row by switch, and one by link
abbrev pub Row : List ℕ → Type 0
Row l = length l ≡ 1024

abbrev pub LinkRow : List ℕ → Type 0
LinkRow l = length l ≡ 4096

-- 255, before all others: the arrays have other lengths than the struct's
unfoldable pub sized : {A : Type 0} → Bool → A → Outcome A → Outcome A
sized wrong old o = cond wrong (record { answer = refused 255 0; after = old }) o

-- struct threeways_refusal
abbrev pub refusal_by : ℕ → ℕ → Refusal
refusal_by number place = record { number = number; place = place }

-- what an answer gives back: its refusal, or number 0 where it succeeded
unfoldable pub refusal_of : Answer → Refusal
refusal_of (given values) = refusal_by 0 0
refusal_of (refused num place) = refusal_by num place

-- what a list of ears gives back: the refusal of an ear, which its answer tells as second and third value; number 0 where there is none
unfoldable pub end_of : Answer → Refusal
end_of (given values) = refusal_by (at values 1) (at values 2)
end_of (refused num place) = refusal_by num place

-- what an answer writes as an output: its first value; after a refusal, what was there
unfoldable pub output_of : ℕ → Answer → ℕ
output_of old (given []) = old
output_of old (given (v ∷ vs)) = v
output_of old (refused num place) = old

-- a function gives back an outcome's refusal, and leaves what the outcome leaves
pub record Returns {A : Type 0} (o : Outcome A) (r : Refusal) (after : A) : Type 0 where
  pub refusal : r ≡ refusal_of o.answer
  pub left : after ≡ o.after

-- the same, with an output that was `old` and is `new`
pub record Gives {A : Type 0} (o : Outcome A) (old : ℕ) (r : Refusal) (after : A) (new : ℕ) : Type 0 where
  pub returns : Returns o r after
  pub output : new ≡ output_of old o.answer

-- a list of ears gives back the refusal of an ear, if any, and its output is the count of ears accepted, in either case
pub record GivesList {A : Type 0} (o : Outcome A) (old : ℕ) (r : Refusal) (after : A) (new : ℕ) : Type 0 where
  pub refusal : r ≡ end_of o.answer
  pub left : after ≡ o.after
  pub output : new ≡ output_of old o.answer
