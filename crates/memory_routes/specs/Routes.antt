-- What the call of document 02, Note 8, promises for C, for any memory of struct threeways_session: three routes between two switches of the
-- session that the memory means (Rattle.routes.specs.Calls), told as struct threeways_between, and 255 for links of another length.
use Rattle.std.specs.Prelude.{◌≡◌, ◌⊎◌, ◌≢◌, Bool, cond, List, [], ◌∷◌, ℕ, ◌≤◌, length}
use Rattle.mondschein.specs.Network.{Network}
use Rattle.mondschein.specs.Routes.{Thing, switch, link}
use Rattle.disjoint.specs.Replies.{Reply, counts, things, refusal, Told, refusing, Answered}
use Rattle.disjoint.specs.Statements.{RoutesCall}
use Rattle.routes.specs.Calls.{between_by}
use Rattle.memory.specs.Memory.{Memory, Row, LinkRow, session_at, wrong_in}
use Rattle.memory.specs.Program.{memory_program}
use Rattle.memory_routes.specs.declared.Part.{Part}
use Rattle.memory_routes.specs.declared.Routed.{Routed}

-- struct threeways_between
abbrev pub routed_by : ℕ → ℕ → ℕ → ℕ → ℕ → ℕ → ℕ → ℕ → ℕ → ℕ → Routed
routed_by number place walk1 walk2 walk3 count kind1 thing1 kind2 thing2 =
    record { number = number; place = place; walk1 = walk1; walk2 = walk2; walk3 = walk3; things = count; kind1 = kind1; thing1 = thing1; kind2 = kind2; thing2 = thing2 }

-- a thing in numbers: kind 1 and the switch, or kind 2 and the index of the link; and no thing
unfoldable pub part_of : Thing → Part
part_of (switch x) = record { kind = 1; thing = x }
part_of (link l) = record { kind = 2; thing = l }

abbrev pub no_part : Part
no_part = record { kind = 0; thing = 0 }

-- the first and the second of some things in numbers
unfoldable pub first_of : List Thing → Part
first_of [] = no_part
first_of (x ∷ xs) = part_of x

unfoldable pub second_of : List Thing → Part
second_of [] = no_part
second_of (x ∷ xs) = first_of xs

-- so many things, with the numbers of two
abbrev pub parted_by : ℕ → Part → Part → Routed
parted_by count one two = routed_by 0 0 0 0 0 count one.kind one.thing two.kind two.thing

-- what a reply gives back: number and place of a refusal, 0 and 0 where there is an answer; the counts of the walks, or 0; how many things, and
-- the first two, or 0
unfoldable pub routed_of : Reply → Routed
routed_of (counts a b c) = routed_by 0 0 a b c 0 0 0 0 0
routed_of (things xs) = parted_by (length xs) (first_of xs) (second_of xs)
routed_of (refusal num place) = routed_by num place 0 0 0 0 0 0 0 0

-- 255, before all others: the arrays have other lengths than the struct's
unfoldable pub sized_told : Bool → List ℕ → Told → Told
sized_told wrong out t = cond wrong (refusing 255 out) t

-- a function gives back what is told, and leaves the slice so
pub record Shows (t : Told) (r : Routed) (out : List ℕ) : Type 0 where
  pub routed : r ≡ routed_of t.reply
  pub left : out ≡ t.after

-- three routes between two switches of the session that the memory means
abbrev pub between_in : Memory → ℕ → ℕ → List ℕ → Told
between_in mem from to out = between_by (session_at mem) from to out

-- the call, whatever the arrays beside the links hold
abbrev pub WritesRoutes : (List ℕ → List ℕ → List ℕ → List ℕ → List ℕ → List ℕ → List ℕ → Memory) → ℕ → ℕ → List ℕ → Routed → List ℕ → Type 0
WritesRoutes mem from to out r out' =
    (ducts used births order tree1 tree2 tree3 : List ℕ) → LinkRow ducts → LinkRow used → Row births → Row order → Row tree1 → Row tree2 → Row tree3
    → (let mem = mem ducts used births order tree1 tree2 tree3 in Shows (sized_told (wrong_in mem) out (between_in mem from to out)) r out')

-- the call over the memory keeps the promises of document 02, Note 8
abbrev pub RoutesInMemory : Type 0
RoutesInMemory = RoutesCall memory_program between_in

-- number 0 is no refusal, so that it tells an answer
abbrev pub ZeroAnswers : Type 0
ZeroAnswers = (mem : Memory) (from to : ℕ) (out : List ℕ) (place : ℕ) → (between_in mem from to out).reply ≡ refusal 0 place → ⊥

-- the count of the first walk tells the two answers apart: it is 2 or more where walks are given, and 0 where things are
abbrev pub WalksTold : Type 0
WalksTold = (net : Network) (from to : ℕ) (out : List ℕ) (t : Told) → from ≢ to → Answered net from to out t
    → ((2 ≤ (routed_of t.reply).walk1) × ((a b c : ℕ) × (t.reply ≡ counts a b c)))
    ⊎ (((routed_of t.reply).walk1 ≡ 0) × ((xs : List Thing) × (t.reply ≡ things xs)))
