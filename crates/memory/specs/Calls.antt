-- What each function for C promises, for any memory of struct threeways_session and any arguments: what it gives back and what it leaves are
-- those of the same call of the program that the memory is (Rattle.memory.specs.Program), and 255 for arrays of other lengths.
use Rattle.std.specs.Prelude.{◌≡◌, List, ℕ, length}
use Rattle.mondschein.specs.Network.{Network}
use Rattle.mondschein.specs.Order.{shortest}
use Rattle.machine.specs.Machine.{load, ear, ears, close, bring_over, clear}
use Rattle.in_place.specs.Queries.{parent_by, walked_by}
use Rattle.zoning.specs.Zoning.{zoned_by}
use Rattle.memory.specs.declared.Refusal.{Refusal}
use Rattle.memory.specs.Memory.{Memory, Row, LinkRow, session_at, wrong_in, sized, Returns, Gives, GivesList}
use Rattle.memory.specs.Program.{called_with}

-- clear, and load of a network with its ducts
abbrev pub Clears : Memory → Refusal → Memory → Type 0
Clears mem r mem' = Returns (called_with mem clear) r mem'

abbrev pub Loads : Memory → Network → List ℕ → Refusal → Memory → Type 0
Loads mem net ducts r mem' = Returns (called_with mem (load net ducts)) r mem'

-- ear, whatever the ducts and tree 3 hold; the output is the number of new switches
abbrev pub Offers : (List ℕ → List ℕ → Memory) → List ℕ → ℕ → Refusal → (List ℕ → List ℕ → Memory) → ℕ → Type 0
Offers mem e old r mem' new = (ducts tree3 : List ℕ) → LinkRow ducts → Row tree3 → Gives (called_with (mem ducts tree3) (ear e)) old r (mem' ducts tree3) new

-- a list of ears, whatever the ducts and tree 3 hold; the output is the count of ears accepted
abbrev pub Lists : (List ℕ → List ℕ → Memory) → List ℕ → ℕ → Refusal → (List ℕ → List ℕ → Memory) → ℕ → Type 0
Lists mem l old r mem' new = (ducts tree3 : List ℕ) → LinkRow ducts → Row tree3 → GivesList (called_with (mem ducts tree3) (ears l)) old r (mem' ducts tree3) new

-- close, whatever the ducts, the order and trees 1 and 2 hold
abbrev pub Closes : (List ℕ → List ℕ → List ℕ → List ℕ → Memory) → Refusal → (List ℕ → List ℕ → List ℕ → List ℕ → Memory) → Type 0
Closes mem r mem' = (ducts order tree1 tree2 : List ℕ) → LinkRow ducts → Row order → Row tree1 → Row tree2
    → Returns (called_with (mem ducts order tree1 tree2) (close shortest)) r (mem' ducts order tree1 tree2)

-- bringing over, whatever the ducts, the used links, the order and trees 1 and 2 hold
abbrev pub BringsOver : (List ℕ → List ℕ → List ℕ → List ℕ → List ℕ → Memory) → Refusal → (List ℕ → List ℕ → List ℕ → List ℕ → List ℕ → Memory) → Type 0
BringsOver mem r mem' = (ducts used order tree1 tree2 : List ℕ) → LinkRow ducts → LinkRow used → Row order → Row tree1 → Row tree2
    → Returns (called_with (mem ducts used order tree1 tree2) bring_over) r (mem' ducts used order tree1 tree2)

-- parent and walk, whatever the arrays beside the trees hold; the output is the entry, and the count of switches written
abbrev pub Tells : (List ℕ → List ℕ → List ℕ → List ℕ → List ℕ → Memory) → ℕ → ℕ → ℕ → Refusal → ℕ → Type 0
Tells mem switch tree old r new = (links ducts used births order : List ℕ) → length links ≡ 8192 → LinkRow ducts → LinkRow used → Row births → Row order
    → (let mem = mem links ducts used births order in
    Gives (sized (wrong_in mem) mem (record { answer = parent_by (session_at mem) switch tree; after = mem })) old r mem new)

abbrev pub WritesWalk : (List ℕ → List ℕ → List ℕ → List ℕ → List ℕ → Memory) → ℕ → ℕ → List ℕ → ℕ → Refusal → List ℕ → ℕ → Type 0
WritesWalk mem switch tree out old r out' new = (links ducts used births order : List ℕ) → length links ≡ 8192 → LinkRow ducts → LinkRow used → Row births → Row order
    → (let mem = mem links ducts used births order in
    Gives (sized (wrong_in mem) out (walked_by (session_at mem) switch tree out)) old r out' new)

-- zones, whatever the arrays beside births and order hold; there is no output
abbrev pub WritesZones : (List ℕ → List ℕ → List ℕ → List ℕ → List ℕ → List ℕ → Memory) → ℕ → ℕ → ℕ → List ℕ → Refusal → List ℕ → Type 0
WritesZones mem n₁ n₂ n₃ out r out' = (links ducts used tree1 tree2 tree3 : List ℕ) → length links ≡ 8192 → LinkRow ducts → LinkRow used → Row tree1 → Row tree2 → Row tree3
    → (let mem = mem links ducts used tree1 tree2 tree3 in
    Returns (sized (wrong_in mem) out (zoned_by (session_at mem) n₁ n₂ n₃ out)) r out')
