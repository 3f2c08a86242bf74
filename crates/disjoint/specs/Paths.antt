-- Document 02, Note 8, as relations: walks and paths between two switches, three paths that are disjoint but for their ends, and the things
-- whose loss parts the two switches. No way of finding them is named here.
use Rattle.std.specs.Prelude.{◌≡◌, ◌⊎◌, ◌≢◌, ◌↔◌, List, ℕ, suc, pred, ◌+◌, ◌≤◌, ◌<◌, length, get_or}
use Rattle.mondschein.specs.Network.{Network, at, In, Simple, size, Joins, Adjacent, Along, Proper}
use Rattle.mondschein.specs.Routes.{Thing, switch, link, Hits}

-- thing k of a list
abbrev pub thing_at : List Thing → ℕ → Thing
thing_at things k = get_or things k (switch 0)

-- the two answers: three walks, or what parts the two switches
pub data Routes : Type 0 where
  walks : List ℕ → List ℕ → List ℕ → Routes
  parted : List Thing → Routes

module _ (net : Network) (s t : ℕ) where
  -- a walk from s to t over links of the network; it may pass a switch or a link twice
  pub record Walk (w : List ℕ) : Type 0 where
    pub some : 0 < length w
    pub from : at w 0 ≡ s
    pub to : at w (pred (length w)) ≡ t
    pub linked : (k : ℕ) → suc k < length w → Adjacent net (at w k) (at w (suc k))

  -- a path: a walk with no switch twice
  pub record Path (w : List ℕ) : Type 0 where
    pub over : Walk w
    pub simple : Simple w

  -- two walks share no link, and no switch but the ends
  pub record Disjoint (w w' : List ℕ) : Type 0 where
    pub links : (l : ℕ) → Along net w l → Along net w' l → ⊥
    pub switches : (x : ℕ) → In w x → In w' x → (x ≡ s) ⊎ (x ≡ t)

  -- three walks from s to t, none with a switch twice, that share no link and no switch but the ends
  pub record ThreePaths (w₁ w₂ w₃ : List ℕ) : Type 0 where
    pub path₁ : Path w₁
    pub path₂ : Path w₂
    pub path₃ : Path w₃
    pub disjoint₁₂ : Disjoint w₁ w₂
    pub disjoint₁₃ : Disjoint w₁ w₃
    pub disjoint₂₃ : Disjoint w₂ w₃

  -- no three such walks exist
  abbrev pub NoThree : Type 0
  NoThree = (w₁ w₂ w₃ : List ℕ) → ThreePaths w₁ w₂ w₃ → ⊥

  -- another switch, or the direct link
  abbrev pub Other : Thing → Type 0
  Other (switch x) = (x < net.n) × (x ≢ s) × (x ≢ t)
  Other (link l) = (l < size net) × Joins net l s t

  -- at most two things whose loss parts s and t: every walk from s to t meets one of them
  pub record Separates (things : List Thing) : Type 0 where
    pub at_most : length things ≤ 2
    pub others : (k : ℕ) → k < length things → Other (thing_at things k)
    pub parts : (w : List ℕ) → Walk w → (k : ℕ) × (k < length things) × Hits net (thing_at things k) w

  -- an answer is right: the walks are three such walks, or the things part s and t
  abbrev pub Right : Routes → Type 0
  Right (walks w₁ w₂ w₃) = ThreePaths w₁ w₂ w₃
  Right (parted things) = Separates things

-- things part two switches only if no three such walks exist
abbrev pub Excludes : Type 0
Excludes = (net : Network) (s t : ℕ) (things : List Thing) → Separates net s t things → NoThree net s t

-- three such walks never hold more than N + 4 numbers
abbrev pub AtMost : Type 0
AtMost = (net : Network) → Proper net → (s t : ℕ) → s ≢ t → (w₁ w₂ w₃ : List ℕ) → ThreePaths net s t w₁ w₂ w₃ → length w₁ + length w₂ + length w₃ ≤ net.n + 4

-- the answers r, of every proper network and two of its switches, are right; and they are walks exactly where three such walks exist
abbrev pub RightAnswers : (Network → ℕ → ℕ → Routes) → Type 0
RightAnswers r = (net : Network) → Proper net → (s t : ℕ) → s < net.n → t < net.n → s ≢ t → Right net s t (r net s t)
    × (((w₁ w₂ w₃ : List ℕ) × (r net s t ≡ walks w₁ w₂ w₃)) ↔ ((w₁ w₂ w₃ : List ℕ) × ThreePaths net s t w₁ w₂ w₃))
