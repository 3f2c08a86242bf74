-- Document 01, "Order, tables and walks", with document 02, Note 6, as relations: the rules of the order and of the three tables of a list
-- of ears, and what demand 3 says of tables and walks. Trees are numbered 1 to 3: `p t v` is the entry of switch v in table t, `w t v` its walk.
use Rattle.std.specs.Prelude.{◌≡◌, ◌⊎◌, ◌≢◌, ◌↔◌, List, [], ◌∷◌, ◌++◌, reverse, ℕ, zero, suc, pred, ◌≤◌, ◌<◌, length}
use Rattle.mondschein.specs.Network.{Network, at, In, Simple, size, Joins, Adjacent, Along, Ears, ear_at}
use Rattle.mondschein.specs.Order.{between, Rule, lowest, shortest}
use Rattle.mondschein.specs.Mondschein.{Birth}

abbrev pub Tree : ℕ → Type 0
Tree t = (1 ≤ t) × (t ≤ 3)

-- a comes earlier than b in the list
abbrev pub Earlier : List ℕ → ℕ → ℕ → Type 0
Earlier o a b = (j k : ℕ) × (j < k) × (k < length o) × (at o j ≡ a) × (at o k ≡ b)

-- b follows directly on a in the list
abbrev pub Next : List ℕ → ℕ → ℕ → Type 0
Next c a b = (k : ℕ) × (suc k < length c) × (at c k ≡ a) × (at c (suc k) ≡ b)

-- c is the ear e written from A, the end that comes earlier in the order o, to B, the other
pub record FromA (o e c : List ℕ) : Type 0 where
  pub turned : (c ≡ e) ⊎ (c ≡ reverse e)
  pub upward : Earlier o (at c 0) (at c (pred (length c)))

-- o' is the order o with the new switches of e, from A to B, inserted directly after A
pub record Inserted (o e o' : List ℕ) : Type 0 where
  pub course : List ℕ
  pub from_a : FromA o e course
  pub front : List ℕ
  pub back : List ℕ
  pub old : o ≡ front ++ (at course 0 ∷ back)
  pub grown : o' ≡ front ++ (at course 0 ∷ (between course ++ back))

-- the order of switches: `o i` is the order after the first i ears
module _ (net : Network) (es : Ears) (o : ℕ → List ℕ) where
  pub record OrderRules : Type 0 where
    -- it begins as the first ear as written, and each later ear is inserted
    pub starts : o 1 ≡ ear_at es 0
    pub inserts : (i : ℕ) → 0 < i → i < length es → Inserted (o i) (ear_at es i) (o (suc i))
    -- so in the end it goes from root to first, and every born switch stands in it once
    pub begins : at (o (length es)) 0 ≡ net.root
    pub ends : at (o (length es)) (pred (length (o (length es)))) ≡ net.first
    pub once : Simple (o (length es))
    pub holds_born : (x : ℕ) → In (o (length es)) x ↔ ((i : ℕ) × (i < length es) × In (ear_at es i) x)

  -- c is ear i from A to B; the first ear as written
  abbrev pub Course : ℕ → List ℕ → Type 0
  Course zero c = c ≡ ear_at es 0
  Course (suc i) c = FromA (o (suc i)) (ear_at es (suc i)) c

-- a walk is the switch, followed by the walk of its parent; the walk of the root is the root only
pub data Walk (root : ℕ) (p : ℕ → ℕ) : ℕ → List ℕ → Type 0 where
  arrived : Walk root p root (root ∷ [])
  onward : {v : ℕ} {w : List ℕ} → v ≢ root → Walk root p (p v) w → Walk root p v (v ∷ w)

module _ (net : Network) (es : Ears) where
  -- y is a neighbour of v born in a later ear
  pub record LaterBorn (v y : ℕ) : Type 0 where
    pub below : y < net.n
    pub adjacent : Adjacent net v y
    pub later : (i j : ℕ) × Birth es i v × Birth es j y × (i < j)

  -- a choice of later-born neighbours as tree 3
  pub record Third (p : ℕ → ℕ) : Type 0 where
    pub root : p net.root ≡ net.root
    pub last : p net.last ≡ net.root
    pub other : (v : ℕ) → v < net.n → v ≢ net.root → v ≢ net.last → LaterBorn v (p v)

  -- document 01's: none is lower
  pub record LowestThird (p : ℕ → ℕ) : Type 0 where
    pub third : Third p
    pub least : (v : ℕ) → v < net.n → v ≢ net.root → v ≢ net.last → (y : ℕ) → LaterBorn v y → p v ≤ y

  -- Note 6's: none has a shorter third walk of its own, by this very table, and none of those with as short a one is lower
  pub record ShortestThird (p : ℕ → ℕ) : Type 0 where
    pub third : Third p
    pub least : (v : ℕ) → v < net.n → v ≢ net.root → v ≢ net.last → (y : ℕ) → LaterBorn v y → (w w' : List ℕ) → Walk net.root p (p v) w → Walk net.root p y w'
        → (length w < length w') ⊎ ((length w ≡ length w') × (p v ≤ y))

  -- tree 3 by the rule
  abbrev pub ThirdBy : Rule → (ℕ → ℕ) → Type 0
  ThirdBy lowest p = LowestThird p
  ThirdBy shortest p = ShortestThird p

  -- the three tables, with the order o and tree 3 by the rule
  pub record TableRules (rule : Rule) (o : ℕ → List ℕ) (p : ℕ → ℕ → ℕ) : Type 0 where
    pub root : (t : ℕ) → Tree t → p t net.root ≡ net.root
    pub tree1 : (v : ℕ) → v < net.n → v ≢ net.root → (i : ℕ) × (c : List ℕ) × Birth es i v × Course net es o i c × Next c (p 1 v) v
    pub tree2 : (v : ℕ) → v < net.n → v ≢ net.root → v ≢ net.first → (i : ℕ) × (c : List ℕ) × Birth es i v × Course net es o i c × Next c v (p 2 v)
    pub first2 : p 2 net.first ≡ net.root
    pub tree3 : ThirdBy rule (p 3)

-- k steps, each from a switch to its entry
unfoldable pub steps : (ℕ → ℕ) → ℕ → ℕ → ℕ
steps p zero v = v
steps p (suc k) v = steps p k (p v)

-- what can fail
pub data Thing : Type 0 where
  switch : ℕ → Thing
  link : ℕ → Thing

module _ (net : Network) where
  -- the table p is a tree that spans the network
  pub record Spanning (p : ℕ → ℕ) : Type 0 where
    pub rooted : p net.root ≡ net.root
    pub linked : (v : ℕ) → v < net.n → v ≢ net.root → Adjacent net v (p v)
    pub reaches : (v : ℕ) → v < net.n → (k : ℕ) × (k ≤ pred net.n) × (steps p k v ≡ net.root)

  -- link l lies in the tree p
  abbrev pub Lies : (ℕ → ℕ) → ℕ → Type 0
  Lies p l = (v : ℕ) × (v < net.n) × (v ≢ net.root) × Joins net l v (p v)

  -- two walks of v share no link, and no switch but the ends
  pub record Apart (v : ℕ) (w w' : List ℕ) : Type 0 where
    pub links : (l : ℕ) → Along net w l → Along net w' l → ⊥
    pub switches : (x : ℕ) → In w x → In w' x → (x ≡ v) ⊎ (x ≡ net.root)

  -- a link, or a switch other than v and the root
  abbrev pub Other : ℕ → Thing → Type 0
  Other v (switch x) = (x ≢ v) × (x ≢ net.root)
  Other v (link l) = Unit {0}

  -- the failed thing stands in the walk, or is one of its links
  abbrev pub Hits : Thing → List ℕ → Type 0
  Hits (switch x) w = In w x
  Hits (link l) w = Along net w l

  -- the walk is whole when f and f' failed
  abbrev pub Whole : Thing → Thing → List ℕ → Type 0
  Whole f f' w = (Hits f w → ⊥) × (Hits f' w → ⊥)

  -- demand 3 of three tables and their walks
  pub record ThreeRoutes (p : ℕ → ℕ → ℕ) (w : ℕ → ℕ → List ℕ) : Type 0 where
    pub trees : (t : ℕ) → Tree t → Spanning (p t)
    pub walks : (t : ℕ) → Tree t → (v : ℕ) → v < net.n → Walk net.root (p t) v (w t v)
    pub at_most : (t : ℕ) → Tree t → (v : ℕ) → v < net.n → pred (length (w t v)) ≤ pred net.n
    pub apart : (t t' : ℕ) → Tree t → Tree t' → t ≢ t' → (v : ℕ) → v < net.n → v ≢ net.root → Apart v (w t v) (w t' v)
    pub one_whole : (v : ℕ) → v < net.n → v ≢ net.root → (f f' : Thing) → Other v f → Other v f' → (t : ℕ) × Tree t × Whole f f' (w t v)
    pub no_common : (l : ℕ) → l < size net → ((t : ℕ) → Tree t → Lies (p t) l) → ⊥
