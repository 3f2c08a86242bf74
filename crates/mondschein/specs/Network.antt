-- Document 01, "Network and ears": bounded search, networks, first as facts and then as the tests that decide them, and ear lists.
-- Laws: proofs/Search.antt, proofs/Lists.antt, proofs/Links.antt, proofs/Births.antt.
use Rattle.std.specs.Prelude.{◌≡◌, ◌⊎◌, ◌≢◌, Bool, true, false, not, ◌&&◌, ◌||◌, cond, List, [], ◌∷◌, ◌++◌, ℕ, zero, suc, pred, ◌+◌, ◌*◌, ◌/◌, ◌≤◌, ◌<◌, eqb, ltb, length, get_or, take}

-- the lowest k below n that passes p, or n where none does
unfoldable pub low : (ℕ → Bool) → ℕ → ℕ
low p zero = zero
low p (suc n) = cond (p zero) zero (suc (low (λ k. p (suc k)) n))

-- some k below n passes p
unfoldable pub any : (ℕ → Bool) → ℕ → Bool
any p n = ltb (low p n) n

-- how many k below n pass p
unfoldable pub count : (ℕ → Bool) → ℕ → ℕ
count p zero = zero
count p (suc n) = cond (p n) (suc (count p n)) (count p n)

-- N switches, a table of links and the three named switches; the table is flat: link i joins its numbers 2 i and 2 i + 1
pub record Network : Type 0 where
  pub n : ℕ
  pub links : List ℕ
  pub root : ℕ
  pub first : ℕ
  pub last : ℕ

-- the number at index k
abbrev pub at : List ℕ → ℕ → ℕ
at l k = get_or l k 0

-- x stands in the list
abbrev pub In : List ℕ → ℕ → Type 0
In l x = (k : ℕ) × (k < length l) × (at l k ≡ x)

-- nothing stands twice in the list
abbrev pub Simple : List ℕ → Type 0
Simple l = (j k : ℕ) → j < length l → k < length l → at l j ≡ at l k → j ≡ k

unfoldable pub holds : List ℕ → ℕ → Bool
holds l x = any (λ k. eqb (at l k) x) (length l)

module _ (net : Network) where
  -- M
  unfoldable pub size : ℕ
  size = length net.links / 2

  -- the two ends of link i, as written
  unfoldable pub former : ℕ → ℕ
  former i = at net.links (2 * i)

  unfoldable pub latter : ℕ → ℕ
  latter i = at net.links (2 * i + 1)

  -- link i joins a and b, in either writing
  abbrev pub Joins : ℕ → ℕ → ℕ → Type 0
  Joins i a b = ((former i ≡ a) × (latter i ≡ b)) ⊎ ((former i ≡ b) × (latter i ≡ a))

  -- a and b are neighbours: a link joins them
  abbrev pub Adjacent : ℕ → ℕ → Type 0
  Adjacent a b = (i : ℕ) × (i < size) × Joins i a b

  -- link i joins two neighbours in the list
  abbrev pub Along : List ℕ → ℕ → Type 0
  Along l i = (k : ℕ) × (suc k < length l) × Joins i (at l k) (at l (suc k))

  unfoldable pub joins : ℕ → ℕ → ℕ → Bool
  joins i a b = eqb (former i) a && eqb (latter i) b || eqb (former i) b && eqb (latter i) a

  unfoldable pub joined : ℕ → ℕ → Bool
  joined a b = any (λ i. joins i a b) size

  unfoldable pub passes : List ℕ → ℕ → Bool
  passes l i = any (λ k. joins i (at l k) (at l (suc k))) (pred (length l))

  -- the lowest link that joins a and b, or M
  unfoldable pub link_of : ℕ → ℕ → ℕ
  link_of a b = low (λ i. joins i a b) size

  -- the network is one of document 01: its limits, its links and its three named switches
  pub record Proper : Type 0 where
    pub switches : (4 ≤ net.n) × (net.n ≤ 1024)
    pub whole : length net.links ≡ 2 * size
    pub table : (6 ≤ size) × (size ≤ 4096)
    pub inside : (i : ℕ) → i < size → (former i < net.n) × (latter i < net.n)
    pub different : (i : ℕ) → i < size → former i ≢ latter i
    pub once : (i j : ℕ) → i < size → j < size → Joins j (former i) (latter i) → j ≡ i
    pub named : (net.root < net.n) × (net.first < net.n) × (net.last < net.n)
    pub distinct : (net.root ≢ net.first) × (net.root ≢ net.last) × (net.first ≢ net.last)
    pub root_first : Adjacent net.root net.first
    pub root_last : Adjacent net.root net.last

-- ear lists, in order of time: the ears before ear i of es are `take i es`; a flag b says of an ear whether it is the first
abbrev pub Ears : Type 0
Ears = List (List ℕ)

abbrev pub ear_at : Ears → ℕ → List ℕ
ear_at es i = get_or es i []

-- x is born: some ear holds it
unfoldable pub born : Ears → ℕ → Bool
born es x = any (λ i. holds (ear_at es i) x) (length es)

-- the first ear that holds x, or the number of ears
unfoldable pub birth : Ears → ℕ → ℕ
birth es x = low (λ i. holds (ear_at es i) x) (length es)

-- the switches along an ear's links: the first ear is a cycle and comes back to its own beginning
unfoldable pub trail : Bool → List ℕ → List ℕ
trail true e = e ++ (at e 0 ∷ [])
trail false e = e

-- some ear uses link l
unfoldable pub used : Network → Ears → ℕ → Bool
used net es l = any (λ i. passes net (trail (eqb i 0) (ear_at es i)) l) (length es)

-- index k of an ear of c numbers is that of a new switch: all of the first ear, those between the ends of a later one
unfoldable pub is_new : Bool → ℕ → ℕ → Bool
is_new true c k = true
is_new false c k = ltb 0 k && ltb (suc k) c

-- how many indices those are
unfoldable pub new_count : Bool → ℕ → ℕ
new_count true c = c
new_count false c = pred (pred c)

-- the number of switches that e holds and no ear of es holds
unfoldable pub new_switches : Network → Ears → List ℕ → ℕ
new_switches net es e = count (λ x. holds e x && not (born es x)) net.n

-- how many long ears there are; an ear of two numbers is short, every other is long
unfoldable pub long_ears : Ears → ℕ
long_ears es = count (λ i. not (eqb (length (ear_at es i)) 2)) (length es)

-- birth numbered by long ears from 1, and 0 for the unborn
unfoldable pub long_birth : Ears → ℕ → ℕ
long_birth es x = cond (born es x) (long_ears (take (suc (birth es x)) es)) 0
