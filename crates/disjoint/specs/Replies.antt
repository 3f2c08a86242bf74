-- The call of document 02, Note 8, on a network: what it replies and what it leaves of the slice, with refusals 26 and 18, and what is
-- promised of it. The promise names nothing of how walks and things are found.
use Rattle.std.specs.Prelude.{◌≡◌, ◌⊎◌, ◌≢◌, Bool, ◌||◌, cond, List, ◌++◌, ℕ, ◌+◌, ◌≤◌, ◌<◌, eqb, ltb, leb, length, drop}
use Rattle.std.proofs.lemmas.List.Edits.{sets}
use Rattle.mondschein.specs.Network.{Network, Proper}
use Rattle.mondschein.specs.Routes.{Thing}
use Rattle.disjoint.specs.Paths.{Routes, walks, parted, ThreePaths, NoThree, Separates}
use Rattle.disjoint.specs.Matching.{routes_of}

-- what the call replies: the counts of the three walks, the things whose loss parts the two, or a refusal's number and place
pub data Reply : Type 0 where
  counts : ℕ → ℕ → ℕ → Reply
  things : List Thing → Reply
  refusal : ℕ → ℕ → Reply

-- the reply, and the slice after it
pub record Told : Type 0 where
  pub reply : Reply
  pub after : List ℕ

-- a refusal leaves the slice
abbrev pub refusing : ℕ → List ℕ → Told
refusing num out = record { reply = refusal num 0; after = out }

-- what is told of an answer
abbrev pub shown : Routes → Reply
shown (walks a b c) = counts (length a) (length b) (length c)
shown (parted xs) = things xs

-- what it leaves of the slice `out`: the walks one after another from its start on; the second answer leaves all of it
abbrev pub written : Routes → List ℕ → List ℕ
written (walks a b c) out = sets (sets (sets out 0 a) (length a) b) (length a + length b) c
written (parted xs) out = out

abbrev pub told_of : Routes → List ℕ → Told
told_of r out = record { reply = shown r; after = written r out }

-- 26: the two are equal, or one is N or more
unfoldable pub wrong_pair : ℕ → ℕ → ℕ → Bool
wrong_pair n s t = leb n s || (leb n t || eqb s t)

-- the call for the switches s and t with the slice `out`: 26, then 18, a slice shorter than N + 4, then the answer
unfoldable pub routes_into : Network → ℕ → ℕ → List ℕ → Told
routes_into net s t out =
    cond (wrong_pair net.n s t) (refusing 26 out) (cond (ltb (length out) (net.n + 4)) (refusing 18 out) (told_of (routes_of net s t) out))

-- the answer, whatever finds it: three walks, their counts, and the slice with the walks one after another at its start and the rest as it
-- was; or, only where no three such walks exist, things that part the two, and the slice as it was
abbrev pub Answered : Network → ℕ → ℕ → List ℕ → Told → Type 0
Answered net s t out r =
    ((w₁ w₂ w₃ : List ℕ) × ThreePaths net s t w₁ w₂ w₃ × (r.reply ≡ counts (length w₁) (length w₂) (length w₃))
    × (r.after ≡ w₁ ++ (w₂ ++ (w₃ ++ drop (length w₁ + length w₂ + length w₃) out))))
    ⊎ (NoThree net s t × ((xs : List Thing) × Separates net s t xs × (r.reply ≡ things xs) × (r.after ≡ out)))

-- Note 8 of one call: 26 where the two are no pair, then 18 where the slice is shorter than N + 4, and the answer everywhere else; a refusal
-- leaves the slice
pub record Promised (net : Network) (s t : ℕ) (out : List ℕ) (r : Told) : Type 0 where
  pub no_pair : (s ≡ t) ⊎ ((net.n ≤ s) ⊎ (net.n ≤ t)) → r ≡ refusing 26 out
  pub too_short : s ≢ t → s < net.n → t < net.n → length out < net.n + 4 → r ≡ refusing 18 out
  pub answered : s ≢ t → s < net.n → t < net.n → net.n + 4 ≤ length out → Answered net s t out r

-- Note 8 of the call on every proper network, with any numbers and any slice
abbrev pub Promise : (Network → ℕ → ℕ → List ℕ → Told) → Type 0
Promise call = (net : Network) → Proper net → (s t : ℕ) (out : List ℕ) → Promised net s t out (call net s t out)
