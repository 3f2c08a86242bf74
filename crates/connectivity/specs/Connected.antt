-- Paths and connected sets of switches, of any set of switches and any links: what document 02, Note 4, calls to hang together by links
-- inside. Laws: proofs/Connected.antt.
use Rattle.std.specs.Prelude.{ℕ}

-- a path inside a set: each switch of it belongs to the set, and each next one is linked to the one before
pub data Path (Inside : ℕ → Type 0) (Linked : ℕ → ℕ → Type 0) : ℕ → ℕ → Type 0 where
  here : {x : ℕ} → Inside x → Path Inside Linked x x
  onward : {x y z : ℕ} → Inside x → Linked x y → Path Inside Linked y z → Path Inside Linked x z

-- a set is connected: between any two switches of it there is a path inside it
abbrev pub Connected : (ℕ → Type 0) → (ℕ → ℕ → Type 0) → Type 0
Connected Inside Linked = (x y : ℕ) → Inside x → Inside y → Path Inside Linked x y
