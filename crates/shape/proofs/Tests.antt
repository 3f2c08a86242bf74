-- What a link between two switches, or none, says of the tests of 10 and 11.
use Rattle.std.proofs.Common.{◌≡◌, ℕ, ◌<◌, Bool, true, not, ◌||◌, List, Option, Some, None, unwrap_or, IfSome, MatchOption, sym, ap, ap₂, ◌∙◌, arith, lt-ltb, le-ltb}
use Rattle.mondschein.specs.Network.{Network, size, joined, link_of}
use Rattle.mondschein.proofs.Links.{joined_link}
use Rattle.rows.specs.Rows.{marked}

-- the lowest link between a and b, or none
pub free_link : {Q : ℕ → Type 0} (net : Network) (used : List ℕ) (a b : ℕ) (r : Option ℕ) (x : Bool) → unwrap_or r (size net) ≡ link_of net a b → IfSome r (λ l. l < size net)
    → MatchOption r (x ≡ true) Q → ((l : ℕ) → Q l → x ≡ marked used l)
    → x ≡ (not (joined net a b) || marked used (link_of net a b))
free_link net used a b None x e w h t =
    h ∙ sym (ap (λ (j : Bool). not j || marked used (link_of net a b)) (joined_link net a b ∙ le-ltb _ _ (omega (arith, e))))
free_link net used a b (Some l) x e w h t =
    let i : l < size net = w in
    t l h
    ∙ sym (ap₂ (λ (j m : Bool). not j || m) (joined_link net a b ∙ lt-ltb _ _ (omega (arith, e, i))) (ap (marked used) (sym e)))
