-- Laws of one line without the session: one more link or one too many, and the form that was read.
-- Lists at the start of a slice are read back by their count.
use Rattle.std.proofs.Common.{◌≡◌, ℕ, suc, ◌+◌, ◌*◌, ◌<◌, ◌≤◌, Bool, true, false, cond, ltb, List, [], ◌∷◌, ◌++◌, length, take, drop, set, Ok, Err, None, refl, sym, ap, ap₂, ◌∙◌, arith, append_assoc, length-set, length-take, add-one, take_at, take-suc-set, lt-ltb, le-ltb}
use Rattle.std.proofs.Math.Option.{Option, none, some}
use Rattle.in_place.specs.declared.Session.{Session}
use Rattle.lines.specs.Writing.{Form, net, link, ducted, opening, ear, closing, walk, clearing}
use Rattle.lines.specs.Reading.{reading}
use Rattle.lines.specs.declared.Form.TheVariants.{Link}
use Rattle.lines.specs.Line.{coded, held}
use Rattle.replies.specs.Replies.{unread, reply}
use Rattle.transcript.specs.Transcript.{Turn}
use Rattle.collect.specs.declared.Kept.{Kept}
use Rattle.collect.specs.declared.Unreadable.{Unreadable}
use Rattle.collect.specs.Dialogue.{Dialogue, with_links, silent, unread_at, collected, respond, turn}
use Rattle.collect.specs.Answering.{dialogue_in, requested, respond_to, Responds}

-- one more link, or one too many
module _ (d : Kept) (links ducts : List ℕ) (k a b duct : ℕ) (whole : length links ≡ 8192) (each : length ducts ≡ 4096) where
  -- what is collected with one link more
  abbrev grown : Session → List ℕ → List ℕ → Turn Dialogue
  grown s links' ducts' = silent (with_links (dialogue_in d s links ducts) links' ducts')

  counted : (s : Session) (full : Bool) → ltb (length (take (2 * d.count) links)) 8192 ≡ full
      → respond (dialogue_in d s links ducts) k (some (ducted a b duct))
      ≡ cond full (grown s (take (2 * d.count) links ++ (a ∷ b ∷ [])) (take d.count ducts ++ (duct ∷ []))) (unread_at (dialogue_in d s links ducts) k)
  unfolding respond collected
  counted s full =
      ap (λ (t : Bool). cond t (grown s (take (2 * d.count) links ++ (a ∷ b ∷ [])) (take d.count ducts ++ (duct ∷ []))) (unread_at (dialogue_in d s links ducts) k))

  pub link_full : (out : List ℕ) (u : Unreadable) → 4096 ≤ d.count → take u.written out ≡ reply (unread k) → Responds d links ducts k (Link a b duct) (Err u) links ducts out
  unfolding respond_to requested
  link_full out u h e s numbers =
      ap (λ (l : List ℕ). record { after = dialogue_in d s links ducts; printed = l; stops = true }) e
      ∙ sym (counted s false (le-ltb (length (take (2 * d.count) links)) 8192 (omega (arith, length-take (2 * d.count) links))))

  pair_taken : d.count < 4096 → take (2 * (d.count + 1)) (set (set links (2 * d.count) a) (2 * d.count + 1) b) ≡ take (2 * d.count) links ++ (a ∷ b ∷ [])
  pair_taken h =
      let i = 2 * d.count in
      let e : 2 * (d.count + 1) ≡ suc (suc i) = omega arith in
      rw (e, add-one i)
      (take-suc-set (set links i a) (suc i) b (omega (arith, length-set links i a))
      ∙ ap (λ (l : List ℕ). l ++ (b ∷ [])) (take-suc-set links i a (omega arith))
      ∙ append_assoc (take i links) (a ∷ []) (b ∷ []))

  duct_taken : d.count < 4096 → take (d.count + 1) (set ducts d.count duct) ≡ take d.count ducts ++ (duct ∷ [])
  duct_taken h = rw add-one (take-suc-set ducts d.count duct (omega arith))

  pub link_more : (out : List ℕ) → d.count < 4096
      → Responds d links ducts k (Link a b duct) (Ok (record { kept = record { n = d.n; root = d.root; first = d.first; last = d.last; count = d.count + 1 }; request = None }))
      (set (set links (2 * d.count) a) (2 * d.count + 1) b) (set ducts d.count duct) out
  unfolding respond_to requested
  link_more out h s numbers =
      ap₂ (grown s) (pair_taken h) (duct_taken h)
      ∙ sym (counted s true (lt-ltb (length (take (2 * d.count) links)) 8192 (omega (arith, length-take (2 * d.count) links))))

-- the form that was read, and an ear's numbers in a slice, lead to what the line leads to
pub coded_turn : (d : Dialogue) (k : ℕ) (s numbers : List ℕ) → respond_to d k (coded (reading s)) (held (reading s) numbers) ≡ turn d k s
unfolding turn respond_to respond
coded_turn d k s numbers = go (reading s)
  where
    go : (f : Option Form) → respond_to d k (coded f) (held f numbers) ≡ respond d k f
    go none = refl
    go (some (net n root first last)) = refl
    go (some (link a b)) = refl
    go (some (ducted a b duct)) = refl
    go (some opening) = refl
    go (some (ear e)) = ap (λ (l : List ℕ). respond d k (some (ear l))) (take_at e (drop (length e) numbers) (length e) refl)
    go (some closing) = refl
    go (some (walk switch tree)) = refl
    go (some clearing) = refl
