-- What the code stores is the session that the definitions say: arrays of zeros, and a network with its table and its index.
use Rattle.std.proofs.Common.{◌≡◌, ℕ, ◌*◌, ◌-◌, ◌/◌, List, [], ◌++◌, length, take, drop, sym, ap, ◌∙◌, subst}
use Rattle.std.proofs.lemmas.List.{take_at, drop-replicate}
use Rattle.mondschein.specs.Network.{size}
use Rattle.network.specs.Load.{network_of, table_of}
use Rattle.network.specs.Index.{Indexed}
use Rattle.tables.specs.Tables.{tables_of}
use Rattle.in_place.specs.declared.Stage.{Stage}
use Rattle.in_place.specs.declared.Stage.TheVariants.{Empty, Open}
use Rattle.in_place.specs.declared.State.{State}
use Rattle.in_place.specs.Session.{Stored, session_of, zeros, padded, no_tables, none_stored, stored_of, empty_session, opened_with}
use Rattle.in_place.specs.InPlace.{session_in, empty_state, SizedAs, Paired, IndexedIn}

-- the state that has loaded a network
abbrev pub open_state : ℕ → List ℕ → ℕ → ℕ → ℕ → State
open_state n links root first last =
    record { stage = Open; n = n; m = length links / 2; root = root; first = first; last = last; longs = 0; born = 0 }

-- arrays of zeros, of the lengths that a session's have
module _ {l d u b o p q t : List ℕ} (z : SizedAs l d u b o p q t) {u' b' o' p' q' t' : List ℕ}
    (e : (u' ≡ zeros (length u)) × (b' ≡ zeros (length b)) × (o' ≡ zeros (length o)) × (p' ≡ zeros (length p)) × (q' ≡ zeros (length q)) × (t' ≡ zeros (length t))) where
  cleared : (stage : Stage) (k : Stored) → session_of stage k (tables_of u' 0 b' 0 o' p' q') t' ≡ session_of stage k no_tables (zeros 1024)
  cleared stage k =
      ap (λ (x : List ℕ). session_of stage k (tables_of x 0 b' 0 o' p' q') t') (e.0 ∙ ap zeros z.used)
      ∙ ap (λ (x : List ℕ). session_of stage k (tables_of (zeros 4096) 0 x 0 o' p' q') t') (e.1 ∙ ap zeros z.births)
      ∙ ap (λ (x : List ℕ). session_of stage k (tables_of (zeros 4096) 0 (zeros 1024) 0 x p' q') t') (e.2 ∙ ap zeros z.order)
      ∙ ap (λ (x : List ℕ). session_of stage k (tables_of (zeros 4096) 0 (zeros 1024) 0 (zeros 1024) x q') t') (e.3 ∙ ap zeros z.tree1)
      ∙ ap (λ (x : List ℕ). session_of stage k (tables_of (zeros 4096) 0 (zeros 1024) 0 (zeros 1024) (zeros 1024) x) t') (e.4 ∙ ap zeros z.tree2)
      ∙ ap (λ (x : List ℕ). session_of stage k no_tables x) (e.5 ∙ ap zeros z.tree3)

  -- with no network
  pub emptied : {r : State} {l' d' : List ℕ} → r ≡ empty_state → l' ≡ zeros (length l) → d' ≡ zeros (length d) → session_in r l' d' u' b' o' p' q' t' ≡ empty_session
  emptied {r} {l'} {d'} a f g =
      ap (λ (st : State). session_in st l' d' u' b' o' p' q' t') a
      ∙ ap (λ (x : List ℕ). session_in empty_state x d' u' b' o' p' q' t') (f ∙ ap zeros z.links)
      ∙ ap (λ (x : List ℕ). session_in empty_state (zeros 8192) x u' b' o' p' q' t') (g ∙ ap zeros z.ducts)
      ∙ cleared Empty none_stored

  -- with a network and the ducts of its links
  pub stored : (n : ℕ) (links ducts : List ℕ) (root first last : ℕ) {l' d' : List ℕ} → l' ≡ padded (length l) links → d' ≡ padded (length d) (take (length links / 2) ducts)
      → session_in (open_state n links root first last) l' d' u' b' o' p' q' t' ≡ opened_with (network_of n links root first last) ducts
  unfolding opened_with size
  stored n links ducts root first last {l'} {d'} f g =
      let st = open_state n links root first last in
      ap (λ (x : List ℕ). session_in st x d' u' b' o' p' q' t') (f ∙ ap (λ (k : ℕ). padded k links) z.links)
      ∙ ap (λ (x : List ℕ). session_in st (padded 8192 links) x u' b' o' p' q' t') (g ∙ ap (λ (k : ℕ). padded k (take (length links / 2) ducts)) z.ducts)
      ∙ cleared Open (stored_of (network_of n links root first last) ducts)

-- a list at the start of a row of zeros
pub put_in_zeros : (c : ℕ) (l : List ℕ) {row row' : List ℕ} → row ≡ zeros c → row' ≡ l ++ drop (length l) row → row' ≡ padded c l
put_in_zeros c l q p = p ∙ ap (λ (r : List ℕ). l ++ drop (length l) r) q ∙ ap (λ (r : List ℕ). l ++ r) (drop-replicate (length l) c 0)

-- the index of the numbers that were lent is that of the links that are stored
pub index_stored : (n : ℕ) (links : List ℕ) (root first last c : ℕ) {l' index : List ℕ} → Paired links → l' ≡ padded c links → Indexed (table_of links) index
    → IndexedIn (open_state n links root first last) l' index
index_stored n links root first last c {l'} {index} w f i =
    let back : take (2 * (length links / 2)) l' ≡ links =
    ap (take (2 * (length links / 2))) f ∙ take_at links (zeros (c - length links)) (2 * (length links / 2)) (sym w.whole) in
    subst (λ (x : List ℕ). Indexed (table_of x) index) (sym back) i

-- the index of no link
pub index_none : {r : State} {index : List ℕ} → r ≡ empty_state → Indexed (table_of []) index → (l' : List ℕ) → IndexedIn r l' index
index_none {index = index} q i l' = subst (λ (st : State). IndexedIn st l' index) (sym q) i
