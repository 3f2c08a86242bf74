-- Loading a flat table of link records is loading their ends and their ducts: `records_loaded`.
-- Records that there is no room for are refused like any table of so many links.
use mathlib.Core.Path.{◌≡◌, refl, sym, ap, ◌∙◌}
use mathlib.Core.Logic.{⊎_elim}
use mathlib.Core.List.{List, []}
use Prim.Native.Nat.{ℕ, ◌≤◌, ◌<◌}
use native.Mathlib.Omega.{arith}
use lib.ListN.{length, take}
use lib.Seq.{take_all}
use Rattle.mondschein.specs.Network.{Network, size}
use Rattle.mondschein.specs.Judge.{Answer, refused, loading}
use Rattle.mondschein.specs.Outcome.{Outcome, granted, settle}
use Rattle.mondschein.proofs.Logic.{less?}
use Rattle.network.specs.Load.{network_of}
use Rattle.records.specs.declared.Link.{Link}
use Rattle.records.specs.Records.{ends_of, ducts_of, flat_of, numbers_of}
use Rattle.records.proofs.Records.{ends_length, ducts_length, flat_ends, flat_ducts, numbers_whole, numbers_none}
use Rattle.in_place.specs.declared.Stage.{Stage}
use Rattle.in_place.specs.declared.Stage.TheVariants.{Empty, Open, Closed}
use Rattle.in_place.specs.declared.Session.{Session}
use Rattle.in_place.specs.Session.{session_of, zeros, padded, no_tables, opened_with, by_stage, loaded_by}
use Rattle.loading.proofs.Loads.{few_links, many_links, load_1}

-- the ducts of a network's links are all that is stored of the ducts
same_ducts : (s : Session) (net : Network) (ducts ducts' : List ℕ) → take (size net) ducts ≡ take (size net) ducts' → loaded_by s net ducts ≡ loaded_by s net ducts'
unfolding loaded_by opened_with
same_ducts s net ducts ducts' q = ap (λ (d : List ℕ). settle s (opened_with_lem d) (by_stage s.stage (loading net) (refused 20 0) (refused 20 0))) q
  where
    opened_with_lem : List ℕ → Session
    opened_with_lem d =
        session_of Open (record { n = net.n; m = size net; root = net.root; first = net.first; last = net.last; links = padded 8192 net.links; ducts = padded 4096 d })
        no_tables (zeros 1024)

-- what is refused leaves the session, whatever was to be stored
refused_alike : (s next next' : Session) (stage : Stage) → settle s next (by_stage stage (refused 1 0) (refused 20 0) (refused 20 0)) ≡ settle s next' (by_stage stage (refused 1 0) (refused 20 0) (refused 20 0))
unfolding settle granted by_stage
refused_alike s next next' Empty = refl
refused_alike s next next' Open = refl
refused_alike s next next' Closed = refl

both_refused : (s : Session) (net net' : Network) (ducts ducts' : List ℕ) → loading net ≡ refused 1 0 → loading net' ≡ refused 1 0 → loaded_by s net ducts ≡ loaded_by s net' ducts'
unfolding loaded_by
both_refused s net net' ducts ducts' q q' =
    let by : Session → Answer → Outcome Session = λ next a. settle s next (by_stage s.stage a (refused 20 0) (refused 20 0)) in
    ap (by (opened_with net ducts)) q ∙ refused_alike s _ _ s.stage ∙ sym (ap (by (opened_with net' ducts')) q')

module _ (s : Session) (n : ℕ) (ls : List Link) (root first last : ℕ) where
  abbrev read : List ℕ
  read = take (numbers_of (length ls)) (flat_of ls).ends

  all_read : length ls ≤ 4096 → read ≡ ends_of ls
  all_read h = ap (λ (k : ℕ). take k (flat_of ls).ends) (numbers_whole (length ls) h) ∙ flat_ends ls h

  none_read : 4096 < length ls → read ≡ []
  none_read h = ap (λ (k : ℕ). take k (flat_of ls).ends) (numbers_none (length ls) h)

  size_of : size (network_of n (ends_of ls) root first last) ≡ length ls
  unfolding size
  size_of = omega (arith, ends_length ls)

  pub records_loaded : loaded_by s (network_of n read root first last) (flat_of ls).ducts ≡ loaded_by s (network_of n (ends_of ls) root first last) (ducts_of ls)
  records_loaded = ⊎_elim too_many enough (less? 4096 (length ls))
    where
      too_many : 4096 < length ls → loaded_by s (network_of n read root first last) (flat_of ls).ducts ≡ loaded_by s (network_of n (ends_of ls) root first last) (ducts_of ls)
      too_many h =
          ap (λ (l : List ℕ). loaded_by s (network_of n l root first last) (flat_of ls).ducts) (none_read h)
          ∙ both_refused s _ _ _ _ (load_1 n [] root first last (few_links n [] (omega arith))) (load_1 n (ends_of ls) root first last (many_links n (ends_of ls) (omega (arith, ends_length ls))))

      enough : length ls ≤ 4096 → loaded_by s (network_of n read root first last) (flat_of ls).ducts ≡ loaded_by s (network_of n (ends_of ls) root first last) (ducts_of ls)
      enough h =
          ap (λ (l : List ℕ). loaded_by s (network_of n l root first last) (flat_of ls).ducts) (all_read h)
          ∙ same_ducts s (network_of n (ends_of ls) root first last) (flat_of ls).ducts (ducts_of ls)
          (ap (λ (k : ℕ). take k (flat_of ls).ducts) size_of ∙ flat_ducts ls h ∙ sym (ap (λ (k : ℕ). take k (ducts_of ls)) size_of ∙ take_all (length ls) (ducts_of ls) (omega (arith, ducts_length ls))))
