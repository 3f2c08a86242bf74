-- Laws of the zones call by the stage and by checks 24 and 18, in the code's terms: what it answers and what it leaves of the slice.
-- A refusal leaves the slice as it was; the zones stand in its first N places, and the rest is left.
use Rattle.std.proofs.Common.{◌≡◌, ℕ, ◌≤◌, ◌<◌, true, false, List, [], ◌++◌, length, take, drop, replicate, length-take-le, sym, ap, ap₂, ◌∙◌}
use Rattle.std.proofs.lemmas.List.{length-replicate}
use Rattle.mondschein.specs.Network.{at}
use Rattle.mondschein.specs.Judge.{given, refused}
use Rattle.mondschein.specs.Outcome.{over}
use Rattle.mondschein.proofs.Outcomes.{settle_refused, settle_given}
use Rattle.rows.proofs.Assigned.{assigned_length}
use Rattle.in_place.specs.declared.Stage.TheVariants.{Empty, Open, Closed}
use Rattle.in_place.specs.declared.Session.{Session}
use Rattle.in_place.specs.Session.{by_stage}
use Rattle.in_place.proofs.Answers.{on_empty_lem, on_open_lem, on_closed_lem}
use Rattle.session.specs.Program.{kept_order}
use Rattle.zones.specs.Cut.{birth_in, zone_in, zones_by}
use Rattle.zones.specs.Sizing.{wrong_sizes, sizing}
use Rattle.zones.proofs.Sizing.{sizing_24, sizing_18, sizing_given}
use Rattle.zoning.specs.Zoning.{zones_in, zoned_by}

-- as many zones as places
pub zones_length : (n : ℕ) (o : List ℕ) (b : ℕ → ℕ) (n₁ n₂ places : ℕ) → length (zones_by n o b n₁ n₂ places) ≡ places
unfolding zones_by
zones_length n o b n₁ n₂ places = assigned_length (replicate places 3) (at o) (zone_in n o b n₁ n₂) (length o) ∙ length-replicate {A = ℕ} places 3

module _ (s : Session) (n₁ n₂ n₃ : ℕ) (out : List ℕ) where
  pub zones_refused : {num place : ℕ} → by_stage s.stage (refused 19 0) (refused 21 0) (sizing s.n n₁ n₂ n₃ out) ≡ refused num place
      → record { answer = refused num place; after = out } ≡ zoned_by s n₁ n₂ n₃ out
  unfolding zoned_by
  zones_refused e = sym (settle_refused out _ e)

  pub zones_empty : s.stage ≡ Empty → record { answer = refused 19 0; after = out } ≡ zoned_by s n₁ n₂ n₃ out
  zones_empty q = zones_refused (on_empty_lem _ _ _ q)

  pub zones_open : s.stage ≡ Open → record { answer = refused 21 0; after = out } ≡ zoned_by s n₁ n₂ n₃ out
  zones_open q = zones_refused (on_open_lem _ _ _ q)

  module _ (q : s.stage ≡ Closed) where
    pub zones_24 : wrong_sizes s.n n₁ n₂ n₃ ≡ true → record { answer = refused 24 0; after = out } ≡ zoned_by s n₁ n₂ n₃ out
    zones_24 t = zones_refused (on_closed_lem _ _ _ q ∙ sizing_24 s.n n₁ n₂ n₃ out t)

    pub zones_18 : wrong_sizes s.n n₁ n₂ n₃ ≡ false → length out < s.n → record { answer = refused 18 0; after = out } ≡ zoned_by s n₁ n₂ n₃ out
    zones_18 f l = zones_refused (on_closed_lem _ _ _ q ∙ sizing_18 s.n n₁ n₂ n₃ out f l)

    pub zones_given : wrong_sizes s.n n₁ n₂ n₃ ≡ false → s.n ≤ length out
        → record { answer = given []; after = zones_in s n₁ n₂ ++ drop s.n out } ≡ zoned_by s n₁ n₂ n₃ out
    unfolding zoned_by zones_in
    zones_given f l =
        let zs = zones_in s n₁ n₂ in
        sym (settle_given out (over zs out) (on_closed_lem _ _ _ q ∙ sizing_given s.n n₁ n₂ n₃ out f l)
        ∙ ap (λ (k : ℕ). record { answer = given []; after = zs ++ drop k out }) (zones_length (length (take s.n s.births)) (kept_order s) (birth_in (take s.n s.births)) n₁ n₂ s.n))

    -- the same, of the prefixes that the code reads
    pub zones_written : {births order places : List ℕ} → wrong_sizes s.n n₁ n₂ n₃ ≡ false → s.n ≤ length out
        → births ≡ take s.n s.births → order ≡ take s.born s.order
        → places ≡ zones_by (length births) order (birth_in births) n₁ n₂ (length (take s.n out))
        → record { answer = given []; after = places ++ drop s.n out } ≡ zoned_by s n₁ n₂ n₃ out
    unfolding zones_in kept_order
    zones_written f l e g h =
        ap (λ (z : List ℕ). record { answer = given []; after = z ++ drop s.n out })
        (h
        ∙ ap₂ (λ (b o : List ℕ). zones_by (length b) o (birth_in b) n₁ n₂ (length (take s.n out))) e g
        ∙ ap (zones_by (length (take s.n s.births)) (kept_order s) (birth_in (take s.n s.births)) n₁ n₂) (length-take-le s.n out l))
        ∙ zones_given f l
