-- The transcript of threeways: a line that is too long is the same to it as its first 6,145 bytes, and is the last that is read.
-- So the bytes of an input, one after another, print its transcript.
use Rattle.std.proofs.Common.{◌≡◌, ℕ, ◌<◌, ◌≤◌, Bool, true, cond, List, length, take, sym, ap, ◌∙◌, ⊎_elim, arith, length-take, take_all, lt-ltb}
use Rattle.std.proofs.Math.Option.{none}
use Rattle.std.proofs.lemmas.Bool.{cases_lt}
use Rattle.lines.specs.Reading.{any_form, reading}
use Rattle.transcript.specs.Transcript.{PrintsTranscript}
use Rattle.transcript.proofs.Transcripts.{prints_transcript}
use Rattle.collect.specs.Dialogue.{Dialogue, respond, turn}

cut_turn : (d : Dialogue) (k : ℕ) (l : List ℕ) → turn d k (take 6145 l) ≡ turn d k l
unfolding turn reading
cut_turn d k l =
    ⊎_elim
    (λ (g : 6144 < length l).
    ap (respond d k)
    (ap (λ (b : Bool). cond b none (any_form (take 6145 l))) (lt-ltb 6144 (length (take 6145 l)) (omega (arith, length-take 6145 l)))
    ∙ sym (ap (λ (b : Bool). cond b none (any_form l)) (lt-ltb 6144 (length l) g))))
    (λ (g : length l ≤ 6144). ap (λ (s : List ℕ). turn d k s) (take_all 6145 l (omega arith)))
    (cases_lt 6144 (length l))

stop_turn : (d : Dialogue) (k : ℕ) (l : List ℕ) → 6144 < length l → (turn d k l).stops ≡ true
unfolding turn reading respond
stop_turn d k l g = ap (λ (b : Bool). (respond d k (cond b none (any_form l))).stops) (lt-ltb 6144 (length l) g)

pub prints_threeways : PrintsTranscript turn
prints_threeways = prints_transcript turn cut_turn stop_turn
