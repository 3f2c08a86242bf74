-- A line is read as a form exactly when it is the form's writing, with numbers up to 65535, a duct up to 255 and at most 6,144 bytes.
-- One law for each shape of form, in each direction.
use mathlib.Core.Path.{◌≡◌, refl, sym, ap, ◌∙◌, subst}
use mathlib.Core.Logic.{◌⊎◌, inl, inr, ⊎_elim}
use mathlib.Core.Bool.{Bool, true, false, cond}
use mathlib.Core.List.{List, [], ◌∷◌, ◌++◌, append_assoc, append-nil, map}
use mathlib.Core.Option.{Option, none, some}
use Prim.Native.Nat.{ℕ, ◌≤◌, ◌<◌}
use native.Mathlib.Omega.{arith}
use lib.Dec.{ltb}
use lib.ListN.{length}
use borrow.Author.Tests.{le-ltb, ltb-false}
use Rattle.lines.specs.Writing.{NET, ROOT, FIRST, LAST, LINK, DUCT, OPEN, EAR, CLOSE, WALK, CLEAR, decimal, spaced, separated, bracketed, Form, net, link, ducted, opening, ear, closing, walk, clearing, writing, numbers_of, duct_of}
use Rattle.lines.specs.Reading.{after, more, ends, Taken, spaced_number, named_number, TakenPair, ear_numbers, after_word, net_form, pair_numbers, pair_form, duct_form, link_form, bare_form, ear_form, bare_forms, other_forms, any_form, reading, Narrow, IsWriting, ReadExactly}
use Rattle.lines.proofs.Parts.{more_append, ends_bytes, after_bytes, spaced_bytes, spaced_part, named_before, named_bytes, named_part}
use Rattle.lines.proofs.EarNumbers.{numbers_bytes, numbers_part}

-- the bytes are the writing of a form, with numbers up to 65535 and a duct up to 255
abbrev Form·of : List ℕ → Form → Type 0
Form·of s f = (s ≡ writing f) × Narrow (numbers_of f) × (duct_of f ≤ 255)

never : {X : Type 0} {f : Form} → none ≡ some f → X
never e = let z : ◌≡◌ {A = ℕ} 0 1 = cc in absurd (omega arith)

-- a form that a test lets pass
passed : (b : Bool) {g f : Form} → cond b (some g) none ≡ some f → (b ≡ true) × (g ≡ f)
passed true e = (refl, cc)
passed false e = never e

split : (b : Bool) (x : Option Form) {y : Option Form} {f : Form} → cond b x y ≡ some f → (cond b x none ≡ some f) ⊎ (y ≡ some f)
split true x e = inl e
split false x e = inr e

either : (b : Bool) {x y : Option Form} {f : Form} → cond b x y ≡ some f → (x ≡ some f) ⊎ (y ≡ some f)
either true e = inl e
either false e = inr e

-- the opening bracket and a word
word_bytes : (word s : List ℕ) → more (after_word word s) ≡ true → s ≡ 40 ∷ (word ++ after_word word s)
word_bytes word s m =
    let w = after_bytes word (after (40 ∷ []) s) m in
    after_bytes (40 ∷ []) s (ap more w ∙ more_append word (after_word word s) m) ∙ ap (λ (l : List ℕ). 40 ∷ l) w

-- two numbers, each after one space, before s
abbrev pair_before : ℕ → ℕ → List ℕ → List ℕ
pair_before a b s = 32 ∷ (decimal a ++ (32 ∷ (decimal b ++ s)))

-- the opening bracket, a word and two numbers, before t
word_pair : List ℕ → TakenPair → List ℕ → List ℕ
word_pair word p t = 40 ∷ (word ++ pair_before p.a p.b t)

-- a word and two numbers were read, where t is left after them
pair_bytes : (word s : List ℕ) {t : List ℕ} → (let p = pair_numbers (after_word word s) in p.rest ≡ t → more t ≡ true → (s ≡ word_pair word p t) × (p.a ≤ 65535) × (p.b ≤ 65535))
unfolding pair_numbers word_pair
pair_bytes word s {t} e m =
    let rest = after_word word s in
    let a = spaced_number rest in
    let b = spaced_number a.rest in
    let second = spaced_bytes a.rest (ap more e ∙ m) in
    let first = spaced_bytes rest (ap more second.0) in (
      word_bytes word s (ap more first.0)
          ∙ ap (λ (l : List ℕ). 40 ∷ (word ++ l)) (first.0 ∙ ap (λ (l : List ℕ). 32 ∷ (decimal a.value ++ l)) (second.0 ∙ ap (λ (l : List ℕ). 32 ∷ (decimal b.value ++ l)) e)),
      first.1,
      second.1,
    )

pair_writing : (word : List ℕ) (a b : ℕ) → bracketed (word ∷ decimal a ∷ decimal b ∷ []) ≡ 40 ∷ (word ++ pair_before a b (41 ∷ []))
unfolding separated bracketed spaced
pair_writing word a b = simp append_assoc

ducted_writing : (a b duct : ℕ) → writing (ducted a b duct) ≡ 40 ∷ (LINK ++ pair_before a b (named_before DUCT duct (41 ∷ [])))
unfolding writing separated bracketed spaced
ducted_writing a b duct = simp append_assoc

net_writing : (n root first last : ℕ) → writing (net n root first last)
    ≡ 40 ∷ (NET ++ (32 ∷ (decimal n ++ named_before ROOT root (named_before FIRST first (named_before LAST last (41 ∷ []))))))
unfolding writing separated bracketed spaced
net_writing n root first last = simp append_assoc

-- a word with two numbers was read
pair_read : (word s : List ℕ) (form : ℕ → ℕ → Form) {f : Form} → ((a b : ℕ) → writing (form a b) ≡ bracketed (word ∷ decimal a ∷ decimal b ∷ []))
    → ((a b : ℕ) → numbers_of (form a b) ≡ a ∷ b ∷ []) → ((a b : ℕ) → duct_of (form a b) ≡ 0) → pair_form form (after_word word s) ≡ some f → Form·of s f
unfolding Narrow word_pair
pair_read word s form w ns d e =
    let p = pair_numbers (after_word word s) in
    let t = passed (ends p.rest) e in
    let (bytes, na, nb) = pair_bytes word s (ends_bytes p.rest t.0) refl in
    subst (Form·of s) t.1
    (bytes ∙ sym (pair_writing word p.a p.b) ∙ sym (w p.a p.b), rw (ns p.a p.b) (na, (nb, tt)), rw (d p.a p.b) (omega arith))

-- the word link was read with a duct after its two numbers
ducted_read : (s : List ℕ) {f : Form} → (let p = pair_numbers (after_word LINK s) in duct_form p.a p.b p.rest ≡ some f → Form·of s f)
unfolding duct_form Narrow word_pair
ducted_read s {f} e = go (ltb 255 duct.value) refl e
  where
    p : TakenPair
    p = pair_numbers (after_word LINK s)

    duct : Taken
    duct = named_number DUCT p.rest

    go : (b : Bool) → ltb 255 duct.value ≡ b → cond b none (cond (ends duct.rest) (some (ducted p.a p.b duct.value)) none) ≡ some f → Form·of s f
    go true l e₁ = never e₁
    go false l e₁ =
        let t = passed (ends duct.rest) e₁ in
        let end = ends_bytes duct.rest t.0 in
        let d = named_bytes DUCT p.rest (ap more end) in
        let (bytes, na, nb) = pair_bytes LINK s (d.0 ∙ ap (named_before DUCT duct.value) end) refl in
        subst (Form·of s) t.1 (bytes ∙ sym (ducted_writing p.a p.b duct.value), (na, (nb, (d.1, tt))), ltb-false 255 duct.value l)

-- the word link was read
link_read : (s : List ℕ) {f : Form} → link_form (after_word LINK s) ≡ some f → Form·of s f
unfolding link_form writing
link_read s e =
    let p = pair_numbers (after_word LINK s) in
    ⊎_elim (pair_read LINK s link (λ a b. refl) (λ a b. refl) (λ a b. refl)) (ducted_read s)
    (split (ends p.rest) (some (link p.a p.b)) e)

-- a word with no number was read
bare_read : (word s : List ℕ) (form : Form) {f : Form} → writing form ≡ bracketed (word ∷ []) → numbers_of form ≡ [] → duct_of form ≡ 0
    → bare_form form (after_word word s) ≡ some f → Form·of s f
unfolding Narrow separated bracketed spaced
bare_read word s form w ns d e =
    let p = passed (ends (after_word word s)) e in
    let end = ends_bytes (after_word word s) p.0 in
    subst (Form·of s) p.1
    (word_bytes word s (ap more end) ∙ ap (λ (l : List ℕ). 40 ∷ (word ++ l)) end ∙ sym (w ∙ ap (λ (l : List ℕ). 40 ∷ (l ++ (41 ∷ []))) (append-nil word)), rw ns tt, rw d (omega arith))

net_read : (s : List ℕ) {f : Form} → net_form (after_word NET s) ≡ some f → Form·of s f
unfolding net_form Narrow
net_read s e =
    let rest = after_word NET s in
    let n = spaced_number rest in
    let root = named_number ROOT n.rest in
    let first = named_number FIRST root.rest in
    let last = named_number LAST first.rest in
    let p = passed (ends last.rest) e in
    let end = ends_bytes last.rest p.0 in
    let l = named_bytes LAST first.rest (ap more end) in
    let f = named_bytes FIRST root.rest (ap more l.0) in
    let r = named_bytes ROOT n.rest (ap more f.0) in
    let c = spaced_bytes rest (ap more r.0) in
    subst (Form·of s) p.1 (
      word_bytes NET s (ap more c.0)
          ∙ ap (λ (t : List ℕ). 40 ∷ (NET ++ t)) (c.0
          ∙ ap (λ (t : List ℕ). 32 ∷ (decimal n.value ++ t)) (r.0
          ∙ ap (named_before ROOT root.value) (f.0
          ∙ ap (named_before FIRST first.value) (l.0
          ∙ ap (named_before LAST last.value) end))))
          ∙ sym (net_writing n.value root.value first.value last.value),
      (c.1, (r.1, (f.1, (l.1, tt)))),
      omega arith,
    )

ear_read : (s : List ℕ) {f : Form} → ear_form (after_word EAR s) ≡ some f → Form·of s f
unfolding writing separated bracketed
ear_read s e =
    let rest = after_word EAR s in
    let before = spaced (map decimal (ear_numbers rest).list) in
    let p = passed (ends (ear_numbers rest).rest) e in
    let n = numbers_bytes rest in
    let t : rest ≡ before ++ (41 ∷ []) = n.0 ∙ ap (λ (l : List ℕ). before ++ l) (ends_bytes (ear_numbers rest).rest p.0) in
    subst (Form·of s) p.1 (word_bytes EAR s (ap more t ∙ more_append before (41 ∷ []) refl) ∙ ap (λ (l : List ℕ). 40 ∷ (EAR ++ l)) t, n.1, omega arith)

-- a line that is read as a form is its writing
form_read : (s : List ℕ) {f : Form} → any_form s ≡ some f → Form·of s f
unfolding any_form other_forms bare_forms writing
form_read s e =
    ⊎_elim (ear_read s) (λ e₁.
    ⊎_elim (link_read s) (λ e₂.
    ⊎_elim (pair_read WALK s walk (λ a b. refl) (λ a b. refl) (λ a b. refl)) (λ e₃.
    ⊎_elim (net_read s) (λ e₄.
    ⊎_elim (bare_read OPEN s opening refl refl refl) (λ e₅.
    ⊎_elim (bare_read CLOSE s closing refl refl refl) (bare_read CLEAR s clearing refl refl refl)
    (either (more (after_word CLOSE s)) e₅))
    (either (more (after_word OPEN s)) e₄))
    (either (more (after_word NET s)) e₃))
    (either (more (after_word WALK s)) e₂))
    (either (more (after_word LINK s)) e₁))
    (either (more (after_word EAR s)) e)

read_bytes : (s : List ℕ) (f : Form) → reading s ≡ some f → IsWriting f s
unfolding reading
read_bytes s f e = go (ltb 6144 (length s)) refl e
  where
    go : (b : Bool) → ltb 6144 (length s) ≡ b → cond b none (any_form s) ≡ some f → IsWriting f s
    go true l e₁ = never e₁
    go false l e₁ = let r = form_read s e₁ in record { bytes = r.0; narrow = r.1; duct = r.2; short = ltb-false 6144 (length s) l }

pair_before_lem : (a b x : ℕ) (s : List ℕ) → a ≤ 65535 → b ≤ 65535 → x < 48 → pair_numbers (pair_before a b (x ∷ s)) ≡ record { a = a; b = b; rest = x ∷ s }
unfolding pair_numbers
pair_before_lem a b x s h g l = rw (spaced_part a 32 (decimal b ++ (x ∷ s)) h (omega arith), spaced_part b x s g l)

pair_part : (form : ℕ → ℕ → Form) (a b : ℕ) → a ≤ 65535 → b ≤ 65535 → pair_form form (pair_before a b (41 ∷ [])) ≡ some (form a b)
pair_part form a b h g = rw (pair_before_lem a b 41 [] h g (omega arith))

link_part : (a b : ℕ) → a ≤ 65535 → b ≤ 65535 → link_form (pair_before a b (41 ∷ [])) ≡ some (link a b)
unfolding link_form
link_part a b h g = rw (pair_before_lem a b 41 [] h g (omega arith))

ducted_part : (a b duct : ℕ) → a ≤ 65535 → b ≤ 65535 → duct ≤ 255 → link_form (pair_before a b (named_before DUCT duct (41 ∷ []))) ≡ some (ducted a b duct)
unfolding link_form duct_form
ducted_part a b duct h g d =
    rw (pair_before_lem a b 32 (40 ∷ (DUCT ++ (32 ∷ (decimal duct ++ (41 ∷ 41 ∷ []))))) h g (omega arith), named_part DUCT duct (41 ∷ []) (omega arith), le-ltb 255 duct d)

net_part : (n root first last : ℕ) → Narrow (n ∷ root ∷ first ∷ last ∷ [])
    → net_form (32 ∷ (decimal n ++ named_before ROOT root (named_before FIRST first (named_before LAST last (41 ∷ []))))) ≡ some (net n root first last)
unfolding net_form Narrow
net_part n root first last (c, (r, (f, (l, w)))) =
    rw (
      spaced_part n 32 (40 ∷ (ROOT ++ (32 ∷ (decimal root ++ (41 ∷ named_before FIRST first (named_before LAST last (41 ∷ []))))))) c (omega arith),
      named_part ROOT root (named_before FIRST first (named_before LAST last (41 ∷ []))) r,
      named_part FIRST first (named_before LAST last (41 ∷ [])) f,
      named_part LAST last (41 ∷ []) l,
    )

-- the writing of a form is read as the form
form_part : (f : Form) → Narrow (numbers_of f) → duct_of f ≤ 255 → any_form (writing f) ≡ some f
unfolding any_form other_forms bare_forms writing separated bracketed spaced after Narrow
form_part (net n root first last) w d = ap any_form (net_writing n root first last) ∙ net_part n root first last w
form_part (link a b) w d = ap any_form (pair_writing LINK a b) ∙ link_part a b w.0 w.1.0
form_part (ducted a b duct) w d = ap any_form (ducted_writing a b duct) ∙ ducted_part a b duct w.0 w.1.0 d
form_part opening w d = refl
form_part (ear []) w d = rw (numbers_part [] w)
form_part (ear (n ∷ ns)) w d = rw (numbers_part (n ∷ ns) w)
form_part closing w d = refl
form_part (walk switch tree) w d = ap any_form (pair_writing WALK switch tree) ∙ pair_part walk switch tree w.0 w.1.0
form_part clearing w d = refl

pub read_exactly : ReadExactly
unfolding reading
read_exactly s f = (read_bytes s f, λ w. rw (w.bytes, le-ltb 6144 (length (writing f)) (rw w.bytes at w.short)) (form_part f w.narrow w.duct))
