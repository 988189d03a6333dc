-- Which bodies of a rule are there.
use Rattle.std.proofs.Common.{◌≡◌, ℕ, ◌<◌, true, false, not, ◌||◌, eqb, ltb, List, [], ◌∷◌, length, sym, refl, ap, ◌∙◌, subst, ⊎_elim, arith}
use Rattle.std.proofs.lemmas.Bool.{false≢true, or_cases, or_left, or_right, eqb-true, eqb-false, eq-eqb, ne_eqb, ltb-true, lt-ltb, cond-true, cond-false, cond_both, not_from_false}
use Rattle.model.specs.Rules.{present, holds}
use Rattle.model.specs.Formed.{gap, body_above}
use Rattle.model.specs.Pins.{OneOf, first, later, Body, AfterAbsent, absent, beyond}
use Rattle.model.proofs.Cases.{by_test}

further : {b c : ℕ} {bs : List ℕ} → Body b bs → Body b (c ∷ bs)
further h = record { one = later h.one; there = h.there }

-- what is held is there
pub held_body : (bs : List ℕ) (t : ℕ) → holds (present bs) t ≡ true → Body t bs
held_body [] t h = absurd (false≢true h)
held_body (b ∷ bs) t h =
    let here : eqb b 0 ≡ false → eqb b t ≡ true → Body t (b ∷ bs) = λ z e. let same = eqb-true b t e in record { one = subst (λ x. OneOf x (b ∷ bs)) same first; there = λ q. eqb-false b 0 z (same ∙ q) } in
    let there : eqb b 0 ≡ false → (eqb b t || holds (present bs) t) ≡ true → Body t (b ∷ bs) = λ z i. ⊎_elim (here z) (λ q. further (held_body bs t q)) (or_cases (eqb b t) (holds (present bs) t) i) in
    cond_both (eqb b 0) (present bs) (b ∷ present bs) (λ l. holds l t ≡ true → Body t (b ∷ bs)) (λ _ q. further (held_body bs t q)) there h

held_first : (b : ℕ) (bs : List ℕ) → (b ≡ 0 → ⊥) → holds (present (b ∷ bs)) b ≡ true
held_first b bs ne = ap (λ l. holds l b) (cond-false (eqb b 0) (present bs) (b ∷ present bs) (ne_eqb b 0 ne)) ∙ or_left (eqb b b) (holds (present bs) b) (eq-eqb b b refl)

held_later : (t b : ℕ) (bs : List ℕ) → holds (present bs) t ≡ true → holds (present (b ∷ bs)) t ≡ true
held_later t b bs h = cond_both (eqb b 0) (present bs) (b ∷ present bs) (λ l. holds l t ≡ true) (λ _. h) (λ _. or_right (eqb b t) (holds (present bs) t) h)

held_one : {t : ℕ} {bs : List ℕ} → OneOf t bs → (t ≡ 0 → ⊥) → holds (present bs) t ≡ true
held_one (first {r = b} {rs = bs}) ne = held_first b bs ne
held_one {t} (later {q = b} {rs = bs} i) ne = held_later t b bs (held_one i ne)

pub body_held : {t : ℕ} {bs : List ℕ} → Body t bs → holds (present bs) t ≡ true
body_held h = held_one h.one h.there

-- what is held of a list is one of it, and the other way round
pub holds_one : (bs : List ℕ) (t : ℕ) → holds bs t ≡ true → OneOf t bs
holds_one [] t h = absurd (false≢true h)
holds_one (b ∷ bs) t h = ⊎_elim (λ e. subst (λ x. OneOf x (b ∷ bs)) (eqb-true b t e) first) (λ q. later (holds_one bs t q)) (or_cases (eqb b t) (holds bs t) h)

pub one_holds : {t : ℕ} {bs : List ℕ} → OneOf t bs → holds bs t ≡ true
one_holds (first {r = b} {rs = bs}) = or_left (eqb b b) (holds bs b) (eq-eqb b b refl)
one_holds {t} (later {q = b} {rs = bs} i) = or_right (eqb b t) (holds bs t) (one_holds i)

-- one of the bodies is above n
pub above_body : (n : ℕ) (bs : List ℕ) → body_above n bs ≡ true → (b : ℕ) × OneOf b bs × (n < b)
above_body n [] h = absurd (false≢true h)
above_body n (b ∷ bs) h =
    ⊎_elim (λ e. (b, first, ltb-true n b e)) (λ q. let rest = above_body n bs q in (rest.0, later rest.1, rest.2)) (or_cases (ltb n b) (body_above n bs) h)

pub body_is_above : (n : ℕ) {b : ℕ} {bs : List ℕ} → OneOf b bs → n < b → body_above n bs ≡ true
body_is_above n {b} (first {rs = bs}) less = or_left (ltb n b) (body_above n bs) (lt-ltb n b less)
body_is_above n (later {q = q} {rs = bs} i) less = or_right (ltb n q) (body_above n bs) (body_is_above n i less)

-- where some are there, one is
some_present : (bs : List ℕ) → not (eqb (length (present bs)) 0) ≡ true → (b : ℕ) × Body b bs
some_present [] h = absurd (false≢true h)
some_present (b ∷ bs) h =
    let gone : not (eqb (length (present bs)) 0) ≡ true → (c : ℕ) × Body c (b ∷ bs) = λ q. let rest = some_present bs q in (rest.0, further rest.1) in
    cond_both (eqb b 0) (present bs) (b ∷ present bs) (λ l. not (eqb (length l) 0) ≡ true → (c : ℕ) × Body c (b ∷ bs)) (λ _. gone) (λ z _. (b, record { one = first; there = eqb-false b 0 z })) h

present_some : (b : ℕ) (bs : List ℕ) → holds bs b ≡ true → not (eqb (length bs) 0) ≡ true
present_some b [] h = absurd (false≢true h)
present_some b (c ∷ bs) h = not_from_false (eqb (length (c ∷ bs)) 0) (ne_eqb (length (c ∷ bs)) 0 (omega arith))

pub gap_absent : (bs : List ℕ) → gap bs ≡ true → AfterAbsent bs
gap_absent [] h = absurd (false≢true h)
gap_absent (b ∷ bs) h =
    let hole : eqb b 0 ≡ true → not (eqb (length (present bs)) 0) ≡ true → AfterAbsent (b ∷ bs) = λ z q. subst (λ x. AfterAbsent (x ∷ bs)) (sym (eqb-true b 0 z)) (absent (some_present bs q).1) in
    cond_both (eqb b 0) (not (eqb (length (present bs)) 0)) (gap bs) (λ c. c ≡ true → AfterAbsent (b ∷ bs)) hole (λ _ q. beyond (gap_absent bs q)) h

-- bodies with a gap have some that are there
gap_some : (bs : List ℕ) → gap bs ≡ true → not (eqb (length (present bs)) 0) ≡ true
gap_some [] h = absurd (false≢true h)
gap_some (b ∷ bs) h =
    let absent-first : eqb b 0 ≡ true → gap (b ∷ bs) ≡ true → not (eqb (length (present (b ∷ bs))) 0) ≡ true = λ z q. ap (λ l. not (eqb (length l) 0)) (cond-true (eqb b 0) (present bs) (b ∷ present bs) z) ∙ sym (cond-true (eqb b 0) (not (eqb (length (present bs)) 0)) (gap bs) z) ∙ q in
    let there-first : eqb b 0 ≡ false → not (eqb (length (present (b ∷ bs))) 0) ≡ true = λ z. ap (λ l. not (eqb (length l) 0)) (cond-false (eqb b 0) (present bs) (b ∷ present bs) z) ∙ present_some b (b ∷ present bs) (or_left (eqb b b) (holds (present bs) b) (eq-eqb b b refl)) in
    by_test (eqb b 0) (λ z. absent-first z h) there-first

pub absent_gap : {bs : List ℕ} → AfterAbsent bs → gap bs ≡ true
absent_gap (absent {b = b} {bs = bs} h) = present_some b (present bs) (body_held h)
absent_gap (beyond {b = b} {bs = bs} h) =
    cond_both (eqb b 0) (not (eqb (length (present bs)) 0)) (gap bs) (λ c. c ≡ true) (λ _. gap_some bs (absent_gap h)) (λ _. absent_gap h)
