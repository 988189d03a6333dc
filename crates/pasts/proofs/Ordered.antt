-- The first check that is met, with what the checks before it found.
use Rattle.std.proofs.Common.{◌≡◌, ℕ, suc, ◌-◌, ◌<◌, ◌≤◌, true, false, not, ◌&&◌, ◌||◌, eqb, ◌⊎◌, List, [], ◌∷◌, ◌++◌, length, get_or, Some, sym, refl, ap, ◌∙◌, subst, inl, inr, ⊎_elim, arith}
use Rattle.std.proofs.lemmas.Bool.{false≢true, both_ways, or_cases, or_parts, and_parts, and_cases, and_from, and_left, and_right, not-true, not-false, not_from_false, eqb-true, eqb-false, eq-eqb, ne_eqb, ltb-true, ltb-false, lt-ltb, le-ltb, cond-true, cond-false, cases_eq}
use Rattle.scales.specs.Meaning.{Meaning}
use Rattle.model.specs.Formed.{malformed, malformed_place}
use Rattle.model.specs.Pins.{OneOf, first as at_first, later, Body, AfterAbsent, absent, beyond, Malformed}
use Rattle.model.specs.Least.{On}
use Rattle.model.specs.declared.rule.Rule.{Rule}
use Rattle.model.proofs.Cases.{by_test}
use Rattle.model.proofs.Pinned.{malformed_is}
use Rattle.pasts.specs.Refusals.{Check, first, outside, number}
use Rattle.pasts.specs.Tables.{Tables, count, blank, rule_at, body_checks, call_checks, checks}
use Rattle.pasts.specs.Calls.{refused, done}
use Rattle.pasts.specs.Rows.{InLimits, InOrder, GoodTables, Placeable, Due, due_lengths, due_place, due_add_mark, due_add_full, due_add_head, due_add_body, due_add_gap, due_withdraw_mark, due_withdraw_blank, due_want, due_step, due_read, due_read_shut, RefusalsAreDue, DueIsRefused}
use Rattle.pasts.specs.declared.refusal.Refusal.{Refusal}
use Rattle.pasts.specs.declared.refusal.Refusal.TheVariants.{TableLength, MalformedPlace, NoSuchStatement, NoSuchMark, PlaceTaken, PlaceBlank, BodyAfterAbsent, NothingActive, NotOpen}
use Rattle.pasts.specs.declared.call.Call.{Call}
use Rattle.pasts.specs.declared.call.Call.TheVariants.{Add, Withdraw, Want, Step, Finish, Read}
use Rattle.pasts.proofs.Checked.{inside_on, on_inside}
use Rattle.pasts.proofs.Refusing.{off_outside, bad_met, lengths_met}
use Rattle.pasts.proofs.Clearing.{limits_unmet}

-- one of the checks refuses with r, and none before it is met
abbrev FirstMet : Refusal → List Check → Type 0
FirstMet r [] = ⊥
FirstMet r (c ∷ cs) = ((c.refusal ≡ r) × (c.met ≡ true)) ⊎ ((c.met ≡ false) × FirstMet r cs)

first_met : (cs : List Check) (r : Refusal) → first cs ≡ Some r → FirstMet r cs
first_met [] r e = cc
first_met (c ∷ cs) r e =
    let here : c.met ≡ true → FirstMet r (c ∷ cs) = λ q. let s : Some c.refusal ≡ Some r = sym (cond-true c.met (Some c.refusal) (first cs) q) ∙ e in inl (cc, q) in
    by_test c.met here (λ q. inr (q, first_met cs r (sym (cond-false c.met (Some c.refusal) (first cs) q) ∙ e)))

first_is : (cs : List Check) (r : Refusal) → FirstMet r cs → first cs ≡ Some r
first_is [] r h = absurd h
first_is (c ∷ cs) r h =
    elim h [
      | inl q ↦ cond-true c.met (Some c.refusal) (first cs) q.1 ∙ ap Some q.0
      | inr q ↦ cond-false c.met (Some c.refusal) (first cs) q.0 ∙ first_is cs r q.1
    ]

off : (n s : ℕ) → outside n s ≡ true → On n s → ⊥
off n s out on = both_ways _ (on_inside n s on) out

-- what is in a list with a first element
no_one : {a : ℕ} → OneOf a [] → ⊥
no_one i = elim i [ ]

one_split : {a : ℕ} {bs : List ℕ} → OneOf a bs → (x : ℕ) (cs : List ℕ) → bs ≡ x ∷ cs → (a ≡ x) ⊎ OneOf a cs
one_split (at_first {rs = rs}) x cs e = inl (cc)
one_split {a} (later {rs = rs} i) x cs e = let same : rs ≡ cs = cc in inr (subst (λ l. OneOf a l) same i)

abbrev SomeBody : List ℕ → Type 0
SomeBody bs = (y : ℕ) × Body y bs

gap_split : {bs : List ℕ} → AfterAbsent bs → (x : ℕ) (cs : List ℕ) → bs ≡ x ∷ cs → ((x ≡ 0) × SomeBody cs) ⊎ AfterAbsent cs
gap_split (absent {b = y} {bs = bs} b) x cs e = let same : bs ≡ cs = cc in let none : x ≡ 0 = cc in inl (none, (y, subst (λ l. Body y l) same b))
gap_split (beyond {bs = bs} a) x cs e = let same : bs ≡ cs = cc in inr (subst AfterAbsent same a)

no_gap_alone : (x : ℕ) → AfterAbsent (x ∷ []) → ⊥
no_gap_alone x a = ⊎_elim (λ p. no_one p.1.1.one) (λ b. elim b [ ]) (gap_split a x [] refl)

-- after an absent body only absent ones pass
zero_next : (x b : ℕ) → (eqb x 0 && not (eqb b 0)) ≡ false → x ≡ 0 → b ≡ 0
zero_next x b ok e = ⊎_elim (λ q. absurd (both_ways _ q (eq-eqb x 0 e))) (λ q. eqb-true b 0 (not-false (eqb b 0) q)) (and_cases (eqb x 0) (not (eqb b 0)) ok)

-- what is amiss with the body b, where x and the bodies `left` come before it
abbrev Fault : ℕ → ℕ → List ℕ → ℕ → Refusal → Type 0
Fault n x left b r =
    ((NoSuchStatement ≡ r) × (n < b)) ⊎ ((BodyAfterAbsent ≡ r) × OneOf {A = ℕ} 0 (x ∷ left) × (b ≡ 0 → ⊥) × (b ≤ n))

record Split (n x : ℕ) (bs : List ℕ) (r : Refusal) : Type 0 where
  pub left : List ℕ
  pub body : ℕ
  pub right : List ℕ
  pub whole : bs ≡ left ++ (body ∷ right)
  pub low : (b : ℕ) → OneOf b left → b ≤ n
  pub flush : AfterAbsent (x ∷ left) → ⊥
  pub fault : Fault n x left body r

split_here : (n x b : ℕ) (bs : List ℕ) (r : Refusal) → Fault n x [] b r → Split n x (b ∷ bs) r
split_here n x b bs r f = record { left = []; body = b; right = bs; whole = refl; low = λ c i. absurd (no_one i); flush = no_gap_alone x; fault = f }

gap_fault : (n x b : ℕ) (r : Refusal) → b ≤ n → BodyAfterAbsent ≡ r → (eqb x 0 && not (eqb b 0)) ≡ true → Fault n x [] b r
gap_fault n x b r low e q =
    let parts = and_parts (eqb x 0) (not (eqb b 0)) q in
    inr (e, subst (λ y. OneOf {A = ℕ} 0 (y ∷ [])) (sym (eqb-true x 0 parts.0)) at_first, eqb-false b 0 (not-true (eqb b 0) parts.1), low)

split_on : (n x b : ℕ) (bs : List ℕ) (r : Refusal) → b ≤ n → (x ≡ 0 → b ≡ 0) → Split n b bs r → Split n x (b ∷ bs) r
split_on n x b bs r low next s =
    let still : (x ≡ 0) × SomeBody (b ∷ s.left) → ⊥ =
    λ p. let gone : b ≡ 0 = next p.0 in ⊎_elim (λ e. p.1.1.there (e ∙ gone)) (λ j. s.flush (subst (λ z. AfterAbsent (z ∷ s.left)) (sym gone) (absent (record { one = j; there = p.1.1.there })))) (one_split p.1.1.one b s.left refl) in
    record {
      left = b ∷ s.left;
      body = s.body;
      right = s.right;
      whole = ap (λ l. b ∷ l) s.whole;
      low = λ c i. ⊎_elim (λ e. subst (λ y. y ≤ n) (sym e) low) (λ j. s.low c j) (one_split i b s.left refl);
      flush = λ a. ⊎_elim still (λ g. s.flush g) (gap_split a x (b ∷ s.left) refl);
      fault = ⊎_elim (λ f. inl f) (λ f. inr (f.0, later f.1, f.2, f.3)) s.fault;
    }

bodies_split : (n x : ℕ) (bs : List ℕ) (r : Refusal) → FirstMet r (body_checks n (eqb x 0) bs) → Split n x bs r
bodies_split n x [] r h = absurd h
bodies_split n x (b ∷ bs) r h =
    elim h [
      | inl q ↦ split_here n x b bs r (inl (q.0, ltb-true n b q.1))
      | inr h2 ↦
          elim h2.1 [
            | inl q ↦ split_here n x b bs r (gap_fault n x b r (ltb-false n b h2.0) q.0 q.1)
            | inr h3 ↦ split_on n x b bs r (ltb-false n b h2.0) (zero_next x b h3.0) (bodies_split n b bs r h3.1)
          ]
    ]

-- and back
bodies_first : (n x : ℕ) (left : List ℕ) (b : ℕ) (right : List ℕ) (r : Refusal) → ((c : ℕ) → OneOf c left → c ≤ n) → (AfterAbsent (x ∷ left) → ⊥) → Fault n x left b r → FirstMet r (body_checks n (eqb x 0) (left ++ (b ∷ right)))
bodies_first n x [] b right r low flush f =
    let gone : OneOf {A = ℕ} 0 (x ∷ []) → x ≡ 0 = λ i. ⊎_elim (λ e. sym e) (λ j. absurd (no_one j)) (one_split i x [] refl) in
    ⊎_elim (λ p. inl (p.0, lt-ltb n b p.1)) (λ p. inr (le-ltb n b p.3, inl (p.0, and_from (eqb x 0) (not (eqb b 0)) (eq-eqb x 0 (gone p.1)) (not_from_false (eqb b 0) (ne_eqb b 0 p.2))))) f
bodies_first n x (a ∷ left) b right r low flush f =
    let next : x ≡ 0 → a ≡ 0 = λ e. ⊎_elim (λ z. z) (λ ne. absurd (flush (subst (λ y. AfterAbsent (y ∷ a ∷ left)) (sym e) (absent (record { one = at_first; there = ne }))))) (cases_eq a 0) in
    let ok : (eqb x 0 && not (eqb a 0)) ≡ false = by_test (eqb x 0) (λ q. and_right (eqb x 0) (not (eqb a 0)) (ap not (eq-eqb a 0 (next (eqb-true x 0 q))))) (λ q. and_left (eqb x 0) (not (eqb a 0)) q) in
    let stays : OneOf {A = ℕ} 0 (x ∷ a ∷ left) → OneOf {A = ℕ} 0 (a ∷ left) = λ i. ⊎_elim (λ e. subst (λ y. OneOf {A = ℕ} 0 (y ∷ left)) (sym (next (sym e))) at_first) (λ j. j) (one_split i x (a ∷ left) refl) in
    let rest : Fault n a left b r = ⊎_elim (λ p. inl p) (λ p. inr (p.0, stays p.1, p.2, p.3)) f in
    inr (le-ltb n a (low a at_first), inr (ok, bodies_first n a left b right r (λ c i. low c (later i)) (λ g. flush (beyond g)) rest))

-- where the first body stands after none
not_first : (left : List ℕ) → OneOf {A = ℕ} 0 (1 ∷ left) → OneOf {A = ℕ} 0 left
not_first left i = ⊎_elim (λ e. absurd (omega (arith, e))) (λ j. j) (one_split i 1 left refl)

not_first_gap : (left : List ℕ) → (AfterAbsent left → ⊥) → AfterAbsent (1 ∷ left) → ⊥
not_first_gap left flush a = ⊎_elim (λ p. omega (arith, p.0)) flush (gap_split a 1 left refl)

module _ {G : Type 0} (m : Meaning G) where
  bad_in : (n : ℕ) (rules : List (Rule G)) → malformed n rules ≡ true → (i : ℕ) × (i < length rules) × (malformed_place n (get_or rules i (blank m)) ≡ true)
  bad_in n [] h = absurd (false≢true h)
  bad_in n (r ∷ rs) h =
      ⊎_elim (λ q. (0, omega arith, q)) (λ q. let rest = bad_in n rs q in (suc rest.0, omega (arith, rest.1), rest.2)) (or_cases (malformed_place n r) (malformed n rs) h)

  bad_at : (t : Tables G) → malformed (count t) t.rules ≡ true → (k : ℕ) × On (length t.rules) k × ((rule_at m t k).head ≡ 0 → ⊥) × Malformed (count t) (rule_at m t k)
  bad_at t h =
      let bad = bad_in (count t) t.rules h in
      let i = bad.0 in
      let back : suc i - 1 ≡ i = omega arith in
      let here : malformed_place (count t) (rule_at m t (suc i)) ≡ true = subst (λ j. malformed_place (count t) (get_or t.rules j (blank m)) ≡ true) (sym back) bad.2 in
      let is = (malformed_is (count t) (rule_at m t (suc i))).0 here in
      let on : On (length t.rules) (suc i) = omega (arith, bad.1) in
      (suc i, on, is.0, is.1)

  bodies_due : (t : Tables G) (k : ℕ) (q : Rule G) (r : Refusal) → Placeable m t k q → FirstMet r (body_checks (count t) false q.bodies) → Due m t (Add k q) (number r)
  bodies_due t k q r ready h =
      let s = bodies_split (count t) 1 q.bodies r h in
      let order : InOrder (count t) s.left = record { low = s.low; flush = λ a. s.flush (beyond a) } in
      ⊎_elim
      (λ f. subst (λ x. Due m t (Add k q) (number x)) f.0 (due_add_body {b = s.body} s.left s.right ready s.whole order f.1))
      (λ f. subst (λ x. Due m t (Add k q) (number x)) f.0 (due_add_gap {b = s.body} s.left s.right ready s.whole order (not_first s.left f.1) f.2 f.3))
      s.fault

  add_due : (t : Tables G) (k : ℕ) (q : Rule G) (r : Refusal) → GoodTables m t → FirstMet r (call_checks m (Add k q) t) → Due m t (Add k q) (number r)
  add_due t k q r good h =
      let at : (x : Refusal) → x ≡ r → Due m t (Add k q) (number x) → Due m t (Add k q) (number r) = λ x e. subst (λ y. Due m t (Add k q) (number y)) e in
      let on : outside (length t.rules) k ≡ false → On (length t.rules) k = inside_on (length t.rules) k in
      let free : not (eqb (rule_at m t k).head 0) ≡ false → (rule_at m t k).head ≡ 0 = λ e. eqb-true (rule_at m t k).head 0 (not-false _ e) in
      elim h [
        | inl p ↦ at NoSuchMark p.0 (due_add_mark good (off _ k p.1))
        | inr h2 ↦
            elim h2.1 [
              | inl p ↦ at PlaceTaken p.0 (due_add_full good (on h2.0) (eqb-false _ 0 (not-true _ p.1)))
              | inr h3 ↦
                  elim h3.1 [
                    | inl p ↦ at NoSuchStatement p.0 (due_add_head good (on h2.0) (free h3.0) (off _ q.head p.1))
                    | inr h4 ↦ bodies_due t k q r (record { good = good; place = on h2.0; free = free h3.0; on_head = inside_on (count t) q.head h4.0 }) h4.1
                  ]
            ]
      ]

  call_due : (t : Tables G) (c : Call G) (r : Refusal) → GoodTables m t → FirstMet r (call_checks m c t) → Due m t c (number r)
  call_due t (Add k q) r good h = add_due t k q r good h
  call_due t (Withdraw k) r good h =
      let at : (x : Refusal) → x ≡ r → Due m t (Withdraw k) (number x) → Due m t (Withdraw k) (number r) = λ x e. subst (λ y. Due m t (Withdraw k) (number y)) e in
      ⊎_elim (λ p. at NoSuchMark p.0 (due_withdraw_mark good (off _ k p.1))) (λ h2. ⊎_elim (λ p. at PlaceBlank p.0 (due_withdraw_blank good (inside_on (length t.rules) k h2.0) (eqb-true _ 0 p.1))) (λ none. absurd none.1) h2.1) h
  call_due t (Want s) r good h = ⊎_elim (λ p. subst (λ y. Due m t (Want s) (number y)) p.0 (due_want good (off _ s p.1))) (λ none. absurd none.1) h
  call_due t Step r good h = ⊎_elim (λ p. subst (λ y. Due m t Step (number y)) p.0 (due_step good (not-true _ p.1))) (λ none. absurd none.1) h
  call_due t Finish r good h = absurd h
  call_due t (Read s) r good h =
      let at : (x : Refusal) → x ≡ r → Due m t (Read s) (number x) → Due m t (Read s) (number r) = λ x e. subst (λ y. Due m t (Read s) (number y)) e in
      ⊎_elim (λ p. at NoSuchStatement p.0 (due_read good (off _ s p.1))) (λ h2. ⊎_elim (λ p. at NotOpen p.0 (due_read_shut good (inside_on (count t) s h2.0) (not-true _ p.1))) (λ none. absurd none.1) h2.1) h

  limits_met : (t : Tables G) → (outside 1024 (count t) || outside 4096 (length t.rules)) ≡ false → InLimits t
  limits_met t e = let parts = or_parts (outside 1024 (count t)) (outside 4096 (length t.rules)) e in (inside_on 1024 (count t) parts.0, inside_on 4096 (length t.rules) parts.1)

  well_placed : (t : Tables G) → malformed (count t) t.rules ≡ false → (k : ℕ) → On (length t.rules) k → ((rule_at m t k).head ≡ 0 → ⊥) → Malformed (count t) (rule_at m t k) → ⊥
  well_placed t e k on ne bad = both_ways _ e (bad_met m (count t) t.rules (k - 1) (omega arith) ((malformed_is (count t) (rule_at m t k)).1 ne bad))

  due_first : (t : Tables G) (c : Call G) (r : Refusal) → FirstMet r (checks m c t) → Due m t c (number r)
  due_first t c r h =
      elim h [
        | inl p ↦ subst (λ y. Due m t c (number y)) p.0 (due_lengths (λ on. both_ways _ (limits_unmet t on) p.1))
        | inr h2 ↦
            elim h2.1 [
              | inl p ↦ let bad = bad_at t p.1 in subst (λ y. Due m t c (number y)) p.0 (due_place (limits_met t h2.0) bad.1 bad.2 bad.3)
              | inr h3 ↦ call_due t c r (record { lengths = limits_met t h2.0; places = well_placed t h3.0 }) h3.1
            ]
      ]

  pub refusals_are_due : (degree : ℕ → G) (t : Tables G) → RefusalsAreDue m degree t
  refusals_are_due degree t c u r (refused e) = due_first t c r (first_met (checks m c t) r e)
  refusals_are_due degree t c u r (done ok d) = elim d [ ]

  good_unmet : (t : Tables G) → GoodTables m t → malformed (count t) t.rules ≡ false
  good_unmet t good = by_test (malformed (count t) t.rules) (λ e. let bad = bad_at t e in absurd (good.places bad.0 bad.1 bad.2 bad.3)) (λ e. e)

  after_tables : (t : Tables G) (c : Call G) (r : Refusal) → GoodTables m t → FirstMet r (call_checks m c t) → FirstMet r (checks m c t)
  after_tables t c r good h = inr (limits_unmet t good.lengths, inr (good_unmet t good, h))

  after_head : (t : Tables G) (k : ℕ) (q : Rule G) (r : Refusal) (left : List ℕ) (b : ℕ) (right : List ℕ) → Placeable m t k q → q.bodies ≡ left ++ (b ∷ right) → InOrder (count t) left → Fault (count t) 1 left b r → FirstMet r (checks m (Add k q) t)
  after_head t k q r left b right ready e order f =
      let bodies : FirstMet r (body_checks (count t) false q.bodies) = subst (λ l. FirstMet r (body_checks (count t) false l)) (sym e) (bodies_first (count t) 1 left b right r order.low (not_first_gap left order.flush) f) in
      after_tables t (Add k q) r ready.good (inr (on_inside (length t.rules) k ready.place, inr (ap not (eq-eqb (rule_at m t k).head 0 ready.free), inr (on_inside (count t) q.head ready.on_head, bodies))))

  abbrev Refusing : Tables G → Call G → ℕ → Type 0
  Refusing t c k = (r : Refusal) × (number r ≡ k) × FirstMet r (checks m c t)

  due_met : (t : Tables G) {c : Call G} {k : ℕ} → Due m t c k → Refusing t c k
  due_met t (due_lengths far) = (TableLength, refl, inl (refl, lengths_met m t far))
  due_met t (due_place {k = k} limits on ne bad) =
      (MalformedPlace, refl, inr (limits_unmet t limits, inl (refl, bad_met m (count t) t.rules (k - 1) (omega arith) ((malformed_is (count t) (rule_at m t k)).1 ne bad))))
  due_met t (due_add_mark {k = k} {r = q} good far) = (NoSuchMark, refl, after_tables t (Add k q) NoSuchMark good (inl (refl, off_outside (length t.rules) k far)))
  due_met t (due_add_full {k = k} {r = q} good on ne) =
      (PlaceTaken, refl, after_tables t (Add k q) PlaceTaken good (inr (on_inside (length t.rules) k on, inl (refl, not_from_false _ (ne_eqb (rule_at m t k).head 0 ne)))))
  due_met t (due_add_head {k = k} {r = q} good on free far) =
      (NoSuchStatement, refl, after_tables t (Add k q) NoSuchStatement good (inr (on_inside (length t.rules) k on, inr (ap not (eq-eqb (rule_at m t k).head 0 free), inl (refl, off_outside (count t) q.head far)))))
  due_met t (due_add_body {k = k} {b = b} {r = q} left right ready e order high) = (NoSuchStatement, refl, after_head t k q NoSuchStatement left b right ready e order (inl (refl, high)))
  due_met t (due_add_gap {k = k} {b = b} {r = q} left right ready e order i ne low) = (BodyAfterAbsent, refl, after_head t k q BodyAfterAbsent left b right ready e order (inr (refl, later i, ne, low)))
  due_met t (due_withdraw_mark {k = k} good far) = (NoSuchMark, refl, after_tables t (Withdraw k) NoSuchMark good (inl (refl, off_outside (length t.rules) k far)))
  due_met t (due_withdraw_blank {k = k} good on e) = (PlaceBlank, refl, after_tables t (Withdraw k) PlaceBlank good (inr (on_inside (length t.rules) k on, inl (refl, eq-eqb (rule_at m t k).head 0 e))))
  due_met t (due_want {s = s} good far) = (NoSuchStatement, refl, after_tables t (Want s) NoSuchStatement good (inl (refl, off_outside (count t) s far)))
  due_met t (due_step good e) = (NothingActive, refl, after_tables t Step NothingActive good (inl (refl, not_from_false _ e)))
  due_met t (due_read {s = s} good far) = (NoSuchStatement, refl, after_tables t (Read s) NoSuchStatement good (inl (refl, off_outside (count t) s far)))
  due_met t (due_read_shut {s = s} good on e) = (NotOpen, refl, after_tables t (Read s) NotOpen good (inr (on_inside (count t) s on, inl (refl, not_from_false _ e))))

  pub due_is_refused : (t : Tables G) → DueIsRefused m t
  due_is_refused t c k d degree = let one = due_met t d in (one.0, one.1, refused (first_is (checks m c t) one.0 one.2))
