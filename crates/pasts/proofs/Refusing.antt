-- Where a row of the table of refusals holds, the call is refused.
use Rattle.std.proofs.Common.{◌≡◌, ℕ, zero, suc, ◌-◌, ◌<◌, Bool, true, false, ◌||◌, eqb, ◌⊎◌, List, [], ◌∷◌, length, get_or, Some, sym, ◌∙◌, subst, inl, inr, ⊎_elim, arith}
use Rattle.std.proofs.lemmas.Bool.{both_ways, or_parts, or_left, or_right, not_from_false, eq-eqb, ne_eqb, lt-ltb, cond-true, cond-false}
use Rattle.scales.specs.Meaning.{Meaning}
use Rattle.model.specs.Formed.{malformed, malformed_place}
use Rattle.model.specs.Pins.{OneOf, first as at_first, later, AfterAbsent, absent, beyond}
use Rattle.model.specs.Least.{On}
use Rattle.model.specs.declared.rule.Rule.{Rule}
use Rattle.model.proofs.Cases.{by_test}
use Rattle.model.proofs.Pinned.{malformed_is}
use Rattle.pasts.specs.Refusals.{Check, first, outside}
use Rattle.pasts.specs.Tables.{Tables, count, blank, rule_at, body_checks, checks}
use Rattle.pasts.specs.Calls.{refused}
use Rattle.pasts.specs.Rows.{Row, table_length, bad_place, no_head, no_body, no_want, no_read, no_add, no_withdraw, full, no_rule, body_gap, idle, shut, RowsAreRefused}
use Rattle.pasts.specs.declared.refusal.Refusal.{Refusal}
use Rattle.pasts.specs.declared.call.Call.{Call}
use Rattle.pasts.proofs.Checked.{inside_on}

-- one of the checks is met
abbrev SomeMet : List Check → Type 0
SomeMet [] = ⊥
SomeMet (c ∷ cs) = (c.met ≡ true) ⊎ SomeMet cs

met_first : (cs : List Check) → SomeMet cs → (r : Refusal) × (first cs ≡ Some r)
met_first [] h = absurd h
met_first (c ∷ cs) h =
    let unmet : c.met ≡ false → (r : Refusal) × (first (c ∷ cs) ≡ Some r) = λ q. let rest = met_first cs (⊎_elim (λ p. absurd (both_ways _ q p)) (λ p. p) h) in (rest.0, cond-false c.met (Some c.refusal) (first cs) q ∙ rest.1) in
    by_test c.met (λ q. (c.refusal, cond-true c.met (Some c.refusal) (first cs) q)) unmet

pub off_outside : (n s : ℕ) → (On n s → ⊥) → outside n s ≡ true
off_outside n s off = by_test (outside n s) (λ e. e) (λ e. absurd (off (inside_on n s e)))

high_met : (n : ℕ) (before : Bool) {b : ℕ} {bs : List ℕ} → OneOf b bs → n < b → SomeMet (body_checks n before bs)
high_met n before {b} at_first less = inl (lt-ltb n b less)
high_met n before (later {q = q} i) less = inr (inr (high_met n (eqb q 0) i less))

there_met : (n : ℕ) {b : ℕ} {bs : List ℕ} → OneOf b bs → (b ≡ 0 → ⊥) → SomeMet (body_checks n true bs)
there_met n {b} at_first ne = inr (inl (not_from_false (eqb b 0) (ne_eqb b 0 ne)))
there_met n (later {q = q} {rs = rs} i) ne =
    by_test (eqb q 0) (λ z. inr (inr (subst (λ c. SomeMet (body_checks n c rs)) (sym z) (there_met n i ne)))) (λ z. inr (inl (not_from_false (eqb q 0) z)))

-- a check of the bodies after the first is met
abbrev HoleMet : ℕ → List ℕ → Type 0
HoleMet n [] = Unit {0}
HoleMet n (b ∷ bs) = SomeMet (body_checks n (eqb b 0) bs)

further : (n b : ℕ) (bs : List ℕ) → AfterAbsent bs → HoleMet n bs → SomeMet (body_checks n (eqb b 0) bs)
further n b [] a h = elim a [ ]
further n b (c ∷ bs) a h = inr (inr h)

hole_met : (n : ℕ) {bs : List ℕ} → AfterAbsent bs → HoleMet n bs
hole_met n (absent b) = there_met n b.one b.there
hole_met n (beyond {b = b} {bs = bs} a) = further n b bs a (hole_met n a)

gap_met : (n : ℕ) (bs : List ℕ) → AfterAbsent bs → SomeMet (body_checks n false bs)
gap_met n bs a = further n 1 bs a (hole_met n a)

module _ {G : Type 0} (m : Meaning G) where
  pub bad_met : (n : ℕ) (rules : List (Rule G)) (i : ℕ) → i < length rules → malformed_place n (get_or rules i (blank m)) ≡ true → malformed n rules ≡ true
  bad_met n [] i less h = absurd (omega arith)
  bad_met n (r ∷ rs) zero less h = or_left (malformed_place n r) (malformed n rs) h
  bad_met n (r ∷ rs) (suc i) less h = or_right (malformed_place n r) (malformed n rs) (bad_met n rs i (omega arith) h)

  pub lengths_met : (t : Tables G) → (On 1024 (count t) × On 4096 (length t.rules) → ⊥) → (outside 1024 (count t) || outside 4096 (length t.rules)) ≡ true
  lengths_met t off =
      let short : (outside 1024 (count t) || outside 4096 (length t.rules)) ≡ false → ⊥ = λ e. let parts = or_parts (outside 1024 (count t)) (outside 4096 (length t.rules)) e in off (inside_on 1024 (count t) parts.0, inside_on 4096 (length t.rules) parts.1) in
      by_test (outside 1024 (count t) || outside 4096 (length t.rules)) (λ e. e) (λ e. absurd (short e))

  row_met : (t : Tables G) {c : Call G} {k : ℕ} → Row m t c k → SomeMet (checks m c t)
  row_met t (table_length off) = inl (lengths_met t off)
  row_met t (bad_place {k = k} on ne bad) = inr (inl (bad_met (count t) t.rules (k - 1) (omega arith) ((malformed_is (count t) (rule_at m t k)).1 ne bad)))
  row_met t (no_head {r = r} off) = inr (inr (inr (inr (inl (off_outside (count t) r.head off)))))
  row_met t (no_body i less) = inr (inr (inr (inr (inr (high_met (count t) false i less)))))
  row_met t (no_want {s = s} off) = inr (inr (inl (off_outside (count t) s off)))
  row_met t (no_read {s = s} off) = inr (inr (inl (off_outside (count t) s off)))
  row_met t (no_add {k = k} off) = inr (inr (inl (off_outside (length t.rules) k off)))
  row_met t (no_withdraw {k = k} off) = inr (inr (inl (off_outside (length t.rules) k off)))
  row_met t (full {k = k} ne) = inr (inr (inr (inl (not_from_false _ (ne_eqb (rule_at m t k).head 0 ne)))))
  row_met t (no_rule {k = k} e) = inr (inr (inr (inl (eq-eqb (rule_at m t k).head 0 e))))
  row_met t (body_gap {r = r} a) = inr (inr (inr (inr (inr (gap_met (count t) r.bodies a)))))
  row_met t (idle e) = inr (inr (inl (not_from_false _ e)))
  row_met t (shut e) = inr (inr (inr (inl (not_from_false _ e))))

  pub rows_are_refused : (degree : ℕ → G) (t : Tables G) → RowsAreRefused m degree t
  rows_are_refused degree t c k row = let met = met_first (checks m c t) (row_met t row) in (met.0, refused met.1)
