-- What the checks of an accepted call say.
use Rattle.std.proofs.Common.{◌≡◌, ℕ, Bool, true, false, not, ◌&&◌, eqb, ltb, List, [], ◌∷◌, length, is_some, Some, None, sym, refl, ap, ◌∙◌, arith}
use Rattle.std.proofs.lemmas.Bool.{or_parts, or_from, not-false, and_right, eqb-true, eqb-false, ltb-false, ne_eqb, le-ltb, true≢false, cond-true, cond-false, cond_both}
use Rattle.scales.specs.Meaning.{Meaning}
use Rattle.model.specs.Rules.{present}
use Rattle.model.specs.Least.{On}
use Rattle.model.specs.Formed.{gap, body_above, malformed, malformed_place}
use Rattle.pasts.specs.Refusals.{Check, first, outside}
use Rattle.pasts.specs.Tables.{Tables, count, rule_at, body_checks, length_checks, table_checks, call_checks, checks}
use Rattle.model.specs.declared.rule.Rule.{Rule}
use Rattle.pasts.specs.declared.call.Call.TheVariants.{Add, Withdraw, Want}
use Rattle.model.proofs.Cases.{by_test}

-- no check of the list is met
abbrev pub Unmet : List Check → Type 0
Unmet [] = Unit {0}
Unmet (c ∷ cs) = (c.met ≡ false) × Unmet cs

pub none_met : (cs : List Check) → first cs ≡ None → Unmet cs
none_met [] e = tt
none_met (c ∷ cs) e =
    let met : c.met ≡ true → Unmet (c ∷ cs) = λ q. absurd (true≢false (ap is_some (sym (cond-true c.met (Some c.refusal) (first cs) q) ∙ e))) in
    let unmet : c.met ≡ false → Unmet (c ∷ cs) = λ q. (q, none_met cs (sym (cond-false c.met (Some c.refusal) (first cs) q) ∙ e)) in
    by_test c.met met unmet

pub all_unmet : (cs : List Check) → Unmet cs → first cs ≡ None
all_unmet [] e = refl
all_unmet (c ∷ cs) e = cond-false c.met (Some c.refusal) (first cs) e.0 ∙ all_unmet cs e.1

pub inside_on : (n s : ℕ) → outside n s ≡ false → On n s
inside_on n s e =
    let parts = or_parts (eqb s 0) (ltb n s) e in
    omega (arith, eqb-false s 0 parts.0, ltb-false n s parts.1)

pub on_inside : (n s : ℕ) → On n s → outside n s ≡ false
on_inside n s on = or_from (eqb s 0) (ltb n s) (ne_eqb s 0 (omega arith)) (le-ltb n s (omega arith))

-- after an absent body none is there
none_present : (n : ℕ) (absent : Bool) (bs : List ℕ) → absent ≡ true → Unmet (body_checks n absent bs) → present bs ≡ []
none_present n absent [] a e = refl
none_present n absent (b ∷ bs) a e =
    let gone : eqb b 0 ≡ true = not-false (eqb b 0) (sym (ap (λ c. c && not (eqb b 0)) a) ∙ e.1.0) in
    cond-true (eqb b 0) (present bs) (b ∷ present bs) gone ∙ none_present n (eqb b 0) bs gone e.1.1

pub no_gap : (n : ℕ) (absent : Bool) (bs : List ℕ) → Unmet (body_checks n absent bs) → gap bs ≡ false
no_gap n absent [] e = refl
no_gap n absent (b ∷ bs) e =
    cond_both (eqb b 0) (not (eqb (length (present bs)) 0)) (gap bs) (λ c. c ≡ false) (λ a. ap (λ l. not (eqb (length l) 0)) (none_present n (eqb b 0) bs a e.1.1)) (λ a. no_gap n (eqb b 0) bs e.1.1)

pub none_above : (n : ℕ) (absent : Bool) (bs : List ℕ) → Unmet (body_checks n absent bs) → body_above n bs ≡ false
none_above n absent [] e = refl
none_above n absent (b ∷ bs) e = or_from (ltb n b) (body_above n bs) e.0 (none_above n (eqb b 0) bs e.1.1)

module _ {G : Type 0} (m : Meaning G) where
  pub record Addable (k : ℕ) (r : Rule G) (t : Tables G) : Type 0 where
    pub free : (rule_at m t k).head ≡ 0
    pub on : On (count t) r.head
    pub good : malformed_place (count t) r ≡ false

  pub add_checked : (k : ℕ) (r : Rule G) (t : Tables G) → first (checks m (Add k r) t) ≡ None → Addable k r t
  add_checked k r t e =
      let all = none_met (checks m (Add k r) t) e in
      let bodies = all.1.1.1.1.1 in
      let head = or_parts (eqb r.head 0) (ltb (count t) r.head) all.1.1.1.1.0 in
      let low = or_from _ _ (none_above (count t) false r.bodies bodies) (no_gap (count t) false r.bodies bodies) in
      record {
        free = eqb-true _ 0 (not-false _ all.1.1.1.0);
        on = inside_on (count t) r.head all.1.1.1.1.0;
        good = and_right (not (eqb r.head 0)) _ (or_from _ _ head.1 low);
      }

  pub want_checked : (s : ℕ) (t : Tables G) → first (checks m (Want s) t) ≡ None → On (count t) s
  want_checked s t e = inside_on (count t) s (none_met (checks m (Want s) t) e).1.1.0

  pub withdraw_checked : (k : ℕ) (t : Tables G) → first (call_checks m (Withdraw k) t) ≡ None → On (length t.rules) k × ((rule_at m t k).head ≡ 0 → ⊥)
  withdraw_checked k t e =
      let all = none_met (call_checks m (Withdraw k) t) e in
      (inside_on (length t.rules) k all.0, eqb-false (rule_at m t k).head 0 all.1.0)

  pub head_checked : (k : ℕ) (r : Rule G) (t : Tables G) → first (call_checks m (Add k r) t) ≡ None → On (count t) r.head
  head_checked k r t e = inside_on (count t) r.head (none_met (call_checks m (Add k r) t) e).1.1.0

module _ {G : Type 0} where
  pub lengths_checked : (t : Tables G) → first (length_checks t) ≡ None → On 1024 (count t) × On 4096 (length t.rules)
  lengths_checked t e =
      let parts = or_parts (outside 1024 (count t)) (outside 4096 (length t.rules)) (none_met (length_checks t) e).0 in
      (inside_on 1024 (count t) parts.0, inside_on 4096 (length t.rules) parts.1)

  pub tables_checked : (t : Tables G) → first (table_checks t) ≡ None → On 1024 (count t) × On 4096 (length t.rules) × (malformed (count t) t.rules ≡ false)
  tables_checked t e =
      let all = none_met (table_checks t) e in
      let sizes = lengths_checked t (all_unmet (length_checks t) (all.0, tt)) in
      (sizes.0, sizes.1, all.1.0)

  -- the checks that every call makes read the number of statements and the rules
  pub sound_after : (t u : Tables G) → u.rules ≡ t.rules → count u ≡ count t → Unmet (table_checks t) → Unmet (table_checks u)
  sound_after t u rules counts e =
      (rw (rules, counts) e.0, (rw (rules, counts) e.1.0, tt))
