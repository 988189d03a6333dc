-- A clear has one outcome, and is refused for the lengths of the tables alone.
use Rattle.std.proofs.Common.{◌≡◌, Bool, true, false, ◌||◌, length, Some, None, Option, sym, refl, ap, ◌∙◌}
use Rattle.std.proofs.lemmas.Bool.{or_from, cond-true, cond-false}
use Rattle.scales.specs.Meaning.{Meaning}
use Rattle.model.proofs.Cases.{by_test}
use Rattle.pasts.specs.Refusals.{first, outside, number}
use Rattle.pasts.specs.Tables.{Tables, count, length_checks}
use Rattle.pasts.specs.Calls.{Clears, kept, clears}
use Rattle.pasts.specs.Moves.{ClearHasOneOutcome}
use Rattle.pasts.specs.Rows.{InLimits, ClearRow}
use Rattle.pasts.specs.declared.refusal.Refusal.{Refusal}
use Rattle.pasts.specs.declared.refusal.Refusal.TheVariants.{TableLength}
use Rattle.pasts.proofs.Checked.{on_inside}
use Rattle.pasts.proofs.Refusing.{lengths_met}

module _ {G : Type 0} where
  -- a length lies outside its limits
  abbrev pub beyond_limits : Tables G → Bool
  beyond_limits t = outside 1024 (count t) || outside 4096 (length t.rules)

  met : (t : Tables G) → beyond_limits t ≡ true → first (length_checks t) ≡ Some TableLength
  met t q = cond-true (beyond_limits t) (Some TableLength) None q

  unmet : (t : Tables G) → beyond_limits t ≡ false → first (length_checks t) ≡ None
  unmet t q = cond-false (beyond_limits t) (Some TableLength) None q

  pub limits_unmet : (t : Tables G) → InLimits t → beyond_limits t ≡ false
  limits_unmet t on = or_from (outside 1024 (count t)) (outside 4096 (length t.rules)) (on_inside 1024 (count t) on.0) (on_inside 4096 (length t.rules) on.1)

  never : (t : Tables G) (r : Refusal) → first (length_checks t) ≡ Some r → beyond_limits t ≡ false → ⊥
  never t r e q = let o = unmet t q in cc

module _ {G : Type 0} (m : Meaning G) where
  one_clear : {t u v : Tables G} {a b : Option Refusal} → Clears m t a u → Clears m t b v → (a ≡ b) × (u ≡ v)
  one_clear (kept e) (kept f) = (sym e ∙ f, refl)
  one_clear (kept e) (clears f) = cc
  one_clear (clears e) (kept f) = cc
  one_clear (clears e) (clears f) = (refl, refl)

  some_clear : (t : Tables G) → (a : Option Refusal) × (u : Tables G) × Clears m t a u
  some_clear t = by_test (beyond_limits t) (λ q. (Some TableLength, t, kept (met t q))) (λ q. (None, _, clears (unmet t q)))

  clear_refused : {t u : Tables G} {r : Refusal} → Clears m t (Some r) u → (u ≡ t) × (number r ≡ 1) × (InLimits t → ⊥)
  clear_refused {t = t} (kept {r = r} e) =
      let long : beyond_limits t ≡ true = by_test (beyond_limits t) (λ q. q) (λ q. absurd (never t r e q)) in
      let so = met t long in
      let same : r ≡ TableLength = cc in
      (refl, ap number same, λ on. never t r e (limits_unmet t on))

  pub clear_has_one_outcome : (t : Tables G) → ClearHasOneOutcome m t
  clear_has_one_outcome t = record { some = some_clear t; one = λ a b u v c d. one_clear c d }

  pub clear_row : (t : Tables G) → ClearRow m t
  clear_row t = record {
    refused = λ u r c. clear_refused c;
    beyond = λ off. kept (met t (lengths_met m t off));
    within = λ on. clears (unmet t (limits_unmet t on));
  }
