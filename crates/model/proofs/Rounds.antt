-- The rounds come to rest, and what they rest at is the least model.
use Rattle.std.proofs.Common.{◌≡◌, ℕ, zero, suc, ◌*◌, ◌<◌, ◌≤◌, false, not, ◌⊎◌, List, inl, inr, ⊎_elim, arith}
use Rattle.std.proofs.lemmas.Bool.{and_cases, not-false, both_ways}
use Rattle.scales.specs.Meaning.{Meaning, Under, Same, above}
use Rattle.scales.specs.Laws.{Laws}
use Rattle.model.specs.Least.{On, worth, Model, LeastModel, rounds, least}
use Rattle.model.specs.Facts.{LeastIsLeast, LeastIsFixed}
use Rattle.model.specs.Formed.{malformed}
use Rattle.model.specs.declared.rule.Rule.{Rule}
use Rattle.model.proofs.Cases.{by_test}
use Rattle.model.proofs.Monotone.{monotone}
use Rattle.model.proofs.Totals.{total, total_lt, total_bound, none_or_one, comes_to_rest}

-- what a is at or below, and that is not strictly above a, is at or below a
pub no_rise : {G : Type 0} (m : Meaning G) (a b : G) → Under m a b → above m b a ≡ false → Under m b a
no_rise m a b up h =
    ⊎_elim (λ e. absurd (both_ways (m.below a b) e up)) (not-false (m.below b a)) (and_cases (m.below a b) (not (m.below b a)) h)

module _ {G : Type 0} (m : Meaning G) (degree : ℕ → G) (rules : List (Rule G)) (n : ℕ) where
  -- the round after k adds nothing
  abbrev Rests : ℕ → Type 0
  Rests k = (s : ℕ) → On n s → Under m (rounds m degree rules (suc k) s) (rounds m degree rules k s)

  levels : ℕ → ℕ
  levels k = total (λ s. m.level (rounds m degree rules k s)) n

module _ {G : Type 0} {m : Meaning G} (laws : Laws m) where
  module _ (degree : ℕ → G) (rules : List (Rule G)) where
    module _ (n : ℕ) (ok : malformed n rules ≡ false) where
      pub rounds_rise : (k s : ℕ) → On n s → Under m (rounds m degree rules k s) (rounds m degree rules (suc k) s)
      rounds_rise zero s on = laws.from_lowest _
      rounds_rise (suc k) s on = monotone laws degree rules (rounds m degree rules k) (rounds m degree rules (suc k)) n ok (rounds_rise k) s on

      rests_on : (k : ℕ) → Rests m degree rules n k → Rests m degree rules n (suc k)
      rests_on k h s on = monotone laws degree rules (rounds m degree rules (suc k)) (rounds m degree rules k) n ok h s on

      level_kept : (k s : ℕ) → On n s → m.level (rounds m degree rules k s) ≤ m.level (rounds m degree rules (suc k) s)
      level_kept k s on =
          let old = rounds m degree rules k s in
          let new = rounds m degree rules (suc k) s in
          let up : Under m old new = rounds_rise k s on in
          by_test (above m new old) (λ e. omega (arith, laws.level_rises old new e)) (λ e. omega (arith, laws.level_same old new (laws.antisymmetric _ _ up (no_rise m _ _ up e))))

      -- a round rests, or the sum of levels rises
      rests_or_rises : (k : ℕ) → Rests m degree rules n k ⊎ (levels m degree rules n k < levels m degree rules n (suc k))
      unfolding levels
      rests_or_rises k =
          elim (none_or_one (λ s. above m (rounds m degree rules (suc k) s) (rounds m degree rules k s)) n) [
            | inl none ↦ inl (λ s on. no_rise m _ _ (rounds_rise k s on) (none s on))
            | inr one ↦ inr (total_lt _ _ n one.0 one.1.0 (laws.level_rises _ _ one.1.1) (level_kept k))
          ]

      rests : Rests m degree rules n (n * m.height)
      unfolding levels
      rests = comes_to_rest (Rests m degree rules n) (levels m degree rules n) (n * m.height) rests_on rests_or_rises (λ k. total_bound (λ s. m.level (rounds m degree rules k s)) m.height n (λ s. laws.level_bound _))

      rounds_under : (grade : ℕ → G) → Model m degree rules n grade → (k s : ℕ) → On n s → Under m (rounds m degree rules k s) (grade s)
      rounds_under grade model zero s on = laws.from_lowest _
      rounds_under grade model (suc k) s on =
          laws.transitive _ _ _ (monotone laws degree rules (rounds m degree rules k) grade n ok (rounds_under grade model k) s on) (model s on)

      model_rests : LeastModel m degree rules n (least m degree rules n)
      unfolding least
      model_rests = record { model = rests; under = λ grade model. rounds_under grade model (n * m.height) }

      rests_fixed : (s : ℕ) → On n s → Same m (worth m degree rules (least m degree rules n) s) (least m degree rules n s)
      unfolding least
      rests_fixed s on = laws.antisymmetric _ _ (rests s on) (rounds_rise (n * m.height) s on)

  pub least_is_least : (degree : ℕ → G) → LeastIsLeast m degree
  least_is_least degree rules n ok = model_rests degree rules n ok

  pub least_is_fixed : (degree : ℕ → G) → LeastIsFixed m degree
  least_is_fixed degree rules n ok = rests_fixed degree rules n ok
