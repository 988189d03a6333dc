-- The number of steps that a finish takes fits its answer.
use Rattle.std.proofs.Common.{ℕ, zero, suc, ◌+◌, ◌≤◌, cond, List, mul-le-mul_left, arith}
use Rattle.scales.specs.Meaning.{Meaning}
use Rattle.scales.specs.Laws.{Laws}
use Rattle.model.specs.Rules.{son}
use Rattle.model.specs.declared.rule.Rule.{Rule}
use Rattle.model.proofs.Cases.{at_test}
use Rattle.model.proofs.Totals.{total_bound}
use Rattle.pasts.specs.Tables.{Tables, mark, count}
use Rattle.pasts.specs.Calls.{finishes, done}
use Rattle.pasts.specs.Moves.{sons_among, FinishFits}
use Rattle.pasts.proofs.Hearing.{pending_le}
use Rattle.pasts.proofs.Checked.{tables_checked}
use Rattle.pasts.proofs.Bounded.{cost, room_bound}
use Rattle.pasts.proofs.Exists.{measure}
use Rattle.pasts.proofs.Running.{run_spent}

few_sons : {G : Type 0} (rules : List (Rule G)) (s n : ℕ) → sons_among rules s n ≤ n
few_sons rules s zero = omega arith
few_sons rules s (suc n) =
    let less = few_sons rules s n in
    at_test (son rules s (suc n)) (λ c. cond c (1 + sons_among rules s n) (sons_among rules s n) ≤ suc n) (λ _. omega arith) (λ _. omega arith)

module _ {G : Type 0} {m : Meaning G} (laws : Laws m) where
  cost_fits : (t : Tables G) → count t ≤ 1024 → (s : ℕ) → cost m t.rules (count t) t s ≤ 67107841
  cost_fits t short s =
      let sons = sons_among t.rules s (count t) in
      omega (arith, pending_le (mark m t s), room_bound m t.rules t s (count t), mul-le-mul_left sons laws.height_bound, few_sons t.rules s (count t))

  pub measure_fits : (t : Tables G) → count t ≤ 1024 → measure m t ≤ 68718429184
  measure_fits t short = omega (arith, total_bound (cost m t.rules (count t) t) 67107841 (count t) (cost_fits t short))

  pub finish_fits : (degree : ℕ → G) (t : Tables G) → FinishFits m degree t
  finish_fits degree t u k (done ok (finishes f)) =
      omega (arith, run_spent laws f.steps, measure_fits t (tables_checked t ok).0.1)
