-- Steps one after another, each of which uses up some of a measure.
use Rattle.std.proofs.Common.{ℕ, suc, ◌+◌, ◌≤◌, Bool, add-one, arith}
use Rattle.scales.specs.Meaning.{Meaning}
use Rattle.scales.specs.Laws.{Laws}
use Rattle.pasts.specs.Tables.{Tables}
use Rattle.pasts.specs.Calls.{Steps, Runs, none, more}
use Rattle.pasts.proofs.Exists.{measure, measure_falls}

module _ {G : Type 0} {m : Meaning G} {degree : ℕ → G} where
  one_more : {k s : ℕ} {rose : Bool} {t u v : Tables G} → Runs m degree k t u → Steps m degree s rose u v → Runs m degree (suc k) t v
  one_more none last = more last none
  one_more (more a rest) last = more a (one_more rest last)

  pub runs_more : {k s : ℕ} {rose : Bool} {t u v : Tables G} → Runs m degree k t u → Steps m degree s rose u v → Runs m degree (k + 1) t v
  runs_more {k} r last = rw add-one (one_more r last)

module _ {G : Type 0} {m : Meaning G} (laws : Laws m) {degree : ℕ → G} where
  pub run_spent : {k : ℕ} {t u : Tables G} → Runs m degree k t u → k + measure m u ≤ measure m t
  run_spent none = omega arith
  run_spent (more {k = k} {t = t} {u = u} {v = v} st rest) = omega (arith, run_spent rest, measure_falls laws degree st)
