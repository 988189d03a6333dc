-- A finish that answers k leaves the tables that k accepted steps leave.
use Rattle.std.proofs.Common.{ℕ, sym}
use Rattle.scales.specs.Meaning.{Meaning}
use Rattle.pasts.specs.Tables.{Tables, table_checks}
use Rattle.pasts.specs.Calls.{Runs, none, more, finishes, done}
use Rattle.pasts.specs.Moves.{AfterSteps, no_step, one_step, FinishCounts}
use Rattle.pasts.proofs.Checked.{Unmet, none_met, all_unmet, sound_after}
use Rattle.pasts.proofs.Outcomes.{step_done}

module _ {G : Type 0} (m : Meaning G) (degree : ℕ → G) where
  run_counts : {k : ℕ} {t u : Tables G} → Runs m degree k t u → Unmet (table_checks t) → AfterSteps m degree k t u
  run_counts none e = no_step
  run_counts (more {t = t} {u = u} st rest) e =
      one_step (step_done m degree t _ _ u (sym (all_unmet (table_checks t) e)) st) (run_counts rest (sound_after t u st.rules st.same_count e))

  pub finish_counts : (t : Tables G) → FinishCounts m degree t
  finish_counts t u k (done ok (finishes f)) = (run_counts f.steps (none_met (table_checks t) ok), f.still)
