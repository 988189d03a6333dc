-- One turn of the loop that lowers the flagged statements.
use Rattle.std.proofs.Common.{◌≡◌, ℕ, ◌-◌, ◌<◌, ◌≤◌, Bool, false, ◌&&◌, List, length, get_or, ◌∙◌, ⊎_elim, arith}
use Rattle.std.proofs.lemmas.Bool.{cases_Bool, cond-true, cond-false, and_from, and_left, and_right}
use Rattle.scales.specs.Meaning.{Meaning}
use Rattle.pasts.specs.Marks.{open_mark}
use Rattle.pasts.specs.Tables.{unopened, entered}
use Rattle.board.specs.Flags.{fallen, flagged, Leading, Falls}
use Rattle.model.specs.declared.rule.Rule.{Rule}
use Rattle.pasts.specs.declared.statement.Statement.{Statement}

module _ {G : Type 0} (m : Meaning G) (fl : List Bool) (old : List (Statement G)) where
  -- the statements below i have fallen, and the others are as they were
  pub record Fallen (i : ℕ) (xs : List (Statement G)) : Type 0 where
    pub below : (k : ℕ) → k < i → get_or xs k (unopened m) ≡ fallen m (get_or fl k false) (get_or old k (unopened m))
    pub above : (k : ℕ) → i ≤ k → get_or xs k (unopened m) ≡ get_or old k (unopened m)

module _ {G : Type 0} (m : Meaning G) (rs : List (Rule G)) (h : ℕ) (xs ys : List (Statement G)) (fl : List Bool) where
  pub falls_by : length ys ≡ length xs → length xs ≤ length fl → Leading rs h fl → ((i : ℕ) → i < length xs → get_or ys i (unopened m) ≡ fallen m (get_or fl i false) (get_or xs i (unopened m))) → Falls m rs h xs ys
  falls_by same long lead each = record {
    same_count = same;
    falls = λ s on opened lead-to. each (s - 1) (omega arith) ∙ cond-true (flagged fl s && open_mark (entered m xs s).mark) _ _ (and_from (flagged fl s) (open_mark (entered m xs s).mark) (lead.every s (on.0, omega arith) lead-to) opened);
    closed = λ s on shut. each (s - 1) (omega arith) ∙ cond-false (flagged fl s && open_mark (entered m xs s).mark) _ _ (and_right (flagged fl s) (open_mark (entered m xs s).mark) shut);
    apart = λ s on no_way. each (s - 1) (omega arith) ∙ cond-false (flagged fl s && open_mark (entered m xs s).mark) _ _ (and_left (flagged fl s) (open_mark (entered m xs s).mark)
        (⊎_elim (λ e. absurd (no_way (lead.only s (on.0, omega arith) e))) (λ e. e) (cases_Bool (flagged fl s))));
  }
