-- The marks after a step, said by cases, are those that the events of the step leave one after another.
use Rattle.std.proofs.Common.{◌≡◌, ℕ, Bool, true, false, cond, ◌&&◌, eqb, sym, refl, ap, ◌∙◌}
use Rattle.std.proofs.lemmas.Bool.{true≢false, eq-eqb, ne_eqb}
use Rattle.scales.specs.Meaning.{Meaning}
use Rattle.model.specs.Rules.{son}
use Rattle.model.specs.Least.{On}
use Rattle.model.proofs.Cases.{at_number}
use Rattle.pasts.specs.Marks.{active}
use Rattle.pasts.specs.Tables.{Tables, mark, count}
use Rattle.pasts.specs.Calls.{Next, MarksAfter}
use Rattle.pasts.specs.declared.statement.Mark.{Mark}
use Rattle.pasts.specs.declared.statement.Mark.TheVariants.{Unopened, Quiet, Active}
use Rattle.pasts.proofs.Hearing.{heard_by, is_active}

by_mark : {P : Type 0} (x : Mark) → (x ≡ Unopened → P) → (x ≡ Quiet → P) → (x ≡ Active → P) → P
by_mark Unopened u q a = u refl
by_mark Quiet u q a = q refl
by_mark Active u q a = a refl

heard_taken : (son told : Bool) → heard_by Active true son told ≡ cond told Active Quiet
heard_taken true true = refl
heard_taken true false = refl
heard_taken false true = refl
heard_taken false false = refl

heard_unopened : (son told : Bool) → heard_by Unopened false son told ≡ cond son Active Unopened
heard_unopened true true = refl
heard_unopened true false = refl
heard_unopened false true = refl
heard_unopened false false = refl

heard_quiet : (son told : Bool) → heard_by Quiet false son told ≡ cond told Active Quiet
heard_quiet true true = refl
heard_quiet true false = refl
heard_quiet false true = refl
heard_quiet false false = refl

heard_active : (son told : Bool) → heard_by Active false son told ≡ Active
heard_active true true = refl
heard_active true false = refl
heard_active false true = refl
heard_active false false = refl

module _ {G : Type 0} (m : Meaning G) where
  -- the mark of r after s was taken, its sons opened and, if it rose, its parents told
  abbrev pub heard : Tables G → ℕ → Bool → ℕ → Mark
  heard t s rose r = heard_by (mark m t r) (eqb r s) (son t.rules s r) (rose && son t.rules r s)

  module _ (s : ℕ) (rose : Bool) (t u : Tables G) (next : Next m t.statements s) where
    taken_heard : heard t s rose s ≡ cond (rose && son t.rules s s) Active Quiet
    taken_heard =
        ap (λ b. heard_by (mark m t s) b (son t.rules s s) (rose && son t.rules s s)) (eq-eqb s s refl) ∙ ap (λ x. heard_by x true (son t.rules s s) (rose && son t.rules s s)) (is_active (mark m t s) next.is_active) ∙ heard_taken (son t.rules s s) (rose && son t.rules s s)

    -- of a statement that was not taken
    other_heard : (r : ℕ) (x : Mark) → (r ≡ s → ⊥) → mark m t r ≡ x → heard t s rose r ≡ heard_by x false (son t.rules s r) (rose && son t.rules r s)
    other_heard r x ne e =
        ap (λ b. heard_by (mark m t r) b (son t.rules s r) (rose && son t.rules r s)) (ne_eqb r s ne) ∙ ap (λ y. heard_by y false (son t.rules s r) (rose && son t.rules r s)) e

    not_taken : (r : ℕ) → active (mark m t r) ≡ false → r ≡ s → ⊥
    not_taken r still e = true≢false (sym next.is_active ∙ ap (λ x. active (mark m t x)) (sym e) ∙ still)

    unopened_heard : (r : ℕ) → mark m t r ≡ Unopened → heard t s rose r ≡ cond (son t.rules s r) Active Unopened
    unopened_heard r e = other_heard r Unopened (not_taken r (ap active e)) e ∙ heard_unopened (son t.rules s r) (rose && son t.rules r s)

    quiet_heard : (r : ℕ) → mark m t r ≡ Quiet → heard t s rose r ≡ cond (rose && son t.rules r s) Active Quiet
    quiet_heard r e = other_heard r Quiet (not_taken r (ap active e)) e ∙ heard_quiet (son t.rules s r) (rose && son t.rules r s)

    active_heard : (r : ℕ) → (r ≡ s → ⊥) → mark m t r ≡ Active → heard t s rose r ≡ Active
    active_heard r ne e = other_heard r Active ne e ∙ heard_active (son t.rules s r) (rose && son t.rules r s)

    pub as_heard : MarksAfter m s rose t u → (r : ℕ) → On (count t) r → mark m u r ≡ heard t s rose r
    as_heard after r on =
        let other : (r ≡ s → ⊥) → mark m u r ≡ heard t s rose r = λ ne. by_mark (mark m t r) (λ e. after.from_unopened r on e ∙ sym (unopened_heard r e)) (λ e. after.from_quiet r on e ∙ sym (quiet_heard r e)) (λ e. after.from_active r on ne e ∙ sym (active_heard r ne e)) in
        at_number s (λ x. mark m u x ≡ heard t s rose x) r (after.taken ∙ sym taken_heard) other

    pub by_cases : ((r : ℕ) → On (count t) r → mark m u r ≡ heard t s rose r) → MarksAfter m s rose t u
    by_cases marks = record {
      taken = marks s next.on ∙ taken_heard;
      from_unopened = λ r on e. marks r on ∙ unopened_heard r e;
      from_quiet = λ r on e. marks r on ∙ quiet_heard r e;
      from_active = λ r on ne e. marks r on ∙ active_heard r ne e;
    }
