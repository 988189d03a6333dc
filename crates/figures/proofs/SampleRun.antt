-- The finish of the sample board, step by step, and its withdraw. Assumes nothing.
--     three           what holds of statements 1, 2 and 3 holds of each of three
--     first_of        which statement is next
--     takes           one step, from what it leaves of each statement
--     sample_finish   the five steps together
--     alone           statement 3 does not lead to statement 2
--     sample_withdraw, again_finish   the withdraw of the third rule, and the finish after it
use Rattle.std.proofs.Common.{◌≡◌, ℕ, zero, suc, ◌≤◌, Bool, true, false, cond, ◌&&◌, eqb, List, [], ◌∷◌, refl, ap, ◌∙◌, subst, arith}
use Rattle.std.proofs.lemmas.Bool.{false≢true, true≢false, eq-eqb, ne_eqb}
use Rattle.scales.specs.Meaning.{above}
use Rattle.scales.specs.Percents.{percents}
use Rattle.scales.specs.declared.percent.Percent.{Percent}
use Rattle.model.specs.Rules.{son, Leads, here, by_son}
use Rattle.model.specs.Least.{On, worth}
use Rattle.model.specs.declared.rule.Rule.{Rule}
use Rattle.pasts.specs.Marks.{answered, active, open_mark}
use Rattle.pasts.specs.Tables.{Tables, tables, statement, grade, mark}
use Rattle.pasts.specs.Calls.{Withdraws, Next, Steps, none, more, withdraws, Outcome}
use Rattle.pasts.specs.declared.statement.Mark.TheVariants.{Quiet, Active}
use Rattle.pasts.specs.declared.statement.Statement.{Statement}
use Rattle.pasts.specs.declared.statement.Event.TheVariants.{SonRose}
use Rattle.pasts.specs.declared.call.Call.TheVariants.{Withdraw, Finish}
use Rattle.pasts.specs.declared.call.Answer.TheVariants.{Withdrawn, Finished}
use Rattle.pasts.proofs.Heard.{heard, by_cases}
use Rattle.pasts.proofs.Outcomes.{call_done, step_done, finish_done}
use Rattle.figures.specs.Figures.{unsurveyed, sample_rules, without_fact, sample, sample_without, at, Takes}

three : (P : ℕ → Type 0) → P 1 → P 2 → P 3 → (r : ℕ) → On 3 r → P r
three P a b c zero on = absurd (omega arith)
three P a b c (suc zero) on = a
three P a b c (suc (suc zero)) on = b
three P a b c (suc (suc (suc zero))) on = c
three P a b c (suc (suc (suc (suc r)))) on = absurd (omega arith)

-- three statements with rules
abbrev of_three : List (Rule Percent) → Statement Percent → Statement Percent → Statement Percent → Tables Percent
of_three rules a b c = tables (a ∷ b ∷ c ∷ []) rules

-- the active statement s is the lowest where each below it is not active
first_of : (s : ℕ) (a b c : Statement Percent) → On 3 s → active (mark percents (sample a b c) s) ≡ true → (active a.mark ≡ true → s ≤ 1) → (active b.mark ≡ true → s ≤ 2) → Next percents (a ∷ b ∷ c ∷ []) s
first_of s a b c on is_active low middle = record {
  on = on;
  is_active = is_active;
  lowest = three (λ r. active (mark percents (sample a b c) r) ≡ true → s ≤ r) low middle (λ _. on.1);
}

takes : (rules : List (Rule Percent)) (s : ℕ) (rose : Bool) (a b c x y z : Statement Percent) → Next percents (a ∷ b ∷ c ∷ []) s → rose ≡ above percents (worth percents unsurveyed rules (grade percents (of_three rules a b c)) s) (grade percents (of_three rules a b c) s) → ((r : ℕ) → On 3 r → grade percents (of_three rules x y z) r ≡ cond (eqb r s && rose) (worth percents unsurveyed rules (grade percents (of_three rules a b c)) s) (grade percents (of_three rules a b c) r)) → ((r : ℕ) → On 3 r → mark percents (of_three rules x y z) r ≡ heard percents (of_three rules a b c) s rose r) → Steps percents unsurveyed s rose (of_three rules a b c) (of_three rules x y z)
takes rules s rose a b c x y z next rises grades marks =
    let w = worth percents unsurveyed rules (grade percents (of_three rules a b c)) s in
    record {
      next = next;
      rises = rises;
      raised = grades s next.on ∙ ap (λ q. cond (q && rose) w (grade percents (of_three rules a b c) s)) (eq-eqb s s refl);
      others = λ r on ne. grades r on ∙ ap (λ q. cond (q && rose) w (grade percents (of_three rules a b c) r)) (ne_eqb r s ne);
      marks = by_cases percents s rose (of_three rules a b c) (of_three rules x y z) next marks;
      rules = refl;
      same_count = refl;
    }

no : {P : Type 0} → false ≡ true → P
no e = absurd (false≢true e)

first_1 : (b c : Statement Percent) (g : ℕ) → Next percents (at g Active ∷ b ∷ c ∷ []) 1
first_1 b c g = first_of 1 (at g Active) b c (omega arith, omega arith) refl (λ _. omega arith) (λ _. omega arith)

first_2 : (c : Statement Percent) (g h : ℕ) → Next percents (at g Quiet ∷ at h Active ∷ c ∷ []) 2
first_2 c g h = first_of 2 (at g Quiet) (at h Active) c (omega arith, omega arith) refl no (λ _. omega arith)

taken_1 : Steps percents unsurveyed 1 false (sample (at 0 Active) (at 0 Active) (at 0 Active)) (sample (at 0 Quiet) (at 0 Active) (at 0 Active))
taken_1 = takes sample_rules 1 false (at 0 Active) (at 0 Active) (at 0 Active) (at 0 Quiet) (at 0 Active) (at 0 Active) (first_1 _ _ 0) refl (three _ refl refl refl) (three _ refl refl refl)

taken_2 : Steps percents unsurveyed 2 true (sample (at 0 Quiet) (at 0 Active) (at 0 Active)) (sample (at 0 Active) (at 70 Quiet) (at 0 Active))
taken_2 = takes sample_rules 2 true (at 0 Quiet) (at 0 Active) (at 0 Active) (at 0 Active) (at 70 Quiet) (at 0 Active) (first_2 _ 0 0) refl (three _ refl refl refl) (three _ refl refl refl)

taken_3 : Steps percents unsurveyed 1 true (sample (at 0 Active) (at 70 Quiet) (at 0 Active)) (sample (at 63 Quiet) (at 70 Active) (at 0 Active))
taken_3 = takes sample_rules 1 true (at 0 Active) (at 70 Quiet) (at 0 Active) (at 63 Quiet) (at 70 Active) (at 0 Active) (first_1 _ _ 0) refl (three _ refl refl refl) (three _ refl refl refl)

taken_4 : Steps percents unsurveyed 2 false (sample (at 63 Quiet) (at 70 Active) (at 0 Active)) (sample (at 63 Quiet) (at 70 Quiet) (at 0 Active))
taken_4 = takes sample_rules 2 false (at 63 Quiet) (at 70 Active) (at 0 Active) (at 63 Quiet) (at 70 Quiet) (at 0 Active) (first_2 _ 63 70) refl (three _ refl refl refl) (three _ refl refl refl)

taken_5 : Steps percents unsurveyed 3 false (sample (at 63 Quiet) (at 70 Quiet) (at 0 Active)) (sample (at 63 Quiet) (at 70 Quiet) (at 0 Quiet))
taken_5 = takes sample_rules 3 false (at 63 Quiet) (at 70 Quiet) (at 0 Active) (at 63 Quiet) (at 70 Quiet) (at 0 Quiet) (first_of 3 _ _ _ (omega arith, omega arith) refl no no) refl (three _ refl refl refl) (three _ refl refl refl)

pub by_step_1 : Takes 1 0 false (sample (at 0 Active) (at 0 Active) (at 0 Active)) (sample (at 0 Quiet) (at 0 Active) (at 0 Active))
by_step_1 = record { its_worth = refl; step = step_done percents unsurveyed _ 1 false _ refl taken_1 }

pub by_step_2 : Takes 2 70 true (sample (at 0 Quiet) (at 0 Active) (at 0 Active)) (sample (at 0 Active) (at 70 Quiet) (at 0 Active))
by_step_2 = record { its_worth = refl; step = step_done percents unsurveyed _ 2 true _ refl taken_2 }

pub by_step_3 : Takes 1 63 true (sample (at 0 Active) (at 70 Quiet) (at 0 Active)) (sample (at 63 Quiet) (at 70 Active) (at 0 Active))
by_step_3 = record { its_worth = refl; step = step_done percents unsurveyed _ 1 true _ refl taken_3 }

pub by_step_4 : Takes 2 70 false (sample (at 63 Quiet) (at 70 Active) (at 0 Active)) (sample (at 63 Quiet) (at 70 Quiet) (at 0 Active))
by_step_4 = record { its_worth = refl; step = step_done percents unsurveyed _ 2 false _ refl taken_4 }

pub by_step_5 : Takes 3 0 false (sample (at 63 Quiet) (at 70 Quiet) (at 0 Active)) (sample (at 63 Quiet) (at 70 Quiet) (at 0 Quiet))
by_step_5 = record { its_worth = refl; step = step_done percents unsurveyed _ 3 false _ refl taken_5 }

pub sample_finish : Outcome percents unsurveyed Finish (sample (at 0 Active) (at 0 Active) (at 0 Active)) (Finished 5) (sample (at 63 Quiet) (at 70 Quiet) (at 0 Quiet))
sample_finish = finish_done percents unsurveyed _ 5 _ refl (record { steps = more taken_1 (more taken_2 (more taken_3 (more taken_4 (more taken_5 none)))); still = refl })

alone : {s u : ℕ} → Leads sample_rules s u → s ≡ 3 → u ≡ 2 → ⊥
alone here e f = omega arith
alone (by_son {t = t} q l) e f = false≢true (subst (λ x. son sample_rules x t ≡ true) e q)

withdraw_3 : Withdraws percents 3 (sample (at 63 Quiet) (at 70 Quiet) (at 0 Quiet)) (sample_without (at 0 Active) (at 0 Active) (at 0 Quiet))
withdraw_3 =
    let t = sample (at 63 Quiet) (at 70 Quiet) (at 0 Quiet) in
    let u = sample_without (at 0 Active) (at 0 Active) (at 0 Quiet) in
    record {
      rules = refl;
      same_count = refl;
      falls = three (λ s. open_mark (mark percents t s) ≡ true → Leads sample_rules s 2 → statement percents u s ≡ record { grade = percents.lowest; mark = answered (mark percents t s) SonRose }) (λ _ _. refl) (λ _ _. refl) (λ _ l. absurd (alone l refl refl));
      closed = three (λ s. open_mark (mark percents t s) ≡ false → statement percents u s ≡ statement percents t s) (λ e. absurd (true≢false e)) (λ e. absurd (true≢false e)) (λ _. refl);
      apart = three (λ s. (Leads sample_rules s 2 → ⊥) → statement percents u s ≡ statement percents t s) (λ far. absurd (far (by_son {t = 2} refl here))) (λ far. absurd (far here)) (λ _. refl);
    }

pub sample_withdraw : Outcome percents unsurveyed (Withdraw 3) (sample (at 63 Quiet) (at 70 Quiet) (at 0 Quiet)) Withdrawn (sample_without (at 0 Active) (at 0 Active) (at 0 Quiet))
sample_withdraw = call_done percents unsurveyed _ (Withdraw 3) Withdrawn _ refl refl (withdraws withdraw_3)

again_1 : Steps percents unsurveyed 1 false (sample_without (at 0 Active) (at 0 Active) (at 0 Quiet)) (sample_without (at 0 Quiet) (at 0 Active) (at 0 Quiet))
again_1 = takes without_fact 1 false (at 0 Active) (at 0 Active) (at 0 Quiet) (at 0 Quiet) (at 0 Active) (at 0 Quiet) (first_1 _ _ 0) refl (three _ refl refl refl) (three _ refl refl refl)

again_2 : Steps percents unsurveyed 2 false (sample_without (at 0 Quiet) (at 0 Active) (at 0 Quiet)) (sample_without (at 0 Quiet) (at 0 Quiet) (at 0 Quiet))
again_2 = takes without_fact 2 false (at 0 Quiet) (at 0 Active) (at 0 Quiet) (at 0 Quiet) (at 0 Quiet) (at 0 Quiet) (first_2 _ 0 0) refl (three _ refl refl refl) (three _ refl refl refl)

pub again_finish : Outcome percents unsurveyed Finish (sample_without (at 0 Active) (at 0 Active) (at 0 Quiet)) (Finished 2) (sample_without (at 0 Quiet) (at 0 Quiet) (at 0 Quiet))
again_finish = finish_done percents unsurveyed _ 2 _ refl (record { steps = more again_1 (more again_2 none); still = refl })
