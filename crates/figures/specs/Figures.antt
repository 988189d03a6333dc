-- Figures that were worked out by hand. Assumes nothing.
--     belief b d          the grade of a statement believed by b and doubted by d percent
--     beliefs             the scale of such grades, with its codes
--     Takes s w rose t u  the step from t to u takes s, whose worth is w, and which rose or not
--     Figures             all of them
use Rattle.std.specs.Prelude.{◌≡◌, ℕ, Bool, true, false, cond, List, [], ◌∷◌, ◌==◌, slice_set}
use Rattle.scales.specs.Meaning.{Meaning}
use Rattle.scales.specs.Codes.{Coding}
use Rattle.scales.specs.Percents.{percent, percents, percent_coding}
use Rattle.scales.specs.Verdicts.{verdicts}
use Rattle.scales.specs.Turning.{over, turned, turned_coding}
use Rattle.scales.specs.Pairs.{both, pairs, pair_coding}
use Rattle.scales.specs.declared.percent.Percent.{Percent}
use Rattle.scales.specs.declared.verdict.Verdict.TheVariants.{False, Unknown, Inconsistent, True}
use Rattle.scales.specs.declared.turned.Turned.{Turned}
use Rattle.scales.specs.declared.pair.Pair.{Pair}
use Rattle.surveys.specs.Ramps.{graded}
use Rattle.model.specs.Rules.{value}
use Rattle.model.specs.Least.{worth, least}
use Rattle.model.specs.declared.rule.Form.{Form}
use Rattle.model.specs.declared.rule.Form.TheVariants.{All, Any, Chain}
use Rattle.model.specs.declared.rule.Rule.{Rule}
use Rattle.pasts.specs.Tables.{Tables, tables, blank, grade}
use Rattle.pasts.specs.Calls.{Outcome}
use Rattle.pasts.specs.declared.statement.Mark.{Mark}
use Rattle.pasts.specs.declared.statement.Mark.TheVariants.{Quiet, Active}
use Rattle.pasts.specs.declared.statement.Statement.{Statement}
use Rattle.pasts.specs.declared.call.Call.TheVariants.{Withdraw, Step, Finish}
use Rattle.pasts.specs.declared.call.Answer.TheVariants.{Withdrawn, Stepped, Finished}

abbrev pub belief : ℕ → ℕ → Pair Percent (Turned Percent)
belief b d = both (percent b) (over (percent d))

abbrev pub beliefs : Meaning (Pair Percent (Turned Percent))
beliefs = pairs percents (turned percents)

abbrev pub belief_coding : Coding (Pair Percent (Turned Percent))
belief_coding = pair_coding percent_coding (turned_coding percent_coding)

abbrev rule : ℕ → Form → ℕ → List ℕ → Rule Percent
rule head form weight bodies = record { head = head; form = form; weight = percent weight; bodies = bodies }

-- nobody measured anything
abbrev pub unsurveyed : ℕ → Percent
unsurveyed s = percent 0

-- the rules' grades of statements 1 and 2: 70 and 80
abbrev pub seventy_eighty : ℕ → Percent
seventy_eighty s = cond (s == 1) (percent 70) (percent 80)

abbrev pub under_form : Form → Percent
under_form form = value percents seventy_eighty (rule 3 form 90 (1 ∷ 2 ∷ 0 ∷ 0 ∷ []))

abbrev pub self_loop : List (Rule Percent)
self_loop = rule 1 All 100 (1 ∷ 0 ∷ 0 ∷ 0 ∷ []) ∷ []

-- the sample board: statements 1 and 2 rest on each other, and 2 on a fact
abbrev pub sample_rules : List (Rule Percent)
sample_rules = rule 1 All 90 (2 ∷ 0 ∷ 0 ∷ 0 ∷ []) ∷ rule 2 All 80 (1 ∷ 0 ∷ 0 ∷ 0 ∷ []) ∷ rule 2 Chain 70 (0 ∷ 0 ∷ 0 ∷ 0 ∷ []) ∷ []

abbrev pub without_fact : List (Rule Percent)
without_fact = slice_set sample_rules 2 (blank percents)

-- the sample board with three statements, each with a grade and a mark
abbrev pub sample : Statement Percent → Statement Percent → Statement Percent → Tables Percent
sample a b c = tables (a ∷ b ∷ c ∷ []) sample_rules

-- the same with its third rule withdrawn
abbrev pub sample_without : Statement Percent → Statement Percent → Statement Percent → Tables Percent
sample_without a b c = tables (a ∷ b ∷ c ∷ []) without_fact

abbrev pub at : ℕ → Mark → Statement Percent
at grade mark = record { grade = percent grade; mark = mark }

pub record Takes (s w : ℕ) (rose : Bool) (t u : Tables Percent) : Type 0 where
  pub its_worth : worth percents unsurveyed t.rules (grade percents t) s ≡ percent w
  pub step : Outcome percents unsurveyed Step t (Stepped s rose) u

pub record Figures : Type 0 where
  pub blend_95_95 : percents.blend (percent 95) (percent 95) ≡ percent 90
  pub blend_99_1 : percents.blend (percent 99) (percent 1) ≡ percent 0
  pub join_apart : verdicts.join Unknown Inconsistent ≡ True
  pub meet_apart : verdicts.meet Unknown Inconsistent ≡ False
  pub join_beliefs : beliefs.join (belief 40 30) (belief 60 50) ≡ belief 60 30
  pub belief_code : belief_coding.code (belief 60 30) ≡ 15390
  pub lowest_belief : beliefs.lowest ≡ belief 0 100
  pub lowest_code : belief_coding.code beliefs.lowest ≡ 100
  pub highest_belief : beliefs.highest ≡ belief 100 0
  pub highest_level : beliefs.level beliefs.highest ≡ 200
  pub at_near : graded 10000 14000 10000 ≡ percent 100
  pub quarter_way : graded 10000 14000 11000 ≡ percent 75
  pub rounded_down : graded 10000 14000 12500 ≡ percent 37
  pub almost_far : graded 10000 14000 13999 ≡ percent 0
  pub at_far : graded 10000 14000 14000 ≡ percent 0
  pub one_shoulder : graded 50 50 50 ≡ percent 100
  pub past_one_shoulder : graded 50 50 51 ≡ percent 0
  pub crossed_between : graded 60 40 50 ≡ percent 100
  pub at_crossed_near : graded 60 40 60 ≡ percent 100
  pub past_crossed_near : graded 60 40 61 ≡ percent 0
  pub unmeasured_line : (near far : ℕ) → graded near far 0 ≡ percent 0
  pub form_all : under_form All ≡ percent 63
  pub form_any : under_form Any ≡ percent 72
  pub form_chain : under_form Chain ≡ percent 50
  pub vouches_for_itself : least percents unsurveyed self_loop 1 1 ≡ percent 0
  pub sample_1 : least percents unsurveyed sample_rules 3 1 ≡ percent 63
  pub sample_2 : least percents unsurveyed sample_rules 3 2 ≡ percent 70
  pub sample_3 : least percents unsurveyed sample_rules 3 3 ≡ percent 0
  pub without_fact_1 : least percents unsurveyed without_fact 3 1 ≡ percent 0
  pub without_fact_2 : least percents unsurveyed without_fact 3 2 ≡ percent 0
  pub without_fact_3 : least percents unsurveyed without_fact 3 3 ≡ percent 0
  -- all wanted, five single steps
  pub step_1 : Takes 1 0 false (sample (at 0 Active) (at 0 Active) (at 0 Active)) (sample (at 0 Quiet) (at 0 Active) (at 0 Active))
  pub step_2 : Takes 2 70 true (sample (at 0 Quiet) (at 0 Active) (at 0 Active)) (sample (at 0 Active) (at 70 Quiet) (at 0 Active))
  pub step_3 : Takes 1 63 true (sample (at 0 Active) (at 70 Quiet) (at 0 Active)) (sample (at 63 Quiet) (at 70 Active) (at 0 Active))
  pub step_4 : Takes 2 70 false (sample (at 63 Quiet) (at 70 Active) (at 0 Active)) (sample (at 63 Quiet) (at 70 Quiet) (at 0 Active))
  pub step_5 : Takes 3 0 false (sample (at 63 Quiet) (at 70 Quiet) (at 0 Active)) (sample (at 63 Quiet) (at 70 Quiet) (at 0 Quiet))
  -- all wanted, a finish answers five evaluations: so the lowest-numbered active statement is taken first
  pub finishes_in_5 : Outcome percents unsurveyed Finish (sample (at 0 Active) (at 0 Active) (at 0 Active)) (Finished 5) (sample (at 63 Quiet) (at 70 Quiet) (at 0 Quiet))
  -- the withdraw of the third rule, and the finish after it
  pub withdrawn : Outcome percents unsurveyed (Withdraw 3) (sample (at 63 Quiet) (at 70 Quiet) (at 0 Quiet)) Withdrawn (sample_without (at 0 Active) (at 0 Active) (at 0 Quiet))
  pub finishes_in_2 : Outcome percents unsurveyed Finish (sample_without (at 0 Active) (at 0 Active) (at 0 Quiet)) (Finished 2) (sample_without (at 0 Quiet) (at 0 Quiet) (at 0 Quiet))
