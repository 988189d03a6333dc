use Rattle.std.proofs.Common.{refl}
use Rattle.model.specs.Least.{least}
use Rattle.figures.proofs.SampleRun.{by_step_1, by_step_2, by_step_3, by_step_4, by_step_5, sample_finish, sample_withdraw, again_finish}
use Rattle.figures.proofs.figures_hold.Goals as goal

pub returns : goal.returns
unfolding least
returns c = record {
  blend_95_95 = refl;
  blend_99_1 = refl;
  join_apart = refl;
  meet_apart = refl;
  join_beliefs = refl;
  belief_code = refl;
  lowest_belief = refl;
  lowest_code = refl;
  highest_belief = refl;
  highest_level = refl;
  at_near = refl;
  quarter_way = refl;
  rounded_down = refl;
  almost_far = refl;
  at_far = refl;
  one_shoulder = refl;
  past_one_shoulder = refl;
  crossed_between = refl;
  at_crossed_near = refl;
  past_crossed_near = refl;
  unmeasured_line = λ near far. refl;
  form_all = refl;
  form_any = refl;
  form_chain = refl;
  vouches_for_itself = refl;
  sample_1 = refl;
  sample_2 = refl;
  sample_3 = refl;
  without_fact_1 = refl;
  without_fact_2 = refl;
  without_fact_3 = refl;
  step_1 = by_step_1;
  step_2 = by_step_2;
  step_3 = by_step_3;
  step_4 = by_step_4;
  step_5 = by_step_5;
  finishes_in_5 = sample_finish;
  withdrawn = sample_withdraw;
  finishes_in_2 = again_finish;
}
