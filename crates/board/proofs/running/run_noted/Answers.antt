use Rattle.std.proofs.Common.{◌-◌, refl, ap, ◌∙◌, arith}
use Rattle.pasts.specs.Tables.{tables}
use Rattle.pasts.specs.Calls.{none}
use Rattle.pasts.proofs.Exists.{measure_falls}
use Rattle.pasts.proofs.Fits.{measure_fits}
use Rattle.pasts.proofs.Running.{runs_more, run_spent}
use Rattle.board.proofs.Noted.{none_in}
use Rattle.index.specs.Words.{Has}
use Rattle.board.specs.Advances.{advanced}
use Rattle.board.proofs.Opened.{sons_stay}
use Rattle.board.proofs.Taken.{advance_steps}
use Rattle.board.proofs.running.run_noted.Goals as goal

pub loop-s-init : goal.loop-s-init
loop-s-init g c = (none, refl, (λ r pos h. absurd (none_in _ c.new-opened.ensures (r - 1) h)))

pub advance_noted-requires : goal.advance_noted-requires
advance_noted-requires g c =
    let picks = c.in-Some.ensures.picks in
    rw c.in-Some.ensures.same (record { on = picks.on; same = c.requires; before = λ h. c.loop-s.invariant.2 c.in-Some.s picks.on.0 h })

pub overflow_add-count : goal.overflow_add-count
overflow_add-count g c =
    let laws = g.met.V.Grade.Scale.laws in
    omega (arith, run_spent laws c.loop-s.invariant.0, measure_fits laws (tables c.args.agenda.now.statements.now c.args.own.now.rules.now) c.args.agenda.now.few)

pub loop-s-smaller : goal.loop-s-smaller
loop-s-smaller g c =
    let m = g.V.Grade.Scale.meaning in
    let d = g.V.Survey.degrees c.args.survey.now in
    let rs = c.args.own.now.rules.now in
    let s = c.in-Some.s in
    let after = c.advance_noted.ensures.after ∙ ap (λ l. advanced m d rs l s) c.in-Some.ensures.same in
    measure_falls g.met.V.Grade.Scale.laws d (advance_steps m d rs c.loop-s.agenda.statements.now s _ c.advance_noted.new.agenda.statements.now c.in-Some.ensures.picks refl after)

pub loop-s-preserved : goal.loop-s-preserved
loop-s-preserved g c =
    let m = g.V.Grade.Scale.meaning in
    let d = g.V.Survey.degrees c.args.survey.now in
    let rs = c.args.own.now.rules.now in
    let s = c.in-Some.s in
    let e = c.advance_noted.ensures in
    let after = e.after ∙ ap (λ l. advanced m d rs l s) c.in-Some.ensures.same in
    let step = advance_steps m d rs c.loop-s.agenda.statements.now s _ c.advance_noted.new.agenda.statements.now c.in-Some.ensures.picks refl after in (
      runs_more c.loop-s.invariant.0 step,
      e.same_reference ∙ c.in-Some.ensures.same_reference ∙ c.loop-s.invariant.1,
      sons_stay m step (Has c.loop-s.opened) (Has c.advance_noted.new.opened) c.loop-s.invariant.2 e.opened,
    )

pub returns : goal.returns
returns g c =
    let e = c.in_default.ensures in
    record {
      same_reference = e.same_reference ∙ c.loop-s.invariant.1;
      finishes = rw e.same (record { steps = c.loop-s.invariant.0; still = e.picks });
    }
