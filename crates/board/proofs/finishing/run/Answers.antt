use Rattle.std.proofs.Common.{arith}
use Rattle.pasts.specs.Tables.{tables}
use Rattle.pasts.specs.Calls.{none}
use Rattle.pasts.proofs.Exists.{measure_falls}
use Rattle.pasts.proofs.Fits.{measure_fits}
use Rattle.pasts.proofs.Running.{runs_more, run_spent}
use Rattle.board.proofs.Taken.{advance_steps}
use Rattle.board.proofs.finishing.run.Goals as goal

pub loop-s-init : goal.loop-s-init
loop-s-init g c = none

pub overflow_add-count : goal.overflow_add-count
overflow_add-count g c =
    let laws = g.met.V.Grade.Scale.laws in
    omega (arith, run_spent laws c.loop-s.invariant, measure_fits laws (tables c.args.statements.now c.args.rules.now) c.requires)

pub loop-s-smaller : goal.loop-s-smaller
loop-s-smaller g c =
    let d = g.V.Survey.degrees c.args.survey.now in
    measure_falls g.met.V.Grade.Scale.laws d (advance_steps g.V.Grade.Scale.meaning d c.args.rules.now c.loop-s.statements c.in-Some.s c.advance.result c.advance.new.statements c.in-Some.ensures c.advance.ensures.rose c.advance.ensures.after)

pub loop-s-preserved : goal.loop-s-preserved
loop-s-preserved g c =
    runs_more c.loop-s.invariant (advance_steps g.V.Grade.Scale.meaning (g.V.Survey.degrees c.args.survey.now) c.args.rules.now c.loop-s.statements c.in-Some.s c.advance.result c.advance.new.statements c.in-Some.ensures c.advance.ensures.rose c.advance.ensures.after)
