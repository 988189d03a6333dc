use Rattle.pasts.specs.Tables.{tables}
use Rattle.pasts.specs.Calls.{Runs}
use Rattle.pasts.proofs.Exists.{measure}
use Rattle.board.proofs.finishing.run.Given as goal

abbrev pub invariant-loop-s : goal.invariant-loop-s
invariant-loop-s g l = Runs g.V.Grade.Scale.meaning (g.V.Survey.degrees l.survey) l.count (tables l.initial.statements l.rules) (tables l.statements l.rules)

abbrev pub decreases-loop-s : goal.decreases-loop-s
decreases-loop-s g l = measure g.V.Grade.Scale.meaning (tables l.statements l.rules)
