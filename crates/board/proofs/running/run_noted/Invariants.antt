use Rattle.std.proofs.Common.{◌≡◌, ℕ, ◌-◌, ◌≤◌}
use Rattle.pasts.specs.Tables.{tables}
use Rattle.pasts.specs.Calls.{Runs}
use Rattle.pasts.proofs.Exists.{measure}
use Rattle.index.specs.Words.{Has}
use Rattle.board.specs.Indexed.{SonsOpen}
use Rattle.board.proofs.running.run_noted.Given as goal

abbrev pub invariant-loop-s : goal.invariant-loop-s
invariant-loop-s g l =
    let m = g.V.Grade.Scale.meaning in
    let rs = l.own.rules.now in
    Runs m (g.V.Survey.degrees l.survey) l.count (tables l.initial.agenda.statements.now rs) (tables l.agenda.statements.now rs)
    × (l.agenda.statements.ghost_name ≡ l.initial.agenda.statements.ghost_name)
    × ((r : ℕ) → 1 ≤ r → Has l.opened (r - 1) → SonsOpen m rs l.agenda.statements.now r)

abbrev pub decreases-loop-s : goal.decreases-loop-s
decreases-loop-s g l = measure g.V.Grade.Scale.meaning (tables l.agenda.statements.now l.own.rules.now)
