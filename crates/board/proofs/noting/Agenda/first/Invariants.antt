use Rattle.std.proofs.Common.{◌≡◌, ◌*◌, sum}
use Rattle.board.specs.Indexed.{Resting}
use Rattle.board.proofs.noting.Agenda.first.Given as goal

abbrev pub invariant-loop-i : goal.invariant-loop-i
invariant-loop-i g l =
    Resting g.G.Scale.meaning (64 * l.q) l.self.statements.now
    × (l.self.statements.ghost_name ≡ l.initial.self.statements.ghost_name)
    × (l.self.statements.now ≡ l.initial.self.statements.now)

abbrev pub decreases-loop-i : goal.decreases-loop-i
decreases-loop-i g l = sum l.self.active
