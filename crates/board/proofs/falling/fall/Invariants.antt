use Rattle.board.proofs.Fallen.{Fallen}
use Rattle.board.proofs.falling.fall.Given as goal

abbrev pub invariant-loop-i : goal.invariant-loop-i
invariant-loop-i g l = Fallen g.G.Scale.meaning l.flags l.initial.statements l.i l.statements
