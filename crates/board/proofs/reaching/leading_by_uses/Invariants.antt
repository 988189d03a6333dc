use Rattle.std.proofs.Common.{◌+◌, not, length, count_by}
use Rattle.board.proofs.Queued.{Spreading}
use Rattle.board.proofs.reaching.leading_by_uses.Given as goal

abbrev pub invariant-loop-s : goal.invariant-loop-s
invariant-loop-s g l = Spreading l.uses.rules.now l.head l.flags l.waiting

abbrev pub decreases-loop-s : goal.decreases-loop-s
decreases-loop-s g l = length l.waiting + count_by not l.flags
