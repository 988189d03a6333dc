use Rattle.index.specs.Chains.{Chained}
use Rattle.index.specs.Uses.{heads}
use Rattle.board.proofs.chaining.chain_heads.Given as goal

abbrev pub invariant-loop-i : goal.invariant-loop-i
invariant-loop-i g l = Chained l.i (heads l.rules) l.first l.next
