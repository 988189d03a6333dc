use Rattle.std.proofs.Common.{◌≡◌, take, replicate}
use Rattle.board.proofs.clearing.fill.Given as goal

abbrev pub invariant-loop-x : goal.invariant-loop-x
invariant-loop-x g l = take l.x-index l.items ≡ replicate l.x-index l.item
