use Rattle.std.proofs.Common.{◌≡◌, drop}
use Rattle.board.specs.Flags.{spreading}
use Rattle.board.proofs.leading.next_parent.Given as goal

abbrev pub invariant-loop-rule : goal.invariant-loop-rule
invariant-loop-rule g l = spreading l.flags (drop l.rule-index l.rules) ≡ spreading l.flags l.rules
