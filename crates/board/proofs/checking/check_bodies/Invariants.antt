use Rattle.std.proofs.Common.{◌≡◌, false, drop}
use Rattle.pasts.specs.Refusals.{first}
use Rattle.pasts.specs.Tables.{body_checks}
use Rattle.board.proofs.checking.check_bodies.Given as goal

abbrev pub invariant-loop-b : goal.invariant-loop-b
invariant-loop-b l = first (body_checks l.count l.absent (drop l.b-index l.b-items)) ≡ first (body_checks l.count false l.b-items)
