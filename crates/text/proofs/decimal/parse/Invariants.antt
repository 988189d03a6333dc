use Rattle.std.proofs.Common.{◌≡◌, ◌^◌, ◌<◌, ◌≤◌, length, drop, unwrap_or}
use Rattle.text.specs.Decimal.{rest, parsed}
use Rattle.text.proofs.decimal.parse.Given as goal

-- what is left of the columns comes to what all of them come to
abbrev pub invariant-loop-b : goal.invariant-loop-b
invariant-loop-b l =
    (rest l.value (drop l.b-index l.field) ≡ parsed l.field) × (unwrap_or l.value 0 < 10 ^ l.b-index) × (l.b-index ≤ length l.field)
