use Rattle.std.proofs.Common.{◌≡◌, ℕ, ◌≤◌, true, not, length, count_by}
use Rattle.model.specs.Rules.{Leads}
use Rattle.board.specs.Flags.{flagged}
use Rattle.board.proofs.leading.leading_by_search.Given as goal

abbrev pub invariant-loop-p : goal.invariant-loop-p
invariant-loop-p g l =
    ((s : ℕ) → 1 ≤ s → flagged l.flags s ≡ true → Leads l.rules s l.head)
    × (flagged l.flags l.head ≡ true)
    × (length l.flags ≡ 1024)

abbrev pub decreases-loop-p : goal.decreases-loop-p
decreases-loop-p g l = count_by not l.flags
