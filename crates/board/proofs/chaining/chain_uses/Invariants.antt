use Rattle.std.proofs.Common.{◌≡◌, ℕ, ◌*◌, ◌<◌, ◌≤◌, length, get_or, set}
use Rattle.index.specs.Chains.{Chained}
use Rattle.index.specs.Uses.{uses, used}
use Rattle.model.specs.declared.rule.Rule.{Rule}
use Rattle.board.proofs.chaining.chain_uses.Given as goal

abbrev pub invariant-loop-q : goal.invariant-loop-q
invariant-loop-q g l =
    Chained (4 * l.q) (used (uses l.rules)) (set l.first 0 l.absent) l.next
    × ((k : ℕ) → l.q ≤ k → k < length l.rules → (d : Rule g.row.G.Denot) → length (get_or l.rules k d).bodies ≡ 4)
