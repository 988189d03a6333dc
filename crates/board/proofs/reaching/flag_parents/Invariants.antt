use Rattle.std.proofs.Common.{◌≡◌, ℕ, ◌≤◌, true, ◌⊎◌, length, drop}
use Rattle.std.specs.List.{AllByRecursion as All}
use Rattle.model.specs.Rules.{holds, son}
use Rattle.model.specs.Least.{On}
use Rattle.index.specs.Uses.{heads, uses, users}
use Rattle.board.specs.Flags.{flagged, Grown}
use Rattle.board.specs.Indexed.{keyed, chosen}
use Rattle.board.proofs.reaching.flag_parents.Given as goal

abbrev pub invariant-loop-rule : goal.invariant-loop-rule
invariant-loop-rule g l =
    let it = l.rule-iterator in
    let rs = l.uses.rules.now in
    let rest = heads (chosen it.key (drop it.at (keyed 4 it.rules.now))) in
    Grown rs l.s l.initial.flags l.initial.waiting (length l.initial.waiting) l.flags l.waiting (length l.waiting)
    × ((p : ℕ) → 1 ≤ p → holds (users (uses rs) l.s) p ≡ true → (flagged l.flags p ≡ true) ⊎ (holds rest p ≡ true))
    × All (λ p. On 1024 p × (son rs p l.s ≡ true)) rest
