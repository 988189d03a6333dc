use Rattle.std.proofs.Common.{◌≡◌, ℕ, ◌<◌, true, get_or}
use Rattle.index.specs.Words.{Has}
use Rattle.pasts.specs.Marks.{active as is_active}
use Rattle.pasts.specs.Tables.{unopened}
use Rattle.board.proofs.noting.active_in.Given as goal

abbrev pub invariant-loop-i : goal.invariant-loop-i
invariant-loop-i g l =
    (k : ℕ) → k < l.i → is_active (get_or l.statements k (unopened g.G.Scale.meaning)).mark ≡ true → Has l.active k
