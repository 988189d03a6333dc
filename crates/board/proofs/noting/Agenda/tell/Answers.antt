use Rattle.std.proofs.Common.{ℕ, ◌-◌, List, sym, subst}
use Rattle.index.specs.Words.{Has}
use Rattle.index.proofs.Digits.{put_kept}
use Rattle.board.proofs.noting.Agenda.tell.Goals as goal

pub invariant_of-self-2-clause-noted : goal.invariant_of-self-2-clause-noted
invariant_of-self-2-clause-noted g c j h a =
    let was = c.args.self.now in
    let F : List ℕ → Type 0 = λ l. Has l j in
    subst F (sym c.insert.ensures.with) (put_kept was.active (c.args.s - 1) j (was.noted j h a))
