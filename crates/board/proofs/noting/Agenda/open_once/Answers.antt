use Rattle.std.proofs.Common.{ℕ, ◌-◌, ◌/◌, ◌%◌, List, get_or, sym, subst}
use Rattle.std.proofs.lemmas.Bool.{eqb-true}
use Rattle.index.specs.Words.{digit, Has}
use Rattle.index.proofs.Digits.{put_only}
use Rattle.board.proofs.Told.{sons_positive}
use Rattle.board.proofs.Opened.{sons_again}
use Rattle.board.proofs.noting.Agenda.open_once.Goals as goal

pub returns-then-has-clause-hears : goal.returns-then-has-clause-hears
returns-then-has-clause-hears g c =
    let rs = c.args.own.now.rules.now in
    let i = c.args.s - 1 in
    sym (sons_again g.G.Scale.meaning rs c.args.s c.args.self.now.statements.now (sons_positive c.args.s rs) (c.requires.before (eqb-true (digit (i % 64) (get_or c.args.opened.now (i / 64) 0)) 1 (sym c.if-has.ensures))))

pub returns-clause-opened : goal.returns-clause-opened
returns-clause-opened g c j ne h =
    let F : List ℕ → Type 0 = λ l. Has l j in
    put_only c.args.opened.now (c.args.s - 1) j ne (subst F c.insert.ensures.with h)
