use Rattle.std.proofs.Common.{List, length, replicate, None, sym, ap, ◌∙◌, subst₂}
use Rattle.model.specs.declared.rule.Rule.{Rule}
use Rattle.pasts.specs.Tables.{tables}
use Rattle.pasts.specs.Calls.{Clears, kept, clears}
use Rattle.pasts.specs.declared.statement.Statement.{Statement}
use Rattle.board.proofs.Exits.{exit_err}
use Rattle.board.proofs.clearing.clear.Goals as goal

pub returns-in_err-check_lengths : goal.returns-in_err-check_lengths
returns-in_err-check_lengths g c =
    rw (exit_err _ c.from_residual.result c.from_residual.ensures.1) (kept (sym c.in_err-check_lengths.ensures))

pub returns : goal.returns
returns g c =
    let xs = c.args.statements.now in
    let rs = c.args.rules.now in
    let P : List (Statement g.row.G.Denot) → List (Rule g.row.G.Denot) → Type 0 = λ ys qs. Clears g.G.Scale.meaning (tables xs rs) None (tables ys qs) in
    subst₂ P
    (sym (c.fill.ensures ∙ ap (replicate (length xs)) c.unopened.ensures))
    (sym (c.fill-2.ensures ∙ ap (replicate (length rs)) c.blank.ensures))
    (clears (sym c.in_ok-check_lengths.ensures))
