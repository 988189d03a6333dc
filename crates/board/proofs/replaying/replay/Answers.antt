use Rattle.std.proofs.Common.{ℕ, [], sym, refl, ◌∙◌, subst₂, arith}
use Rattle.pasts.specs.Tables.{tables}
use Rattle.pasts.specs.Pasts.{Past}
use Rattle.board.proofs.Exits.{exit_err}
use Rattle.board.proofs.Logged.{replay_refused, cleared_none, past_none, past_more, calls_kept, replay_done}
use Rattle.board.proofs.replaying.replay.Goals as goal

pub returns-in_err-clear : goal.returns-in_err-clear
returns-in_err-clear g c =
    rw (exit_err _ c.from_residual.result c.from_residual.ensures.1) (replay_refused c.args.entries.now c.in_err-clear.ensures)

pub loop-entry-init : goal.loop-entry-init
loop-entry-init g c =
    let t = tables c.args.statements.now c.args.rules.now in
    let u = tables c.clear.new.statements c.clear.new.rules in
    let P : ℕ → ℕ → Type 0 = λ n p. Past g.V.Grade.Scale.meaning (g.V.Survey.degrees c.args.survey.now) n p [] u in
    (subst₂ P (sym c.clear.auto.statements) (sym c.clear.auto.rules) (past_none {t = t} {u = u} c.in_ok-clear.ensures), refl)

pub loop-entry-preserved : goal.loop-entry-preserved
loop-entry-preserved g c =
    let es = c.loop-entry.entries in
    let i = c.loop-entry.entry-index in
    let f = c.perform_entry.new.entry in
    (past_more es i _ f (omega arith) c.perform_entry.ensures.kept c.loop-entry.invariant.0 c.perform_entry.ensures.answer, calls_kept es i c.entry-item.result f c.perform_entry.ensures.kept ∙ c.loop-entry.invariant.1)

pub returns : goal.returns
returns g c =
    let t = tables c.args.statements.now c.args.rules.now in
    let u = tables c.loop-entry.statements c.loop-entry.rules in
    replay_done g.met.V.Grade.Scale.laws t u c.args.entries.now c.loop-entry.entries c.loop-entry.entry-index (cleared_none c.in_ok-clear.ensures) c.clear.auto.statements c.clear.auto.rules (omega arith) c.loop-entry.invariant.1 c.loop-entry.invariant.0
