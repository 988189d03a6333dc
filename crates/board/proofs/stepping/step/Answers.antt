use Rattle.std.proofs.Common.{◌≡◌, ℕ, None, Some, Err, Result, sym, ap, ◌∙◌, subst}
use Rattle.std.specs.Option.{ok_or}
use Rattle.std.specs.Result.{result_ok}
use Rattle.pasts.specs.Tables.{tables}
use Rattle.pasts.specs.declared.call.Call.TheVariants.{Step}
use Rattle.pasts.specs.declared.refusal.Refusal.{Refusal}
use Rattle.pasts.specs.declared.refusal.Refusal.TheVariants.{NothingActive}
use Rattle.pasts.proofs.Outcomes.{call_unsound, step_idle, step_done}
use Rattle.board.specs.Advances.{Picks}
use Rattle.board.proofs.Exits.{exit_err}
use Rattle.board.proofs.Taken.{advance_steps}
use Rattle.board.proofs.stepping.step.Goals as goal

same_refusal : {e f : Refusal} → ◌≡◌ {A = Result ℕ Refusal} (Err e) (Err f) → e ≡ f
same_refusal e = cc

pub returns-in_err-check_tables : goal.returns-in_err-check_tables
returns-in_err-check_tables g c =
    rw (exit_err _ c.from_residual.result c.from_residual.ensures.1)
    (call_unsound g.V.Grade.Scale.meaning (g.V.Survey.degrees c.args.survey.now) (tables c.args.statements.now c.args.rules.now) Step _ c.in_err-check_tables.ensures)

pub returns-in_err-s : goal.returns-in_err-s
returns-in_err-s g c =
    let m = g.V.Grade.Scale.meaning in
    let xs = c.args.statements.now in
    let none : c.next_active.result ≡ None = c.ok_or.ensures.ok_part ∙ ap result_ok c.in_err-s.was in
    let why : c.in_err-s.field-0.0 ≡ NothingActive = same_refusal (sym c.in_err-s.was ∙ c.ok_or.ensures.value ∙ ap (λ o. ok_or o NothingActive) none) in
    rw (exit_err _ c.from_residual-in_err-s.result c.from_residual-in_err-s.ensures.1, why)
    (step_idle m (g.V.Survey.degrees c.args.survey.now) (tables xs c.args.rules.now) c.in_ok-check_tables.ensures (subst (Picks m xs) none c.next_active.ensures))

pub returns : goal.returns
returns g c =
    let m = g.V.Grade.Scale.meaning in
    let d = g.V.Survey.degrees c.args.survey.now in
    let xs = c.args.statements.now in
    let rs = c.args.rules.now in
    let s = c.in_ok-s.s in
    let one : c.next_active.result ≡ Some s = c.ok_or.ensures.ok_part ∙ ap result_ok c.in_ok-s.was in
    step_done m d (tables xs rs) s c.advance-rose.result (tables c.advance-rose.new.statements rs) c.in_ok-check_tables.ensures
    (advance_steps m d rs xs s c.advance-rose.result c.advance-rose.new.statements (subst (Picks m xs) one c.next_active.ensures) c.advance-rose.ensures.rose c.advance-rose.ensures.after)
