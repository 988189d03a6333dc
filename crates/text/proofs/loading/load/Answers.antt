use Rattle.std.proofs.Common.{refl, ap, ◌∙◌}
use Rattle.std.proofs.lemmas.Result.{err_from_is_err_and}
use Rattle.pasts.specs.Tables.{Tables, tables}
use Rattle.text.specs.Boards.{placed}
use Rattle.text.specs.Rows.{rules_in}
use Rattle.text.proofs.LoadsMade.{in_lengths, in_header, in_rows, loaded, never_refused, is_cleared}
use Rattle.text.proofs.loading.load.Goals as goal

pub returns-in_err-check_lengths-clause-loads : goal.returns-in_err-check_lengths-clause-loads
returns-in_err-check_lengths-clause-loads g c =
    let p = err_from_is_err_and c.from_residual.result c.from_residual.ensures.1 in
    rw (p.1, p.2) (in_lengths g.met.G.Written.codes c.args.text.now (tables c.args.statements.now c.args.rules.now) _ c.in_err-check_lengths.ensures).loads

pub returns-in_err-count-clause-loads : goal.returns-in_err-count-clause-loads
returns-in_err-count-clause-loads g c =
    let p = err_from_is_err_and c.from_residual-in_err-count.result c.from_residual-in_err-count.ensures.1 in
    let t = tables c.args.statements.now c.args.rules.now in
    rw (p.1, p.2) (in_header g.met.G.Written.codes c.args.text.now t c.in_ok-check_lengths.ensures _ c.new-reader.ensures _ c.in_err-count.ensures.read).loads

pub returns-in_err-read_rules-clause-loads : goal.returns-in_err-read_rules-clause-loads
returns-in_err-read_rules-clause-loads g c =
    let p = err_from_is_err_and c.from_residual-in_err-read_rules.result c.from_residual-in_err-read_rules.ensures.1 in
    let t = tables c.args.statements.now c.args.rules.now in
    rw (p.1, p.2) (in_rows g.met.G.Written.codes c.args.text.now t c.in_ok-check_lengths.ensures _ c.new-reader.ensures c.in_ok-count.count c.in_ok-count.ensures.read c.rest-rest.result.now (c.rest-rest.ensures ∙ c.in_ok-count.ensures.rest) _ c.in_err-read_rules.ensures.answer).loads

pub returns-in_err-clear-clause-loads : goal.returns-in_err-clear-clause-loads
returns-in_err-clear-clause-loads g c = absurd (never_refused c.in_err-clear.ensures _ refl c.in_ok-check_lengths.ensures)

pub returns : goal.returns
returns g c =
    let m = g.G.Scale.meaning in
    let k = g.G.Written.coding in
    let t = tables c.args.statements.now c.args.rules.now in
    let next = c.rest-rest.result.now in
    let empty = is_cleared c.in_ok-clear.ensures refl in
    let load =
    loaded g.met.G.Written.codes c.args.text.now t c.in_ok-check_lengths.ensures _ c.new-reader.ensures c.in_ok-count.count c.in_ok-count.ensures.read next (c.rest-rest.ensures ∙ c.in_ok-count.ensures.rest) c.in_ok-read_rules.ensures.answer
    _ _ (ap (λ (w : Tables g.row.G.Denot). w.statements) empty) (c.in_ok-read_rules-2.ensures.placed ∙ ap (λ (w : Tables g.row.G.Denot). placed w.rules (rules_in m k c.in_ok-count.count next)) empty) in
    record { loads = load.loads; decoded = load.decoded }
