use Rattle.std.proofs.Common.{ltb, [], ◌∷◌, ap, ◌∙◌}
use Rattle.std.proofs.lemmas.Result.{err_from_is_err_and}
use Rattle.pasts.specs.declared.refusal.Refusal.TheVariants.{Count}
use Rattle.text.specs.Faults.{check, of_board, judged}
use Rattle.text.specs.Fields.{number_checks}
use Rattle.text.specs.Rows.{five, number_in}
use Rattle.text.proofs.Judged.{stops}
use Rattle.text.proofs.rows.Line+HEADER.rule_count.Goals as goal

pub returns-in_err-count : goal.returns-in_err-count
returns-in_err-count c =
    let b = c.args.self.now.bytes.now in
    let p = err_from_is_err_and c.from_residual.result c.from_residual.ensures.1 in
    rw (p.1, p.2) (stops (number_checks (five 7 b) 1 7) (check (of_board Count 1 7) (ltb c.args.places (number_in b 7)) ∷ []) (number_in b 7) (number_in b 7) _ (c.in_err-count.ensures ∙ ap (λ j. judged (number_checks (five 7 b) j 7) (number_in b 7)) c.requires))
