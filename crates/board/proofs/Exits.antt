-- The exit of a `?`: the refusal that it was given.
use Rattle.std.proofs.Common.{◌≡◌, IsErrAnd, Err, Result, ap, ◌∙◌}
use Rattle.std.proofs.lemmas.Result.{err_from_is_err_and}

pub exit_err : {X E : Type 0} (e : E) (r : Result X E) → IsErrAnd r (λ y. y ≡ e) → r ≡ Err e
exit_err e r h = let p = err_from_is_err_and r h in p.1 ∙ ap Err p.2
