use Rattle.std.proofs.Common.{◌≡◌, true, false, rules, tests}
use Rattle.std.proofs.lemmas.Iterator.{IsFirst-from_position, YieldsList-from_slice}
use Rattle.pasts.specs.Marks.{active}
use Rattle.board.proofs.Told.{First, first_none}
use Rattle.board.proofs.stepping.next_active.Goals as goal

pub returns-in_err-i : goal.returns-in_err-i
returns-in_err-i g c =
    let m = g.G.Scale.meaning in
    let xs = c.args.statements.now in
    let first : First m xs c.position.result = IsFirst-from_position _ _ _ (λ x. active x.mark ≡ true) (λ x. active x.mark ≡ false) c.position.ensures.ran (YieldsList-from_slice xs cc) (λ x q k. search (rules, tests)) (λ x q k. search (rules, tests)) in
    rw c.from_residual.ensures (first_none m xs c.position.result first c.in_err-i.was)
