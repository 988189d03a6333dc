use Rattle.std.proofs.Common.{◌≡◌, ℕ, not, Some, None, Option, is_some, List, sym, ap, ◌∙◌}
use Rattle.std.proofs.Math.Bool.{not-not}
use Rattle.scales.specs.Meaning.{Meaning}
use Rattle.pasts.specs.Tables.{some_active}
use Rattle.pasts.specs.declared.statement.Statement.{Statement}
use Rattle.pasts.proofs.Active.{next_active}
use Rattle.board.specs.Advances.{Picks}
use Rattle.board.proofs.reading.settled.Goals as goal

picked : {G : Type 0} (m : Meaning G) (xs : List (Statement G)) (o : Option ℕ) → Picks m xs o → is_some o ≡ some_active xs
picked m xs None p = sym p
picked m xs (Some s) p = sym (next_active m xs s p)

pub returns : goal.returns
returns g c =
    let o = c.next_active.result in
    sym (not-not c.is_none.result) ∙ ap not (sym c.is_none.ensures ∙ picked g.G.Scale.meaning c.args.statements.now o c.next_active.ensures)
