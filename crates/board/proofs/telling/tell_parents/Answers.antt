use Rattle.std.proofs.Common.{◌≡◌, ◌+◌, false, not, ◌&&◌, eqb, drop, sym, ap, ◌∙◌, arith}
use Rattle.std.proofs.lemmas.Bool.{and_from, and_left, and_right, eq-eqb, ne_eqb, not_from_true, not_from_false}
use Rattle.model.specs.Rules.{present, holds}
use Rattle.board.specs.Telling.{all_told, parents}
use Rattle.pasts.specs.declared.statement.Event.TheVariants.{SonRose}
use Rattle.board.proofs.Any.{any_holds}
use Rattle.board.proofs.Turns.{parents_skip, parents_more}
use Rattle.board.proofs.telling.tell_parents.Goals as goal
use Rattle.board.proofs.telling.tell_parents.Goals.{then-rule-ne0+then-holds, else-rule-ne0, else-rule-ne0-via-then-rule-ne0+else-holds, else-rule-ne0-via-else-rule-ne0}

pub loop-rule-preserved : goal.loop-rule-preserved
loop-rule-preserved g c =
    let m = g.G.Scale.meaning in
    let s = c.args.s in
    let rs = c.args.rules.now in
    let i = c.loop-rule.rule-index in
    let r = c.rule-item.result in
    let named = not (eqb r.head 0) in
    let held = holds (present r.bodies) s in
    elim c.if-rule-ne0.branch [
      | then-rule-ne0+then-holds w ↦
          ap (λ x. all_told m SonRose x (parents (drop (i + 1) rs) s)) (w.statements-is ∙ w.tell.ensures) ∙ sym (ap (all_told m SonRose c.loop-rule.statements) (parents_more rs i r (omega arith) c.rule-item.is s (and_from named held (not_from_false (eqb r.head 0) (ne_eqb _ _ w.if-rule-ne0.true)) (sym (any_holds s r.bodies) ∙ sym w.if-holds.ensures)))) ∙ c.loop-rule.invariant
      | else-rule-ne0 w ↦
          let fails : (named && held) ≡ false =
          elim w.else-rule-ne0.branch [
            | else-rule-ne0-via-then-rule-ne0+else-holds v ↦ and_right named held (sym (any_holds s r.bodies) ∙ sym v.if-holds.ensures)
            | else-rule-ne0-via-else-rule-ne0 v ↦ and_left named held (not_from_true (eqb r.head 0) (eq-eqb _ _ v.if-rule-ne0.false))
          ] in
          ap (λ x. all_told m SonRose x (parents (drop (i + 1) rs) s)) w.statements-is ∙ sym (ap (all_told m SonRose c.loop-rule.statements) (parents_skip rs i r (omega arith) c.rule-item.is s fails)) ∙ c.loop-rule.invariant
    ]
