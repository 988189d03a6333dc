use Rattle.std.proofs.Common.{◌+◌, drop, sym, ap, ◌∙◌, arith}
use Rattle.model.specs.Rules.{present}
use Rattle.board.specs.Telling.{all_told, sons}
use Rattle.pasts.specs.declared.statement.Event.TheVariants.{Opened}
use Rattle.board.proofs.Turns.{sons_skip, sons_more, all_told_append}
use Rattle.board.proofs.telling.open_sons.Goals as goal
use Rattle.board.proofs.telling.open_sons.Goals.{then-rule-s, else-rule-s}

pub loop-rule-preserved : goal.loop-rule-preserved
loop-rule-preserved g c =
    let m = g.G.Scale.meaning in
    let s = c.args.s in
    let rs = c.args.rules.now in
    let i = c.loop-rule.rule-index in
    let r = c.rule-item.result in
    elim c.if-rule-s.branch [
      | then-rule-s w ↦
          ap (λ x. all_told m Opened x (sons (drop (i + 1) rs) s)) (w.statements-is ∙ w.open_bodies.ensures) ∙ sym (all_told_append m Opened (present r.bodies) (sons (drop (i + 1) rs) s) c.loop-rule.statements) ∙ sym (ap (all_told m Opened c.loop-rule.statements) (sons_more rs i r (omega arith) c.rule-item.is s w.if-rule-s.true)) ∙ c.loop-rule.invariant
      | else-rule-s w ↦
          ap (λ x. all_told m Opened x (sons (drop (i + 1) rs) s)) w.statements-is ∙ sym (ap (all_told m Opened c.loop-rule.statements) (sons_skip rs i r (omega arith) c.rule-item.is s w.if-rule-s.false)) ∙ c.loop-rule.invariant
    ]
