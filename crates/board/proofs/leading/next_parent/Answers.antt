use Rattle.std.proofs.Common.{not, ◌&&◌, eqb, sym, ◌∙◌, arith}
use Rattle.std.proofs.lemmas.Bool.{and_from, and_left, and_right, eq-eqb, ne_eqb, not_from_true, not_from_false}
use Rattle.model.specs.Rules.{present}
use Rattle.board.specs.Flags.{flagged, some_flagged}
use Rattle.board.proofs.Any.{any_touches}
use Rattle.board.proofs.Spread.{spread_here, spread_next}
use Rattle.board.proofs.leading.next_parent.Goals as goal
use Rattle.board.proofs.leading.next_parent.Goals.{else-rule-ne0-via-then-rule-ne0+then-not-is_flagged+else-touches, else-rule-ne0-via-then-rule-ne0+else-not-is_flagged, else-rule-ne0-via-else-rule-ne0}

pub loop-rule-preserved : goal.loop-rule-preserved
loop-rule-preserved g c =
    let fl = c.args.flags.now in
    let r = c.rule-item.result in
    let x = not (eqb r.head 0) in
    let y = not (flagged fl r.head) in
    let z = some_flagged fl (present r.bodies) in
    spread_next fl c.args.rules.now c.loop-rule.rule-index c.loop-rule.invariant r (omega arith) c.rule-item.is
    (elim c.else-rule-ne0.branch [
      | else-rule-ne0-via-then-rule-ne0+then-not-is_flagged+else-touches w ↦ and_right x (y && z) (and_right y z (sym (any_touches fl r.bodies) ∙ sym w.if-touches.ensures))
      | else-rule-ne0-via-then-rule-ne0+else-not-is_flagged w ↦ and_right x (y && z) (and_left y z (not_from_true (flagged fl r.head) (sym w.if-not-is_flagged.ensures)))
      | else-rule-ne0-via-else-rule-ne0 w ↦ and_left x (y && z) (not_from_true (eqb r.head 0) (eq-eqb r.head 0 w.if-rule-ne0.false))
    ])

pub returns-then-touches : goal.returns-then-touches
returns-then-touches g c =
    let fl = c.args.flags.now in
    let r = c.rule-item.result in
    let x = not (eqb r.head 0) in
    let y = not (flagged fl r.head) in
    let z = some_flagged fl (present r.bodies) in
    spread_here fl c.args.rules.now c.loop-rule.rule-index c.loop-rule.invariant r (omega arith) c.rule-item.is
    (and_from x (y && z) (not_from_false (eqb r.head 0) (ne_eqb r.head 0 c.if-rule-ne0.true)) (and_from y z (not_from_false (flagged fl r.head) (sym c.if-not-is_flagged.ensures)) (sym (any_touches fl r.bodies) ∙ sym c.if-touches.ensures)))
