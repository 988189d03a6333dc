use Rattle.std.proofs.Common.{◌+◌, ◌≤◌, [], ◌∷◌, ◌++◌, length, take, drop, sym, ap, ◌∙◌, arith}
use Rattle.std.specs.List.{flat_map}
use Rattle.std.proofs.lemmas.List.{length-append, length-take, length-drop, flat_map_more}
use Rattle.text.specs.Boards.{held, numbered}
use Rattle.text.specs.Spelling.{row_bytes}
use Rattle.text.proofs.Holding.{held_blank, held_there, held_room}
use Rattle.text.proofs.Poured.{pour}
use Rattle.text.proofs.writing.write_rules.Given.{Over}
use Rattle.text.proofs.writing.write_rules.Goals as goal
use Rattle.text.proofs.writing.write_rules.Goals.{then-rule-ne0, else-rule-ne0, Then-rule-ne0}

room : (g : Over) (c : Then-rule-ne0 g) → c.loop-i.at + 38 ≤ length c.args.out.now
room g c =
    let r = held_room c.args.rules.now c.loop-i.i c.index-rules-i.result c.index-rules-i.result (omega arith) c.index-rules-i.is c.if-rule-ne0.true in
    omega (arith, r, c.loop-i.invariant.1, c.requires.room)

pub write_rule-requires : goal.write_rule-requires
write_rule-requires g c = simp (length-take, length-drop) (omega (arith, room g (goal.at.write_rule-requires g c).Then-rule-ne0))

pub loop-i-preserved : goal.loop-i-preserved
loop-i-preserved g c =
    let rules = c.args.rules.now in
    let i = c.loop-i.i in
    let r = c.index-rules-i.result in
    let was = c.args.out.now in
    let bytes = row_bytes g.G.Written.coding in
    let at = c.loop-i.at in
    elim c.if-rule-ne0.branch [
      | then-rule-ne0 w ↦
          let e = held_there rules i r r (omega arith) c.index-rules-i.is w.if-rule-ne0.true in
          let l = ap length e ∙ length-append (held 1 (take i rules)) (numbered _ r ∷ []) in
          let q = held_room rules i r r (omega arith) c.index-rules-i.is w.if-rule-ne0.true in
          let y = w.write_rule.ensures in
          let o = pour was c.loop-i.out (flat_map bytes (held 1 (take i rules))) _ (bytes (numbered (i + 1) r)) at 38 c.loop-i.auto.out c.loop-i.invariant.2 c.loop-i.invariant.3 y in (
            omega arith,
            omega (arith, l, w.at-is, c.loop-i.invariant.1),
            omega (arith, q, w.at-is, c.loop-i.invariant.1, c.requires.room),
            w.out-is ∙ (o ∙ (ap (λ x. x ++ drop (at + 38) was) (flat_map_more bytes [] (held 1 (take i rules)) (numbered (i + 1) r) ∙ ap (flat_map bytes) (sym e)) ∙ ap (λ n. flat_map bytes (held 1 (take (i + 1) rules)) ++ drop n was) (sym w.at-is))),
          )
      | else-rule-ne0 w ↦
          let e = held_blank rules i r r (omega arith) c.index-rules-i.is w.if-rule-ne0.false in
          let l = ap length e in (
            omega arith,
            omega (arith, l, w.at-is, c.loop-i.invariant.1),
            omega (arith, w.at-is, c.loop-i.invariant.2),
            w.out-is ∙ (c.loop-i.invariant.3 ∙ (ap (λ xs. flat_map bytes xs ++ drop at was) (sym e) ∙ ap (λ n. flat_map bytes (held 1 (take (i + 1) rules)) ++ drop n was) (sym w.at-is))),
          )
    ]
