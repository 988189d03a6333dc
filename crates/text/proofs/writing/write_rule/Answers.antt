use Rattle.std.proofs.Common.{length, get_or, drop, ap, ◌∙◌}
use Rattle.text.specs.Decimal.{written}
use Rattle.text.proofs.Grown.{row, pieces}
use Rattle.text.proofs.writing.write_rule.Goals as goal

pub returns : goal.returns
returns g c =
    let was = c.args.out.now in
    let x = c.args.rule.now in
    let m = c.write_number.ensures in
    let h = c.write_number-2.ensures in
    let w = c.write_number-3.ensures in
    let p = c.write_number-4.ensures in
    let q = c.write_number-5.ensures in
    let r = c.write_number-6.ensures in
    let s = c.write_number-7.ensures in
    row was _ _ _ _ _ _ _ _ c.requires (ap length m) (ap length h) (ap length w) (ap length p) (ap length q) (ap length r) (ap length s)
    ∙ pieces _ _ _ _ _ _ _ (written c.args.mark) (written x.head) (written (g.G.Written.coding.code x.weight))
    (written (get_or x.bodies 0 0)) (written (get_or x.bodies 1 0)) (written (get_or x.bodies 2 0)) (written (get_or x.bodies 3 0)) (drop 38 was) _ _
    m h c.letter.ensures (w ∙ ap written c.code.ensures.value) p q r s
