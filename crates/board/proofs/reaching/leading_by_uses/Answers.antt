use Rattle.std.proofs.Common.{ap, ⊎_elim, arith, length}
use Rattle.board.proofs.Queued.{spreading_first, spreading_next, spreading_more, all_lead}
use Rattle.board.proofs.reaching.leading_by_uses.Goals as goal

pub loop-s-init : goal.loop-s-init
loop-s-init g c = rw (c.put.ensures, c.add.ensures, c.none-waiting.ensures) (spreading_first c.args.uses.now.rules.now c.args.head c.requires.on)

pub flag_parents-requires-clause-on : goal.flag_parents-requires-clause-on
flag_parents-requires-clause-on g c =
    (spreading_next c.args.uses.now.rules.now c.args.head c.loop-s.flags c.loop-s.waiting c.next.new.self c.in-Some.s c.in-Some.ensures c.loop-s.invariant).0

pub loop-s-preserved : goal.loop-s-preserved
loop-s-preserved g c =
    spreading_more c.args.uses.now.rules.now c.args.head c.requires.on.0 c.loop-s.flags c.flag_parents.new.flags c.loop-s.waiting c.next.new.self c.flag_parents.new.waiting c.in-Some.s c.in-Some.ensures (omega arith) c.loop-s.invariant c.flag_parents.ensures.grown c.flag_parents.ensures.closed

pub returns : goal.returns
returns g c =
    let so = c.loop-s.invariant in
    let long = so.long in
    let none = ap length c.in_default.ensures.0 in
    record {
      only = λ s on e. so.only s on.0 e;
      every = λ s on l. all_lead c.loop-s.flags 1024 c.args.uses.now.rules.now c.requires.formed (λ t pos f. ⊎_elim (λ w. absurd (omega (arith, w.1, w.2, none))) (λ shut. shut) (so.open_yet t pos f)) (on.0, omega (arith, on.1, long)) l so.own;
    }
