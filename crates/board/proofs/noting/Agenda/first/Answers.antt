use Rattle.std.proofs.Common.{◌≡◌, ◌<◌, false, length, get_or, sym, ◌∙◌, arith}
use Rattle.std.proofs.lemmas.List.{get_or_default}
use Rattle.pasts.specs.Marks.{active}
use Rattle.pasts.specs.Tables.{unopened}
use Rattle.board.proofs.Told.{none_active, next_here}
use Rattle.board.proofs.Noted.{rests_to, rests_all, noted_less, sum_falls}
use Rattle.board.proofs.noting.Agenda.first.Goals as goal

pub returns-then-is_active_at-clause-picks : goal.returns-then-is_active_at-clause-picks
returns-then-is_active_at-clause-picks g c =
    let m = g.G.Scale.meaning in
    let a = c.loop-i.self in
    let xs = a.statements.now in
    let i = c.in-Some.i in
    let inv = c.loop-i.invariant in
    let on = c.is_active_at.ensures.within c.if-is_active_at.true in
    let x = get_or xs i (unopened m) in
    let below = rests_to m xs a.active c.loop-i.q i a.noted inv.0 c.in-Some.ensures.2 in
    rw (← inv.2) (next_here m xs i x on (get_or_default xs i (unopened m) x on) (sym c.is_active_at.ensures.is ∙ c.if-is_active_at.true) below)

pub invariant_of-self-clause-rests : goal.invariant_of-self-clause-rests
invariant_of-self-clause-rests g c j h =
    let a = c.loop-i.self in
    rests_to g.G.Scale.meaning a.statements.now a.active c.loop-i.q c.in-Some.i a.noted c.loop-i.invariant.0 c.in-Some.ensures.2 j (omega arith)

pub invariant_of-self-in-Some-clause-noted : goal.invariant_of-self-in-Some-clause-noted
invariant_of-self-in-Some-clause-noted g c =
    let m = g.G.Scale.meaning in
    let a = c.loop-i.self in
    let xs = a.statements.now in
    let i = c.in-Some.i in
    let e = c.in-Some.ensures in
    let idle : i < length xs → active (get_or xs i (unopened m)).mark ≡ false = λ h. sym c.is_active_at.ensures.is ∙ c.if-is_active_at.false in
    rw c.remove_lowest.ensures (noted_less m xs a.active c.loop-i.q i a.noted e.0 e.1 e.2 idle)

pub loop-i-preserved : goal.loop-i-preserved
loop-i-preserved g c =
    let m = g.G.Scale.meaning in
    let a = c.loop-i.self in
    let inv = c.loop-i.invariant in (
      (λ j h. rests_to m a.statements.now a.active c.loop-i.q c.in-Some.i a.noted inv.0 c.in-Some.ensures.2 j (omega arith)),
      inv.1,
      inv.2,
    )

pub loop-i-smaller : goal.loop-i-smaller
loop-i-smaller g c = rw c.remove_lowest.ensures (sum_falls c.loop-i.self.active c.in-Some.i c.in-Some.ensures.1)

pub returns : goal.returns
returns g c =
    let m = g.G.Scale.meaning in
    let a = c.loop-i.self in
    let inv = c.loop-i.invariant in
    record {
      same_reference = inv.1;
      same = inv.2;
      picks = rw (← inv.2) (none_active m a.statements.now (rests_all m a.statements.now a.active c.loop-i.q a.noted inv.0 c.in_default.ensures));
    }
