use Rattle.std.proofs.Common.{◌≡◌, ℕ, ◌-◌, true, false, length, replicate, sym, subst, ⊎_elim, arith, length-set}
use lib.ListN.{length-replicate}
use Rattle.model.specs.Least.{On}
use Rattle.model.specs.Rules.{Leads, here, by_son}
use Rattle.model.proofs.Sons.{son_on}
use Rattle.board.proofs.Spread.{spread_some, all_lead, fewer, flag_more, flag_kept, flag_alone}
use Rattle.std.proofs.lemmas.List.{get_or-set_same}
use Rattle.board.proofs.leading.leading_by_search.Goals as goal

pub loop-p-init : goal.loop-p-init
loop-p-init g c =
    let h = c.args.head in
    let long : length (replicate 1024 false) ≡ 1024 = length-replicate 1024 false in
    let same = length-set (replicate 1024 false) (h - 1) true in (
      (λ s pos e. let F : ℕ → Type 0 = λ k. Leads c.args.rules.now k h in subst F (sym (flag_alone 1024 h s c.requires.on pos e)) here),
      get_or-set_same (replicate 1024 false) (h - 1) true false (omega arith),
      omega arith,
    )

pub overflow_sub-flags-in-Some : goal.overflow_sub-flags-in-Some
overflow_sub-flags-in-Some g c = (spread_some c.loop-p.flags 1024 c.in-Some.p c.args.rules.now c.requires.formed (sym c.in-Some.ensures)).on.0

pub bounds-flags-p : goal.bounds-flags-p
bounds-flags-p g c =
    let sp = spread_some c.loop-p.flags 1024 c.in-Some.p c.args.rules.now c.requires.formed (sym c.in-Some.ensures) in
    omega (arith, sp.on.0, sp.on.1)

pub loop-p-preserved : goal.loop-p-preserved
loop-p-preserved g c =
    let fl = c.loop-p.flags in
    let h = c.args.head in
    let p = c.in-Some.p in
    let sp = spread_some fl 1024 p c.args.rules.now c.requires.formed (sym c.in-Some.ensures) in
    let long : length fl ≡ 1024 = c.loop-p.invariant.2 in
    let on : On (length fl) p = (sp.on.0, omega (arith, sp.on.1)) in
    let sons = son_on 1024 c.args.rules.now p sp.from c.requires.formed sp.on.0 sp.its_son in (
      (λ s pos e. ⊎_elim
          (λ q. let F : ℕ → Type 0 = λ k. Leads c.args.rules.now k h in subst F (sym q) (by_son sp.its_son (c.loop-p.invariant.0 sp.from sons.0 sp.was)))
          (λ q. c.loop-p.invariant.0 s pos q)
          (flag_more fl p s on pos e)),
      flag_kept fl p h on c.requires.on.0 c.loop-p.invariant.1,
      omega (arith, length-set fl (p - 1) true),
    )

pub loop-p-smaller : goal.loop-p-smaller
loop-p-smaller g c =
    let fl = c.loop-p.flags in
    let sp = spread_some fl 1024 c.in-Some.p c.args.rules.now c.requires.formed (sym c.in-Some.ensures) in
    fewer fl (c.in-Some.p - 1) (omega (arith, sp.on.0, sp.on.1, c.loop-p.invariant.2)) sp.new

pub returns : goal.returns
returns g c = record {
  only = λ s on e. c.loop-p.invariant.0 s on.0 e;
  every = λ s on l. all_lead c.loop-p.flags 1024 c.args.rules.now c.requires.formed c.in_default.ensures (on.0, omega (arith, c.loop-p.invariant.2)) l c.loop-p.invariant.1;
}
