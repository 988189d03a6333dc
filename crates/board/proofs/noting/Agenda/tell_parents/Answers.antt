use Rattle.std.proofs.Common.{ℕ, ◌≤◌, List, drop, sym, refl, ap, ◌∙◌, subst, arith}
use Rattle.std.specs.List.{AllByRecursion as All}
use Rattle.pasts.specs.declared.statement.Event.TheVariants.{SonRose}
use Rattle.index.specs.Uses.{heads}
use Rattle.index.proofs.Uses.{users_positive}
use Rattle.board.specs.Telling.{all_told}
use Rattle.board.specs.Indexed.{keyed, chosen}
use Rattle.board.proofs.Chained.{told_users}
use Rattle.board.proofs.Places.{users_chosen}
use Rattle.board.proofs.noting.Agenda.tell_parents.Goals as goal

pub loop-rule-init : goal.loop-rule-init
loop-rule-init g c =
    let s = c.args.s in
    let rs = c.args.uses.now.rules.now in
    let X = c.args.self.now.statements.now in
    let m = g.G.Scale.meaning in
    let P : List ℕ → Type 0 = All (λ t. 1 ≤ t) in
    let all = ap (λ it. chosen it.key (drop it.at (keyed 4 it.rules.now))) c.into_iter-rule-iterator.ensures.into_iter_gives ∙ c.of-rule-items.ensures in (
      ap (λ l. all_told m SonRose X (heads l)) all,
      refl,
      subst P (users_chosen s rs ∙ sym (ap heads all)) (users_positive s c.requires.named rs),
    )

pub tell-requires : goal.tell-requires
tell-requires g c =
    let P : List ℕ → Type 0 = All (λ t. 1 ≤ t) in
    (subst P (ap heads c.in-Some.ensures.steps) c.loop-rule.invariant.2).0

pub loop-rule-preserved : goal.loop-rule-preserved
loop-rule-preserved g c =
    let m = g.G.Scale.meaning in
    let it = c.next.new.self in
    let rest = heads (chosen it.key (drop it.at (keyed 4 it.rules.now))) in
    let xs = c.loop-rule.self.statements.now in
    let P : List ℕ → Type 0 = All (λ t. 1 ≤ t) in (
      ap (λ x. all_told m SonRose x rest) c.tell.ensures.hears ∙ sym (ap (λ l. all_told m SonRose xs (heads l)) c.in-Some.ensures.steps) ∙ c.loop-rule.invariant.0,
      c.tell.ensures.same_reference ∙ c.loop-rule.invariant.1,
      (subst P (ap heads c.in-Some.ensures.steps) c.loop-rule.invariant.2).1,
    )

pub returns : goal.returns
returns g c =
    let m = g.G.Scale.meaning in
    let s = c.args.s in
    let rs = c.args.uses.now.rules.now in
    let xs = c.args.self.now.statements.now in
    record {
      same_reference = c.loop-rule.invariant.1;
      hears = sym (ap (λ l. all_told m SonRose c.loop-rule.self.statements.now (heads l)) c.in-None.ensures.steps.0) ∙ c.loop-rule.invariant.0 ∙ ap (all_told m SonRose xs) (sym (users_chosen s rs)) ∙ told_users s c.requires.named m SonRose rs xs (c.args.uses.now.wide (omega arith));
    }
