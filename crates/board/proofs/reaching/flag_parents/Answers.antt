use Rattle.std.proofs.Common.{◌≡◌, ℕ, ◌-◌, ◌≤◌, Bool, true, false, eqb, ◌⊎◌, List, ◌∷◌, length, drop, sym, refl, ap, ◌∙◌, subst, inl, inr, ⊎_elim, arith}
use Rattle.std.specs.List.{AllByRecursion as All}
use Rattle.std.proofs.lemmas.List.{get_or-set_same}
use Rattle.std.proofs.lemmas.Bool.{both_ways, or_cases, eqb-true}
use Rattle.model.specs.Rules.{holds, son}
use Rattle.model.specs.Least.{On}
use Rattle.index.specs.Uses.{heads, uses, users}
use Rattle.index.proofs.Uses.{holds_users}
use Rattle.board.specs.Flags.{flagged}
use Rattle.board.specs.Indexed.{keyed, chosen}
use Rattle.board.proofs.Chained.{users_on}
use Rattle.board.proofs.Places.{users_chosen}
use Rattle.board.proofs.Spread.{flag_kept, fewer}
use Rattle.board.proofs.Queued.{grown_none, grown_more}
use Rattle.board.proofs.reaching.flag_parents.Goals as goal

pub loop-rule-init : goal.loop-rule-init
loop-rule-init g c =
    let rs = c.args.uses.now.rules.now in
    let s = c.args.s in
    let all = ap (λ it. chosen it.key (drop it.at (keyed 4 it.rules.now))) c.into_iter-rule-iterator.ensures.into_iter_gives ∙ c.of-rule-items.ensures in
    let same = users_chosen s rs ∙ sym (ap heads all) in
    let P : List ℕ → Type 0 = All (λ p. On 1024 p × (son rs p s ≡ true)) in (
      grown_none rs s c.args.flags.now c.args.waiting.now (length c.args.waiting.now),
      (λ p low h. inr (ap (λ l. holds l p) (sym same) ∙ h)),
      subst P same (users_on 1024 s c.requires.on.0 rs (c.args.uses.now.wide (omega arith)) c.requires.formed),
    )

pub is_flagged-requires : goal.is_flagged-requires
is_flagged-requires g c =
    let rs = c.args.uses.now.rules.now in
    let P : List ℕ → Type 0 = All (λ p. On 1024 p × (son rs p c.args.s ≡ true)) in
    (subst P (ap heads c.in-Some.ensures.steps) c.loop-rule.invariant.2).0.0.0

pub put-requires : goal.put-requires
put-requires g c =
    let rs = c.args.uses.now.rules.now in
    let P : List ℕ → Type 0 = All (λ p. On 1024 p × (son rs p c.args.s ≡ true)) in
    (subst P (ap heads c.in-Some.ensures.steps) c.loop-rule.invariant.2).0.0.0

pub add-requires : goal.add-requires
add-requires g c =
    let rs = c.args.uses.now.rules.now in
    let P : List ℕ → Type 0 = All (λ p. On 1024 p × (son rs p c.args.s ≡ true)) in
    let on = (subst P (ap heads c.in-Some.ensures.steps) c.loop-rule.invariant.2).0.0 in
    let less = fewer c.loop-rule.flags (c.in-Some.rule.now.head - 1) (omega (arith, on.0, on.1)) (sym c.if-not-is_flagged.ensures) in
    omega (arith, c.loop-rule.invariant.0.few, c.requires.fits)

-- who is a parent has a flag, or is still to come
goes : (fl more : List Bool) (p : ℕ) (rest was whole : List ℕ) → was ≡ p ∷ rest → ((q : ℕ) → 1 ≤ q → flagged fl q ≡ true → flagged more q ≡ true) → flagged more p ≡ true → ((q : ℕ) → 1 ≤ q → holds whole q ≡ true → (flagged fl q ≡ true) ⊎ (holds was q ≡ true)) → (q : ℕ) → 1 ≤ q → holds whole q ≡ true → (flagged more q ≡ true) ⊎ (holds rest q ≡ true)
goes fl more p rest was whole turn kept own so_far q pos h =
    ⊎_elim
    (λ f. inl (kept q pos f))
    (λ f. ⊎_elim
    (λ e. inl (ap (flagged more) (sym (eqb-true p q e)) ∙ own))
    (λ e. inr e)
    (or_cases (eqb p q) (holds rest q) (sym (ap (λ l. holds l q) turn) ∙ f)))
    (so_far q pos h)

pub loop-rule-preserved-then-not-is_flagged : goal.loop-rule-preserved-then-not-is_flagged
loop-rule-preserved-then-not-is_flagged g c =
    let rs = c.args.uses.now.rules.now in
    let s = c.args.s in
    let fl = c.loop-rule.flags in
    let p = c.in-Some.rule.now.head in
    let it = c.next.new.self in
    let turn = ap heads c.in-Some.ensures.steps in
    let P : List ℕ → Type 0 = All (λ p. On 1024 p × (son rs p s ≡ true)) in
    let all = subst P turn c.loop-rule.invariant.2 in
    let new = sym c.if-not-is_flagged.ensures in
    let on : On (length fl) p = (all.0.0.0, omega (arith, all.0.0.1)) in
    let less = fewer fl (p - 1) (omega arith) new in (
      rw (c.put.ensures, c.add.ensures) (grown_more rs s c.args.flags.now c.args.waiting.now (length c.args.waiting.now) fl c.loop-rule.waiting p c.loop-rule.invariant.0 on all.0.1 new),
      goes fl c.put.new.items p (heads (chosen it.key (drop it.at (keyed 4 it.rules.now)))) _ (users (uses rs) s) turn
          (λ q pos f. ap (λ l. flagged l q) c.put.ensures ∙ flag_kept fl p q on pos f)
          (ap (λ l. flagged l p) c.put.ensures ∙ get_or-set_same fl (p - 1) true false (omega arith))
          c.loop-rule.invariant.1,
      all.1,
    )

pub loop-rule-preserved : goal.loop-rule-preserved
loop-rule-preserved g c =
    let rs = c.args.uses.now.rules.now in
    let s = c.args.s in
    let fl = c.loop-rule.flags in
    let p = c.in-Some.rule.now.head in
    let it = c.next.new.self in
    let turn = ap heads c.in-Some.ensures.steps in
    let P : List ℕ → Type 0 = All (λ p. On 1024 p × (son rs p s ≡ true)) in
    let all = subst P turn c.loop-rule.invariant.2 in (
      c.loop-rule.invariant.0,
      goes fl fl p (heads (chosen it.key (drop it.at (keyed 4 it.rules.now)))) _ (users (uses rs) s) turn (λ q pos f. f) (sym c.if-not-is_flagged.ensures) c.loop-rule.invariant.1,
      all.1,
    )

pub returns : goal.returns
returns g c =
    let rs = c.args.uses.now.rules.now in
    let s = c.args.s in
    record {
      grown = c.loop-rule.invariant.0;
      closed = λ p pos q. ⊎_elim
          (λ f. f)
          (λ f. absurd (both_ways false refl (sym (ap (λ l. holds (heads l) p) c.in-None.ensures.steps.0) ∙ f)))
          (c.loop-rule.invariant.1 p pos (holds_users s c.requires.on.0 p pos rs (c.args.uses.now.wide (omega arith)) ∙ q));
    }
