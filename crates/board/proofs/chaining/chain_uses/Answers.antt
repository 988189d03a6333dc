use Rattle.std.proofs.Common.{◌≡◌, ℕ, ◌+◌, ◌-◌, ◌*◌, ◌/◌, ◌%◌, ◌<◌, List, length, get_or, set, sym, ap, ◌∙◌, subst, ⊎_elim, arith, length-set}
use Rattle.std.proofs.lemmas.List.{get_or_default, get_or-set_same, get_or-set_other, set_past}
use Rattle.std.proofs.lemmas.Bool.{cases_eq, eqb-true}
use Rattle.model.specs.declared.rule.Rule.{Rule}
use Rattle.index.specs.Chains.{Chained}
use Rattle.index.specs.Uses.{use_by, uses, used}
use Rattle.index.proofs.Chains.{unlinked}
use Rattle.index.proofs.Uses.{length_used, getD_used}
use Rattle.board.proofs.chaining.chain_uses.Goals as goal

-- the use j of the rule q
key_at : {G : Type 0} (rs : List (Rule G)) (q j : ℕ) (r : Rule G) → q < length rs → j < 4 → r ≡ get_or rs q r → get_or (used (uses rs)) (4 * q + j) 0 ≡ (use_by j r).son
key_at rs q j r h l read =
    let o = 4 * q + j in
    let a : o % 4 ≡ j = omega arith in
    let b : o / 4 ≡ q = omega arith in
    getD_used rs o r (omega arith)
    ∙ ap (λ x. (use_by x (get_or rs (o / 4) r)).son) a
    ∙ ap (λ x. (use_by j (get_or rs x r)).son) b
    ∙ ap (λ x. (use_by j x).son) (sym read)

-- a table with one number in every place keeps that number where it is written once more
same_again : (xs : List ℕ) (n : ℕ) → ((s : ℕ) → s < length xs → get_or xs s 0 ≡ n) → (s : ℕ) → s < length (set xs 0 n) → get_or (set xs 0 n) s 0 ≡ n
same_again xs n all s h =
    let on : s < length xs = omega (arith, length-set xs 0 n) in
    ⊎_elim
    (λ (e : s ≡ 0). ap (λ x. get_or (set xs 0 n) x 0) e ∙ get_or-set_same xs 0 n 0 (omega arith))
    (λ (ne : s ≡ 0 → ⊥). get_or-set_other xs 0 s n 0 ne ∙ all s on)
    (cases_eq s 0)

pub loop-q-init : goal.loop-q-init
loop-q-init g c =
    let rs = c.args.rules.now in
    let first = c.args.first.now in
    let end = 4 * length rs in
    let n = length_used rs in (
      unlinked (used (uses rs)) (set first 0 end) c.args.next.now end (omega arith) (same_again first end c.requires.empty),
      (λ k a b d. absurd (omega arith)),
    )

pub link_rule-absent-requires : goal.link_rule-absent-requires
link_rule-absent-requires g c =
    let rs = c.args.rules.now in
    let q = c.loop-q.q - 1 in
    let r = c.index-rules-q.result in
    let h : q < length rs = omega arith in
    record {
      keyed = λ j l. let e = key_at rs q j r h l c.index-rules-q.is in let low = c.requires.keyed (4 * q + j) (omega arith) in omega arith;
      within = omega arith;
      fits = omega arith;
    }

pub loop-q-preserved : goal.loop-q-preserved
loop-q-preserved g c =
    let rs = c.args.rules.now in
    let q = c.loop-q.q - 1 in
    let r = c.index-rules-q.result in
    let h : q < length rs = omega arith in
    let n = length_used rs in
    let up : 4 * c.loop-q.q ≡ 4 * q + 4 = omega arith in
    let F : ℕ → Type 0 = λ x. Chained x (used (uses rs)) (set c.loop-q.first 0 c.loop-q.absent) c.loop-q.next in (
      c.link_rule-absent.ensures.links (used (uses rs)) (omega arith) (λ j l. key_at rs q j r h l c.index-rules-q.is) (subst F up c.loop-q.invariant.0),
      (λ k l b d. ⊎_elim
          (λ (e : k ≡ q). ap (λ x. length (get_or rs x d).bodies) e ∙ ap (λ x. length x.bodies) (get_or_default rs q d r h ∙ sym c.index-rules-q.is) ∙ c.link_rule-absent.ensures.wide)
          (λ (ne : k ≡ q → ⊥). c.loop-q.invariant.1 k (omega arith) b d)
          (cases_eq k q)),
    )

pub returns-then-not-is_empty : goal.returns-then-not-is_empty
returns-then-not-is_empty g c =
    let z : 4 * c.loop-q.q ≡ 0 = omega arith in
    let F : ℕ → Type 0 = λ x. Chained x (used (uses c.args.rules.now)) (set c.loop-q.first 0 c.loop-q.absent) c.loop-q.next in
    record {
      chains = subst F z c.loop-q.invariant.0;
      wide = λ k h d. c.loop-q.invariant.1 k (omega arith) h d;
    }

pub returns-else-not-is_empty : goal.returns-else-not-is_empty
returns-else-not-is_empty g c =
    let z : 4 * c.loop-q.q ≡ 0 = omega arith in
    let first = c.loop-q.first in
    let a = c.loop-q.absent in
    let none : length first ≡ 0 = eqb-true (length first) 0 (sym c.if-not-is_empty.ensures) in
    let F : ℕ → Type 0 = λ x. Chained x (used (uses c.args.rules.now)) (set first 0 a) c.loop-q.next in
    let E : List ℕ → Type 0 = λ xs. Chained 0 (used (uses c.args.rules.now)) xs c.loop-q.next in
    record {
      chains = subst E (set_past first 0 a (omega arith)) (subst F z c.loop-q.invariant.0);
      wide = λ k h d. c.loop-q.invariant.1 k (omega arith) h d;
    }
