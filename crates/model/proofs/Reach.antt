-- Whether a statement leads to another can be decided.
use Rattle.std.proofs.Common.{◌≡◌, ℕ, zero, suc, ◌*◌, ◌<◌, ◌≤◌, Bool, true, false, cond, not, ◌&&◌, ◌||◌, eqb, ◌⊎◌, List, sym, refl, ap, ◌∙◌, subst, inl, inr, ⊎_elim, arith}
use Rattle.std.proofs.lemmas.Bool.{cases_eq, both_ways, false≢true, or_cases, or_left, or_right, and_parts, and_from, and_cases, not-false, not-true, eqb-true, eq-eqb}
use Rattle.model.specs.Rules.{son, Leads, here, by_son}
use Rattle.model.specs.Least.{On}
use Rattle.model.specs.Formed.{malformed}
use Rattle.model.specs.declared.rule.Rule.{Rule}
use Rattle.model.proofs.Cases.{at_test, by_test}
use Rattle.model.proofs.Sons.{son_on}
use Rattle.model.proofs.Totals.{total, total_lt, total_bound, none_or_one, comes_to_rest}

-- a test holds at one of the statements 1..n
abbrev some : (ℕ → Bool) → ℕ → Bool
some f zero = false
some f (suc n) = f (suc n) || some f n

some_from : (f : ℕ → Bool) (n s : ℕ) → On n s → f s ≡ true → some f n ≡ true
some_from f zero s on e = absurd (omega arith)
some_from f (suc n) s on e = ⊎_elim (λ q. or_left (f (suc n)) (some f n) (ap f (sym q) ∙ e)) (λ ne. or_right (f (suc n)) (some f n) (some_from f n s (omega arith) e)) (cases_eq s (suc n))

some_one : (f : ℕ → Bool) (n : ℕ) → some f n ≡ true → (s : ℕ) × (On n s × (f s ≡ true))
some_one f zero e = absurd (false≢true e)
some_one f (suc n) e =
    elim (or_cases (f (suc n)) (some f n) e) [
      | inl q ↦ (suc n, (omega arith, q))
      | inr q ↦ let one = some_one f n q in (one.0, (omega (arith, one.1.0), one.1.1))
    ]

module _ {G : Type 0} (rules : List (Rule G)) (n h : ℕ) where
  -- s leads to h by at most k sons
  abbrev reach : ℕ → ℕ → Bool
  reach zero s = eqb s h
  reach (suc k) s = reach k s || some (λ x. son rules s x && reach k x) n

  reach_leads : (k s : ℕ) → reach k s ≡ true → Leads rules s h
  reach_leads zero s e = subst (λ x. Leads rules s x) (eqb-true s h e) here
  reach_leads (suc k) s e =
      let far : some (λ x. son rules s x && reach k x) n ≡ true → Leads rules s h =
      λ q. let one = some_one (λ x. son rules s x && reach k x) n q in let both = and_parts _ _ one.1.1 in by_son both.0 (reach_leads k one.0 both.1) in
      ⊎_elim (reach_leads k s) far (or_cases (reach k s) _ e)

  abbrev Rests : ℕ → Type 0
  Rests k = (s : ℕ) → On n s → reach (suc k) s ≡ true → reach k s ≡ true

  rests_on : (k : ℕ) → Rests k → Rests (suc k)
  rests_on k rest s on e =
      let far : some (λ x. son rules s x && reach (suc k) x) n ≡ true → reach (suc k) s ≡ true =
      λ q. let one = some_one (λ x. son rules s x && reach (suc k) x) n q in let both = and_parts _ _ one.1.1 in or_right (reach k s) _ (some_from (λ x. son rules s x && reach k x) n one.0 one.1.0 (and_from _ _ both.0 (rest one.0 one.1.0 both.1))) in
      ⊎_elim (λ q. q) far (or_cases (reach (suc k) s) _ e)

  weight : ℕ → ℕ → ℕ
  weight k s = cond (reach k s) 1 0

  weight_rises : (k s : ℕ) → weight k s ≤ weight (suc k) s
  unfolding weight
  weight_rises k s = at_test (reach k s) (λ c. cond c 1 0 ≤ cond (c || some (λ x. son rules s x && reach k x) n) 1 0) (λ _. omega arith) (λ _. omega arith)

  weight_new : (k s : ℕ) → (reach (suc k) s && not (reach k s)) ≡ true → weight k s < weight (suc k) s
  unfolding weight
  weight_new k s e =
      let both = and_parts (reach (suc k) s) (not (reach k s)) e in
      omega (arith, ap (λ c. cond {A = ℕ} c 1 0) both.0, ap (λ c. cond {A = ℕ} c 1 0) (not-true (reach k s) both.1))

  rests_or_rises : (k : ℕ) → Rests k ⊎ (total (weight k) n < total (weight (suc k)) n)
  rests_or_rises k =
      elim (none_or_one (λ s. reach (suc k) s && not (reach k s)) n) [
        | inl none ↦ inl (λ s on e. ⊎_elim (λ q. absurd (both_ways _ q e)) (not-false (reach k s)) (and_cases (reach (suc k) s) (not (reach k s)) (none s on)))
        | inr one ↦ inr (total_lt _ _ n one.0 one.1.0 (weight_new k one.0 one.1.1) (λ r i. weight_rises k r))
      ]

  weight_one : (k s : ℕ) → weight k s ≤ 1
  unfolding weight
  weight_one k s = at_test (reach k s) (λ c. cond {A = ℕ} c 1 0 ≤ 1) (λ _. omega arith) (λ _. omega arith)

  rests : Rests (n * 1)
  rests = comes_to_rest Rests (λ k. total (weight k) n) (n * 1) rests_on rests_or_rises (λ k. total_bound (weight k) 1 n (weight_one k))

  reach_here : (k : ℕ) → reach k h ≡ true
  reach_here zero = eq-eqb h h refl
  reach_here (suc k) = or_left _ _ (reach_here k)

  -- s leads to h, as a test
  pub leads_test : ℕ → Bool
  leads_test s = reach (n * 1) s

  pub does_lead : (s : ℕ) → leads_test s ≡ true → Leads rules s h
  unfolding leads_test
  does_lead s e = reach_leads (n * 1) s e

  module _ (ok : malformed n rules ≡ false) where
    leads_reach : {s g : ℕ} → Leads rules s g → g ≡ h → On n s → reach (n * 1) s ≡ true
    leads_reach here e on = rw e (reach_here (n * 1))
    leads_reach {s} (by_son {t = t} q l) e on =
        let i = son_on n rules s t ok on.0 q in
        rests s on (or_right (reach (n * 1) s) _ (some_from (λ x. son rules s x && reach (n * 1) x) n t i (and_from _ _ q (leads_reach l e i))))

    pub not_leads : (s : ℕ) → On n s → leads_test s ≡ false → Leads rules s h → ⊥
    unfolding leads_test
    not_leads s on e l = both_ways _ e (leads_reach l refl on)

    pub leads? : (s : ℕ) → On n s → Leads rules s h ⊎ (Leads rules s h → ⊥)
    leads? s on = by_test (leads_test s) (λ e. inl (does_lead s e)) (λ e. inr (not_leads s on e))
