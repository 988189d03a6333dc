-- What every past keeps of a board's rules, grades and marks; an open statement that leads to no active one has its least grade.
use Rattle.std.proofs.Common.{◌≡◌, ℕ, zero, suc, ◌*◌, true, false, List, sym, ap, ◌∙◌}
use Rattle.std.proofs.lemmas.Bool.{both_ways}
use Rattle.scales.specs.Meaning.{Meaning, Under, Same}
use Rattle.scales.specs.Laws.{Laws}
use Rattle.model.specs.Rules.{son, Leads, here, by_son}
use Rattle.model.specs.Least.{On, worth, rounds, least}
use Rattle.pasts.specs.Marks.{active, open_mark, Resting}
use Rattle.model.specs.Formed.{malformed}
use Rattle.pasts.specs.Tables.{Tables, grade, mark, count}
use Rattle.pasts.specs.declared.statement.Mark.{Mark}
use Rattle.pasts.specs.declared.statement.Mark.TheVariants.{Quiet}
use Rattle.model.specs.declared.rule.Rule.{Rule}
use Rattle.model.proofs.Cases.{by_test}
use Rattle.model.proofs.Sons.{son_on}
use Rattle.model.proofs.Monotone.{worth_rises, worth_same}
use Rattle.pasts.proofs.Hearing.{quiet_if}

module _ {G : Type 0} (m : Meaning G) (degree : ℕ → G) where
  pub record Holds (rules : List (Rule G)) (n : ℕ) (g : ℕ → G) (marks : ℕ → Mark) : Type 0 where
    pub well_formed : malformed n rules ≡ false
    pub under_least : (s : ℕ) → On n s → Under m (g s) (least m degree rules n s)
    pub supported : (s : ℕ) → On n s → Under m (g s) (worth m degree rules g s)
    pub unopened_lowest : (s : ℕ) → On n s → open_mark (marks s) ≡ false → g s ≡ m.lowest
    pub quiet_exact : (s : ℕ) → On n s → marks s ≡ Quiet → Same m (g s) (worth m degree rules g s)
    pub quiet_sons : (s r : ℕ) → On n s → marks s ≡ Quiet → son rules s r ≡ true → open_mark (marks r) ≡ true

  abbrev pub Held : Tables G → Type 0
  Held t = Holds t.rules (count t) (grade m t) (mark m t)

module _ {G : Type 0} {rules : List (Rule G)} {n : ℕ} {marks : ℕ → Mark} where
  resting_quiet : (s : ℕ) → On n s → Resting rules n marks s → marks s ≡ Quiet
  resting_quiet s on resting = by_test (active (marks s)) (λ e. absurd (resting.far s on e here)) (quiet_if (marks s) resting.is_open)

module _ {G : Type 0} {m : Meaning G} {degree : ℕ → G} {rules : List (Rule G)} {n : ℕ} {g : ℕ → G} {marks : ℕ → Mark} (held : Holds m degree rules n g marks) where
  resting_son : (s r : ℕ) → On n s → Resting rules n marks s → son rules s r ≡ true → Resting rules n marks r
  resting_son s r on resting q = record { is_open = held.quiet_sons s r on (resting_quiet s on resting) q; far = λ a i e l. resting.far a i e (by_son q l) }

  -- all that a resting statement leads to is resting, and so open
  pub resting_led : {s r : ℕ} → On n s → Resting rules n marks s → Leads rules s r → Resting rules n marks r
  resting_led on resting here = resting
  resting_led {s} on resting (by_son {t = t} q l) = resting_led (son_on n rules s t held.well_formed on.0 q) (resting_son s t on resting q) l

  module _ (laws : Laws m) where
    resting_rounds : (k s : ℕ) → On n s → Resting rules n marks s → Under m (rounds m degree rules k s) (g s)
    resting_rounds zero s on resting = laws.from_lowest _
    resting_rounds (suc k) s on resting =
        let sons : (r : ℕ) → son rules s r ≡ true → Under m (rounds m degree rules k r) (g r) = λ r q. resting_rounds k r (son_on n rules s r held.well_formed on.0 q) (resting_son s r on resting q) in
        laws.transitive _ _ _ (worth_rises laws degree rules (rounds m degree rules k) g s sons) (laws.reflexive _ _ (sym (held.quiet_exact s on (resting_quiet s on resting))))

    pub exact_here : (s : ℕ) → On n s → Resting rules n marks s → Same m (g s) (least m degree rules n s)
    exact_here s on resting = laws.antisymmetric _ _ (held.under_least s on) (unfold least in resting_rounds (n * m.height) s on resting)

    -- grades as they were, no new quiet mark, and what was open is open
    pub re_marked : (f : ℕ → G) (after : ℕ → Mark) → ((s : ℕ) → On n s → f s ≡ g s) → ((s : ℕ) → On n s → after s ≡ Quiet → marks s ≡ Quiet) → ((s : ℕ) → On n s → open_mark (marks s) ≡ true → open_mark (after s) ≡ true) → Holds m degree rules n f after
    re_marked f after same-grades quiet stays_open =
        let sons : (s r : ℕ) → On n s → son rules s r ≡ true → On n r = λ s r on q. son_on n rules s r held.well_formed on.0 q in
        let same_worth : (s : ℕ) → On n s → Same m (worth m degree rules g s) (worth m degree rules f s) = λ s on. worth_same laws degree rules g f s (λ r q. ap m.stands (sym (same-grades r (sons s r on q)))) in
        let closed : (s : ℕ) → On n s → open_mark (after s) ≡ false → open_mark (marks s) ≡ false = λ s on e. by_test (open_mark (marks s)) (λ o. absurd (both_ways _ e (stays_open s on o))) (λ o. o) in
        record {
          well_formed = held.well_formed;
          under_least = λ s on. rw (same-grades s on) (held.under_least s on);
          supported = λ s on. laws.transitive _ _ _ (rw (same-grades s on) (held.supported s on)) (laws.reflexive _ _ (same_worth s on));
          unopened_lowest = λ s on e. same-grades s on ∙ held.unopened_lowest s on (closed s on e);
          quiet_exact = λ s on e. ap m.stands (same-grades s on) ∙ held.quiet_exact s on (quiet s on e) ∙ same_worth s on;
          quiet_sons = λ s r on e q. stays_open r (sons s r on q) (held.quiet_sons s r on (quiet s on e) q);
        }
