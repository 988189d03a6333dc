-- An accepted withdraw keeps what holds.
use Rattle.std.proofs.Common.{◌≡◌, ℕ, zero, suc, ◌-◌, ◌*◌, true, false, eqb, List, set, sym, refl, ap, ◌∙◌, subst, subst₂, arith}
use Rattle.std.proofs.lemmas.Bool.{both_ways, ne_eqb}
use Rattle.scales.specs.Meaning.{Meaning, Under, Same}
use Rattle.scales.specs.Laws.{Laws}
use Rattle.model.specs.Rules.{son, Leads, here, by_son}
use Rattle.model.specs.Formed.{malformed}
use Rattle.model.specs.Least.{On, worth, rounds, least}
use Rattle.pasts.specs.Marks.{open_mark}
use Rattle.pasts.specs.Tables.{Tables, grade, mark, count, rule_at, blank}
use Rattle.pasts.specs.Calls.{Withdraws}
use Rattle.model.specs.declared.rule.Rule.{Rule}
use Rattle.pasts.specs.declared.statement.Mark.TheVariants.{Quiet}
use Rattle.pasts.specs.declared.statement.Event.TheVariants.{SonRose}
use Rattle.model.proofs.Cases.{either_way, by_test}
use Rattle.model.proofs.Sons.{son_on}
use Rattle.model.proofs.Monotone.{same, under_eq, worth_rises, worth_same}
use Rattle.pasts.proofs.Placed.{put_formed, put_son, put_joined}
use Rattle.pasts.proofs.Hearing.{stays_open, quiet_open, quiet_told}
use Rattle.pasts.proofs.Held.{Holds, Held}

blank_apart : (n s : ℕ) → On n s → eqb 0 s ≡ false
blank_apart n s on = ne_eqb 0 s (omega arith)

module _ {G : Type 0} (m : Meaning G) (k : ℕ) (t : Tables G) where
  abbrev Lost : ℕ → Type 0
  Lost s = Leads t.rules s (rule_at m t k).head

  abbrev left : List (Rule G)
  left = set t.rules (k - 1) (blank m)

  was_apart : (s : ℕ) → (Lost s → ⊥) → eqb (rule_at m t k).head s ≡ false
  was_apart s far = ne_eqb (rule_at m t k).head s (λ e. far (subst (λ x. Leads t.rules s x) (sym e) here))

  -- a statement that does not lead to the head has the sons and the worth that it had, and they do not lead there either
  same_son : (s x : ℕ) → On (count t) s → (Lost s → ⊥) → son left s x ≡ son t.rules s x
  same_son s x on far = put_son s x t.rules (k - 1) (blank m) (blank m) (was_apart s far) (blank_apart (count t) s on)

  same_worth : (degree : ℕ → G) (g : ℕ → G) (s : ℕ) → On (count t) s → (Lost s → ⊥) → worth m degree left g s ≡ worth m degree t.rules g s
  same_worth degree g s on far = put_joined m g s t.rules (k - 1) (blank m) (blank m) (degree s) (was_apart s far) (blank_apart (count t) s on)

  sons_far : (s x : ℕ) → (Lost s → ⊥) → son t.rules s x ≡ true → Lost x → ⊥
  sons_far s x far q l = far (by_son q l)

  module _ (ok : malformed (count t) t.rules ≡ false) (laws : Laws m) (degree : ℕ → G) where
    rounds_kept : (i s : ℕ) → On (count t) s → (Lost s → ⊥) → Under m (rounds m degree t.rules i s) (rounds m degree left i s)
    rounds_kept zero s on far = same laws _
    rounds_kept (suc i) s on far =
        let old = rounds m degree t.rules i in
        let sons : (x : ℕ) → son left s x ≡ true → Under m (old x) (rounds m degree left i x) = λ x q. let p = sym (same_son s x on far) ∙ q in rounds_kept i x (son_on (count t) t.rules s x ok on.0 p) (sons_far s x far p) in
        laws.transitive _ _ _ (under_eq laws (sym (same_worth degree old s on far))) (worth_rises laws degree left old (rounds m degree left i) s sons)

    least_kept : (s : ℕ) → On (count t) s → (Lost s → ⊥) → Under m (least m degree t.rules (count t) s) (least m degree left (count t) s)
    unfolding least
    least_kept s on far = rounds_kept (count t * m.height) s on far

  module _ {u : Tables G} (w : Withdraws m k t u) where
    far_grade : (s : ℕ) → On (count t) s → (Lost s → ⊥) → grade m u s ≡ grade m t s
    far_grade s on far = ap (λ x. x.grade) (w.apart s on far)

    pub withdraw_open : (s : ℕ) → On (count t) s → open_mark (mark m t s) ≡ true → open_mark (mark m u s) ≡ true
    withdraw_open s on o = either_way (Lost s) (open_mark (mark m u s)) (λ l. ap (λ x. open_mark x.mark) (w.falls s on o l) ∙ stays_open (mark m t s) SonRose o) (λ far. ap (λ x. open_mark x.mark) (w.apart s on far) ∙ o)

    quiet_far : (s : ℕ) → On (count t) s → mark m u s ≡ Quiet → Lost s → ⊥
    quiet_far s on q l =
        let shut : open_mark (mark m t s) ≡ false → ⊥ = λ o. both_ways _ o (ap (λ x. open_mark x.mark) (sym (w.closed s on o)) ∙ quiet_open _ q) in
        by_test (open_mark (mark m t s)) (λ o. quiet_told (mark m t s) (sym (ap (λ x. x.mark) (w.falls s on o l)) ∙ q)) shut

    was_quiet : (s : ℕ) → On (count t) s → mark m u s ≡ Quiet → mark m t s ≡ Quiet
    was_quiet s on q = sym (ap (λ x. x.mark) (w.apart s on (quiet_far s on q))) ∙ q

    module _ {degree : ℕ → G} (held : Held m degree t) where
      -- one that leads to the head is lowest after, be it open or not
      fallen : (s : ℕ) → On (count t) s → Lost s → grade m u s ≡ m.lowest
      fallen s on l =
          by_test (open_mark (mark m t s)) (λ o. ap (λ x. x.grade) (w.falls s on o l)) (λ o. ap (λ x. x.grade) (w.closed s on o) ∙ held.unopened_lowest s on o)

      quiet_sons_after : (s x : ℕ) → On (count t) s → mark m u s ≡ Quiet → son left s x ≡ true → open_mark (mark m u x) ≡ true
      quiet_sons_after s x on q p =
          let p' = sym (same_son s x on (quiet_far s on q)) ∙ p in
          withdraw_open x (son_on (count t) t.rules s x held.well_formed on.0 p') (held.quiet_sons s x on (was_quiet s on q) p')

      closed_lowest : (s : ℕ) → On (count t) s → open_mark (mark m u s) ≡ false → grade m u s ≡ m.lowest
      closed_lowest s on e =
          by_test (open_mark (mark m t s)) (λ o. absurd (both_ways _ e (withdraw_open s on o))) (λ o. ap (λ x. x.grade) (w.closed s on o) ∙ held.unopened_lowest s on o)

      module _ (laws : Laws m) where
        -- Under is a test, so it holds whether or not s leads to the head
        if_far : (b : ℕ → G) (s : ℕ) → On (count t) s → ((Lost s → ⊥) → Under m (grade m t s) (b s)) → Under m (grade m u s) (b s)
        if_far b s on h = either_way (Lost s) (m.below (grade m u s) (b s)) (λ l. rw (fallen s on l) (laws.from_lowest _)) (λ far. rw (far_grade s on far) (h far))

        worth_kept : (s : ℕ) → On (count t) s → (Lost s → ⊥) → Same m (worth m degree t.rules (grade m t) s) (worth m degree left (grade m u) s)
        worth_kept s on far =
            worth_same laws degree t.rules (grade m t) (grade m u) s (λ x q. ap m.stands (sym (far_grade x (son_on (count t) t.rules s x held.well_formed on.0 q) (sons_far s x far q)))) ∙ ap m.stands (sym (same_worth degree (grade m u) s on far))

        pub withdraw_held : Held m degree u
        withdraw_held =
            let after : Holds m degree left (count t) (grade m u) (mark m u) = record {
              well_formed = put_formed (count t) t.rules (k - 1) (blank m) held.well_formed refl;
              under_least = λ s on. if_far (least m degree left (count t)) s on (λ far. laws.transitive _ _ _ (held.under_least s on) (least_kept held.well_formed laws degree s on far));
              supported = λ s on. if_far (worth m degree left (grade m u)) s on (λ far. laws.transitive _ _ _ (held.supported s on) (laws.reflexive _ _ (worth_kept s on far)));
              unopened_lowest = closed_lowest;
              quiet_exact = λ s on q. let far = quiet_far s on q in ap m.stands (far_grade s on far) ∙ held.quiet_exact s on (was_quiet s on q) ∙ worth_kept s on far;
              quiet_sons = quiet_sons_after;
            } in
            subst₂ (λ rules n. Holds m degree rules n (grade m u) (mark m u)) (sym w.rules) (sym w.same_count) after
