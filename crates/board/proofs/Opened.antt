-- Sons that are open already: opening them again changes nothing, and a step keeps them open.
use Rattle.std.proofs.Common.{◌≡◌, ℕ, ◌-◌, ◌<◌, ◌≤◌, Bool, true, ◌&&◌, eqb, List, [], ◌∷◌, length, set, sym, refl, ap, ◌∙◌, subst, ⊎_elim, arith, length-set}
use Rattle.std.specs.List.{AllByRecursion as All}
use Rattle.std.proofs.lemmas.List.{set-get_or, set_past}
use Rattle.std.proofs.lemmas.Bool.{cases_lt, cases_eq, or_left, or_right, eq-eqb}
use Rattle.scales.specs.Meaning.{Meaning}
use Rattle.model.specs.Rules.{holds, son}
use Rattle.model.specs.Least.{On}
use Rattle.model.specs.declared.rule.Rule.{Rule}
use Rattle.pasts.specs.Marks.{answered, open_mark}
use Rattle.pasts.specs.Tables.{Tables, count, mark, unopened, entered, told}
use Rattle.pasts.specs.Calls.{Steps}
use Rattle.pasts.specs.declared.statement.Event.TheVariants.{Opened, Taken}
use Rattle.pasts.specs.declared.statement.Mark.{Mark}
use Rattle.pasts.specs.declared.statement.Mark.TheVariants.{Unopened, Quiet, Active}
use Rattle.pasts.specs.declared.statement.Statement.{Statement}
use Rattle.pasts.proofs.Hearing.{heard_by, stays_open, son_open}
use Rattle.pasts.proofs.Steps.{step_heard, step_open}
use Rattle.board.specs.Telling.{all_told, sons}
use Rattle.board.specs.Indexed.{SonsOpen}
use Rattle.board.proofs.Told.{entered_same, entered_other, holds_sons}

opened_same : (k : Mark) → open_mark k ≡ true → answered k Opened ≡ k
opened_same Unopened e = cc
opened_same Quiet e = refl
opened_same Active e = refl

module _ {G : Type 0} (m : Meaning G) where
  told_same : (x : Statement G) → open_mark x.mark ≡ true → told Opened x ≡ x
  told_same x e = let f : Mark → Statement G = λ k. record { grade = x.grade; mark = k } in ap f (opened_same x.mark e)

  one_same : (xs : List (Statement G)) (t : ℕ) → (t - 1 < length xs → open_mark (entered m xs t).mark ≡ true) → set xs (t - 1) (told Opened (entered m xs t)) ≡ xs
  one_same xs t h =
      ⊎_elim
      (λ (l : t - 1 < length xs). ap (set xs (t - 1)) (told_same (entered m xs t) (h l)) ∙ set-get_or xs (t - 1) (unopened m))
      (λ (l : length xs ≤ t - 1). set_past xs (t - 1) (told Opened (entered m xs t)) l)
      (cases_lt (t - 1) (length xs))

  opened_again : (ts : List ℕ) (xs : List (Statement G)) → All (λ t. 1 ≤ t) ts → ((t : ℕ) → On (length xs) t → holds ts t ≡ true → open_mark (entered m xs t).mark ≡ true) → all_told m Opened xs ts ≡ xs
  opened_again [] xs pos h = refl
  opened_again (t ∷ ts) xs pos h =
      let low = pos.0 in
      ap (λ l. all_told m Opened l ts) (one_same xs t (λ l. h t (low, omega arith) (or_left (eqb t t) (holds ts t) (eq-eqb t t refl))))
      ∙ opened_again ts xs pos.1 (λ r on e. h r on (or_right (eqb t r) (holds ts r) e))

  pub sons_again : (rs : List (Rule G)) (s : ℕ) (xs : List (Statement G)) → All (λ t. 1 ≤ t) (sons rs s) → SonsOpen m rs xs s → all_told m Opened xs (sons rs s) ≡ xs
  sons_again rs s xs pos h = opened_again (sons rs s) xs pos (λ t on e. h t on (sym (holds_sons s t rs) ∙ e))

  -- the statement s was taken
  pub sons_taken : (rs : List (Rule G)) (s : ℕ) (xs ys : List (Statement G)) (g : G) → 1 ≤ s → ys ≡ set xs (s - 1) (record { grade = g; mark = answered (entered m xs s).mark Taken }) → SonsOpen m rs xs s → SonsOpen m rs ys s
  sons_taken rs s xs ys g pos e h t on q =
      let x : Statement G = record { grade = g; mark = answered (entered m xs s).mark Taken } in
      let n = ap length e ∙ length-set xs (s - 1) x in
      let at : On (length xs) t = (on.0, omega arith) in
      ap (λ l. open_mark (entered m l t).mark) e
      ∙ ⊎_elim
      (λ (c : t ≡ s).
      let was : open_mark (entered m xs s).mark ≡ true = ap (λ j. open_mark (entered m xs j).mark) (sym c) ∙ h t at q in
      let here : On (length xs) s = (pos, omega arith) in
      ap (λ j. open_mark (entered m (set xs (s - 1) x) j).mark) c ∙ ap (λ y. open_mark y.mark) (entered_same m xs s x here) ∙ stays_open (entered m xs s).mark Taken was)
      (λ c. ap (λ y. open_mark y.mark) (entered_other m xs s t x pos on.0 (λ z. c (sym z))) ∙ h t at q)
      (cases_eq t s)

  module _ {degree : ℕ → G} {s : ℕ} {rose : Bool} {t u : Tables G} (st : Steps m degree s rose t u) where
    at_before : (r : ℕ) → On (count u) r → On (count t) r
    at_before r on = let same = st.same_count in (on.0, omega arith)

    -- the sons of the one taken are open
    step_sons : SonsOpen m t.rules u.statements s
    step_sons r on q =
        let told = rose && son t.rules r s in
        ap open_mark (step_heard st r (at_before r on)) ∙ ap (λ b. open_mark (heard_by (mark m t r) (eqb r s) b told)) q ∙ son_open (mark m t r) (eqb r s) told

    -- those whose sons were opened, and the one taken
    pub sons_stay : (was is : ℕ → Type 0) → ((r : ℕ) → 1 ≤ r → was (r - 1) → SonsOpen m t.rules t.statements r) → ((i : ℕ) → (i ≡ s - 1 → ⊥) → is i → was i) → (r : ℕ) → 1 ≤ r → is (r - 1) → SonsOpen m t.rules u.statements r
    sons_stay was is so only r pos h =
        let low = st.next.on.0 in
        ⊎_elim
        (λ (c : r ≡ s). let F : ℕ → Type 0 = SonsOpen m t.rules u.statements in subst F (sym c) step_sons)
        (λ (c : r ≡ s → ⊥). λ x on q. step_open st x (at_before x on) (so r pos (only (r - 1) (λ z. c (omega arith)) h) x (at_before x on) q))
        (cases_eq r s)
