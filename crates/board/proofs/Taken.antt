-- What taking a statement leaves of each one: an advance is a step.
use Rattle.std.proofs.Common.{◌≡◌, ℕ, ◌-◌, Bool, true, false, cond, ◌&&◌, eqb, List, length, set, sym, refl, ap, ◌∙◌, arith, length-set}
use Rattle.std.proofs.lemmas.Bool.{eq-eqb, ne_eqb, eqb-true, eqb-false}
use Rattle.scales.specs.Meaning.{Meaning}
use Rattle.model.specs.Rules.{son}
use Rattle.model.specs.Least.{On, worth}
use Rattle.pasts.specs.Marks.{answered}
use Rattle.pasts.specs.Tables.{tables, entered, grades, told}
use Rattle.pasts.specs.Calls.{Next, Steps}
use Rattle.pasts.specs.declared.statement.Event.{Event}
use Rattle.pasts.specs.declared.statement.Event.TheVariants.{Opened, SonRose, Taken}
use Rattle.pasts.specs.declared.statement.Mark.{Mark}
use Rattle.model.specs.declared.rule.Rule.{Rule}
use Rattle.pasts.specs.declared.statement.Statement.{Statement}
use Rattle.pasts.proofs.Heard.{heard, by_cases}
use Rattle.board.specs.Telling.{all_told, sons, parents}
use Rattle.board.specs.Advances.{risen, raised, opened, advanced}
use Rattle.board.proofs.Told.{entered_same, entered_other, entered_all_told, length_all_told, sons_positive, parents_positive, holds_sons, holds_parents}

told_grade : {G : Type 0} (e : Event) (b : Bool) (x : Statement G) → (cond b (told e x) x).grade ≡ x.grade
told_grade e true x = refl
told_grade e false x = refl

told_mark : {G : Type 0} (e : Event) (b : Bool) (x : Statement G) (k : Mark) → x.mark ≡ k → (cond b (told e x) x).mark ≡ cond b (answered k e) k
told_mark e true x k is = ap (λ v. answered v e) is
told_mark e false x k is = is

module _ {G : Type 0} (m : Meaning G) (degree : ℕ → G) (rs : List (Rule G)) (xs : List (Statement G)) (s : ℕ) where
  -- the statements once s alone was taken
  abbrev taken : List (Statement G)
  taken = set xs (s - 1) (raised m degree rs xs s)

  length_opened : length (opened m degree rs xs s) ≡ length xs
  length_opened = length_all_told m Opened (sons rs s) taken ∙ length-set xs (s - 1) (raised m degree rs xs s)

  length_if : (b : Bool) → length (cond b (all_told m SonRose (opened m degree rs xs s) (parents rs s)) (opened m degree rs xs s)) ≡ length xs
  length_if true = length_all_told m SonRose (parents rs s) (opened m degree rs xs s) ∙ length_opened
  length_if false = length_opened

  length_advanced : length (advanced m degree rs xs s) ≡ length xs
  length_advanced = length_if (risen m degree rs xs s)

  module _ (on : On (length xs) s) (r : ℕ) (here : On (length xs) r) where
    -- the statement r then
    abbrev one : Statement G
    one = cond (eqb r s) (raised m degree rs xs s) (entered m xs r)

    after_take : (b : Bool) → eqb r s ≡ b → entered m taken r ≡ cond b (raised m degree rs xs s) (entered m xs r)
    after_take true q = ap (λ k. entered m taken k) (eqb-true r s q) ∙ entered_same m xs s (raised m degree rs xs s) on
    after_take false q = entered_other m xs s r (raised m degree rs xs s) on.0 here.0 (λ e. eqb-false r s q (sym e))

    after_open : entered m (opened m degree rs xs s) r ≡ cond (son rs s r) (told Opened (entered m taken r)) (entered m taken r)
    after_open =
        let n : length taken ≡ length xs = length-set xs (s - 1) (raised m degree rs xs s) in
        entered_all_told m Opened r (sons rs s) taken (sons_positive s rs) (here.0, omega arith)
        ∙ ap (λ b. cond b (told Opened (entered m taken r)) (entered m taken r)) (holds_sons s r rs)

    after_if : (b : Bool) → entered m (cond b (all_told m SonRose (opened m degree rs xs s) (parents rs s)) (opened m degree rs xs s)) r ≡ cond (b && son rs r s) (told SonRose (entered m (opened m degree rs xs s) r)) (entered m (opened m degree rs xs s) r)
    after_if true =
        let n : length (opened m degree rs xs s) ≡ length xs = length_opened in
        entered_all_told m SonRose r (parents rs s) (opened m degree rs xs s) (parents_positive s rs) (here.0, omega arith)
        ∙ ap (λ b. cond b (told SonRose (entered m (opened m degree rs xs s) r)) (entered m (opened m degree rs xs s) r)) (holds_parents s r here.0 rs)
    after_if false = refl

    entered_advanced : entered m (advanced m degree rs xs s) r ≡ cond (risen m degree rs xs s && son rs r s) (told SonRose (cond (son rs s r) (told Opened one) one)) (cond (son rs s r) (told Opened one) one)
    entered_advanced =
        after_if (risen m degree rs xs s)
        ∙ ap (λ y. cond (risen m degree rs xs s && son rs r s) (told SonRose y) y) (after_open ∙ ap (λ y. cond (son rs s r) (told Opened y) y) (after_take (eqb r s) refl))

    grade_advanced : grades m (advanced m degree rs xs s) r ≡ one.grade
    grade_advanced =
        ap (λ x. x.grade) entered_advanced
        ∙ told_grade SonRose (risen m degree rs xs s && son rs r s) (cond (son rs s r) (told Opened one) one)
        ∙ told_grade Opened (son rs s r) one

    taken_mark : (b : Bool) → eqb r s ≡ b → (cond b (raised m degree rs xs s) (entered m xs r)).mark ≡ cond b (answered (entered m xs r).mark Taken) (entered m xs r).mark
    taken_mark true q = ap (λ k. answered (entered m xs k).mark Taken) (sym (eqb-true r s q))
    taken_mark false q = refl

    mark_advanced : (entered m (advanced m degree rs xs s) r).mark ≡ heard m (tables xs rs) s (risen m degree rs xs s) r
    mark_advanced =
        ap (λ x. x.mark) entered_advanced
        ∙ told_mark SonRose (risen m degree rs xs s && son rs r s) (cond (son rs s r) (told Opened one) one) _ (told_mark Opened (son rs s r) one _ (taken_mark (eqb r s) refl))

  pub advance_steps : (rose : Bool) (ys : List (Statement G)) → Next m xs s → rose ≡ risen m degree rs xs s → ys ≡ advanced m degree rs xs s → Steps m degree s rose (tables xs rs) (tables ys rs)
  advance_steps rose ys next e after = record {
    next = next;
    rises = e;
    rules = refl;
    same_count = ap length after ∙ length_advanced;
    raised = ap (λ l. grades m l s) after ∙ grade_advanced next.on s next.on ∙ ap (λ b. (cond b (raised m degree rs xs s) (entered m xs s)).grade) (eq-eqb s s refl) ∙ sym (ap (λ b. cond b (worth m degree rs (grades m xs) s) (grades m xs s)) e);
    others = λ r on ne. ap (λ l. grades m l r) after ∙ grade_advanced next.on r on ∙ ap (λ b. (cond b (raised m degree rs xs s) (entered m xs r)).grade) (ne_eqb r s ne);
    marks = by_cases m s rose (tables xs rs) (tables ys rs) next (λ r on. ap (λ l. (entered m l r).mark) after ∙ mark_advanced next.on r on ∙ sym (ap (λ b. heard m (tables xs rs) s b r) e));
  }
