-- A finish serves every want; and boards with the same rules in force agree where they rest.
use Rattle.std.proofs.Common.{◌≡◌, ℕ, Bool, not, List, None, sym, ap, ◌∙◌, subst, arith}
use Rattle.scales.specs.Meaning.{Meaning, Under, Same}
use Rattle.scales.specs.Laws.{Laws}
use Rattle.model.specs.Least.{On, Model, LeastModel, least}
use Rattle.model.specs.Pins.{OneOf, Says, survey, rule}
use Rattle.model.specs.declared.rule.Rule.{Rule}
use Rattle.model.proofs.Pinned.{worth_is_join}
use Rattle.pasts.specs.Marks.{Resting}
use Rattle.pasts.specs.Refusals.{first}
use Rattle.pasts.specs.Tables.{grade, mark, count, table_checks, checks}
use Rattle.pasts.specs.Calls.{finishes, reads, Outcome, done}
use Rattle.pasts.specs.Pasts.{later, before, in_force, least_grade}
use Rattle.pasts.specs.Promises.{SameRules, WantsAreServed, PastIsForgotten, SameRulesAgree}
use Rattle.pasts.specs.declared.call.Call.TheVariants.{Read}
use Rattle.pasts.specs.declared.call.Answer.TheVariants.{Graded}
use Rattle.pasts.proofs.Checked.{Unmet, none_met, all_unmet, on_inside, sound_after}
use Rattle.pasts.proofs.Steps.{run_rules, run_count}
use Rattle.pasts.proofs.Sounds.{stays_sound}

module _ {G : Type 0} {m : Meaning G} (laws : Laws m) (degree : ℕ → G) where
  pub wants_are_served : WantsAreServed m degree
  wants_are_served n p h t past u k s wanted (done ok (finishes f)) =
      let sound = stays_sound laws degree n p _ u (later past (done ok (finishes f))) in
      let opened = sound.wanted_open s (before wanted) in
      let unmet : Unmet (table_checks u) = sound_after t u (run_rules f.steps) (run_count f.steps) (none_met (table_checks t) ok) in
      let on : On (count u) s = rw sound.same_count opened.0 in
      let accepts : first (checks m (Read s) u) ≡ None = all_unmet (checks m (Read s) u) (unmet.0, (unmet.1.0, (on_inside (count u) s on, (ap not opened.1, tt)))) in
      let P : Bool → Type 0 = λ b. Outcome m degree (Read s) u (Graded (grade m u s) b) u in
      (grade m u s, subst P (ap not f.still) (done accepts reads), sound.exact f.still s opened.0 opened.1)

  -- every rule of xs is one of ys
  abbrev Among : List (Rule G) → List (Rule G) → Type 0
  Among xs ys = (r : Rule G) → (r.head ≡ 0 → ⊥) → OneOf r xs → OneOf r ys

  said_too : (xs ys : List (Rule G)) → Among xs ys → (f : ℕ → G) (s : ℕ) → (s ≡ 0 → ⊥) → {a : G} → Says m degree xs f s a → Says m degree ys f s a
  said_too xs ys each f s ne survey = survey
  said_too xs ys each f s ne (rule {r = r} i e) = rule (each r (λ z. ne (sym e ∙ z)) i) e

  -- a model of ys is one of xs
  model_too : (xs ys : List (Rule G)) → Among xs ys → (n : ℕ) (f : ℕ → G) → Model m degree ys n f → Model m degree xs n f
  model_too xs ys each n f model s on =
      let ne : s ≡ 0 → ⊥ = λ z. omega arith in
      (worth_is_join laws degree xs f s).least (f s) (λ a i. laws.transitive _ _ _ ((worth_is_join laws degree ys f s).over a (said_too xs ys each f s ne i)) (model s on))

  one_least : (xs ys : List (Rule G)) → SameRules xs ys → (n : ℕ) (f g : ℕ → G) → LeastModel m degree xs n f → LeastModel m degree ys n g → (s : ℕ) → On n s → Same m (f s) (g s)
  one_least xs ys same n f g a b s on =
      let low : Under m (f s) (g s) = a.under g (model_too xs ys (λ r ne. (same r ne).0) n g b.model) s on in
      let high : Under m (g s) (f s) = b.under f (model_too ys xs (λ r ne. (same r ne).1) n f a.model) s on in
      laws.antisymmetric (f s) (g s) low high

  pub past_is_forgotten : PastIsForgotten m degree
  past_is_forgotten n p q h i t u s past other same on here there =
      let a = stays_sound laws degree n p h t past in
      let b = stays_sound laws degree n q i u other in
      let x = a.resting_exact s on (subst (λ r. Resting r n (mark m t) s) a.same_rules here) in
      let y = b.resting_exact s on (subst (λ r. Resting r n (mark m u) s) b.same_rules there) in
      x ∙ ap (λ r. m.stands (least m degree r n s)) same ∙ sym y

  pub same_rules_agree : SameRulesAgree m degree
  same_rules_agree n p q h i t u s past other same on here there =
      let a = stays_sound laws degree n p h t past in
      let b = stays_sound laws degree n q i u other in
      let x = a.resting_exact s on (subst (λ r. Resting r n (mark m t) s) a.same_rules here) in
      let y = b.resting_exact s on (subst (λ r. Resting r n (mark m u) s) b.same_rules there) in
      x ∙ one_least (in_force m p h) (in_force m q i) same n (least_grade m degree n p h) (least_grade m degree n q i) a.is_least b.is_least s on ∙ sym y
