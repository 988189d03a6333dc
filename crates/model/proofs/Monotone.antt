-- Worths rise with the grades of the sons.
use Rattle.std.proofs.Common.{◌≡◌, ℕ, Bool, true, false, cond, ◌||◌, eqb, List, [], ◌∷◌, sym, refl, ap}
use Rattle.std.proofs.lemmas.Bool.{or_left, or_right, eq-eqb}
use Rattle.scales.specs.Meaning.{Meaning, Under, Same}
use Rattle.scales.specs.Laws.{Laws}
use Rattle.model.specs.Rules.{present, holds, son, folds, by_form, value, joined}
use Rattle.model.specs.Least.{On, worth}
use Rattle.model.specs.Formed.{malformed}
use Rattle.model.specs.declared.rule.Form.{Form}
use Rattle.model.specs.declared.rule.Form.TheVariants.{All, Any, Chain}
use Rattle.model.specs.declared.rule.Rule.{Rule}
use Rattle.model.proofs.Cases.{at_test}
use Rattle.model.proofs.Sons.{son_on}

module _ {G : Type 0} (m : Meaning G) (f g : ℕ → G) where
  -- f is under g at each of bs
  abbrev Below : List ℕ → Type 0
  Below bs = (b : ℕ) → holds bs b ≡ true → Under m (f b) (g b)

  head_below : (b : ℕ) (bs : List ℕ) → Below (b ∷ bs) → Under m (f b) (g b)
  head_below b bs h = h b (or_left (eqb b b) (holds bs b) (eq-eqb b b refl))

  tail_below : (b : ℕ) (bs : List ℕ) → Below (b ∷ bs) → Below bs
  tail_below b bs h c q = h c (or_right (eqb b c) (holds bs c) q)

module _ {G : Type 0} {m : Meaning G} (laws : Laws m) where
  pub same : (a : G) → Under m a a
  same a = laws.reflexive a a refl

  pub under_eq : {a b : G} → a ≡ b → Under m a b
  under_eq {a} {b} e = laws.reflexive a b (ap m.stands e)

  pub meet_rises : (a b c d : G) → Under m a c → Under m b d → Under m (m.meet a b) (m.meet c d)
  meet_rises a b c d p q =
      laws.meet_greatest c d (m.meet a b) (laws.transitive _ a c (laws.meet_left a b) p) (laws.transitive _ b d (laws.meet_right a b) q)

  pub join_rises : (a b c d : G) → Under m a c → Under m b d → Under m (m.join a b) (m.join c d)
  join_rises a b c d p q =
      laws.join_least a b (m.join c d) (laws.transitive a c _ p (laws.join_left c d)) (laws.transitive b d _ q (laws.join_right c d))

  module _ (f g : ℕ → G) where
    folds_rise : (op : G → G → G) → ((a b c d : G) → Under m a c → Under m b d → Under m (op a b) (op c d)) → (x y : G) (bs : List ℕ) → Under m x y → Below m f g bs → Under m (folds f op x bs) (folds g op y bs)
    folds_rise op up x y [] p h = p
    folds_rise op up x y (b ∷ bs) p h = folds_rise op up (op x (f b)) (op y (g b)) bs (up _ _ _ _ p (head_below m f g b bs h)) (tail_below m f g b bs h)

    by_form_rises : (form : Form) (w : G) (bs : List ℕ) → Below m f g bs → Under m (by_form m f form w bs) (by_form m g form w bs)
    by_form_rises All w [] h = same w
    by_form_rises Any w [] h = same w
    by_form_rises Chain w [] h = same w
    by_form_rises All w (b ∷ bs) h = laws.blend_rises _ _ _ _ (same w) (folds_rise m.meet meet_rises (f b) (g b) bs (head_below m f g b bs h) (tail_below m f g b bs h))
    by_form_rises Any w (b ∷ bs) h = laws.blend_rises _ _ _ _ (same w) (folds_rise m.join join_rises (f b) (g b) bs (head_below m f g b bs h) (tail_below m f g b bs h))
    by_form_rises Chain w (b ∷ bs) h = folds_rise m.blend laws.blend_rises w w (b ∷ bs) (same w) h

    pub joined_rises : (s : ℕ) (x y : G) (rules : List (Rule G)) → Under m x y → ((t : ℕ) → son rules s t ≡ true → Under m (f t) (g t)) → Under m (joined m f s x rules) (joined m g s y rules)
    joined_rises s x y [] p h = p
    joined_rises s x y (r ∷ rs) p h =
        let rest : List (Rule G) → Bool → Type 0 = λ l c. ((t : ℕ) → cond c (holds (present r.bodies) t || son l s t) (son l s t) ≡ true → Under m (f t) (g t)) → Under m (cond c (joined m f s (m.join x (value m f r)) l) (joined m f s x l)) (cond c (joined m g s (m.join y (value m g r)) l) (joined m g s y l)) in
        at_test (eqb r.head s) (rest rs)
        (λ e i. joined_rises s (m.join x (value m f r)) (m.join y (value m g r)) rs (join_rises x _ y _ p (by_form_rises r.form r.weight (present r.bodies) (λ b q. i b (or_left _ _ q)))) (λ t q. i t (or_right _ _ q)))
        (λ e i. joined_rises s x y rs p i)
        h

  module _ (degree : ℕ → G) (rules : List (Rule G)) (f g : ℕ → G) where
    pub worth_rises : (s : ℕ) → ((t : ℕ) → son rules s t ≡ true → Under m (f t) (g t)) → Under m (worth m degree rules f s) (worth m degree rules g s)
    worth_rises s h = joined_rises f g s (degree s) (degree s) rules (same (degree s)) h

    -- if f is under g on all statements, so are the worths
    pub monotone : (n : ℕ) → malformed n rules ≡ false → ((s : ℕ) → On n s → Under m (f s) (g s)) → (s : ℕ) → On n s → Under m (worth m degree rules f s) (worth m degree rules g s)
    monotone n ok h s on = worth_rises s (λ t q. h t (son_on n rules s t ok on.0 q))

  module _ (degree : ℕ → G) (rules : List (Rule G)) (f g : ℕ → G) where
    pub worth_same : (s : ℕ) → ((t : ℕ) → son rules s t ≡ true → Same m (f t) (g t)) → Same m (worth m degree rules f s) (worth m degree rules g s)
    worth_same s h =
        laws.antisymmetric _ _ (worth_rises degree rules f g s (λ t q. laws.reflexive _ _ (h t q))) (worth_rises degree rules g f s (λ t q. laws.reflexive _ _ (sym (h t q))))
