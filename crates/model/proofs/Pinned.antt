-- What the words of a rule mean.
use Rattle.std.proofs.Common.{◌≡◌, ℕ, true, cond, not, ◌||◌, eqb, ltb, List, [], ◌∷◌, sym, refl, ap, ◌∙◌, subst, ⊎_elim}
use Rattle.std.proofs.lemmas.Bool.{false≢true, eqb-true, eqb-false, eq-eqb, ne_eqb, ltb-true, lt-ltb, or_cases, or_left, or_right, and_parts, and_from, not-true, not_from_false, cond-true, cond_both}
use Rattle.scales.specs.Meaning.{Meaning, Under}
use Rattle.scales.specs.Laws.{Laws}
use Rattle.model.specs.Rules.{present, holds, son, meets, joins, blends, by_form, value, joined}
use Rattle.model.specs.Formed.{gap, body_above}
use Rattle.model.specs.Least.{worth}
use Rattle.model.specs.Pins.{OneOf, first, later, Body, SonIs, Malformed, high_head, high_body, hole, MalformedIs, JoinOf, MeetOf, Says, survey, rule, GradeOf, graded, Chained, end, skip, link, WorthIsJoin, FormsAre}
use Rattle.model.specs.declared.rule.Form.TheVariants.{All, Any, Chain}
use Rattle.model.specs.declared.rule.Rule.{Rule}
use Rattle.model.proofs.Cases.{at_test}
use Rattle.model.proofs.Monotone.{same}
use Rattle.model.proofs.Bodies.{held_body, body_held, holds_one, one_holds, above_body, body_is_above, gap_absent, absent_gap}

module _ {G : Type 0} where
  abbrev Father : List (Rule G) → ℕ → ℕ → Type 0
  Father rules s t = (r : Rule G) × OneOf r rules × (r.head ≡ s) × Body t r.bodies

  son_father : (rules : List (Rule G)) (s t : ℕ) → son rules s t ≡ true → Father rules s t
  son_father [] s t h = absurd (false≢true h)
  son_father (r ∷ rs) s t h =
      let rest : son rs s t ≡ true → Father (r ∷ rs) s t = λ q. let f = son_father rs s t q in (f.0, later f.1, f.2, f.3) in
      let mine : eqb r.head s ≡ true → (holds (present r.bodies) t || son rs s t) ≡ true → Father (r ∷ rs) s t = λ e q. ⊎_elim (λ i. (r, first, eqb-true r.head s e, held_body r.bodies t i)) rest (or_cases (holds (present r.bodies) t) (son rs s t) q) in
      cond_both (eqb r.head s) (holds (present r.bodies) t || son rs s t) (son rs s t) (λ z. z ≡ true → Father (r ∷ rs) s t) mine (λ _. rest) h

  father_son : (s t : ℕ) {r : Rule G} {rules : List (Rule G)} → OneOf r rules → r.head ≡ s → Body t r.bodies → son rules s t ≡ true
  father_son s t (first {r = r} {rs = rs}) e b = cond-true (eqb r.head s) (holds (present r.bodies) t || son rs s t) (son rs s t) (eq-eqb r.head s e) ∙ or_left (holds (present r.bodies) t) (son rs s t) (body_held b)
  father_son s t (later {q = q} {rs = rs} i) e b =
      let rest = father_son s t i e b in
      cond_both (eqb q.head s) (holds (present q.bodies) t || son rs s t) (son rs s t) (λ z. z ≡ true) (λ _. or_right (holds (present q.bodies) t) (son rs s t) rest) (λ _. rest)

  pub son_is : SonIs G
  son_is rules s t = (son_father rules s t, λ r i e b. father_son s t i e b)

  malformed_so : (n : ℕ) (r : Rule G) → Malformed n r → (ltb n r.head || (body_above n r.bodies || gap r.bodies)) ≡ true
  malformed_so n r (high_head less) = or_left (ltb n r.head) _ (lt-ltb n r.head less)
  malformed_so n r (high_body i less) = or_right (ltb n r.head) _ (or_left (body_above n r.bodies) _ (body_is_above n i less))
  malformed_so n r (hole a) = or_right (ltb n r.head) _ (or_right (body_above n r.bodies) _ (absent_gap a))

  pub malformed_is : MalformedIs G
  malformed_is n r =
      let bodies : (body_above n r.bodies || gap r.bodies) ≡ true → Malformed n r = λ q. ⊎_elim (λ e. let b = above_body n r.bodies e in high_body b.1 b.2) (λ e. hole (gap_absent r.bodies e)) (or_cases (body_above n r.bodies) (gap r.bodies) q) in
      let so : (ltb n r.head || (body_above n r.bodies || gap r.bodies)) ≡ true → Malformed n r = λ q. ⊎_elim (λ e. high_head (ltb-true n r.head e)) bodies (or_cases (ltb n r.head) _ q) in (
        λ q. let both = and_parts (not (eqb r.head 0)) _ q in (eqb-false r.head 0 (not-true _ both.0), so both.1),
        λ ne bad. and_from (not (eqb r.head 0)) _ (not_from_false _ (ne_eqb r.head 0 ne)) (malformed_so n r bad),
      )

module _ {G : Type 0} {m : Meaning G} (laws : Laws m) (f : ℕ → G) where
  over_start : (s : ℕ) (x : G) (rules : List (Rule G)) → Under m x (joined m f s x rules)
  over_start s x [] = same laws x
  over_start s x (r ∷ rs) =
      at_test (eqb r.head s) (λ c. Under m x (cond c (joined m f s (m.join x (value m f r)) rs) (joined m f s x rs))) (λ e. laws.transitive _ _ _ (laws.join_left x (value m f r)) (over_start s (m.join x (value m f r)) rs)) (λ e. over_start s x rs)

  over_rule : (s : ℕ) (x : G) {r : Rule G} {rules : List (Rule G)} → OneOf r rules → r.head ≡ s → Under m (value m f r) (joined m f s x rules)
  over_rule s x (first {r = r} {rs = rs}) e = rw (eq-eqb r.head s e) (laws.transitive _ _ _ (laws.join_right x (value m f r)) (over_start s (m.join x (value m f r)) rs))
  over_rule s x {r} (later {q = q} {rs = rs} i) e =
      at_test (eqb q.head s) (λ c. Under m (value m f r) (cond c (joined m f s (m.join x (value m f q)) rs) (joined m f s x rs))) (λ _. over_rule s (m.join x (value m f q)) i e) (λ _. over_rule s x i e)

  under_all : (s : ℕ) (x g : G) (rules : List (Rule G)) → Under m x g → ((r : Rule G) → OneOf r rules → r.head ≡ s → Under m (value m f r) g) → Under m (joined m f s x rules) g
  under_all s x g [] p h = p
  under_all s x g (r ∷ rs) p h =
      at_test (eqb r.head s) (λ c. Under m (cond c (joined m f s (m.join x (value m f r)) rs) (joined m f s x rs)) g) (λ e. under_all s (m.join x (value m f r)) g rs (laws.join_least _ _ _ p (h r first (eqb-true _ _ e))) (λ q i. h q (later i))) (λ e. under_all s x g rs p (λ q i. h q (later i)))

  said_under : (degree : ℕ → G) (rules : List (Rule G)) (s : ℕ) {a : G} → Says m degree rules f s a → Under m a (worth m degree rules f s)
  said_under degree rules s survey = over_start s (degree s) rules
  said_under degree rules s (rule i e) = over_rule s (degree s) i e

  -- the fold of meets is at or below its start and each grade, and above what is
  meets_start : (g : G) (bs : List ℕ) → Under m (meets m f g bs) g
  meets_start g [] = same laws g
  meets_start g (b ∷ bs) = laws.transitive _ _ _ (meets_start (m.meet g (f b)) bs) (laws.meet_left g (f b))

  meets_under : (g : G) {c : ℕ} {bs : List ℕ} → OneOf c bs → Under m (meets m f g bs) (f c)
  meets_under g (first {r = b} {rs = bs}) = laws.transitive _ _ _ (meets_start (m.meet g (f b)) bs) (laws.meet_right g (f b))
  meets_under g (later {q = b} i) = meets_under (m.meet g (f b)) i

  meets_greatest : (x g : G) (bs : List ℕ) → Under m x g → ((c : ℕ) → OneOf c bs → Under m x (f c)) → Under m x (meets m f g bs)
  meets_greatest x g [] p h = p
  meets_greatest x g (b ∷ bs) p h = meets_greatest x (m.meet g (f b)) bs (laws.meet_greatest _ _ _ p (h b first)) (λ c i. h c (later i))

  joins_start : (g : G) (bs : List ℕ) → Under m g (joins m f g bs)
  joins_start g [] = same laws g
  joins_start g (b ∷ bs) = laws.transitive _ _ _ (laws.join_left g (f b)) (joins_start (m.join g (f b)) bs)

  joins_over : (g : G) {c : ℕ} {bs : List ℕ} → OneOf c bs → Under m (f c) (joins m f g bs)
  joins_over g (first {r = b} {rs = bs}) = laws.transitive _ _ _ (laws.join_right g (f b)) (joins_start (m.join g (f b)) bs)
  joins_over g (later {q = b} i) = joins_over (m.join g (f b)) i

  joins_least : (x g : G) (bs : List ℕ) → Under m g x → ((c : ℕ) → OneOf c bs → Under m (f c) x) → Under m (joins m f g bs) x
  joins_least x g [] p h = p
  joins_least x g (b ∷ bs) p h = joins_least x (m.join g (f b)) bs (laws.join_least _ _ _ p (h b first)) (λ c i. h c (later i))

  -- the same of a list that has a first
  meets_all : (b : ℕ) (cs : List ℕ) {c : ℕ} → OneOf c (b ∷ cs) → Under m (meets m f (f b) cs) (f c)
  meets_all b cs first = meets_start (f b) cs
  meets_all b cs (later i) = meets_under (f b) i

  joins_all : (b : ℕ) (cs : List ℕ) {c : ℕ} → OneOf c (b ∷ cs) → Under m (f c) (joins m f (f b) cs)
  joins_all b cs first = joins_start (f b) cs
  joins_all b cs (later i) = joins_over (f b) i

-- a list that holds something has a first
starts : (l : List ℕ) (t : ℕ) → holds l t ≡ true → (b : ℕ) × (bs : List ℕ) × (l ≡ b ∷ bs)
starts [] t h = absurd (false≢true h)
starts (b ∷ bs) t h = (b, bs, refl)

module _ {G : Type 0} {m : Meaning G} (laws : Laws m) (f : ℕ → G) (bs : List ℕ) (b : ℕ) (cs : List ℕ) (e : present bs ≡ b ∷ cs) where
  listed : {c : ℕ} → Body c bs → OneOf c (b ∷ cs)
  listed {c} h = holds_one (b ∷ cs) c (subst (λ l. holds l c ≡ true) e (body_held h))

  unlisted : {c : ℕ} → OneOf c (b ∷ cs) → Body c bs
  unlisted {c} i = held_body bs c (subst (λ l. holds l c ≡ true) (sym e) (one_holds i))

  over_meet : {a : G} → GradeOf m f bs a → Under m (meets m f (f b) cs) a
  over_meet (graded h) = meets_all laws f b cs (listed h)

  under_join : {a : G} → GradeOf m f bs a → Under m a (joins m f (f b) cs)
  under_join (graded h) = joins_all laws f b cs (listed h)

  is_meet : MeetOf m (GradeOf m f bs) (meets m f (f b) cs)
  is_meet = record { under = λ a i. over_meet i; greatest = λ x h. meets_greatest laws f x (f b) cs (h _ (graded (unlisted first))) (λ c i. h _ (graded (unlisted (later i)))) }

  is_join : JoinOf m (GradeOf m f bs) (joins m f (f b) cs)
  is_join = record { over = λ a i. under_join i; least = λ x h. joins_least laws f x (f b) cs (h _ (graded (unlisted first))) (λ c i. h _ (graded (unlisted (later i)))) }

none_present : (bs : List ℕ) → ((b : ℕ) → OneOf b bs → b ≡ 0) → present bs ≡ []
none_present [] h = refl
none_present (b ∷ bs) h = cond-true (eqb b 0) (present bs) (b ∷ present bs) (eq-eqb b 0 (h b first)) ∙ none_present bs (λ c i. h c (later i))

module _ {G : Type 0} (m : Meaning G) (f : ℕ → G) where
  chained : (g : G) (bs : List ℕ) → Chained m f g bs (blends m f g (present bs))
  chained g [] = end
  chained g (b ∷ bs) =
      let gone : eqb b 0 ≡ true → Chained m f g (b ∷ bs) (blends m f g (present bs)) = λ z. subst (λ x. Chained m f g (x ∷ bs) (blends m f g (present bs))) (sym (eqb-true b 0 z)) (skip (chained g bs)) in
      cond_both (eqb b 0) (present bs) (b ∷ present bs) (λ l. Chained m f g (b ∷ bs) (blends m f g l)) gone (λ z. link (eqb-false b 0 z) (chained (m.blend g (f b)) bs))

  by_chain : (w : G) (bs : List ℕ) → blends m f w bs ≡ by_form m f Chain w bs
  by_chain w [] = refl
  by_chain w (b ∷ bs) = refl

module _ {G : Type 0} {m : Meaning G} (laws : Laws m) where
  pub worth_is_join : (degree : ℕ → G) → WorthIsJoin m degree
  worth_is_join degree rules f s =
      record { over = λ a i. said_under laws f degree rules s i; least = λ b h. under_all laws f s (degree s) b rules (h _ survey) (λ r i e. h _ (rule i e)) }

  pub forms_are : FormsAre m
  forms_are = record {
    alone = λ f r h. ap (by_form m f r.form r.weight) (none_present r.bodies h);
    all = λ f r b e h.
        let start = starts (present r.bodies) b (body_held h) in
        (_, is_meet laws f r.bodies start.0 start.1 start.2, ap (λ x. by_form m f x r.weight (present r.bodies)) e ∙ ap (by_form m f All r.weight) start.2);
    any = λ f r b e h.
        let start = starts (present r.bodies) b (body_held h) in
        (_, is_join laws f r.bodies start.0 start.1 start.2, ap (λ x. by_form m f x r.weight (present r.bodies)) e ∙ ap (by_form m f Any r.weight) start.2);
    chain = λ f r e. subst (λ x. Chained m f r.weight r.bodies x) (by_chain m f r.weight (present r.bodies) ∙ ap (λ x. by_form m f x r.weight (present r.bodies)) (sym e)) (chained m f r.weight r.bodies);
  }
