-- What telling a list of statements of an event leaves of each one.
use Rattle.std.proofs.Common.{◌≡◌, ℕ, suc, ◌+◌, ◌-◌, ◌<◌, ◌≤◌, Bool, true, false, cond, not, ◌&&◌, ◌||◌, eqb, ◌≢◌, List, [], ◌∷◌, ◌++◌, length, get_or, set, Some, None, Option, MatchOption, sym, refl, ap, ◌∙◌, ⊎_elim, arith, length-set}
use Rattle.std.proofs.lemmas.List.{get_or_read, get_or-set_same, get_or-set_other}
use Rattle.std.proofs.lemmas.Bool.{both_ways, cases_lt, or_from, eqb-true, eqb-false}
use Rattle.std.proofs.ByRecursion.{All-append}
use Rattle.std.specs.List.{AllByRecursion as All, AllWithin, HoldsAt}
use Rattle.scales.specs.Meaning.{Meaning}
use Rattle.model.specs.Rules.{present, holds, son}
use Rattle.model.specs.Least.{On}
use Rattle.pasts.specs.Marks.{answered, active}
use Rattle.pasts.specs.Tables.{unopened, entered, told, some_active}
use Rattle.pasts.specs.Calls.{Next}
use Rattle.board.specs.Telling.{all_told, sons, parents}
use Rattle.pasts.specs.declared.statement.Event.{Event}
use Rattle.pasts.specs.declared.statement.Event.TheVariants.{Wanted, Opened, SonRose, Taken}
use Rattle.pasts.specs.declared.statement.Mark.{Mark}
use Rattle.pasts.specs.declared.statement.Mark.TheVariants.{Unopened, Quiet, Active}
use Rattle.model.specs.declared.rule.Rule.{Rule}
use Rattle.pasts.specs.declared.statement.Statement.{Statement}

answered_twice : (k : Mark) (e : Event) → answered (answered k e) e ≡ answered k e
answered_twice Unopened Wanted = refl
answered_twice Unopened Opened = refl
answered_twice Unopened SonRose = refl
answered_twice Unopened Taken = refl
answered_twice Quiet Wanted = refl
answered_twice Quiet Opened = refl
answered_twice Quiet SonRose = refl
answered_twice Quiet Taken = refl
answered_twice Active Wanted = refl
answered_twice Active Opened = refl
answered_twice Active SonRose = refl
answered_twice Active Taken = refl

told_twice : {G : Type 0} (e : Event) (x : Statement G) → told e (told e x) ≡ told e x
told_twice {G} e x = let f : Mark → Statement G = λ k. record { grade = x.grade; mark = k } in ap f (answered_twice x.mark e)

module _ {G : Type 0} (m : Meaning G) where
  pub entered_same : (xs : List (Statement G)) (s : ℕ) (x : Statement G) → On (length xs) s → entered m (set xs (s - 1) x) s ≡ x
  entered_same xs s x on = get_or-set_same xs (s - 1) x (unopened m) (omega arith)

  pub entered_other : (xs : List (Statement G)) (s r : ℕ) (x : Statement G) → 1 ≤ s → 1 ≤ r → (s ≡ r → ⊥) → entered m (set xs (s - 1) x) r ≡ entered m xs r
  entered_other xs s r x a b ne =
      let apart : r - 1 ≢ s - 1 = λ e. ne (omega arith) in
      get_or-set_other xs (s - 1) (r - 1) x (unopened m) apart

module _ {G : Type 0} (m : Meaning G) (e : Event) (r : ℕ) where
  one_told : (t : ℕ) (xs : List (Statement G)) → 1 ≤ t → On (length xs) r → (b : Bool) → eqb t r ≡ b → entered m (set xs (t - 1) (told e (entered m xs t))) r ≡ cond b (told e (entered m xs r)) (entered m xs r)
  one_told t xs pos on true q =
      let same : t ≡ r = eqb-true t r q in
      let at : t - 1 ≡ r - 1 = omega arith in
      ap (λ k. get_or (set xs k (told e (get_or xs k (unopened m)))) (r - 1) (unopened m)) at ∙ entered_same m xs r (told e (entered m xs r)) on
  one_told t xs pos on false q = entered_other m xs t r (told e (entered m xs t)) pos on.0 (eqb-false t r q)

  join_told : (a b : Bool) (x : Statement G) → cond b (told e (cond a (told e x) x)) (cond a (told e x) x) ≡ cond (a || b) (told e x) x
  join_told true true x = told_twice e x
  join_told true false x = refl
  join_told false true x = refl
  join_told false false x = refl

  pub entered_all_told : (ts : List ℕ) (xs : List (Statement G)) → All (λ t. 1 ≤ t) ts → On (length xs) r → entered m (all_told m e xs ts) r ≡ cond (holds ts r) (told e (entered m xs r)) (entered m xs r)
  entered_all_told [] xs pos on = refl
  entered_all_told (t ∷ ts) xs pos on =
      let ys = set xs (t - 1) (told e (entered m xs t)) in
      let n : length ys ≡ length xs = length-set xs (t - 1) (told e (entered m xs t)) in
      let on' : On (length ys) r = (on.0, omega arith) in
      entered_all_told ts ys pos.1 on'
      ∙ ap (λ y. cond (holds ts r) (told e y) y) (one_told t xs pos.0 on (eqb t r) refl)
      ∙ join_told (eqb t r) (holds ts r) (entered m xs r)

module _ {G : Type 0} (m : Meaning G) (e : Event) where
  pub length_all_told : (ts : List ℕ) (xs : List (Statement G)) → length (all_told m e xs ts) ≡ length xs
  length_all_told [] xs = refl
  length_all_told (t ∷ ts) xs = length_all_told ts (set xs (t - 1) (told e (entered m xs t))) ∙ length-set xs (t - 1) (told e (entered m xs t))

or_assoc : (a b c : Bool) → (a || (b || c)) ≡ ((a || b) || c)
or_assoc true b c = refl
or_assoc false b c = refl

holds_append : (ps qs : List ℕ) (r : ℕ) → holds (ps ++ qs) r ≡ (holds ps r || holds qs r)
holds_append [] qs r = refl
holds_append (p ∷ ps) qs r = ap (λ b. eqb p r || b) (holds_append ps qs r) ∙ or_assoc (eqb p r) (holds ps r) (holds qs r)

positive_one : (b : ℕ) (bs : List ℕ) (t : Bool) → eqb b 0 ≡ t → All (λ t. 1 ≤ t) bs → All (λ t. 1 ≤ t) (cond t bs (b ∷ bs))
positive_one b bs true q h = h
positive_one b bs false q h = let ne = eqb-false b 0 q in (omega arith, h)

pub present_positive : (bs : List ℕ) → All (λ t. 1 ≤ t) (present bs)
present_positive [] = tt
present_positive (b ∷ bs) = positive_one b (present bs) (eqb b 0) refl (present_positive bs)

sons_one : (t : Bool) (ps qs : List ℕ) → All (λ t. 1 ≤ t) ps → All (λ t. 1 ≤ t) qs → All (λ t. 1 ≤ t) (cond t (ps ++ qs) qs)
sons_one true ps qs h k = All-append (λ t. 1 ≤ t) ps qs h k
sons_one false ps qs h k = k

parents_one : (h : ℕ) (ps : List ℕ) (t b : Bool) → eqb h 0 ≡ t → All (λ t. 1 ≤ t) ps → All (λ t. 1 ≤ t) (cond (not t && b) (h ∷ ps) ps)
parents_one h ps true b q k = k
parents_one h ps false true q k = let ne = eqb-false h 0 q in (omega arith, k)
parents_one h ps false false q k = k

son_one : (t : Bool) (ps qs : List ℕ) (r : ℕ) (c : Bool) → holds qs r ≡ c → holds (cond t (ps ++ qs) qs) r ≡ cond t (holds ps r || c) c
son_one true ps qs r c e = holds_append ps qs r ∙ ap (λ b. holds ps r || b) e
son_one false ps qs r c e = e

-- t: the head is 0; u: it is r; b: s is a body
parent_one : (h r : ℕ) (ps : List ℕ) (c : Bool) → 1 ≤ r → holds ps r ≡ c → (t u b : Bool) → eqb h 0 ≡ t → eqb h r ≡ u → holds (cond (not t && b) (h ∷ ps) ps) r ≡ cond u (b || c) c
parent_one h r ps c pos e true true b p q =
    let x : h ≡ 0 = eqb-true h 0 p in
    let y : h ≡ r = eqb-true h r q in
    absurd (omega arith)
parent_one h r ps c pos e true false b p q = e
parent_one h r ps c pos e false true true p q = ap (λ v. v || holds ps r) q
parent_one h r ps c pos e false true false p q = e
parent_one h r ps c pos e false false true p q = ap (λ v. v || holds ps r) q ∙ e
parent_one h r ps c pos e false false false p q = e

module _ {G : Type 0} (s : ℕ) where
  pub sons_positive : (rs : List (Rule G)) → All (λ t. 1 ≤ t) (sons rs s)
  sons_positive [] = tt
  sons_positive (r ∷ rs) = sons_one (eqb r.head s) (present r.bodies) (sons rs s) (present_positive r.bodies) (sons_positive rs)

  pub parents_positive : (rs : List (Rule G)) → All (λ t. 1 ≤ t) (parents rs s)
  parents_positive [] = tt
  parents_positive (r ∷ rs) = parents_one r.head (parents rs s) (eqb r.head 0) (holds (present r.bodies) s) refl (parents_positive rs)

  pub holds_sons : (r : ℕ) (rs : List (Rule G)) → holds (sons rs s) r ≡ son rs s r
  holds_sons r [] = refl
  holds_sons r (q ∷ rs) = son_one (eqb q.head s) (present q.bodies) (sons rs s) r (son rs s r) (holds_sons r rs)

  pub holds_parents : (r : ℕ) → 1 ≤ r → (rs : List (Rule G)) → holds (parents rs s) r ≡ son rs r s
  holds_parents r pos [] = refl
  holds_parents r pos (q ∷ rs) =
      parent_one q.head r (parents rs s) (son rs r s) pos (holds_parents r pos rs) (eqb q.head 0) (eqb q.head r) (holds (present q.bodies) s) refl refl

none_or_some : {i : ℕ} → Some i ≡ None → ⊥
none_or_some e = cc

module _ {G : Type 0} (m : Meaning G) where
  pub none_active : (xs : List (Statement G)) → ((k : ℕ) → k < length xs → active (get_or xs k (unopened m)).mark ≡ false) → some_active xs ≡ false
  none_active [] h = refl
  none_active (x ∷ xs) h = or_from (active x.mark) (some_active xs) (h 0 (omega arith)) (none_active xs (λ k l. h (suc k) (omega arith)))

  -- the first active statement is the one at i
  pub next_here : (xs : List (Statement G)) (i : ℕ) (x : Statement G) → i < length xs → x ≡ get_or xs i x → active x.mark ≡ true → ((k : ℕ) → k < i → active (get_or xs k (unopened m)).mark ≡ false) → Next m xs (i + 1)
  next_here xs i x h read act below =
      let at : i + 1 - 1 ≡ i = omega arith in
      let here : active (get_or xs i (unopened m)).mark ≡ true = ap (λ y. active y.mark) (sym (get_or_read xs i x h read (unopened m))) ∙ act in
      record {
        on = omega arith;
        is_active = ap (λ k. active (get_or xs k (unopened m)).mark) at ∙ here;
        lowest = λ r on e. ⊎_elim (λ less. absurd (both_ways _ (below (r - 1) less) e)) (λ more. omega arith) (cases_lt (r - 1) i);
      }

  -- what looking for the first active statement finds
  abbrev pub First : List (Statement G) → Option ℕ → Type 0
  First xs o = MatchOption o (AllWithin (λ x. active x.mark ≡ false) xs 0 (length xs)) (λ i. (i < length xs) × HoldsAt (λ x. active x.mark ≡ true) xs i × AllWithin (λ x. active x.mark ≡ false) xs 0 i)

  pub first_none : (xs : List (Statement G)) (o : Option ℕ) → First xs o → o ≡ None → some_active xs ≡ false
  first_none xs None f e = none_active xs (λ k h. f k (unopened m) (omega arith) h)
  first_none xs (Some i) f e = absurd (none_or_some e)
