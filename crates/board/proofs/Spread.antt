-- Flags that spread from a statement to all that lead to it.
use Rattle.std.proofs.Common.{◌≡◌, ℕ, zero, suc, ◌+◌, ◌-◌, ◌<◌, ◌≤◌, Bool, true, false, cond, not, ◌&&◌, ◌||◌, eqb, ltb, ◌≢◌, ◌⊎◌, List, [], ◌∷◌, length, get_or, drop, set, replicate, Some, None, count_by, Option, sym, refl, ap, ◌∙◌, subst, inl, inr, ⊎_elim, arith}
use lib.ListN.{length-replicate}
use Rattle.std.proofs.lemmas.List.{get_or-set_same, get_or-set_other, get_or-replicate, get_or_past}
use Rattle.std.proofs.lemmas.Bool.{and_parts, and_cases, or_cases, or_parts, or_left, or_right, or_from, and_left, and_right, le-ltb, eq-eqb, ne_eqb, eqb-true, eqb-false, ltb-false, not-true, not-false, not_from_false, both_ways, cond-true, cond-false, cases_eq, cases_lt}
use Rattle.std.proofs.lemmas.List.Sums.{sum_by-set, count_by-le-length}
use Rattle.model.specs.Least.{On}
use Rattle.model.specs.Rules.{present, holds, son, Leads, here, by_son}
use Rattle.model.specs.Formed.{malformed, malformed_place, body_above, gap}
use Rattle.model.proofs.Sons.{son_on}
use Rattle.board.specs.Flags.{flagged, some_flagged, spreads, spreading}
use Rattle.model.specs.declared.rule.Rule.{Rule}
use Rattle.board.proofs.Turns.{turn_taken, turn_left}

-- the loop over rules
module _ {G : Type 0} (fl : List Bool) (rs : List (Rule G)) (i : ℕ) (so_far : spreading fl (drop i rs) ≡ spreading fl rs) where
  pub spread_here : (r : Rule G) → i < length rs → r ≡ get_or rs i r → spreads fl r ≡ true → Some r.head ≡ spreading fl rs
  spread_here r h read e = sym (turn_taken rs i (spreading fl) r (spreads fl r) _ _ refl h read e) ∙ so_far

  pub spread_next : (r : Rule G) → i < length rs → r ≡ get_or rs i r → spreads fl r ≡ false → spreading fl (drop (i + 1) rs) ≡ spreading fl rs
  spread_next r h read e = sym (turn_left rs i (spreading fl) r (spreads fl r) _ _ refl h read e) ∙ so_far

-- bodies
touched : (fl : List Bool) (bs : List ℕ) → some_flagged fl bs ≡ true → (t : ℕ) × (holds bs t ≡ true) × (flagged fl t ≡ true)
touched fl [] e = cc
touched fl (b ∷ bs) e =
    ⊎_elim
    (λ f. (b, or_left (eqb b b) (holds bs b) (eq-eqb b b refl), f))
    (λ f. let rest = touched fl bs f in (rest.0, or_right (eqb b rest.0) (holds bs rest.0) rest.1, rest.2))
    (or_cases (flagged fl b) (some_flagged fl bs) e)

touching : (fl : List Bool) (bs : List ℕ) (t : ℕ) → holds bs t ≡ true → flagged fl t ≡ true → some_flagged fl bs ≡ true
touching fl [] t e f = cc
touching fl (b ∷ bs) t e f =
    ⊎_elim
    (λ q. or_left (flagged fl b) (some_flagged fl bs) (ap (flagged fl) (eqb-true b t q) ∙ f))
    (λ q. or_right (flagged fl b) (some_flagged fl bs) (touching fl bs t q f))
    (or_cases (eqb b t) (holds bs t) e)

son_later : (b h c : Bool) → c ≡ true → cond b (h || c) c ≡ true
son_later true h c e = or_right h c e
son_later false h c e = e

some_head : (h p : ℕ) → Some h ≡ Some p → h ≡ p
some_head h p e = cc

none_both : (b : Bool) (h : ℕ) (o : Option ℕ) → cond b (Some h) o ≡ None → (b ≡ false) × (o ≡ None)
none_both true h o e = cc
none_both false h o e = (refl, e)

module _ {G : Type 0} where
  son_cases : (r : Rule G) (rs : List (Rule G)) (s t : ℕ) → son (r ∷ rs) s t ≡ true → (b : Bool) → eqb r.head s ≡ b → ((r.head ≡ s) × (holds (present r.bodies) t ≡ true)) ⊎ (son rs s t ≡ true)
  son_cases r rs s t e true q =
      ⊎_elim (λ f. inl (eqb-true r.head s q, f)) (λ f. inr f)
      (or_cases (holds (present r.bodies) t) (son rs s t) (sym (cond-true (eqb r.head s) (holds (present r.bodies) t || son rs s t) (son rs s t) q) ∙ e))
  son_cases r rs s t e false q = inr (sym (cond-false (eqb r.head s) (holds (present r.bodies) t || son rs s t) (son rs s t) q) ∙ e)

  head_low : (n : ℕ) (r : Rule G) → malformed_place n r ≡ false → 1 ≤ r.head → r.head ≤ n
  head_low n r e pos =
      let no_zero : not (eqb r.head 0) ≡ true = not_from_false (eqb r.head 0) (ne_eqb r.head 0 (λ q. omega arith)) in
      let rest : (ltb n r.head || (body_above n r.bodies || gap r.bodies)) ≡ false =
      ⊎_elim (λ f. absurd (both_ways (not (eqb r.head 0)) f no_zero)) (λ f. f)
      (and_cases (not (eqb r.head 0)) (ltb n r.head || (body_above n r.bodies || gap r.bodies)) e) in
      ltb-false n r.head (or_parts (ltb n r.head) (body_above n r.bodies || gap r.bodies) rest).0

  pub record Spread (fl : List Bool) (rs : List (Rule G)) (n p : ℕ) : Type 0 where
    pub on : On n p
    pub new : flagged fl p ≡ false
    pub from : ℕ
    pub its_son : son rs p from ≡ true
    pub was : flagged fl from ≡ true

  spread_rule : (fl : List Bool) (n : ℕ) (r : Rule G) (rs : List (Rule G)) → malformed_place n r ≡ false → spreads fl r ≡ true → Spread fl (r ∷ rs) n r.head
  spread_rule fl n r rs sound e =
      let a = and_parts (not (eqb r.head 0)) (not (flagged fl r.head) && some_flagged fl (present r.bodies)) e in
      let b = and_parts (not (flagged fl r.head)) (some_flagged fl (present r.bodies)) a.1 in
      let ne = eqb-false r.head 0 (not-true (eqb r.head 0) a.0) in
      let pos : 1 ≤ r.head = omega arith in
      let t = touched fl (present r.bodies) b.1 in
      record {
        on = (pos, head_low n r sound pos);
        new = not-true (flagged fl r.head) b.0;
        from = t.0;
        its_son = cond-true (eqb r.head r.head) _ _ (eq-eqb r.head r.head refl) ∙ or_left (holds (present r.bodies) t.0) (son rs r.head t.0) t.1;
        was = t.2;
      }

  spread_later : (fl : List Bool) (n p : ℕ) (r : Rule G) (rs : List (Rule G)) → Spread fl rs n p → Spread fl (r ∷ rs) n p
  spread_later fl n p r rs d = record {
    on = d.on;
    new = d.new;
    from = d.from;
    its_son = son_later (eqb r.head p) (holds (present r.bodies) d.from) (son rs p d.from) d.its_son;
    was = d.was;
  }

  spread_by : (fl : List Bool) (n p : ℕ) (r : Rule G) (rs : List (Rule G)) → malformed_place n r ≡ false → (spreading fl rs ≡ Some p → Spread fl rs n p) → (b : Bool) → spreads fl r ≡ b → cond b (Some r.head) (spreading fl rs) ≡ Some p → Spread fl (r ∷ rs) n p
  spread_by fl n p r rs sound rest true q e = subst (λ k. Spread fl (r ∷ rs) n k) (some_head r.head p e) (spread_rule fl n r rs sound q)
  spread_by fl n p r rs sound rest false q e = spread_later fl n p r rs (rest e)

  pub spread_some : (fl : List Bool) (n p : ℕ) (rs : List (Rule G)) → malformed n rs ≡ false → spreading fl rs ≡ Some p → Spread fl rs n p
  spread_some fl n p [] a e = cc
  spread_some fl n p (r ∷ rs) a e =
      let parts = or_parts (malformed_place n r) (malformed n rs) a in
      spread_by fl n p r rs parts.0 (spread_some fl n p rs parts.1) (spreads fl r) refl e

  quiet_rule : (fl : List Bool) (r : Rule G) (t : ℕ) → 1 ≤ r.head → spreads fl r ≡ false → holds (present r.bodies) t ≡ true → flagged fl t ≡ true → flagged fl r.head ≡ true
  quiet_rule fl r t pos e h f =
      let no_zero : not (eqb r.head 0) ≡ true = not_from_false (eqb r.head 0) (ne_eqb r.head 0 (λ q. omega arith)) in
      let met : some_flagged fl (present r.bodies) ≡ true = touching fl (present r.bodies) t h f in
      ⊎_elim
      (λ q. absurd (both_ways (not (eqb r.head 0)) q no_zero))
      (λ q. ⊎_elim (λ v. not-false (flagged fl r.head) v) (λ v. absurd (both_ways (some_flagged fl (present r.bodies)) v met)) (and_cases (not (flagged fl r.head)) (some_flagged fl (present r.bodies)) q))
      (and_cases (not (eqb r.head 0)) (not (flagged fl r.head) && some_flagged fl (present r.bodies)) e)

  pub spread_none : (fl : List Bool) (rs : List (Rule G)) → spreading fl rs ≡ None → (s t : ℕ) → 1 ≤ s → son rs s t ≡ true → flagged fl t ≡ true → flagged fl s ≡ true
  spread_none fl [] e s t pos h f = cc
  spread_none fl (r ∷ rs) e s t pos h f =
      let both = none_both (spreads fl r) r.head (spreading fl rs) e in
      ⊎_elim
      (λ q. let same = q.0 in ap (flagged fl) (sym same) ∙ quiet_rule fl r t (omega arith) both.0 q.1 f)
      (λ q. spread_none fl rs both.1 s t pos q f)
      (son_cases r rs s t h (eqb r.head s) refl)

  pub all_lead : (fl : List Bool) (n : ℕ) (rs : List (Rule G)) → malformed n rs ≡ false → None ≡ spreading fl rs → {s h : ℕ} → On n s → Leads rs s h → flagged fl h ≡ true → flagged fl s ≡ true
  all_lead fl n rs sound e on here f = f
  all_lead fl n rs sound e {s} on (by_son {t = t} q rest) f = spread_none fl rs (sym e) s t on.0 q (all_lead fl n rs sound e (son_on n rs s t sound on.0 q) rest f)

-- what is well formed among n statements is so among more
above_more : (n k : ℕ) → n ≤ k → (bs : List ℕ) → body_above n bs ≡ false → body_above k bs ≡ false
above_more n k h [] e = refl
above_more n k h (b ∷ bs) e =
    let parts = or_parts (ltb n b) (body_above n bs) e in
    let low : b ≤ n = ltb-false n b parts.0 in
    or_from (ltb k b) (body_above k bs) (le-ltb k b (omega arith)) (above_more n k h bs parts.1)

module _ {G : Type 0} (n k : ℕ) (h : n ≤ k) where
  formed_one : (r : Rule G) → malformed_place n r ≡ false → malformed_place k r ≡ false
  formed_one r e =
      ⊎_elim
      (λ f. and_left (not (eqb r.head 0)) (ltb k r.head || (body_above k r.bodies || gap r.bodies)) f)
      (λ f.
      let one = or_parts (ltb n r.head) (body_above n r.bodies || gap r.bodies) f in
      let two = or_parts (body_above n r.bodies) (gap r.bodies) one.1 in
      let low : r.head ≤ n = ltb-false n r.head one.0 in
      and_right (not (eqb r.head 0)) (ltb k r.head || (body_above k r.bodies || gap r.bodies))
      (or_from (ltb k r.head) (body_above k r.bodies || gap r.bodies) (le-ltb k r.head (omega arith)) (or_from (body_above k r.bodies) (gap r.bodies) (above_more n k h r.bodies two.0) two.1)))
      (and_cases (not (eqb r.head 0)) (ltb n r.head || (body_above n r.bodies || gap r.bodies)) e)

  pub formed_more : (rs : List (Rule G)) → malformed n rs ≡ false → malformed k rs ≡ false
  formed_more [] e = refl
  formed_more (r ∷ rs) e =
      let parts = or_parts (malformed_place n r) (malformed n rs) e in
      or_from (malformed_place k r) (malformed k rs) (formed_one r parts.0) (formed_more rs parts.1)

module _ {G : Type 0} where
  -- the head of a rule that is there is a statement
  pub head_on : (n i : ℕ) (d : Rule G) (rs : List (Rule G)) → malformed n rs ≡ false → i < length rs → ((get_or rs i d).head ≡ 0 → ⊥) → On n (get_or rs i d).head
  head_on n i d [] e h ne = absurd (omega arith)
  head_on n zero d (r ∷ rs) e h ne =
      let parts = or_parts (malformed_place n r) (malformed n rs) e in
      let pos : 1 ≤ r.head = omega arith in
      (pos, head_low n r parts.0 pos)
  head_on n (suc i) d (r ∷ rs) e h ne =
      head_on n i d rs (or_parts (malformed_place n r) (malformed n rs) e).1 (omega arith) ne

-- one flag more
pub fewer : (fl : List Bool) (i : ℕ) → i < length fl → get_or fl i false ≡ false → count_by not (set fl i true) < count_by not fl
fewer fl i h e =
    let law : count_by not (set fl i true) + cond {A = ℕ} (not (get_or fl i false)) 1 0 ≡ count_by not fl + 0 = sum_by-set (λ b. cond (not b) 1 0) fl i true false h in
    let one : cond {A = ℕ} (not (get_or fl i false)) 1 0 ≡ 1 = ap (λ b. cond (not b) 1 0) e in
    omega arith

pub flag_more : (fl : List Bool) (p s : ℕ) → On (length fl) p → 1 ≤ s → flagged (set fl (p - 1) true) s ≡ true → (s ≡ p) ⊎ (flagged fl s ≡ true)
flag_more fl p s on pos e =
    ⊎_elim
    (λ q. inl q)
    (λ q. let apart : s - 1 ≢ p - 1 = λ r. q (omega arith) in inr (sym (get_or-set_other fl (p - 1) (s - 1) true false apart) ∙ e))
    (cases_eq s p)

pub flag_kept : (fl : List Bool) (p s : ℕ) → On (length fl) p → 1 ≤ s → flagged fl s ≡ true → flagged (set fl (p - 1) true) s ≡ true
flag_kept fl p s on pos e =
    ⊎_elim
    (λ q. let at : s - 1 ≡ p - 1 = omega arith in ap (λ k. get_or (set fl (p - 1) true) k false) at ∙ get_or-set_same fl (p - 1) true false (omega arith))
    (λ q. let apart : s - 1 ≢ p - 1 = λ r. q (omega arith) in get_or-set_other fl (p - 1) (s - 1) true false apart ∙ e)
    (cases_eq s p)

-- one flag alone
none_flagged : (n s : ℕ) → flagged (replicate n false) s ≡ false
none_flagged n s =
    ⊎_elim
    (λ h. get_or-replicate n (s - 1) false false h)
    (λ h. get_or_past (replicate n false) (s - 1) false (rw length-replicate h))
    (cases_lt (s - 1) n)

pub flag_alone : (n h s : ℕ) → On n h → 1 ≤ s → flagged (set (replicate n false) (h - 1) true) s ≡ true → s ≡ h
flag_alone n h s on pos e =
    let long : length (replicate n false) ≡ n = length-replicate n false in
    ⊎_elim (λ q. q) (λ q. absurd (both_ways (flagged (replicate n false) s) (none_flagged n s) q)) (flag_more (replicate n false) h s (on.0, omega arith) pos e)

-- no flag is left to set but these
pub flags_left : (n h : ℕ) → On n h → 1 + count_by not (set (replicate n false) (h - 1) true) ≤ n
flags_left n h on =
    let fl = replicate n false in
    let long : length fl ≡ n = length-replicate n false in
    let less = fewer fl (h - 1) (omega arith) (none_flagged n h) in
    let most = count_by-le-length not fl in
    omega arith
