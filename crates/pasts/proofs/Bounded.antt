-- A finish takes no more steps than the open statements and the heights of their sons allow.
use Rattle.std.proofs.Common.{◌≡◌, ℕ, zero, suc, ◌+◌, ◌-◌, ◌*◌, ◌<◌, ◌≤◌, Bool, true, false, cond, ◌&&◌, eqb, List, sym, refl, ap, ◌∙◌, subst₂, add-mul, one-mul, zero-mul, arith}
use Rattle.std.proofs.lemmas.Bool.{ne_eqb, eq-eqb, and_parts}
use Rattle.scales.specs.Meaning.{Meaning}
use Rattle.scales.specs.Laws.{Laws}
use Rattle.model.specs.Rules.{son}
use Rattle.model.specs.Least.{On}
use Rattle.pasts.specs.Marks.{open_mark}
use Rattle.pasts.specs.Tables.{Tables, grade, mark, count}
use Rattle.pasts.specs.Calls.{Steps, Runs, none, more, finishes, done}
use Rattle.pasts.specs.Moves.{sons_among, budget, FinishIsBounded}
use Rattle.model.specs.declared.rule.Rule.{Rule}
use Rattle.pasts.specs.declared.statement.Mark.TheVariants.{Active}
use Rattle.model.proofs.Cases.{at_test, by_test, at_number}
use Rattle.model.proofs.Totals.{total, total_le, total_lt}
use Rattle.pasts.proofs.Hearing.{heard_by, pending, pending_le, pending_kept, pending_taken, is_active, active_open}
use Rattle.pasts.proofs.Steps.{step_heard, step_open, run_rules, run_count, run_open, rose_level, step_level}

module _ {G : Type 0} (m : Meaning G) where
  -- how far the grade of x can still rise, if x is a son of r
  abbrev pub room : List (Rule G) → Tables G → ℕ → ℕ → ℕ
  room rules t r x = cond (son rules r x) (m.height - m.level (grade m t x)) 0

  -- what r can still cost: to be taken once, and again for each rise of a son
  abbrev pub cost : List (Rule G) → ℕ → Tables G → ℕ → ℕ
  cost rules n t r = pending (mark m t r) + total (room rules t r) n

  abbrev pub potential : List (Rule G) → ℕ → (ℕ → Bool) → Tables G → ℕ
  potential rules n chosen t = total (λ r. cond (chosen r) (cost rules n t r) 0) n

  pub room_bound : (rules : List (Rule G)) (t : Tables G) (r n : ℕ) → total (room rules t r) n ≤ sons_among rules r n * m.height
  room_bound rules t r zero = omega (arith, zero-mul m.height)
  room_bound rules t r (suc n) =
      let left = m.height - m.level (grade m t (suc n)) in
      let sons = sons_among rules r n in
      let before = room_bound rules t r n in
      at_test (son rules r (suc n)) (λ c. cond c left 0 + total (room rules t r) n ≤ cond c (1 + sons) sons * m.height) (λ e. omega (arith, add-mul 1 sons m.height, one-mul m.height, before)) (λ e. omega (arith, before))

  potential_bound : (u t : Tables G) (n : ℕ) → total (λ r. cond (open_mark (mark m u r)) (cost u.rules (count u) t r) 0) n ≤ budget m u n
  potential_bound u t zero = omega arith
  potential_bound u t (suc n) =
      let here = cost u.rules (count u) t (suc n) in
      let most = sons_among u.rules (suc n) (count u) * m.height in
      let before = potential_bound u t n in
      at_test (open_mark (mark m u (suc n))) (λ c. cond c here 0 + total (λ r. cond (open_mark (mark m u r)) (cost u.rules (count u) t r) 0) n ≤ cond c (1 + most + budget m u n) (budget m u n)) (λ e. omega (arith, room_bound u.rules t (suc n) (count u), pending_le (mark m t (suc n)), before)) (λ e. omega (arith, before))

module _ {G : Type 0} {m : Meaning G} {degree : ℕ → G} {s : ℕ} {rose : Bool} {t u : Tables G} (st : Steps m degree s rose t u) where
  heard_is : (r : ℕ) (mine told? : Bool) → On (count t) r → eqb r s ≡ mine → (rose && son t.rules r s) ≡ told? → pending (mark m u r) ≡ pending (heard_by (mark m t r) mine (son t.rules s r) told?)
  heard_is r mine told? on e q =
      ap pending (step_heard st r on) ∙ ap (λ c. pending (heard_by (mark m t r) c (son t.rules s r) (rose && son t.rules r s))) e ∙ ap (λ c. pending (heard_by (mark m t r) mine (son t.rules s r) c)) q

  module _ (laws : Laws m) where
    room_falls : (r x : ℕ) → On (count t) x → room m t.rules u r x ≤ room m t.rules t r x
    room_falls r x on =
        at_test (son t.rules r x) (λ c. cond c (m.height - m.level (grade m u x)) 0 ≤ cond c (m.height - m.level (grade m t x)) 0) (λ e. omega (arith, step_level laws st x on)) (λ e. omega arith)

    -- where s rose, each parent has less room
    room_less : (r : ℕ) → rose ≡ true → son t.rules r s ≡ true → room m t.rules u r s < room m t.rules t r s
    room_less r e q = rw q (omega (arith, rose_level laws st e, laws.level_bound (grade m u s)))

    rooms_fall : (r : ℕ) → total (room m t.rules u r) (count t) ≤ total (room m t.rules t r) (count t)
    rooms_fall r = total_le _ _ (count t) (room_falls r)

    rooms_less : (r : ℕ) → (rose && son t.rules r s) ≡ true → total (room m t.rules u r) (count t) < total (room m t.rules t r) (count t)
    rooms_less r q =
        let both = and_parts rose (son t.rules r s) q in
        total_lt _ _ (count t) s st.next.on (room_less r both.0 both.1) (room_falls r)

    cost_less : cost m t.rules (count t) u s < cost m t.rules (count t) t s
    cost_less =
        let was : mark m t s ≡ Active = is_active _ st.next.is_active in
        let one = ap pending was in
        let now : (rose && son t.rules s s) ≡ false → pending (mark m u s) ≡ 0 = λ q. heard_is s true false st.next.on (eq-eqb s s refl) q ∙ ap (λ x. pending (heard_by x true (son t.rules s s) false)) was ∙ pending_taken (son t.rules s s) in
        by_test (rose && son t.rules s s) (λ q. omega (arith, rooms_less s q, pending_le (mark m u s))) (λ q. omega (arith, rooms_fall s, now q))

    cost_falls : (r : ℕ) → On (count t) r → cost m t.rules (count t) u r ≤ cost m t.rules (count t) t r
    cost_falls r on =
        let P : ℕ → Type 0 = λ x. cost m t.rules (count t) u x ≤ cost m t.rules (count t) t x in
        let now : (r ≡ s → ⊥) → (rose && son t.rules r s) ≡ false → pending (mark m u r) ≡ pending (mark m t r) = λ ne q. heard_is r false false on (ne_eqb r s ne) q ∙ pending_kept (mark m t r) (son t.rules s r) in
        let other : (r ≡ s → ⊥) → P r = λ ne. by_test (rose && son t.rules r s) (λ q. omega (arith, rooms_less r q, pending_le (mark m u r))) (λ q. omega (arith, rooms_fall r, now ne q)) in
        at_number s P r (omega (arith, cost_less)) other

    pub step_falls : (chosen : ℕ → Bool) → chosen s ≡ true → potential m t.rules (count t) chosen u < potential m t.rules (count t) chosen t
    step_falls chosen e =
        total_lt _ _ (count t) s st.next.on (rw e cost_less) (λ r on. at_test (chosen r) (λ c. cond c (cost m t.rules (count t) u r) 0 ≤ cond c (cost m t.rules (count t) t r) 0) (λ _. cost_falls r on) (λ _. omega arith))

module _ {G : Type 0} {m : Meaning G} (laws : Laws m) where
  spent : {degree : ℕ → G} {k : ℕ} {t v : Tables G} → Runs m degree k t v → k ≤ potential m v.rules (count v) (λ r. open_mark (mark m v r)) t
  spent none = omega arith
  spent {v = v} (more {s = s} {t = t} {u = u} st rest) =
      let opened : open_mark (mark m v s) ≡ true = run_open rest s (rw st.same_count st.next.on) (step_open st s st.next.on (active_open _ st.next.is_active)) in
      let same_rules : t.rules ≡ v.rules = sym (run_rules rest ∙ st.rules) in
      let same_count : count t ≡ count v = sym (run_count rest ∙ st.same_count) in
      let P : List (Rule G) → ℕ → Type 0 = λ rules n. potential m rules n (λ r. open_mark (mark m v r)) u < potential m rules n (λ r. open_mark (mark m v r)) t in
      let falls : P v.rules (count v) = subst₂ P same_rules same_count (step_falls st laws (λ r. open_mark (mark m v r)) opened) in
      omega (arith, spent rest)

  pub finish_is_bounded : (degree : ℕ → G) (t : Tables G) → FinishIsBounded m degree t
  finish_is_bounded degree t u k (done ok (finishes f)) = omega (arith, spent f.steps, potential_bound m u t (count u))
