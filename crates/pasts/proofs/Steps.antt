-- What a step and a run of steps leave and raise.
use Rattle.std.proofs.Common.{◌≡◌, ℕ, ◌<◌, ◌≤◌, Bool, true, false, cond, ◌&&◌, eqb, sym, refl, ap, ◌∙◌, arith}
use Rattle.scales.specs.Meaning.{Meaning}
use Rattle.scales.specs.Laws.{Laws}
use Rattle.model.specs.Rules.{son}
use Rattle.model.specs.Least.{On, worth}
use Rattle.pasts.specs.Marks.{open_mark}
use Rattle.pasts.specs.Tables.{Tables, grade, mark, count}
use Rattle.pasts.specs.Calls.{Steps, Runs, none, more}
use Rattle.model.proofs.Cases.{by_test, at_number}
use Rattle.pasts.proofs.Hearing.{open_after}
use Rattle.pasts.proofs.Heard.{heard, as_heard}

module _ {G : Type 0} {m : Meaning G} {degree : ℕ → G} where
  pub step_heard : {s : ℕ} {rose : Bool} {t u : Tables G} → Steps m degree s rose t u → (r : ℕ) → On (count t) r → mark m u r ≡ heard m t s rose r
  step_heard {s} {rose} {t} {u} st r on = as_heard m s rose t u st.next st.marks r on

  pub step_open : {s : ℕ} {rose : Bool} {t u : Tables G} → Steps m degree s rose t u → (r : ℕ) → On (count t) r → open_mark (mark m t r) ≡ true → open_mark (mark m u r) ≡ true
  step_open {s} {rose} {t} {u} st r on h = rw (step_heard st r on) (open_after (mark m t r) (eqb r s) (son t.rules s r) (rose && son t.rules r s) h)

  pub run_rules : {k : ℕ} {t u : Tables G} → Runs m degree k t u → u.rules ≡ t.rules
  run_rules none = refl
  run_rules (more st rest) = run_rules rest ∙ st.rules

  pub run_count : {k : ℕ} {t u : Tables G} → Runs m degree k t u → count u ≡ count t
  run_count none = refl
  run_count (more st rest) = run_count rest ∙ st.same_count

  pub run_open : {k : ℕ} {t u : Tables G} → Runs m degree k t u → (r : ℕ) → On (count t) r → open_mark (mark m t r) ≡ true → open_mark (mark m u r) ≡ true
  run_open none r on h = h
  run_open (more st rest) r on h = run_open rest r (rw st.same_count on) (step_open st r on h)

module _ {G : Type 0} {m : Meaning G} (laws : Laws m) {degree : ℕ → G} where
  pub rose_level : {s : ℕ} {rose : Bool} {t u : Tables G} → Steps m degree s rose t u → rose ≡ true → m.level (grade m t s) < m.level (grade m u s)
  rose_level {s} {rose} {t} {u} st e =
      let new = worth m degree t.rules (grade m t) s in
      let at : grade m u s ≡ new = st.raised ∙ ap (λ b. cond b new (grade m t s)) e in
      rw at (laws.level_rises (grade m t s) new (sym st.rises ∙ e))

  pub step_level : {s : ℕ} {rose : Bool} {t u : Tables G} → Steps m degree s rose t u → (r : ℕ) → On (count t) r → m.level (grade m t r) ≤ m.level (grade m u r)
  step_level {s} {rose} {t} {u} st r on =
      let new = worth m degree t.rules (grade m t) s in
      let P : ℕ → Type 0 = λ x. m.level (grade m t x) ≤ m.level (grade m u x) in
      let fell : rose ≡ false → P s = λ e. omega (arith, ap m.level (st.raised ∙ ap (λ b. cond b new (grade m t s)) e)) in
      let mine : P s = by_test rose (λ e. omega (arith, rose_level st e)) fell in
      at_number s P r mine (λ ne. omega (arith, ap m.level (st.others r on ne)))
