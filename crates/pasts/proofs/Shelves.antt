-- After every past the rules in the table are the shelved ones.
use Rattle.std.proofs.Common.{◌≡◌, ℕ, ◌-◌, false, ◌⊎◌, List, [], ◌∷◌, length, get_or, set, replicate, sym, refl, ap, ◌∙◌, subst, inl, inr, ⊎_elim, arith}
use Rattle.std.proofs.lemmas.List.{get_or-set_same, get_or-set_other, get_or-replicate}
use Rattle.std.proofs.lemmas.Bool.{cases_eq, true≢false}
use Rattle.scales.specs.Meaning.{Meaning}
use Rattle.scales.specs.Laws.{Laws}
use Rattle.model.specs.Formed.{malformed}
use Rattle.model.specs.Least.{On}
use Rattle.model.specs.declared.rule.Rule.{Rule}
use Rattle.pasts.specs.Tables.{Tables, blank, count, checks}
use Rattle.pasts.specs.Calls.{Outcome, refused, done, adds, withdraws, wants, steps, finishes, reads}
use Rattle.pasts.specs.declared.call.Entry.{Entry}
use Rattle.pasts.specs.Pasts.{Past, fresh, later, Shelved, brought, kept, accepted}
use Rattle.pasts.specs.Promises.{KeepsItsShelf}
use Rattle.pasts.specs.declared.call.Call.{Call}
use Rattle.pasts.specs.declared.call.Call.TheVariants.{Add, Withdraw, Want, Step, Finish, Read}
use Rattle.pasts.specs.declared.call.Answer.{Answer}
use Rattle.pasts.specs.declared.call.Answer.TheVariants.{Added, Withdrawn}
use Rattle.pasts.proofs.Checked.{none_met, inside_on, add_checked}
use Rattle.pasts.proofs.Usables.{force_length}
use Rattle.pasts.proofs.Sounds.{good}
use Rattle.pasts.proofs.Steps.{run_rules}

module _ {G : Type 0} where
  abbrev AddedHere : ℕ → Rule G → Entry G → Type 0
  AddedHere k r e = (e.call ≡ Add k r) × (e.answer ≡ Added)

  abbrev ShelvedIn : ℕ → Rule G → List (Entry G) → Type 0
  ShelvedIn k r [] = ⊥
  ShelvedIn k r (e ∷ h) = AddedHere k r e ⊎ ((e ≡ record { call = Withdraw k; answer = Withdrawn } → ⊥) × Shelved k r h)

  shelved_in : {k : ℕ} {r : Rule G} {h : List (Entry G)} → Shelved k r h → ShelvedIn k r h
  shelved_in brought = inl (refl, refl)
  shelved_in (kept ne s) = inr (ne, s)

  -- 1 of an add, 2 and the mark of a withdraw, 0 of another call
  abbrev kind : Call G → ℕ
  kind (Add k r) = 1
  kind (Withdraw k) = 2
  kind (Want s) = 0
  kind Step = 0
  kind Finish = 0
  kind (Read s) = 0

  abbrev place_of : Call G → ℕ
  place_of (Add k r) = k
  place_of (Withdraw k) = k
  place_of (Want s) = 0
  place_of Step = 0
  place_of Finish = 0
  place_of (Read s) = 0

module _ {G : Type 0} (m : Meaning G) (n p : ℕ) where
  abbrev Held : List (Entry G) → List (Rule G) → Type 0
  Held h rules =
      ((k : ℕ) (r : Rule G) → Shelved k r h → On p k × On n r.head × (get_or rules (k - 1) (blank m) ≡ r)) × ((k : ℕ) → On p k → ((get_or rules (k - 1) (blank m)).head ≡ 0 → ⊥) → Shelved k (get_or rules (k - 1) (blank m)) h) × ((k : ℕ) → On p k → (get_or rules (k - 1) (blank m)).head ≡ 0 → get_or rules (k - 1) (blank m) ≡ blank m)

  -- a call that leaves the rules
  passed : (h : List (Entry G)) (e : Entry G) (rules : List (Rule G)) → ((k : ℕ) (r : Rule G) → AddedHere k r e → ⊥) → ((k : ℕ) → e ≡ record { call = Withdraw k; answer = Withdrawn } → ⊥) → Held h rules → Held (e ∷ h) rules
  passed h e rules no_add no_withdraw was =
      (λ k r s. ⊎_elim (λ a. absurd (no_add k r a)) (λ b. was.0 k r b.1) (shelved_in s), λ k on full. kept (no_withdraw k) (was.1 k on full), was.2)

  added : (h : List (Entry G)) (rules : List (Rule G)) (j : ℕ) (q : Rule G) → length rules ≡ p → On p j → On n q.head → (get_or rules (j - 1) (blank m)).head ≡ 0 → Held h rules → Held (record { call = Add j q; answer = Added } ∷ h) (set rules (j - 1) q)
  added h rules j q long on head free was =
      let here : get_or (set rules (j - 1) q) (j - 1) (blank m) ≡ q = get_or-set_same rules (j - 1) q (blank m) (omega arith) in
      let there : (k : ℕ) → On p k → (k ≡ j → ⊥) → get_or (set rules (j - 1) q) (k - 1) (blank m) ≡ get_or rules (k - 1) (blank m) = λ k i ne. get_or-set_other rules (j - 1) (k - 1) q (blank m) (λ e. ne (omega (arith, e))) in (
        λ k r s.
            ⊎_elim
            (λ a. let same : j ≡ k = ap place_of a.0 in let rule : q ≡ r = cc a.0 in (subst (On p) same on, subst (λ x. On n x.head) rule head, subst (λ x. get_or (set rules (j - 1) q) (x - 1) (blank m) ≡ r) same (here ∙ rule)))
            (λ b. let old = was.0 k r b.1 in let ne : k ≡ j → ⊥ = λ e. absurd (omega (arith, old.1, sym (ap (λ x. x.head) old.2) ∙ ap (λ x. (get_or rules (x - 1) (blank m)).head) e ∙ free)) in (old.0, old.1, there k old.0 ne ∙ old.2))
            (shelved_in s),
        λ k i full.
            ⊎_elim
            (λ e. subst (λ x. Shelved x (get_or (set rules (j - 1) q) (x - 1) (blank m)) (record { call = Add j q; answer = Added } ∷ h)) (sym e) (subst (λ x. Shelved j x (record { call = Add j q; answer = Added } ∷ h)) (sym here) brought))
            (λ ne. let at = there k i ne in subst (λ x. Shelved k x (record { call = Add j q; answer = Added } ∷ h)) (sym at) (kept (λ e. absurd (omega (arith, ap (λ x. kind x.call) e))) (was.1 k i (λ z. full (ap (λ x. x.head) at ∙ z)))))
            (cases_eq k j),
        λ k i z.
            ⊎_elim
            (λ e. absurd (omega (arith, head, sym (ap (λ x. x.head) here) ∙ ap (λ x. (get_or (set rules (j - 1) q) (x - 1) (blank m)).head) (sym e) ∙ z)))
            (λ ne. let at = there k i ne in at ∙ was.2 k i (sym (ap (λ x. x.head) at) ∙ z))
            (cases_eq k j),
      )

  removed : (h : List (Entry G)) (rules : List (Rule G)) (j : ℕ) → length rules ≡ p → On p j → Held h rules → Held (record { call = Withdraw j; answer = Withdrawn } ∷ h) (set rules (j - 1) (blank m))
  removed h rules j long on was =
      let here : get_or (set rules (j - 1) (blank m)) (j - 1) (blank m) ≡ blank m = get_or-set_same rules (j - 1) (blank m) (blank m) (omega arith) in
      let there : (k : ℕ) → On p k → (k ≡ j → ⊥) → get_or (set rules (j - 1) (blank m)) (k - 1) (blank m) ≡ get_or rules (k - 1) (blank m) = λ k i ne. get_or-set_other rules (j - 1) (k - 1) (blank m) (blank m) (λ e. ne (omega (arith, e))) in (
        λ k r s.
            ⊎_elim
            (λ a. absurd (omega (arith, ap kind a.0)))
            (λ b. let old = was.0 k r b.1 in (old.0, old.1, there k old.0 (λ e. b.0 (ap (λ x. record { call = Withdraw x; answer = Withdrawn }) (sym e))) ∙ old.2))
            (shelved_in s),
        λ k i full.
            ⊎_elim
            (λ e. absurd (full (ap (λ x. (get_or (set rules (j - 1) (blank m)) (x - 1) (blank m)).head) e ∙ ap (λ x. x.head) here)))
            (λ ne. let at = there k i ne in subst (λ x. Shelved k x (record { call = Withdraw j; answer = Withdrawn } ∷ h)) (sym at) (kept (λ e. ne (sym (ap (λ x. place_of x.call) e))) (was.1 k i (λ z. full (ap (λ x. x.head) at ∙ z)))))
            (cases_eq k j),
        λ k i z.
            ⊎_elim
            (λ e. ap (λ x. get_or (set rules (j - 1) (blank m)) (x - 1) (blank m)) e ∙ here)
            (λ ne. let at = there k i ne in at ∙ was.2 k i (sym (ap (λ x. x.head) at) ∙ z))
            (cases_eq k j),
      )

  started : Held [] (replicate p (blank m))
  started =
      let at : (k : ℕ) → On p k → get_or (replicate p (blank m)) (k - 1) (blank m) ≡ blank m = λ k i. get_or-replicate p (k - 1) (blank m) (blank m) (omega arith) in
      (λ k r s. absurd (shelved_in s), λ k i full. absurd (full (ap (λ x. x.head) (at k i))), λ k i z. at k i)

module _ {G : Type 0} {m : Meaning G} (laws : Laws m) (degree : ℕ → G) where
  -- one call
  moved : (n p : ℕ) (h : List (Entry G)) {c : Call G} {a : Answer G} {t u : Tables G} → Outcome m degree c t a u → count t ≡ n → length t.rules ≡ p → Held m n p h t.rules → Held m n p (record { call = c; answer = a } ∷ h) u.rules
  moved n p h (refused e) counts long was = passed m n p h _ _ (λ k r b. absurd (true≢false (sym (ap accepted b.1)))) (λ k b. absurd (true≢false (sym (ap (λ x. accepted x.answer) b)))) was
  moved n p h (done ok (adds {k = k} {r = r} {t = t} w)) counts long was =
      let checked = add_checked m k r t ok in
      let on : On p k = subst (λ x. On x k) long (inside_on (length t.rules) k (none_met (checks m (Add k r) t) ok).1.1.0) in
      subst (Held m n p _) (sym w.rules) (added m n p h t.rules k r long on (subst (λ x. On x r.head) counts checked.on) checked.free was)
  moved n p h (done ok (withdraws {k = k} {t = t} w)) counts long was =
      let on : On p k = subst (λ x. On x k) long (inside_on (length t.rules) k (none_met (checks m (Withdraw k) t) ok).1.1.0) in
      subst (Held m n p _) (sym w.rules) (removed m n p h t.rules k long on was)
  moved n p h (done ok (wants w)) counts long was = subst (Held m n p _) (sym w.rules) (passed m n p h _ _ (λ k r b. absurd (omega (arith, ap kind b.0))) (λ k b. absurd (omega (arith, ap (λ x. kind x.call) b))) was)
  moved n p h (done ok (steps st)) counts long was = subst (Held m n p _) (sym st.rules) (passed m n p h _ _ (λ k r b. absurd (omega (arith, ap kind b.0))) (λ k b. absurd (omega (arith, ap (λ x. kind x.call) b))) was)
  moved n p h (done ok (finishes f)) counts long was = subst (Held m n p _) (sym (run_rules f.steps)) (passed m n p h _ _ (λ k r b. absurd (omega (arith, ap kind b.0))) (λ k b. absurd (omega (arith, ap (λ x. kind x.call) b))) was)
  moved n p h (done ok reads) counts long was = passed m n p h _ _ (λ k r b. absurd (omega (arith, ap kind b.0))) (λ k b. absurd (omega (arith, ap (λ x. kind x.call) b))) was

  held : {n p : ℕ} {h : List (Entry G)} {t : Tables G} → Past m degree n p h t → Held m n p h t.rules
  held {n} {p} fresh = started m n p
  held {n} {p} (later {h = h} past out) =
      let all = good laws degree past in
      moved n p h out all.same_count (ap length all.same_rules ∙ force_length m p h) (held past)

  pub keeps_its_shelf : KeepsItsShelf m degree
  keeps_its_shelf n p h t past =
      let all = good laws degree past in
      let was = held past in
      record {
        places = ap length all.same_rules ∙ force_length m p h;
        holds = was.0;
        only = was.1;
        else_blank = was.2;
        well_formed = subst (λ x. malformed x t.rules ≡ false) all.same_count all.held.well_formed;
      }
