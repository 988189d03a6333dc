-- Flags that spread from a statement to all that lead to it, by those that wait.
use Rattle.std.proofs.Common.{◌≡◌, ℕ, ◌+◌, ◌-◌, ◌<◌, ◌≤◌, Bool, true, false, not, ◌⊎◌, List, [], ◌∷◌, ◌++◌, length, get_or, set, replicate, count_by, sym, refl, ap, ◌∙◌, subst, inl, inr, ⊎_elim, arith, length-set}
use lib.ListN.{length-replicate}
use Rattle.std.proofs.lemmas.List.{get_or-set_same, get_or_append_left, get_or_push, length_push}
use Rattle.std.proofs.lemmas.Bool.{cases_eq, cases_lt}
use Rattle.model.specs.Rules.{son, Leads, here, by_son}
use Rattle.model.specs.Formed.{malformed}
use Rattle.model.specs.Least.{On}
use Rattle.model.specs.declared.rule.Rule.{Rule}
use Rattle.model.proofs.Sons.{son_on}
use Rattle.board.specs.Flags.{flagged, Waits, Closed, Grown}
use Rattle.board.proofs.Spread.{fewer, flag_more, flag_kept, flag_alone, flags_left}

module _ {G : Type 0} where
  -- where all flags have spread, all that lead to a flagged statement are flagged
  pub all_lead : (fl : List Bool) (n : ℕ) (rs : List (Rule G)) → malformed n rs ≡ false → ((t : ℕ) → 1 ≤ t → flagged fl t ≡ true → Closed rs fl t) → {s h : ℕ} → On n s → Leads rs s h → flagged fl h ≡ true → flagged fl s ≡ true
  all_lead fl n rs sound closed on here f = f
  all_lead fl n rs sound closed {s} on (by_son {t = t} q rest) f =
      let at = son_on n rs s t sound on.0 q in
      closed t at.0 (all_lead fl n rs sound closed at rest f) s on.0 q

module _ {G : Type 0} (rs : List (Rule G)) (s : ℕ) (fl : List Bool) (queue : List ℕ) (n : ℕ) where
  pub grown_none : Grown rs s fl queue n fl queue n
  grown_none = record {
    kept = λ t pos f. f;
    new = λ t pos f. inl f;
    named = λ i a b. absurd (omega arith);
    same = λ i h. refl;
    grows = omega arith;
    few = omega arith;
  }

  -- one parent more
  pub grown_more : (more : List Bool) (longer : List ℕ) (p : ℕ) → Grown rs s fl queue n more longer (length longer) → On (length more) p → son rs p s ≡ true → flagged more p ≡ false → Grown rs s fl queue n (set more (p - 1) true) (longer ++ p ∷ []) (length (longer ++ p ∷ []))
  grown_more more longer p g on q e =
      let k = length longer in
      let front : (i : ℕ) → i < k → get_or (longer ++ p ∷ []) i 0 ≡ get_or longer i 0 = λ i l. get_or_append_left longer (p ∷ []) 0 i l in
      let last : get_or (longer ++ p ∷ []) k 0 ≡ p = get_or_push longer p 0 k refl in
      let count : length (longer ++ p ∷ []) ≡ k + 1 = length_push longer p in
      let own : flagged (set more (p - 1) true) p ≡ true = get_or-set_same more (p - 1) true false (omega arith) in
      let long = length-set more (p - 1) true in
      let grows = g.grows in
      let few = g.few in
      record {
        kept = λ t pos f. flag_kept more p t on pos (g.kept t pos f);
        new = λ t pos f. ⊎_elim
            (λ (c : t ≡ p). let F : ℕ → Type 0 = λ j. (son rs j s ≡ true) × Waits (longer ++ p ∷ []) n (length (longer ++ p ∷ [])) j in inr (subst F (sym c) (q, (k, omega arith, omega arith, last))))
            (λ was. ⊎_elim (λ old. inl old) (λ fresh. let w = fresh.1 in inr (fresh.0, (w.0, w.1, omega (arith, w.2), front w.0 w.2 ∙ w.3))) (g.new t pos was))
            (flag_more more p t on pos f);
        named = λ i a b. ⊎_elim
            (λ (l : i < k).
            let F : ℕ → Type 0 = λ j. On (length (set more (p - 1) true)) j × (flagged (set more (p - 1) true) j ≡ true) in
            let was = g.named i a l in
            subst F (sym (front i l)) ((was.0.0, omega (arith, was.0.1)), flag_kept more p (get_or longer i 0) on was.0.0 was.1))
            (λ (l : k ≤ i).
            let F : ℕ → Type 0 = λ j. On (length (set more (p - 1) true)) (get_or (longer ++ p ∷ []) j 0) × (flagged (set more (p - 1) true) (get_or (longer ++ p ∷ []) j 0) ≡ true) in
            let K : ℕ → Type 0 = λ j. On (length (set more (p - 1) true)) j × (flagged (set more (p - 1) true) j ≡ true) in
            let at : k ≡ i = omega arith in
            subst F at (subst K (sym last) ((on.0, omega (arith, on.1)), own)))
            (cases_lt i k);
        same = λ i l. front i (omega arith) ∙ g.same i l;
        grows = omega arith;
        few = let less = fewer more (p - 1) (omega arith) e in omega arith;
      }

-- the flags so far: they are on statements that lead to h, and have spread from all but those that wait
pub record Spreading {G : Type 0} (rs : List (Rule G)) (h : ℕ) (fl : List Bool) (waiting : List ℕ) : Type 0 where
  pub long : length fl ≡ 1024
  pub only : (t : ℕ) → 1 ≤ t → flagged fl t ≡ true → Leads rs t h
  pub own : flagged fl h ≡ true
  pub few : length waiting + count_by not fl ≤ 1024
  pub named : (i : ℕ) → i < length waiting → On 1024 (get_or waiting i 0) × (flagged fl (get_or waiting i 0) ≡ true)
  pub open_yet : (t : ℕ) → 1 ≤ t → flagged fl t ≡ true → Waits waiting 0 (length waiting) t ⊎ Closed rs fl t

module _ {G : Type 0} (rs : List (Rule G)) (h : ℕ) where
  pub spreading_first : On 1024 h → Spreading rs h (set (replicate 1024 false) (h - 1) true) (h ∷ [])
  spreading_first on =
      let fl = replicate 1024 false in
      let wide : length fl ≡ 1024 = length-replicate 1024 false in
      let long = length-set fl (h - 1) true in
      let own : flagged (set fl (h - 1) true) h ≡ true = get_or-set_same fl (h - 1) true false (omega arith) in
      record {
        long = omega arith;
        only = λ t pos f. let F : ℕ → Type 0 = λ j. Leads rs j h in subst F (sym (flag_alone 1024 h t on pos f)) here;
        own = own;
        few = flags_left 1024 h on;
        named = λ i l.
            let F : ℕ → Type 0 = λ j. On 1024 (get_or (h ∷ []) j 0) × (flagged (set fl (h - 1) true) (get_or (h ∷ []) j 0) ≡ true) in
            let at : 0 ≡ i = omega arith in
            subst F at (on, own);
        open_yet = λ t pos f. inl (0, omega arith, omega arith, sym (flag_alone 1024 h t on pos f));
      }

  -- the last of those that waited is on the board
  pub spreading_next : (fl : List Bool) (waiting left : List ℕ) (s : ℕ) → waiting ≡ left ++ s ∷ [] → Spreading rs h fl waiting → On 1024 s × (flagged fl s ≡ true) × (length left + 1 + count_by not fl ≤ 1024)
  spreading_next fl waiting left s split so =
      let count : length waiting ≡ length left + 1 = ap length split ∙ length_push left s in
      let few = so.few in
      let K : ℕ → Type 0 = λ j. On 1024 j × (flagged fl j ≡ true) in
      let at = subst K (ap (λ l. get_or l (length left) 0) split ∙ get_or_push left s 0 (length left) refl) (so.named (length left) (omega arith)) in
      (at.0, at.1, omega arith)

  -- its parents were flagged
  pub spreading_more : 1 ≤ h → (fl more : List Bool) (waiting left longer : List ℕ) (s : ℕ) → waiting ≡ left ++ s ∷ [] → length more ≡ 1024 → Spreading rs h fl waiting → Grown rs s fl left (length left) more longer (length longer) → Closed rs more s → Spreading rs h more longer
  spreading_more pos fl more waiting left longer s split long so g closed =
      let n = length left in
      let count : length waiting ≡ n + 1 = ap length split ∙ length_push left s in
      let front : (i : ℕ) → i < n → get_or waiting i 0 ≡ get_or left i 0 = λ i l. ap (λ w. get_or w i 0) split ∙ get_or_append_left left (s ∷ []) 0 i l in
      let last : get_or waiting n 0 ≡ s = ap (λ w. get_or w n 0) split ∙ get_or_push left s 0 n refl in
      let at = spreading_next fl waiting left s split so in
      let grows = g.grows in
      let few = so.few in
      let spent = g.few in
      record {
        long = long;
        only = λ t low f. ⊎_elim (λ old. so.only t low old) (λ fresh. by_son fresh.0 (so.only s at.0.0 at.1)) (g.new t low f);
        own = g.kept h pos so.own;
        few = omega arith;
        named = λ i l. ⊎_elim
            (λ (low : i < n).
            let F : ℕ → Type 0 = λ j. On 1024 j × (flagged more j ≡ true) in
            let K : ℕ → Type 0 = λ j. On 1024 j × (flagged fl j ≡ true) in
            let was = subst K (front i low) (so.named i (omega arith)) in
            subst F (sym (g.same i low)) (was.0, g.kept (get_or left i 0) was.0.0 was.1))
            (λ (high : n ≤ i). let new = g.named i high l in ((new.0.0, omega (arith, new.0.1)), new.1))
            (cases_lt i n);
        open_yet = λ t low f. ⊎_elim
            (λ old. ⊎_elim
            (λ w. ⊎_elim
            (λ (c : w.0 ≡ n). let F : ℕ → Type 0 = λ j. Closed rs more j in inr (subst F (sym last ∙ ap (λ j. get_or waiting j 0) (sym c) ∙ w.3) closed))
            (λ (c : w.0 ≡ n → ⊥). let below : w.0 < n = omega (arith, w.2) in inl (w.0, omega arith, omega arith, g.same w.0 below ∙ sym (front w.0 below) ∙ w.3))
            (cases_eq w.0 n))
            (λ shut. inr (λ p on q. g.kept p on (shut p on q)))
            (so.open_yet t low old))
            (λ fresh. let w = fresh.1 in inl (w.0, omega arith, w.2, w.3))
            (g.new t low f);
      }
