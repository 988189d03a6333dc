-- A board holds the rules that were put on it.
use Rattle.std.proofs.Common.{◌≡◌, ℕ, zero, suc, ◌+◌, ◌-◌, ◌<◌, ◌≤◌, Bool, true, false, cond, eqb, List, [], ◌∷◌, ◌++◌, length, get_or, set, replicate, sym, refl, ap, ◌∙◌, subst, ⊎_elim, arith}
use Rattle.std.proofs.lemmas.List.{append_assoc, append-nil, length-set, length-replicate, get_or-set_other, get_or-replicate, get_or_past}
use Rattle.std.proofs.lemmas.Bool.{cond-true, cond-false, eq-eqb, ne_eqb, cases_lt}
use Rattle.scales.specs.Meaning.{Meaning}
use Rattle.model.specs.declared.rule.Rule.{Rule}
use Rattle.pasts.specs.Tables.{blank}
use Rattle.text.specs.Boards.{held, numbered, placed, Fits}
use Rattle.text.specs.declared.numbered.Numbered.{Numbered}

module _ {G : Type 0} (m : Meaning G) where
  -- the places from the index i on are blank
  abbrev pub BlankFrom : ℕ → List (Rule G) → Type 0
  BlankFrom i rules = (j : ℕ) → i ≤ j → (get_or rules j (blank m)).head ≡ 0

  blank_held : (k : ℕ) (rules : List (Rule G)) → BlankFrom 0 rules → held k rules ≡ []
  blank_held k [] b = refl
  blank_held k (r ∷ rs) b =
      cond-true (eqb r.head 0) (held (suc k) rs) (numbered k r ∷ held (suc k) rs) (eq-eqb r.head 0 (b 0 (omega arith))) ∙ blank_held (suc k) rs (λ j h. b (suc j) (omega arith))

  here_append : (b : Bool) (x : Numbered G) (rest ys : List (Numbered G)) → cond b (rest ++ ys) (x ∷ (rest ++ ys)) ≡ cond b rest (x ∷ rest) ++ ys
  here_append true x rest ys = refl
  here_append false x rest ys = refl

  pub held_set : (k i : ℕ) (rules : List (Rule G)) (r : Rule G) → BlankFrom i rules → i < length rules → (r.head ≡ 0 → ⊥) → held k (set rules i r) ≡ held k rules ++ (numbered (i + k) r ∷ [])
  held_set k i [] r b h z = absurd (omega arith)
  held_set k zero (q ∷ rs) r b h z =
      let rest = blank_held (suc k) rs (λ j l. b (suc j) (omega arith)) in
      let i : k ≡ 0 + k = omega arith in
      cond-false (eqb r.head 0) (held (suc k) rs) (numbered k r ∷ held (suc k) rs) (ne_eqb r.head 0 z) ∙ (ap (λ l. numbered k r ∷ l) rest ∙ (ap (λ (j : ℕ). numbered j r ∷ []) i ∙ ap (λ l. l ++ (numbered (0 + k) r ∷ [])) (sym (blank_held k (q ∷ rs) b))))
  held_set k (suc i) (q ∷ rs) r b h z =
      let e : i + suc k ≡ suc i + k = omega arith in
      ap (λ l. cond (eqb q.head 0) l (numbered k q ∷ l)) (held_set (suc k) i rs r (λ j l. b (suc j) (omega arith)) (omega arith) z ∙ ap (λ (j : ℕ). held (suc k) rs ++ (numbered j r ∷ [])) e)
      ∙ here_append (eqb q.head 0) (numbered k q) (held (suc k) rs) (numbered (suc i + k) r ∷ [])

  pub set_blank : (i j : ℕ) (rules : List (Rule G)) (r : Rule G) → BlankFrom i rules → i ≤ j → BlankFrom (j + 1) (set rules j r)
  set_blank i j rules r b h l q = ap (λ (x : Rule G). x.head) (get_or-set_other rules j l r (blank m) (omega arith)) ∙ b l (omega arith)

  pub replicate_blank : (p : ℕ) → BlankFrom 0 (replicate p (blank m))
  replicate_blank p j h =
      ⊎_elim
      (λ l. ap (λ (x : Rule G). x.head) (get_or-replicate p j (blank m) (blank m) l))
      (λ l. ap (λ (x : Rule G). x.head) (get_or_past (replicate p (blank m)) j (blank m) (subst (λ (n : ℕ). n ≤ j) (sym (length-replicate p (blank m))) l)))
      (cases_lt j p)

  module _ (n p : ℕ) where
    pub placed_held : (last : ℕ) (rules : List (Rule G)) (xs : List (Numbered G)) → length rules ≡ p → BlankFrom last rules → Fits n p last xs → held 1 (placed rules xs) ≡ held 1 rules ++ xs
    placed_held last rules [] l b f = sym (append-nil (held 1 rules))
    placed_held last rules (x ∷ xs) l b f =
        let i = x.mark - 1 in
        let up = f.0.above in
        let to = f.0.within in
        let on = f.0.head.0 in
        let mk : i + 1 ≡ x.mark = omega arith in
        let one = held_set 1 i rules x.rule (λ j h. b j (omega arith)) (omega arith) (λ z. omega arith) in
        let same : numbered (i + 1) x.rule ≡ x = ap (λ (j : ℕ). numbered j x.rule) mk in
        let still : BlankFrom x.mark (set rules i x.rule) = subst (λ (j : ℕ). BlankFrom j (set rules i x.rule)) mk (set_blank last i rules x.rule b (omega arith)) in
        placed_held x.mark (set rules i x.rule) xs (length-set rules i x.rule ∙ l) still f.1
        ∙ (ap (λ h. h ++ xs) (one ∙ ap (λ y. held 1 rules ++ (y ∷ [])) same) ∙ append_assoc (held 1 rules) (x ∷ []) xs)

    pub board_held : (xs : List (Numbered G)) → Fits n p 0 xs → held 1 (placed (replicate p (blank m)) xs) ≡ xs
    board_held xs f = placed_held 0 (replicate p (blank m)) xs (length-replicate p (blank m)) (replicate_blank p) f ∙ ap (λ h. h ++ xs) (blank_held 1 (replicate p (blank m)) (replicate_blank p))
