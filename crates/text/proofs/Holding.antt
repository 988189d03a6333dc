-- The rules that a table holds, place by place.
use Rattle.std.proofs.Common.{◌≡◌, ℕ, suc, ◌+◌, ◌<◌, ◌≤◌, Bool, true, false, cond, not, eqb, List, [], ◌∷◌, ◌++◌, length, get_or, take, drop, count_by, sym, refl, ap, ◌∙◌, arith}
use Rattle.std.proofs.lemmas.List.{append-nil, take_more, take-append-drop, length-take-le, length-append}
use Rattle.std.proofs.lemmas.List.Sums.{sum_by-cons}
use Rattle.std.proofs.lemmas.Bool.{cond-true, cond-false, eq-eqb, ne_eqb}
use Rattle.model.proofs.Cases.{at_test}
use Rattle.model.specs.declared.rule.Rule.{Rule}
use Rattle.text.specs.Boards.{held, numbered}
use Rattle.text.specs.declared.numbered.Numbered.{Numbered}

module _ {G : Type 0} where
  abbrev here : ℕ → Rule G → List (Numbered G) → List (Numbered G)
  here k r rest = cond (eqb r.head 0) rest (numbered k r ∷ rest)

  here_append : (b : Bool) (x : Numbered G) (rest ys : List (Numbered G)) → cond b (rest ++ ys) (x ∷ (rest ++ ys)) ≡ cond b rest (x ∷ rest) ++ ys
  here_append true x rest ys = refl
  here_append false x rest ys = refl

  pub held_append : (k : ℕ) (xs ys : List (Rule G)) → held k (xs ++ ys) ≡ held k xs ++ held (length xs + k) ys
  held_append k [] ys = ap (λ j. held j ys) (omega arith)
  held_append k (x ∷ xs) ys =
      let j : length xs + suc k ≡ length (x ∷ xs) + k = omega arith in
      ap (here k x) (held_append (suc k) xs ys ∙ ap (λ l. held (suc k) xs ++ held l ys) j) ∙ here_append (eqb x.head 0) (numbered k x) (held (suc k) xs) (held (length (x ∷ xs) + k) ys)

  pub held_count : (k : ℕ) (rules : List (Rule G)) → length (held k rules) ≡ count_by (λ r. not (eqb r.head 0)) rules
  held_count k [] = refl
  held_count k (r ∷ rs) =
      at_test (eqb r.head 0) (λ b. length (cond b (held (suc k) rs) (numbered k r ∷ held (suc k) rs)) ≡ cond (not b) 1 0 + count_by (λ x. not (eqb x.head 0)) rs) (λ _. omega (arith, held_count (suc k) rs)) (λ _. omega (arith, held_count (suc k) rs))
      ∙ sym (sum_by-cons (λ x. cond (not (eqb x.head 0)) 1 0) r rs)

  module _ (rules : List (Rule G)) (i : ℕ) (r d : Rule G) (h : i < length rules) (e : r ≡ get_or rules i d) where
    held_next : held 1 (take (i + 1) rules) ≡ held 1 (take i rules) ++ here (i + 1) r []
    held_next =
        ap (held 1) (take_more rules i d h ∙ ap (λ x. take i rules ++ (x ∷ [])) (sym e))
        ∙ held_append 1 (take i rules) (r ∷ [])
        ∙ ap (λ l. held 1 (take i rules) ++ here (l + 1) r []) (length-take-le i rules (omega arith))

    pub held_blank : r.head ≡ 0 → held 1 (take (i + 1) rules) ≡ held 1 (take i rules)
    held_blank z = held_next ∙ ap (λ l. held 1 (take i rules) ++ l) (cond-true (eqb r.head 0) [] (numbered (i + 1) r ∷ []) (eq-eqb r.head 0 z)) ∙ append-nil (held 1 (take i rules))

    pub held_there : (r.head ≡ 0 → ⊥) → held 1 (take (i + 1) rules) ≡ held 1 (take i rules) ++ (numbered (i + 1) r ∷ [])
    held_there z = held_next ∙ ap (λ l. held 1 (take i rules) ++ l) (cond-false (eqb r.head 0) [] (numbered (i + 1) r ∷ []) (ne_eqb r.head 0 z))

    pub held_room : (r.head ≡ 0 → ⊥) → length (held 1 (take i rules)) + 1 ≤ length (held 1 rules)
    held_room z =
        let a = ap length (held_there z) ∙ length-append (held 1 (take i rules)) (numbered (i + 1) r ∷ []) in
        let b = sym (ap (held 1) (take-append-drop (i + 1) rules)) ∙ held_append 1 (take (i + 1) rules) (drop (i + 1) rules) in
        let l = ap length b ∙ length-append (held 1 (take (i + 1) rules)) (held (length (take (i + 1) rules) + 1) (drop (i + 1) rules)) in
        omega (arith, a, l)
