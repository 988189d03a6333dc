-- Where no statement is active there is none to take next.
use Rattle.std.proofs.Common.{◌≡◌, ℕ, zero, suc, ◌-◌, true, false, List, [], ◌∷◌, get_or, refl}
use Rattle.std.proofs.lemmas.Bool.{or_parts, both_ways}
use Rattle.scales.specs.Meaning.{Meaning}
use Rattle.model.proofs.Cases.{by_test}
use Rattle.pasts.specs.Marks.{active}
use Rattle.pasts.specs.Tables.{Tables, unopened, mark, some_active}
use Rattle.pasts.specs.Calls.{Next}
use Rattle.pasts.specs.declared.statement.Statement.{Statement}

module _ {G : Type 0} (m : Meaning G) where
  in_list : (l : List (Statement G)) (i : ℕ) → some_active l ≡ false → active (get_or l i (unopened m)).mark ≡ false
  in_list [] i e = refl
  in_list (x ∷ xs) zero e = (or_parts (active x.mark) (some_active xs) e).0
  in_list (x ∷ xs) (suc i) e = in_list xs i (or_parts (active x.mark) (some_active xs) e).1

  pub none_active : (t : Tables G) (s : ℕ) → some_active t.statements ≡ false → active (mark m t s) ≡ false
  none_active t s e = in_list t.statements (s - 1) e

  pub idle : (xs : List (Statement G)) (s : ℕ) → some_active xs ≡ false → Next m xs s → ⊥
  idle xs s still next = both_ways _ (in_list xs (s - 1) still) next.is_active

  pub next_active : (xs : List (Statement G)) (s : ℕ) → Next m xs s → some_active xs ≡ true
  next_active xs s next = by_test (some_active xs) (λ e. e) (λ e. absurd (idle xs s e next))
