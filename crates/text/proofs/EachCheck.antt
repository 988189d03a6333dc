-- What holds of the report of whichever check is the first to be met, and what holds where none is.
use Rattle.std.proofs.Common.{◌≡◌, true, false, List, [], ◌∷◌, ◌++◌}
use Rattle.text.specs.Faults.{Check, Unmet, FirstMet, here, later, report}
use Rattle.text.specs.declared.faults.Report.{Report}

module _ (P : Report → Type 0) (E : Type 0) where
  abbrev pub Until : List Check → Type 0
  Until [] = E
  Until (k ∷ cs) = (k.met ≡ true → P (report k.fault)) × (k.met ≡ false → Until cs)

  pub until_first : {cs : List Check} {q : Report} → Until cs → FirstMet cs q → P q
  until_first e (here m) = e.0 m
  until_first e (later z f) = until_first (e.1 z) f

  pub until_none : (cs : List Check) → Until cs → Unmet cs → E
  until_none [] e u = e
  until_none (k ∷ cs) e u = until_none cs (e.1 u.0) u.1

module _ (P : Report → Type 0) where
  abbrev pub Each : List Check → Type 0
  Each cs = Until P (Unit {0}) cs

  module _ (E : Type 0) where
    pub each_both : (cs ds : List Check) → Each cs → (Unmet cs → Until P E ds) → Until P E (cs ++ ds)
    each_both [] ds e f = f tt
    each_both (k ∷ cs) ds e f = (e.0, λ z. each_both cs ds (e.1 z) (λ u. f (z, u)))

    -- one of the checks in front is met
    pub until_within : (cs ds : List Check) → Until P ⊥ cs → Until P E (cs ++ ds)
    until_within [] ds e = absurd e
    until_within (k ∷ cs) ds e = (e.0, λ z. until_within cs ds (e.1 z))
