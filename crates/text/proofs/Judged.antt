-- Checks one after another: the first that is met, and what a list says of which none is.
use Rattle.std.proofs.Common.{◌≡◌, Bool, true, false, cond, List, [], ◌∷◌, ◌++◌, Ok, Err, Result, sym, refl, ap, ◌∙◌, subst}
use Rattle.model.proofs.Cases.{by_test}
use Rattle.std.proofs.lemmas.Bool.{cond-true, cond-false}
use Rattle.text.specs.Faults.{Check, Unmet, judged, report, FirstMet, here, later}
use Rattle.text.specs.declared.faults.Fault.{Fault}

skip : {X : Type 0} (b : Bool) (f : Fault) (r : Result X Fault) (z : X) → Ok z ≡ cond b (Err f) r → (b ≡ false) × (Ok z ≡ r)
skip true f r z e = cc
skip false f r z e = (refl, e)

pub passed : {X : Type 0} (cs : List Check) (x z : X) → Ok z ≡ judged cs x → Unmet cs × (z ≡ x)
passed [] x z e = (tt, cc)
passed (c ∷ cs) x z e =
    let s = skip c.met c.fault (judged cs x) z e in
    let p = passed cs x z s.1 in
    ((s.0, p.0), p.1)

pub passes : {X : Type 0} (cs : List Check) (x : X) → Unmet cs → judged cs x ≡ Ok x
passes [] x u = refl
passes (c ∷ cs) x u = cond-false c.met (Err c.fault) (judged cs x) u.0 ∙ passes cs x u.1

-- past checks of which none is met
pub past : {Y : Type 0} (cs ds : List Check) (y : Y) → Unmet cs → judged (cs ++ ds) y ≡ judged ds y
past [] ds y u = refl
past (c ∷ cs) ds y u = cond-false c.met (Err c.fault) (judged (cs ++ ds) y) u.0 ∙ past cs ds y u.1

pub goes : {X Y : Type 0} (cs ds : List Check) (x z : X) (y : Y) → Ok z ≡ judged cs x → judged (cs ++ ds) y ≡ judged ds y
goes cs ds x z y e = past cs ds y (passed cs x z e).0

fails : {X Y : Type 0} (b : Bool) (f g : Fault) (r : Result X Fault) (s : Result Y Fault) → Err f ≡ cond b (Err g) r → (Err f ≡ r → Err f ≡ s) → Err f ≡ cond b (Err g) s
fails true f g r s e k = let same : f ≡ g = cc in ap Err same
fails false f g r s e k = k e

-- a check that is met, met again among more
pub stops : {X Y : Type 0} (cs ds : List Check) (x : X) (y : Y) (f : Fault) → Err f ≡ judged cs x → Err f ≡ judged (cs ++ ds) y
stops [] ds x y f e = cc
stops (c ∷ cs) ds x y f e = fails c.met f c.fault (judged cs x) (judged (cs ++ ds) y) e (stops cs ds x y f)

pub unmet_both : (cs ds : List Check) → Unmet cs → Unmet ds → Unmet (cs ++ ds)
unmet_both [] ds u v = v
unmet_both (c ∷ cs) ds u v = (u.0, unmet_both cs ds u.1 v)

pub unmet_parts : (cs ds : List Check) → Unmet (cs ++ ds) → Unmet cs × Unmet ds
unmet_parts [] ds u = (tt, u)
unmet_parts (c ∷ cs) ds u = let p = unmet_parts cs ds u.1 in ((u.0, p.0), p.1)

-- one group of checks after another
pub after : {X Y : Type 0} (cs ds : List Check) (x z : X) (y : Y) {r : Result Y Fault} → Ok z ≡ judged cs x → r ≡ judged ds y → r ≡ judged (cs ++ ds) y
after cs ds x z y e q = q ∙ sym (goes cs ds x z y e)

-- the fault that is answered is that of the first check that is met
pub first_met : {X : Type 0} (cs : List Check) (x : X) (f : Fault) → Err f ≡ judged cs x → FirstMet cs (report f)
first_met [] x f e = cc
first_met (c ∷ cs) x f e =
    by_test c.met
    (λ q.
    let met = cond-true c.met (Err c.fault) (judged cs x) q in
    let same : c.fault ≡ f = cc (e, met) in
    subst (λ g. FirstMet (c ∷ cs) (report g)) same (here q))
    (λ q. later q (first_met cs x f (e ∙ cond-false c.met (Err c.fault) (judged cs x) q)))
