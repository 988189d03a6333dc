-- Each reading is counted once. Assumes nothing.
--     add_up              the four counts are all readings together
use Rattle.std.proofs.Common.{arith, ◌≡◌, ℕ, suc, ◌+◌, cond, List, [], ◌∷◌, length, vec_items, count_by, refl}
use Rattle.std.proofs.lemmas.List.Sums.{sum_by-cons}
use Rattle.surveys.specs.declared.ramp.Ramp.{Ramp}
use Rattle.lines.specs.Standings.{CountsAddUp, standing, same, stands}
use Rattle.lines.specs.declared.standings.Standing.{Standing}
use Rattle.lines.specs.declared.standings.Standing.TheVariants.{Unmeasured, Full, Zero, Between}

one_more : (s : Standing) (u f z b n : ℕ) → u + f + z + b ≡ n → (cond (same s Unmeasured) 1 0 + u) + (cond (same s Full) 1 0 + f) + (cond (same s Zero) 1 0 + z) + (cond (same s Between) 1 0 + b) ≡ suc n
one_more Unmeasured u f z b n is = omega (arith, is)
one_more Full u f z b n is = omega (arith, is)
one_more Zero u f z b n is = omega (arith, is)
one_more Between u f z b n is = omega (arith, is)

first_counted : (t : Ramp) (s : Standing) (r : ℕ) (rs : List ℕ) → count_by (stands t s) (r ∷ rs) ≡ cond (same (standing t.near t.far r) s) 1 0 + count_by (stands t s) rs
first_counted t s r rs = sum_by-cons (λ x. cond (stands t s x) 1 0) r rs

all_of : (t : Ramp) (rs : List ℕ) → count_by (stands t Unmeasured) rs + count_by (stands t Full) rs + count_by (stands t Zero) rs + count_by (stands t Between) rs ≡ length rs
all_of t [] = refl
all_of t (r ∷ rs) =
    rw (first_counted t Unmeasured r rs, first_counted t Full r rs, first_counted t Zero r rs, first_counted t Between r rs) (one_more (standing t.near t.far r) _ _ _ _ _ (all_of t rs))

pub add_up : CountsAddUp
add_up t = all_of t (vec_items t.readings)
