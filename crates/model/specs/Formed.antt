-- Which rules are well formed over a board's n statements. Assumes nothing.
--     gap bs                  a body comes after an absent one
--     body_above n bs         a body is above n
--     malformed_place n r     r is a rule, and its head or a body is above n, or its bodies have a gap
--     malformed n rules       one of the rules is so
use Rattle.std.specs.Prelude.{ℕ, Bool, false, cond, not, ◌&&◌, ◌||◌, List, [], ◌∷◌, length, ◌==◌, nat_lt}
use Rattle.model.specs.Rules.{present}
use Rattle.model.specs.declared.rule.Rule.{Rule}

abbrev pub gap : List ℕ → Bool
gap [] = false
gap (b ∷ bs) = cond (b == 0) (not (length (present bs) == 0)) (gap bs)

abbrev pub body_above : ℕ → List ℕ → Bool
body_above n [] = false
body_above n (b ∷ bs) = nat_lt n b || body_above n bs

module _ {G : Type 0} (n : ℕ) where
  abbrev pub malformed_place : Rule G → Bool
  malformed_place r = not (r.head == 0) && (nat_lt n r.head || (body_above n r.bodies || gap r.bodies))

  abbrev pub malformed : List (Rule G) → Bool
  malformed [] = false
  malformed (r ∷ rs) = malformed_place r || malformed rs
