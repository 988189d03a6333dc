-- The scale of verdicts keeps the laws, and so do its codes: what a test says of all verdicts is tried on each. Assumes nothing.
--     each P              the test P passes on every verdict
--     implies p q         q passes where p does
--     verdict_laws        the laws
--     verdict_short_codes, verdict_written_codes   the laws of the codes, under the two bounds that scales ask for
--     verdict_low         the height is within the bound of a short scale
use Rattle.std.specs.Prelude.{◌≡◌, ℕ, zero, suc, ◌≤◌, Bool, true, false, ◌&&◌, Some, nat_lt, nat_le, refl}
use Rattle.std.proofs.Common.{ap, lit≤, arith}
use Rattle.std.proofs.lemmas.Bool.{and_parts, ltb-true, leb-true}
use Rattle.scales.specs.Meaning.{Same, above}
use Rattle.scales.specs.Laws.{Laws}
use Rattle.scales.specs.Codes.{Codes}
use Rattle.scales.specs.CodeLaws.{whole}
use Rattle.scales.specs.Verdicts.{below, join, meet, level, code, decode, verdicts, verdict_coding}
use Rattle.scales.specs.declared.verdict.Verdict.{Verdict}
use Rattle.scales.specs.declared.verdict.Verdict.TheVariants.{False, Unknown, Inconsistent, True}

each : (Verdict → Bool) → Bool
each P = P False && (P Unknown && (P Inconsistent && P True))

implies : Bool → Bool → Bool
implies true q = q
implies false q = true

one : (P : Verdict → Bool) → each P ≡ true → (a : Verdict) → P a ≡ true
unfolding each
one P e False = (and_parts (P False) _ e).0
one P e Unknown = (and_parts (P Unknown) _ (and_parts (P False) _ e).1).0
one P e Inconsistent = (and_parts (P Inconsistent) _ (and_parts (P Unknown) _ (and_parts (P False) _ e).1).1).0
one P e True = (and_parts (P Inconsistent) _ (and_parts (P Unknown) _ (and_parts (P False) _ e).1).1).1

two : (P : Verdict → Verdict → Bool) → each (λ a. each (P a)) ≡ true → (a b : Verdict) → P a b ≡ true
two P e a b = one (P a) (one (λ x. each (P x)) e a) b

three : (P : Verdict → Verdict → Verdict → Bool) → each (λ a. each (λ b. each (P a b))) ≡ true → (a b c : Verdict) → P a b c ≡ true
three P e a b c = one (P a b) (two (λ x y. each (P x y)) e a b) c

four : (P : Verdict → Verdict → Verdict → Verdict → Bool) → each (λ a. each (λ b. each (λ c. each (P a b c)))) ≡ true → (a b c d : Verdict) → P a b c d ≡ true
four P e a b c d = one (P a b c) (three (λ x y z. each (P x y z)) e a b c) d

gives : (p q : Bool) → implies p q ≡ true → p ≡ true → q ≡ true
unfolding implies
gives true q h e = h
gives false q h e = cc

after_both : (p q r : Bool) → implies p (implies q r) ≡ true → p ≡ true → q ≡ true → r ≡ true
after_both p q r h e f = gives q r (gives p (implies q r) h e) f

-- verdicts that have one code are one
one_code : (a b : Verdict) → nat_le (code a) (code b) && nat_le (code b) (code a) ≡ true → a ≡ b
one_code False False e = refl
one_code Unknown Unknown e = refl
one_code Inconsistent Inconsistent e = refl
one_code True True e = refl
one_code _ _ e = cc

pub verdict_laws : Laws verdicts
unfolding each implies
verdict_laws = record {
  stands_same = λ a. refl;
  reflexive = λ a b e. cc (one (λ x. below x x) refl a);
  antisymmetric = λ a b p q. one_code a b (after_both _ _ _ (two (λ x y. implies (below x y) (implies (below y x) (nat_le (code x) (code y) && nat_le (code y) (code x)))) refl a b) p q);
  transitive = λ a b c p q. after_both _ _ _ (three (λ x y z. implies (below x y) (implies (below y z) (below x z))) refl a b c) p q;
  from_lowest = one (λ x. below False x) refl;
  to_highest = one (λ x. below x True) refl;
  join_left = two (λ x y. below x (join x y)) refl;
  join_right = two (λ x y. below y (join x y)) refl;
  join_least = λ a b c p q. after_both _ _ _ (three (λ x y z. implies (below x z) (implies (below y z) (below (join x y) z))) refl a b c) p q;
  meet_left = two (λ x y. below (meet x y) x) refl;
  meet_right = two (λ x y. below (meet x y) y) refl;
  meet_greatest = λ a b c p q. after_both _ _ _ (three (λ x y z. implies (below z x) (implies (below z y) (below z (meet x y)))) refl a b c) p q;
  blend_rises = λ a b c d p q. after_both _ _ _ (four (λ w x y z. implies (below w y) (implies (below x z) (below (meet w x) (meet y z)))) refl a b c d) p q;
  blend_highest = λ b. refl;
  level_same = λ a b e. cc;
  level_rises = λ a b e. ltb-true (level a) (level b) (gives _ _ (two (λ x y. implies (above verdicts y x) (nat_lt (level x) (level y))) refl a b) e);
  level_bound = λ a. leb-true (level a) 2 (one (λ x. nat_le (level x) 2) refl a);
  height_bound = lit≤ tt;
}

code_bound : (g : Verdict) → code g ≤ 3
unfolding each
code_bound g = leb-true (code g) 3 (one (λ x. nat_le (code x) 3) refl g)

verdict_decodes : (g : Verdict) → (h : Verdict) × (decode (code g) ≡ Some h) × Same verdicts h g
verdict_decodes False = (False, refl, refl)
verdict_decodes Unknown = (Unknown, refl, refl)
verdict_decodes Inconsistent = (Inconsistent, refl, refl)
verdict_decodes True = (True, refl, refl)

verdict_encodes : (n : ℕ) (g : Verdict) → decode n ≡ Some g → code g ≡ n
verdict_encodes zero g e = let s : g ≡ False = cc in ap code s
verdict_encodes (suc zero) g e = let s : g ≡ Unknown = cc in ap code s
verdict_encodes (suc (suc zero)) g e = let s : g ≡ Inconsistent = cc in ap code s
verdict_encodes (suc (suc (suc zero))) g e = let s : g ≡ True = cc in ap code s
verdict_encodes (suc (suc (suc (suc n)))) g e = cc

verdict_codes : (most : ℕ) → 3 ≤ most → Codes verdicts verdict_coding most
verdict_codes most h = whole (λ a b e. ap code e) (λ g. omega (arith, code_bound g)) verdict_decodes verdict_encodes

pub verdict_short_codes : Codes verdicts verdict_coding 255
verdict_short_codes = verdict_codes 255 (lit≤ tt)

pub verdict_written_codes : Codes verdicts verdict_coding 65535
verdict_written_codes = verdict_codes 65535 (lit≤ tt)

pub verdict_low : verdicts.height ≤ 255
verdict_low = lit≤ tt
