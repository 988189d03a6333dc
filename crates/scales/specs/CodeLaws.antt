-- The laws of codes from those that are not implied. Assumes nothing.
--     whole               where every grade's code decodes to that grade, no grade has a code that decodes to none
--     some_up_to, up_to   where the numbers up to a limit are codes: one of them decodes, and what decodes is one of them
use Rattle.std.specs.Prelude.{◌≡◌, ℕ, ◌≤◌, true, false, cond, leb, Some, None, nat_le}
use Rattle.std.proofs.Common.{sym, ap, ◌∙◌, ⊎_elim}
use Rattle.std.proofs.lemmas.Bool.{leb-true, le-leb, cases_Bool, cond-true, cond-false}
use Rattle.scales.specs.Meaning.{Meaning, Same}
use Rattle.scales.specs.Codes.{Coding, Codes}

module _ {G : Type 0} {m : Meaning G} {c : Coding G} {most : ℕ} where
  pub whole : ((a b : G) → Same m a b → c.code a ≡ c.code b) → ((g : G) → c.code g ≤ most) → ((g : G) → (h : G) × (c.decode (c.code g) ≡ Some h) × Same m h g) → ((n : ℕ) (g : G) → c.decode n ≡ Some g → c.code g ≡ n) → Codes m c most
  whole same bound decodes encodes = record {
    same_code = same;
    code_bound = bound;
    decodes = decodes;
    encodes = encodes;
    no_grade = λ n e g f. none n g e f (decodes g);
  }
    where
      none : (n : ℕ) (g : G) → c.decode n ≡ None → c.code g ≡ n → (h : G) × (c.decode (c.code g) ≡ Some h) × Same m h g → ⊥
      none n g e f d =
          let some : Some d.0 ≡ None = sym d.1 ∙ ap c.decode f ∙ e in cc

module _ {G : Type 0} (most : ℕ) (of : ℕ → G) where
  pub some_up_to : (n : ℕ) → n ≤ most → cond (nat_le n most) (Some (of n)) None ≡ Some (of n)
  some_up_to n h = cond-true (nat_le n most) _ _ (le-leb n most h)

  pub up_to : (n : ℕ) (g : G) → cond (nat_le n most) (Some (of n)) None ≡ Some g → (n ≤ most) × (of n ≡ g)
  up_to n g e = ⊎_elim known none (cases_Bool (nat_le n most))
    where
      known : leb n most ≡ true → (n ≤ most) × (of n ≡ g)
      known t = let some : Some (of n) ≡ Some g = sym (cond-true (nat_le n most) _ _ t) ∙ e in (leb-true n most t, cc)

      none : leb n most ≡ false → (n ≤ most) × (of n ≡ g)
      none t =
          let some : None ≡ Some g = sym (cond-false (nat_le n most) _ _ t) ∙ e in cc
