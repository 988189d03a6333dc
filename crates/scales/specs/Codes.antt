-- How grades are numbered. Assumes nothing.
--     Coding G            the code of each held grade, and the grade that a code stands for, if there is one
--     Codes m c most      a grade has one code, at most `most`; the code decodes to that grade, what decodes has the code that it came
--                         from, and no grade has a code that decodes to none
use Rattle.std.specs.Prelude.{◌≡◌, ℕ, ◌≤◌, Some, None, Option, ◌≢◌}
use Rattle.scales.specs.Meaning.{Meaning, Same}

pub record Coding (G : Type 0) : Type 0 where
  pub code : G → ℕ
  pub decode : ℕ → Option G

pub record Codes {G : Type 0} (m : Meaning G) (c : Coding G) (most : ℕ) : Type 0 where
  pub same_code : (a b : G) → Same m a b → c.code a ≡ c.code b
  pub code_bound : (g : G) → c.code g ≤ most
  pub decodes : (g : G) → (h : G) × (c.decode (c.code g) ≡ Some h) × Same m h g
  pub encodes : (n : ℕ) (g : G) → c.decode n ≡ Some g → c.code g ≡ n
  pub no_grade : (n : ℕ) → c.decode n ≡ None → (g : G) → c.code g ≢ n
