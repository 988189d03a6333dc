-- How board text spells a form. Assumes nothing.
--     letter f            A of all, O of any, L of a chain
--     spelled_by c        the form that the letter c spells, if one does
use Rattle.std.specs.Prelude.{ℕ, cond, Some, None, Option, ◌==◌}
use Rattle.model.specs.declared.rule.Form.{Form}
use Rattle.model.specs.declared.rule.Form.TheVariants.{All, Any, Chain}

abbrev pub letter : Form → ℕ
letter All = 65
letter Any = 79
letter Chain = 76

abbrev pub spelled_by : ℕ → Option Form
spelled_by c = cond (c == 65) (Some All) (cond (c == 79) (Some Any) (cond (c == 76) (Some Chain) None))
