-- How the grades of a rule's bodies are taken together, once they are read. Assumes nothing.
--     together m op w gs          the weight w with the grades gs, taken together by the operation: w alone where there are none
--     weighed m f w gs            the same, by the form f
use Rattle.std.specs.Prelude.{List, [], ◌∷◌}
use Rattle.std.specs.List.{fold}
use Rattle.scales.specs.Meaning.{Meaning}
use Rattle.model.specs.declared.rule.Form.{Form}
use Rattle.model.specs.declared.rule.Form.TheVariants.{All, Any, Chain}

module _ {G : Type 0} (m : Meaning G) where
  abbrev pub together : (G → G → G) → G → List G → G
  together op w [] = w
  together op w (g ∷ gs) = m.blend w (fold op g gs)

  abbrev pub weighed : Form → G → List G → G
  weighed All = together m.meet
  weighed Any = together m.join
  weighed Chain = fold m.blend
