use Rattle.std.proofs.Common.{◌≡◌, ◌-◌}
use Rattle.text.specs.Boards.{placed}
use Rattle.text.specs.Faults.{judged}
use Rattle.text.specs.Rows.{rows_checks, rules_in}
use Rattle.text.proofs.loading.read_rules.Given as goal

-- what is left of the text comes to what all of it comes to, and with its rules the table is what it has to be
abbrev pub invariant-loop-line : goal.invariant-loop-line
invariant-loop-line g l =
    record {
      answer : judged (rows_checks g.G.Written.coding l.limits.statements l.limits.places l.last l.line (l.end - l.line) l.reader) (tt {0}) ≡ judged (rows_checks g.G.Written.coding l.limits.statements l.limits.places 0 2 l.count l.rest) (tt {0});
      placed : placed l.rules (rules_in g.G.Scale.meaning g.G.Written.coding (l.end - l.line) l.reader) ≡ placed l.initial.rules (rules_in g.G.Scale.meaning g.G.Written.coding l.count l.rest);
    }
