use Rattle.std.proofs.Common.{◌≡◌, ◌*◌, ◌≤◌, ◌++◌, length, take, drop}
use Rattle.std.specs.List.{flat_map}
use Rattle.text.specs.Boards.{held}
use Rattle.text.specs.Spelling.{row_bytes}
use Rattle.text.proofs.writing.write_rules.Given as goal

abbrev pub invariant-loop-i : goal.invariant-loop-i
invariant-loop-i g l =
    (l.i ≤ length l.rules) × (l.at ≡ 38 * length (held 1 (take l.i l.rules))) × (l.at ≤ length l.initial.out) × (l.out ≡ flat_map (row_bytes g.G.Written.coding) (held 1 (take l.i l.rules)) ++ drop l.at l.initial.out)
