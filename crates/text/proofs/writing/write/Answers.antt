use Rattle.std.proofs.Common.{◌≡◌, ℕ, ◌+◌, ◌*◌, ltb, [], ◌∷◌, ◌++◌, length, drop, Some, None, Ok, sym, ap, ◌∙◌, arith}
use Rattle.std.specs.List.{flat_map}
use Rattle.std.proofs.lemmas.Bool.{cond-false, le-ltb}
use Rattle.pasts.specs.Refusals.{check, first}
use Rattle.pasts.specs.Tables.{tables, table_checks}
use Rattle.pasts.specs.declared.refusal.Refusal.TheVariants.{BufferShort}
use Rattle.pasts.proofs.Outcomes.{first_passed}
use Rattle.text.specs.Boards.{held}
use Rattle.text.specs.Loads.{or_length}
use Rattle.text.specs.Spelling.{header_front, row_bytes}
use Rattle.text.proofs.Holding.{held_count}
use Rattle.text.proofs.Poured.{pour}
use Rattle.text.proofs.writing.write.Goals as goal
use Rattle.text.proofs.writing.write.Goals.{After-count_rules-held}

pub returns : goal.returns
returns g c =
    let t = tables c.args.statements.now c.args.rules.now in
    let buffer = c.args.buffer.now in
    let k = g.G.Written.coding in
    let xs = held 1 c.args.rules.now in
    let n = length c.args.statements.now in
    let same = c.count_rules-held.ensures ∙ sym (held_count 1 c.args.rules.now) in
    let last = check BufferShort (ltb (length buffer) (12 + 38 * length xs)) ∷ [] in
    let none : first (table_checks t ++ last) ≡ None =
    first_passed (table_checks t) last (sym c.in_ok-check_tables.ensures) ∙ cond-false (ltb (length buffer) (12 + 38 * length xs)) (Some BufferShort) None (le-ltb (length buffer) (12 + 38 * length xs) (omega (arith, same, c.if-buffer-length.false))) in
    let head = c.write_header.ensures ∙ ap (λ (j : ℕ). header_front n j ++ (10 ∷ []) ++ drop 12 buffer) same in
    let out =
    pour buffer c.write_header.new.out (header_front n (length xs) ++ (10 ∷ [])) c.write_rules.new.out (flat_map (row_bytes k) xs) 12 (38 * length xs) c.write_header.auto.out (omega (arith, c.if-buffer-length.false)) head c.write_rules.ensures in
    record {
      answer = ap (λ (j : ℕ). Ok (12 + 38 * j)) same ∙ sym (ap (λ o. or_length o (12 + 38 * length xs)) none);
      refused = λ q e. cc;
      written = λ j e. let l : 12 + 38 * c.count_rules-held.result ≡ j = cc e in out ∙ ap (λ (i : ℕ). (header_front n (length xs) ++ (10 ∷ []) ++ flat_map (row_bytes k) xs) ++ drop i buffer) (ap (λ (i : ℕ). 12 + 38 * i) (sym same) ∙ l);
    }
