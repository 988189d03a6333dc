-- A refusal's number is the number of a row that holds.
use Rattle.std.proofs.Common.{◌≡◌, ℕ, List, [], ◌∷◌, ◌++◌, sym, refl, subst}
use Rattle.scales.specs.Meaning.{Meaning}
use Rattle.model.specs.Pins.{OneOf, first as at_first, later, AfterAbsent, absent, beyond}
use Rattle.pasts.specs.Tables.{Tables}
use Rattle.pasts.specs.Calls.{refused, done}
use Rattle.pasts.specs.Rows.{Row, table_length, bad_place, no_head, no_body, no_want, no_read, no_add, no_withdraw, full, no_rule, body_gap, idle, shut, Due, due_lengths, due_place, due_add_mark, due_add_full, due_add_head, due_add_body, due_add_gap, due_withdraw_mark, due_withdraw_blank, due_want, due_step, due_read, due_read_shut, RefusalsAreRows, OrderOfChecks}
use Rattle.pasts.specs.declared.refusal.Refusal.TheVariants.{TableLength, MalformedPlace, NoSuchStatement, NoSuchMark, PlaceTaken, PlaceBlank, BodyAfterAbsent, NothingActive, NotOpen}
use Rattle.pasts.specs.declared.call.Call.{Call}
use Rattle.pasts.proofs.Ordered.{refusals_are_due}

in_middle : (left : List ℕ) (b : ℕ) (right : List ℕ) → OneOf b (left ++ (b ∷ right))
in_middle [] b right = at_first
in_middle (a ∷ left) b right = later (in_middle left b right)

after_one : {z : ℕ} {left : List ℕ} → OneOf z left → z ≡ 0 → (b : ℕ) (right : List ℕ) → (b ≡ 0 → ⊥) → AfterAbsent (left ++ (b ∷ right))
after_one (at_first {rs = left}) e b right ne = subst (λ y. AfterAbsent (y ∷ (left ++ (b ∷ right)))) (sym e) (absent (record { one = in_middle left b right; there = ne }))
after_one (later i) e b right ne = beyond (after_one i e b right ne)

module _ {G : Type 0} (m : Meaning G) where
  row_of : (t : Tables G) {c : Call G} {k : ℕ} → Due m t c k → Row m t c k
  row_of t (due_lengths far) = table_length far
  row_of t (due_place limits on ne bad) = bad_place on ne bad
  row_of t (due_add_mark good far) = no_add far
  row_of t (due_add_full good on ne) = full ne
  row_of t (due_add_head good on free far) = no_head far
  row_of t (due_add_body {b = b} left right ready e order high) = no_body (subst (λ l. OneOf b l) (sym e) (in_middle left b right)) high
  row_of t (due_add_gap {b = b} left right ready e order i ne low) = body_gap (subst AfterAbsent (sym e) (after_one i refl b right ne))
  row_of t (due_withdraw_mark good far) = no_withdraw far
  row_of t (due_withdraw_blank good on e) = no_rule e
  row_of t (due_want good far) = no_want far
  row_of t (due_step good e) = idle e
  row_of t (due_read good far) = no_read far
  row_of t (due_read_shut good on e) = shut e

  pub refusals_are_rows : (degree : ℕ → G) (t : Tables G) → RefusalsAreRows m degree t
  refusals_are_rows degree t c u r (refused e) = (refl, row_of t (refusals_are_due m degree t c t r (refused e)))
  refusals_are_rows degree t c u r (done ok d) = elim d [ ]

  pub order_of_checks : OrderOfChecks m
  order_of_checks = record {
    length_first = λ degree. (TableLength, refl, refused refl);
    place_next = λ degree. (MalformedPlace, refl, refused refl);
    place_gap = λ degree. (MalformedPlace, refl, refused refl);
    place_before_active = λ degree. (MalformedPlace, refl, refused refl);
    mark_before_head = λ degree. (NoSuchMark, refl, refused refl);
    mark_before_place = λ degree. (NoSuchMark, refl, refused refl);
    mark_above = λ degree. (NoSuchMark, refl, refused refl);
    place_before_head = λ degree. (PlaceTaken, refl, refused refl);
    head_before_gap = λ degree. (NoSuchStatement, refl, refused refl);
    no_head_before_gap = λ degree. (NoSuchStatement, refl, refused refl);
    body_before_gap = λ degree. (NoSuchStatement, refl, refused refl);
    gap_alone = λ degree. (BodyAfterAbsent, refl, refused refl);
    gap_on_the_left = λ degree. (BodyAfterAbsent, refl, refused refl);
    body_on_the_left = λ degree. (NoSuchStatement, refl, refused refl);
    last_body = λ degree. (NoSuchStatement, refl, refused refl);
    withdraw_mark = λ degree. (NoSuchMark, refl, refused refl);
    withdraw_above = λ degree. (NoSuchMark, refl, refused refl);
    withdraw_blank = λ degree. (PlaceBlank, refl, refused refl);
    want_none = λ degree. (NoSuchStatement, refl, refused refl);
    want_above = λ degree. (NoSuchStatement, refl, refused refl);
    step_idle = λ degree. (NothingActive, refl, refused refl);
    read_none = λ degree. (NoSuchStatement, refl, refused refl);
    read_above = λ degree. (NoSuchStatement, refl, refused refl);
    read_shut = λ degree. (NotOpen, refl, refused refl);
  }
