-- The fields of a rule's line, one after another.
use Rattle.std.proofs.Common.{◌≡◌, ℕ, List, [], ◌∷◌, ◌++◌, get_or, Ok, Err, Result, sym, ap, ◌∙◌}
use Rattle.scales.specs.Meaning.{Meaning}
use Rattle.scales.specs.Codes.{Coding}
use Rattle.model.specs.declared.rule.Form.{Form}
use Rattle.text.specs.Faults.{Check, judged}
use Rattle.text.specs.Fields.{form_of, form_checks, weight_of, weight_checks}
use Rattle.text.specs.Rows.{five, number_in, due_check, mark_checks, head_checks, bodies_checks, bodies_in, rule_in, rule_checks}
use Rattle.text.specs.declared.faults.Fault.{Fault}
use Rattle.text.specs.declared.numbered.Numbered.{Numbered}
use Rattle.text.proofs.Judged.{stops, passed, passes, after}

module _ {G : Type 0} (m : Meaning G) (k : Coding G) (n p last line : ℕ) (bytes : List ℕ) where
  abbrev dues : List Check
  dues = due_check 82 line bytes ∷ []

  abbrev marks : List Check
  marks = mark_checks p last line bytes

  abbrev heads : List Check
  heads = head_checks n line bytes

  abbrev forms : List Check
  forms = form_checks (get_or bytes 11 0) line 12

  abbrev weights : List Check
  weights = weight_checks k (five 13 bytes) line 13

  abbrev bodies : List Check
  bodies = bodies_checks n line bytes

  abbrev All : Result (Numbered G) Fault → Type 0
  All r = r ≡ judged (rule_checks k n p last line bytes) (rule_in m k bytes)

  pub in_due : (f : Fault) → Err f ≡ judged dues (tt {0}) → All (Err f)
  in_due f e = stops dues (marks ++ (heads ++ (forms ++ (weights ++ bodies)))) (tt {0}) (rule_in m k bytes) f e

  module _ (d : Ok (tt {0}) ≡ judged dues (tt {0})) where
    past_due : (r : Result (Numbered G) Fault) → r ≡ judged (marks ++ (heads ++ (forms ++ (weights ++ bodies)))) (rule_in m k bytes) → All r
    past_due r e = after dues (marks ++ (heads ++ (forms ++ (weights ++ bodies)))) (tt {0}) (tt {0}) (rule_in m k bytes) d e

    pub in_mark : (f : Fault) → Err f ≡ judged marks (number_in bytes 2) → All (Err f)
    in_mark f e = past_due (Err f) (stops marks (heads ++ (forms ++ (weights ++ bodies))) (number_in bytes 2) (rule_in m k bytes) f e)

    module _ (a : ℕ) (pa : Ok a ≡ judged marks (number_in bytes 2)) where
      past_mark : (r : Result (Numbered G) Fault) → r ≡ judged (heads ++ (forms ++ (weights ++ bodies))) (rule_in m k bytes) → All r
      past_mark r e = past_due r (after marks (heads ++ (forms ++ (weights ++ bodies))) (number_in bytes 2) a (rule_in m k bytes) pa e)

      pub in_head : (f : Fault) → Err f ≡ judged heads (number_in bytes 7) → All (Err f)
      in_head f e = past_mark (Err f) (stops heads (forms ++ (weights ++ bodies)) (number_in bytes 7) (rule_in m k bytes) f e)

      module _ (h : ℕ) (ph : Ok h ≡ judged heads (number_in bytes 7)) where
        past_head : (r : Result (Numbered G) Fault) → r ≡ judged (forms ++ (weights ++ bodies)) (rule_in m k bytes) → All r
        past_head r e = past_mark r (after heads (forms ++ (weights ++ bodies)) (number_in bytes 7) h (rule_in m k bytes) ph e)

        pub in_form : (f : Fault) → Err f ≡ judged forms (form_of (get_or bytes 11 0)) → All (Err f)
        in_form f e = past_head (Err f) (stops forms (weights ++ bodies) (form_of (get_or bytes 11 0)) (rule_in m k bytes) f e)

        module _ (o : Form) (po : Ok o ≡ judged forms (form_of (get_or bytes 11 0))) where
          past_form : (r : Result (Numbered G) Fault) → r ≡ judged (weights ++ bodies) (rule_in m k bytes) → All r
          past_form r e = past_head r (after forms (weights ++ bodies) (form_of (get_or bytes 11 0)) o (rule_in m k bytes) po e)

          pub in_weight : (f : Fault) → Err f ≡ judged weights (weight_of m k (five 13 bytes)) → All (Err f)
          in_weight f e = past_form (Err f) (stops weights bodies (weight_of m k (five 13 bytes)) (rule_in m k bytes) f e)

          module _ (w : G) (pw : Ok w ≡ judged weights (weight_of m k (five 13 bytes))) where
            past_weight : (r : Result (Numbered G) Fault) → r ≡ judged bodies (rule_in m k bytes) → All r
            past_weight r e = past_form r (after weights bodies (weight_of m k (five 13 bytes)) w (rule_in m k bytes) pw e)

            pub in_bodies : (f : Fault) → Err f ≡ judged bodies (bodies_in bytes) → All (Err f)
            in_bodies f e = past_weight (Err f) (stops bodies [] (bodies_in bytes) (rule_in m k bytes) f e)

            abbrev made : List ℕ → Numbered G
            made bs = record { mark = a; rule = record { head = h; form = o; weight = w; bodies = bs } }

            pub read : (bs : List ℕ) → Ok bs ≡ judged bodies (bodies_in bytes) → All (Ok (made bs))
            read bs e =
                let ea : a ≡ number_in bytes 2 = (passed marks (number_in bytes 2) a pa).1 in
                let eh : h ≡ number_in bytes 7 = (passed heads (number_in bytes 7) h ph).1 in
                let eo : o ≡ form_of (get_or bytes 11 0) = (passed forms (form_of (get_or bytes 11 0)) o po).1 in
                let ew : w ≡ weight_of m k (five 13 bytes) = (passed weights (weight_of m k (five 13 bytes)) w pw).1 in
                let eb = passed bodies (bodies_in bytes) bs e in
                let same : made bs ≡ rule_in m k bytes = cc eb.1 in
                past_weight (Ok (made bs)) (ap Ok same ∙ sym (passes bodies (rule_in m k bytes) eb.0))
