-- A load has one outcome.
use Rattle.std.proofs.Common.{◌≡◌, ℕ, List, ◌∷◌, length, Some, Ok, Err, Result, sym, refl, ap, ◌∙◌, subst}
use Rattle.scales.specs.Meaning.{Meaning}
use Rattle.scales.specs.Codes.{Coding, Codes}
use Rattle.model.specs.declared.rule.Form.{Form}
use Rattle.pasts.specs.Tables.{Tables, count}
use Rattle.text.specs.Boards.{Alike, AllAlike, none, more, Decoded, board, numbered}
use Rattle.text.specs.Faults.{Unmet}
use Rattle.text.specs.Loads.{Loads, Decodes}
use Rattle.text.specs.Promises.{LoadHasOneOutcome}
use Rattle.text.specs.Rows.{rule_count, rules_of, text_checks}
use Rattle.text.specs.declared.faults.Fault.{Fault}
use Rattle.text.specs.declared.numbered.Numbered.{Numbered}
use Rattle.text.proofs.Judged.{passed}
use Rattle.text.proofs.TextsBack.{text_back}
use Rattle.text.proofs.TextsSpelled.{text_decoded, text_within}

module _ {G : Type 0} {m : Meaning G} {c : Coding G} (codes : Codes m c 65535) where
  abbrev said : ℕ → ℕ → Form → G → List ℕ → Numbered G
  said k h f w bs = numbered k (record { head = h; form = f; weight = w; bodies = bs })

  -- weights that hold one grade and are what their codes decode to are equal
  alike_equal : (x y : Numbered G) → Alike m x y → c.decode (c.code x.rule.weight) ≡ Some x.rule.weight → c.decode (c.code y.rule.weight) ≡ Some y.rule.weight → x ≡ y
  alike_equal x y a dx dy =
      let ma = a.mark in
      let he = a.head in
      let fo = a.form in
      let bo = a.bodies in
      let co = codes.same_code x.rule.weight y.rule.weight a.weight in
      let we : x.rule.weight ≡ y.rule.weight = cc (dx, dy, co) in
      ap (λ (k : ℕ). said k x.rule.head x.rule.form x.rule.weight x.rule.bodies) ma
      ∙ (ap (λ (h : ℕ). said y.mark h x.rule.form x.rule.weight x.rule.bodies) he
      ∙ (ap (λ (f : Form). said y.mark y.rule.head f x.rule.weight x.rule.bodies) fo
      ∙ (ap (λ (w : G). said y.mark y.rule.head y.rule.form w x.rule.bodies) we ∙ ap (λ (bs : List ℕ). said y.mark y.rule.head y.rule.form y.rule.weight bs) bo)))

  all_equal : {xs ys : List (Numbered G)} → AllAlike m xs ys → Decoded c xs → Decoded c ys → xs ≡ ys
  all_equal none dx dy = refl
  all_equal (more {x} {y} {xs} {ys} a rest) dx dy =
      ap (λ z. z ∷ xs) (alike_equal x y a dx.0 dy.0) ∙ ap (λ zs. y ∷ zs) (all_equal rest dx.1 dy.1)

  module _ (text : List ℕ) (t u : Tables G) (j : ℕ) (l : Loads m c text t (Ok j) u) (d : Decodes m c text t (Ok j) u) where
    abbrev n : ℕ
    n = count t

    abbrev p : ℕ
    p = length t.rules

    sound : Unmet (text_checks c n p text)
    sound = (passed (text_checks c n p text) (rule_count text) j l.answer).0

    -- the board holds the rules that the text says
    pub loaded_is : u ≡ board m n p (rules_of m c text)
    loaded_is =
        let k = d.decoded j refl in
        let w = text_within codes n p text sound in
        let alike = text_back codes n p w.0.1 w.1.1 k.0 k.2 in
        let same = all_equal (subst (λ (s : List ℕ). AllAlike m (rules_of m c s) k.0) (sym k.4) alike) (text_decoded codes n p text sound) k.3 in
        k.5 ∙ ap (board m n p) (sym same)

  module _ (text : List ℕ) (t u v : Tables G) where
    alike_left : (r : Result ℕ Fault) → Loads m c text t r u → Decodes m c text t r u → Loads m c text t r v → Decodes m c text t r v → u ≡ v
    alike_left (Ok j) a d b e = loaded_is text t u j a d ∙ sym (loaded_is text t v j b e)
    alike_left (Err f) a d b e = (a.refused f refl).0 ∙ sym (b.refused f refl).0

  pub one_outcome : LoadHasOneOutcome m c
  one_outcome text t u v r q a d b e =
      let same : q ≡ r = b.answer ∙ sym a.answer in
      (sym same, alike_left text t u v r a d (subst (λ (s : Result ℕ Fault). Loads m c text t s v) same b) (subst (λ (s : Result ℕ Fault). Decodes m c text t s v) same e))
