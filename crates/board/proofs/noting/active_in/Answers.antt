use Rattle.std.proofs.Common.{◌≡◌, ℕ, ◌<◌, length, get_or, sym, ap, ◌∙◌, subst, ⊎_elim, arith}
use Rattle.std.proofs.lemmas.List.{get_or_read}
use Rattle.std.proofs.lemmas.Bool.{both_ways, cases_eq}
use Rattle.index.specs.Words.{Has}
use Rattle.index.proofs.Digits.{put_kept}
use Rattle.pasts.specs.Marks.{active}
use Rattle.pasts.specs.Tables.{unopened}
use Rattle.board.proofs.noting.active_in.Goals as goal
use Rattle.board.proofs.noting.active_in.Goals.{then-is_active, else-is_active}

pub loop-i-preserved : goal.loop-i-preserved
loop-i-preserved g c k h a =
    let u = unopened g.G.Scale.meaning in
    let xs = c.args.statements.now in
    let i = c.loop-i.i in
    let ws = c.loop-i.active in
    let at : i < length xs = omega arith in
    let x = c.index-statements-i.result in
    elim c.if-is_active.branch [
      | then-is_active w ↦
          let F : _ → Type 0 = λ v. Has v k in
          subst F (sym w.active-is)
          (⊎_elim
          (λ (e : k ≡ i). let K : ℕ → Type 0 = Has w.insert.new.self in subst K (sym e) (w.insert.ensures.has (omega arith)))
          (λ n. subst F (sym w.insert.ensures.with) (put_kept ws i k (c.loop-i.invariant k (omega arith) a)))
          (cases_eq k i))
      | else-is_active w ↦
          let F : _ → Type 0 = λ v. Has v k in
          subst F (sym w.active-is)
          (⊎_elim
          (λ (e : k ≡ i).
          let idle : active (get_or xs i u).mark ≡ _ = ap (λ y. active y.mark) (sym (get_or_read xs i x at c.index-statements-i.is u)) ∙ sym w.if-is_active.ensures in
          absurd (both_ways (active (get_or xs k u).mark) (ap (λ j. active (get_or xs j u).mark) e ∙ idle) a))
          (λ n. c.loop-i.invariant k (omega arith) a)
          (cases_eq k i))
    ]

pub returns : goal.returns
returns g c i h a = c.loop-i.invariant i (omega arith) a
