use Rattle.std.proofs.Common.{◌≡◌, ◌+◌, ◌<◌, length, get_or, set, sym, refl, ap, ◌∙◌, arith, length-set}
use Rattle.std.proofs.lemmas.List.{get_or-set_same, get_or-set_other, set-set, set_comm}
use Rattle.index.proofs.Chains.{linked}
use Rattle.board.proofs.chaining.link_use.Goals as goal

pub returns-then-k-eq0 : goal.returns-then-k-eq0
returns-then-k-eq0 c keys h is chained =
    let first = c.args.first.now in
    let next = c.args.next.now in
    let i = c.args.i in
    let key = c.args.key in
    let a = c.args.absent in
    let z : key ≡ 0 = c.if-k-eq0.true in
    let none : 0 < length first = omega arith in
    let within : i < length next = omega arith in
    let on : key < length (set first 0 a) = omega (arith, length-set first 0 a) in
    linked (i + 1) i key keys (set first 0 a) next (set first 0 i) (set next i a) refl h within is on chained
    (sym (ap (λ k. set (set first 0 a) k i) z ∙ set-set first 0 a i))
    (ap (λ v. set next i v) (sym (ap (λ k. get_or (set first 0 a) k 0) z ∙ get_or-set_same first 0 a 0 none)))

pub returns : goal.returns
returns c keys h is chained =
    let first = c.args.first.now in
    let next = c.args.next.now in
    let i = c.args.i in
    let key = c.args.key in
    let a = c.args.absent in
    let ne : key ≡ 0 → ⊥ = c.if-k-eq0.false in
    let within : i < length next = omega arith in
    let on : key < length (set first 0 a) = omega (arith, length-set first 0 a) in
    linked (i + 1) i key keys (set first 0 a) next (set (set first key i) 0 a) (set next i (get_or first key 0)) refl h within is on chained
    (set_comm first key 0 i a ne)
    (ap (λ v. set next i v) (sym (get_or-set_other first 0 key a 0 ne)))
