use Rattle.std.proofs.Common.{◌≡◌, ℕ, ◌+◌, get_or, set, sym, ◌∙◌, subst, arith}
use Rattle.index.specs.Chains.{Chained}
use Rattle.board.proofs.chaining.link_rule.Goals as goal

pub returns-clause-links : goal.returns-clause-links
returns-clause-links g c keys l are chained =
    let i = c.args.i in
    let used = c.used_by.ensures.sons in
    let third = c.link_use-absent in
    let second = c.link_use-absent-2 in
    let one = c.link_use-absent-3 in
    let At : ℕ → Type 0 = λ k. get_or keys k 0 ≡ get_or c.used_by.result 0 0 in
    let Last : ℕ → Type 0 = λ k. Chained k keys (set c.args.first.now 0 c.args.absent) c.args.next.now in
    let Third : ℕ → Type 0 = λ k. Chained k keys (set third.new.first 0 third.result) third.new.next in
    let Second : ℕ → Type 0 = λ k. Chained k keys (set second.new.first 0 second.result) second.new.next in
    let n : i + 0 ≡ i = omega arith in
    let a : i + 4 ≡ i + 3 + 1 = omega arith in
    let b : i + 3 ≡ i + 2 + 1 = omega arith in
    let d : i + 2 ≡ i + 1 + 1 = omega arith in
    let x = third.ensures keys (omega arith) (are 3 (omega arith) ∙ sym (used 3 (omega arith))) (subst Last a chained) in
    let y = second.ensures keys (omega arith) (are 2 (omega arith) ∙ sym (used 2 (omega arith))) (subst Third b x) in
    let z = one.ensures keys (omega arith) (are 1 (omega arith) ∙ sym (used 1 (omega arith))) (subst Second d y) in
    c.link_use.ensures keys (omega arith) (subst At n (are 0 (omega arith) ∙ sym (used 0 (omega arith)))) z
