use Rattle.std.proofs.Common.{◌+◌, get_or, sym, ap, ◌∙◌, arith}
use Rattle.index.specs.Chains.{place}
use Rattle.index.proofs.Uses.{length_used}
use Rattle.board.proofs.Places.{length_keyed, keys_four}
use Rattle.board.proofs.chaining.Uses+G.by_bodies.Goals as goal

pub invariant_of-result : goal.invariant_of-result
invariant_of-result g c =
    let rs = c.args.rules.now in
    let chained = c.chain_uses.ensures.chains in
    let n = length_keyed 4 rs in
    let h = length_used rs in
    let four = sym (keys_four rs) in
    let firsts = c.chain_uses.auto.first in
    let nexts = c.chain_uses.auto.next in
    let filled = c.fill.ensures.len in
    record {
      each = omega arith;
      long = omega arith;
      room = omega (arith, c.requires.few);
      starts = λ s l. chained.starts s (omega arith) ∙ ap (λ ks. place ks s 0) four;
      goes_on = λ k l. chained.goes_on k (omega arith) (omega arith) ∙ ap (λ ks. place ks (get_or ks k 0) (k + 1)) four;
      wide = λ l. c.chain_uses.ensures.wide;
    }
