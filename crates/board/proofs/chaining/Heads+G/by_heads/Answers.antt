use Rattle.std.proofs.Common.{◌+◌, get_or, sym, ap, ◌∙◌, arith}
use Rattle.std.proofs.lemmas.List.{length-map}
use Rattle.index.specs.Chains.{place}
use Rattle.board.proofs.Places.{length_keyed, keys_one}
use Rattle.board.proofs.chaining.Heads+G.by_heads.Goals as goal

pub invariant_of-result : goal.invariant_of-result
invariant_of-result g c =
    let rs = c.args.rules.now in
    let chained = c.chain_heads.ensures in
    let n = length_keyed 1 rs in
    let h = length-map rs (λ r. r.head) in
    let one = sym (keys_one rs) in
    let firsts = c.chain_heads.auto.first in
    let nexts = c.chain_heads.auto.next in
    let filled = c.fill.ensures.len in
    record {
      each = omega arith;
      long = omega arith;
      room = omega (arith, c.requires.few);
      starts = λ s l. chained.starts s (omega arith) ∙ ap (λ ks. place ks s 0) one;
      goes_on = λ k l. chained.goes_on k (omega arith) (omega arith) ∙ ap (λ ks. place ks (get_or ks k 0) (k + 1)) one;
      wide = λ l. absurd (omega arith);
    }
