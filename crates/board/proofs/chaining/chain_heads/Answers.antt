use Rattle.std.proofs.Common.{◌-◌, ◌<◌, length, get_or, arith}
use Rattle.index.specs.Uses.{heads}
use Rattle.index.proofs.Chains.{linked, unlinked}
use Rattle.std.proofs.lemmas.List.{length-map, get_or-map}
use Rattle.board.proofs.chaining.chain_heads.Goals as goal

pub link-requires : goal.link-requires
link-requires g c =
    let rs = c.args.rules.now in
    let i = c.loop-i.i - 1 in
    let h : i < length rs = omega arith in
    let key = get_or-map (λ x. x.head) rs i c.index-rules-i.result 0 h in
    let low = c.requires.keyed i h in
    record { keyed = omega arith; within = omega arith; fits = omega arith }

pub loop-i-init : goal.loop-i-init
loop-i-init g c =
    let rs = c.args.rules.now in
    let n = length-map rs (λ r. r.head) in
    unlinked (heads rs) c.args.first.now c.args.next.now (length rs) (omega arith) c.requires.empty

pub loop-i-preserved : goal.loop-i-preserved
loop-i-preserved g c =
    let rs = c.args.rules.now in
    let i = c.loop-i.i - 1 in
    let n = length-map rs (λ r. r.head) in
    let h : i < length rs = omega arith in
    let r = c.index-rules-i.result in
    let key = get_or-map (λ x. x.head) rs i r 0 h in
    let low = c.requires.keyed i h in
    linked c.loop-i.i i (get_or rs i r).head (heads rs) c.loop-i.first c.loop-i.next c.link.new.first c.link.new.next (omega arith) (omega arith) (omega arith) key (omega arith) c.loop-i.invariant c.link.ensures.firsts c.link.ensures.nexts
