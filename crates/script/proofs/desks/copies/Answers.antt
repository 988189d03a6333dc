use Rattle.std.proofs.Common.{rules, arith}
use Rattle.std.proofs.lemmas.Iterator.{YieldsList-from_range, YieldsList-from_map, items_from_collect}
use Rattle.std.proofs.lemmas.List.FromFn.{length-range_with_len}
use Rattle.std.proofs.lemmas.Simd.{splat_is_map}
use Rattle.std.specs.List.{range_with_len}
use Rattle.script.proofs.desks.copies.Goals as goal

pub returns : goal.returns
returns g c =
    let n = c.args.len in
    rw (splat_is_map (range_with_len 0 n) n c.args.item (length-range_with_len 0 n))
    (items_from_collect c.collect.result c.collect.ensures.ran
    (YieldsList-from_map _ (λ _. c.args.item) (YieldsList-from_range 0 n n c.map.ensures.source (omega arith)) c.map.ensures.closure (λ x r q k. search rules)))
