use Rattle.std.proofs.Common.{rules, arith, ◌≡◌, ◌+◌, length, None, Some, Err, inl}
use Rattle.std.specs.Iterator.Adapters.{enumerate_count, enumerate_source}
use Rattle.plaintext.specs.Bytes.{lines}
use Rattle.lines.specs.declared.measured.ReadError.TheVariants.{Bad}
use Rattle.lines.specs.declared.measured.Expected.TheVariants.{Shoulders}
use Rattle.lines.proofs.Following.{went_on, failed, ended, bare_end}
use Rattle.lines.proofs.measured.read_lines.Goals as goal

pub returns-then-not-fits : goal.returns-then-not-fits
returns-then-not-fits c =
    let s = c.in-Some.ensures.steps in
    c.loop-i.invariant.4 _ (rw s.1 (failed c.classify-line.result s.0 c.classify-line.ensures c.due.result c.if-not-fits.ensures c.due.ensures))

pub loop-i-preserved : goal.loop-i-preserved
loop-i-preserved c =
    let s = c.in-Some.ensures.steps in
    let one : length (lines (enumerate_source c.loop-i.i-iterator)) ≡ length (lines (enumerate_source c.next.new.self)) + 1 = search rules in
    let all : enumerate_count c.next.new.self + length (lines (enumerate_source c.next.new.self)) ≡ length (lines c.args.text.now) = omega (arith, s.2, c.loop-i.invariant.3) in
    ((tt, tt, inl (search rules)), tt, search rules, all, λ o says. c.loop-i.invariant.4 o (went_on c.classify-line.result s.0 c.classify-line.ensures _ _ o c.if-not-fits.ensures c.ends_after-ends.ensures c.in_ok-note.ensures (rw s.2 at says)))

pub returns-in_err-near : goal.returns-in_err-near
returns-in_err-near c =
    let none : c.loop-i.ends ≡ None = search rules in
    let told : c.from_residual-in_err-near.result ≡ Err (Bad (record { line = enumerate_count c.loop-i.i-iterator + 1; expected = Shoulders })) = search rules in
    rw told (c.loop-i.invariant.4 _ (bare_end c.loop-i.ends c.in-None.ensures.steps.0.0 none))

pub returns : goal.returns
returns c =
    let is : c.loop-i.ends ≡ Some (c.in_ok-near.near, c.in_ok-near.far) = search rules in
    c.loop-i.invariant.4 _ (ended c.loop-i.ends c.in-None.ensures.steps.0.0 _ _ is)
