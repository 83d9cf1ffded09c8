use Rattle.std.proofs.Common.{rules, ◌≡◌, ◌≤◌, ◌<◌, ◌-◌, length, drop, ap, arith}
use Rattle.std.proofs.lemmas.Result.{err_from_is_err_and}
use Rattle.zone_text.specs.Zone.{most_bytes}
use Rattle.zone_text.proofs.ReaderLemmas.{advance_broken, advance_over, advance_read}
use Rattle.zone_text.proofs.reader.advance.Goals as goal

pub returns-in_err-begun-clause-broken : goal.returns-in_err-begun-clause-broken
returns-in_err-begun-clause-broken c =
    let p = err_from_is_err_and c.from_residual.result c.from_residual.ensures.1 in
    rw (p.1, p.2)
    (λ known. advance_broken c.args.left.now c.as_slice.result.now c.args.at c.args.progress.now c.args.spot _
    c.as_slice.ensures (c.in_err-begun.ensures.err known))

pub returns-then-as_slice-begun-clause-broken : goal.returns-then-as_slice-begun-clause-broken
returns-then-as_slice-begun-clause-broken c =
    let over : most_bytes - c.read_ended.new.progress.size < length c.args.left.now - c.in_ok-begun.begun.from =
    omega (arith, ap length c.as_slice-2.ensures, c.if-as_slice-begun.true) in
    rw c.fault.ensures
    (λ known. advance_over c.args.left.now c.as_slice.result.now c.args.at c.in_ok-begun.begun.from
    c.args.progress.now c.read_ended.new.progress c.args.spot c.in_ok-begun.begun.spot c.as_slice.ensures
    c.in_ok-begun.ensures.ok c.in_ok-begun.ensures.rest c.read_ended.new.progress.within over)

pub returns-clause-reading : goal.returns-clause-reading
returns-clause-reading c =
    let small : length c.args.left.now - c.in_ok-begun.begun.from ≤ most_bytes - c.read_ended.new.progress.size =
    omega (arith, ap length c.as_slice-2.ensures, c.if-as_slice-begun.false) in
    let dropped : c.drop_front.new.bytes ≡ drop c.in_ok-begun.begun.from c.args.left.now = search rules in
    advance_read c.args.left.now c.as_slice.result.now c.drop_front.new.bytes c.args.at c.in_ok-begun.begun.from
    c.args.progress.now c.read_ended.new.progress c.args.spot c.in_ok-begun.begun.spot c.as_slice.ensures
    c.in_ok-begun.ensures.ok c.in_ok-begun.ensures.rest c.read_ended.new.progress.within small dropped
