use Rattle.std.proofs.Common.{arith}
use Rattle.zone_build.proofs.FindLemmas.{between_upper, between_lower}
use Rattle.zone_build.proofs.find.kind_start.Goals as goal

pub loop-low-preserved-then-from-kind : goal.loop-low-preserved-then-from-kind
loop-low-preserved-then-from-kind c =
    let l = c.loop-low-test.true in
    let e = c.from.ensures in
    let f = c.kind_at.ensures in
    let t = c.if-from-kind.true in
    between_upper c.args.records.now c.args.places c.args.kind c.loop-low.low c.loop-low.high _ c.requires.canonical
    c.requires.places c.loop-low.invariant (omega arith) (omega arith) (omega arith)

pub loop-low-preserved : goal.loop-low-preserved
loop-low-preserved c =
    let l = c.loop-low-test.true in
    let e = c.from.ensures in
    let f = c.kind_at.ensures in
    let t = c.if-from-kind.false in
    between_lower c.args.records.now c.args.places c.args.kind c.loop-low.low c.loop-low.high _ c.requires.canonical
    c.requires.places c.loop-low.invariant (omega arith) (omega arith) (λ h. absurd (omega arith))
