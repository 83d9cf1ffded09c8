use Rattle.std.proofs.Common.{refl, arith, ◌+◌}
use Rattle.zone_build.proofs.SizeLemmas.{weight_more, weight_front}
use Rattle.zone_build.proofs.build.is_large.Goals as goal

pub returns-then-size-gt60000 : goal.returns-then-size-gt60000
returns-then-size-gt60000 c = (
  λ t.
      let more = weight_more c.args.set.now c.loop-one.one-index c.one-item.result c.loop-one-test.true c.one-item.is in
      let front = weight_front c.args.set.now (c.loop-one.one-index + 1) in
      let size = c.rdata_len-size.ensures in
      omega (arith, more, front, size),
  λ l. refl,
)

pub returns-then-sum-gt60000 : goal.returns-then-sum-gt60000
returns-then-sum-gt60000 c = (
  λ t.
      let more = weight_more c.args.set.now c.loop-one.one-index c.one-item.result c.loop-one-test.true c.one-item.is in
      let front = weight_front c.args.set.now (c.loop-one.one-index + 1) in
      let size = c.rdata_len-size.ensures in
      omega (arith, more, front, size),
  λ l. refl,
)

pub loop-one-preserved : goal.loop-one-preserved
loop-one-preserved c =
    let more = weight_more c.args.set.now c.loop-one.one-index c.one-item.result c.loop-one-test.true c.one-item.is in
    let size = c.rdata_len-size.ensures in
    record { sum = omega (arith, more, size); few = omega arith }
