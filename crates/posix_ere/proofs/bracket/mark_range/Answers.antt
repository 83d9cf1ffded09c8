use Rattle.std.proofs.Common.{◌≡◌, arith}
use Rattle.posix_ere.specs.Bracket.Item.{range}
use Rattle.posix_ere.proofs.MarksLemmas.{marking_done}
use Rattle.posix_ere.proofs.bracket.mark_range.Goals as goal

pub returns : goal.returns
returns c =
    let i = range c.args.first c.args.last in
    let e : c.loop-byte.byte ≡ 128 = omega arith in
    marking_done i c.args.marks.now c.loop-byte.marks (rw e at c.loop-byte.invariant)
