use Rattle.std.proofs.Common.{◌≡◌, arith}
use Rattle.posix_ere.specs.Bracket.Item.{members}
use Rattle.posix_ere.proofs.MarksLemmas.{marking_done}
use Rattle.posix_ere.proofs.bracket.mark_class.Goals as goal

pub returns : goal.returns
returns c =
    let i = members c.args.class in
    let e : c.loop-byte.byte ≡ 128 = omega arith in
    marking_done i c.args.marks.now c.loop-byte.marks (rw e at c.loop-byte.invariant)
