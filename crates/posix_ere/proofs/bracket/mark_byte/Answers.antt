use Rattle.std.proofs.Common.{rules}
use Rattle.posix_ere.proofs.MarksLemmas.{marked_single, marked_beyond}
use Rattle.posix_ere.proofs.bracket.mark_byte.Goals as goal

pub returns-then-byte-lt128 : goal.returns-then-byte-lt128
returns-then-byte-lt128 c = marked_single c.args.byte c.args.marks.now (search rules) c.if-byte-lt128.true

pub returns-else-byte-lt128 : goal.returns-else-byte-lt128
returns-else-byte-lt128 c = marked_beyond c.args.byte c.args.marks.now (search rules) c.if-byte-lt128.false
