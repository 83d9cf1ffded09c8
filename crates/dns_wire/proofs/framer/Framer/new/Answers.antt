use Rattle.dns_wire.proofs.FrameLemmas.{IsFrontWhole-new, cut_at-new}
use Rattle.dns_wire.proofs.framer.Framer.new.Goals as goal

pub invariant_of-result : goal.invariant_of-result
invariant_of-result c = rw c.new.ensures IsFrontWhole-new

pub returns : goal.returns
returns c = rw c.new.ensures cut_at-new
