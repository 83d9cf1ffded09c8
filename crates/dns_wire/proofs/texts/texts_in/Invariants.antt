use Rattle.std.proofs.Common.{◌-◌}
use Rattle.dns_wire.proofs.TextLemmas.{IsReadingTexts}
use Rattle.dns_wire.proofs.texts.texts_in.Given as goal

abbrev pub invariant-texts : goal.invariant-texts
invariant-texts l = IsReadingTexts l.message l.from l.to l.texts l.at

abbrev pub decreases-texts : goal.decreases-texts
decreases-texts l = l.to - l.at
