use Rattle.std.proofs.Common.{◌-◌, length}
use Rattle.zone_text.specs.Zone.{most_bytes}
use Rattle.enum_top.proofs.FileLemmas.{IsFed}
use Rattle.enum_top.proofs.zone_file.read_rest.Given as goal

abbrev pub invariant-pieces : goal.invariant-pieces
invariant-pieces g l = IsFed (g.S.Shelf.state l.initial.shelf) (g.S.Shelf.state l.shelf) l.reader

abbrev pub decreases-pieces : goal.decreases-pieces
decreases-pieces g l = most_bytes - length l.reader.text
