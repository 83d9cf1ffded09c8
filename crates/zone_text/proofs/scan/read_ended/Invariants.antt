use Rattle.std.proofs.Common.{◌-◌, length, take, drop}
use Rattle.zone_text.specs.Read.{seen}
use Rattle.zone_text.proofs.ScanLemmas.{Scanned}
use Rattle.zone_text.proofs.scan.read_ended.Given as goal

-- what is left gives what everything from the place on gives
abbrev pub invariant-loop-here : goal.invariant-loop-here
invariant-loop-here l =
    Scanned l.text (seen l.fn.progress) (take l.fn.at l.text) l.fn.spot (drop l.fn.at l.text) (seen l.progress) l.from l.spot l.here

abbrev pub decreases-loop-here : goal.decreases-loop-here
decreases-loop-here l = length l.text - l.here
