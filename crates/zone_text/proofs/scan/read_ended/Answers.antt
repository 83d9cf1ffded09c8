use Rattle.std.proofs.Common.{◌∙◌, ◌+◌, take, drop, sym, ap}
use Rattle.zone_text.specs.Read.{seen}
use Rattle.zone_text.specs.Reading.{step}
use Rattle.zone_text.proofs.ScanLemmas.{Scanned, scan_begins, scan_goes_on, scan_ends, scan_turns}
use Rattle.zone_text.proofs.scan.read_ended.Goals.{then-is_end+in_ok-read, else-is_end}
use Rattle.zone_text.proofs.scan.read_ended.Goals as goal

pub loop-here-init : goal.loop-here-init
loop-here-init c =
    scan_turns _ _ _ _ _ _ _ _ c.args.at _
    (scan_begins c.args.text.now
    (seen c.args.progress.now) c.args.at c.args.spot c.requires) c.next_turn-here.ensures.value
    c.next_turn-here.ensures.within

-- after the byte at which the turn begins
after_byte : (c : goal.After-next_turn-here-in-loop-here)
    → Scanned c.args.text.now (seen c.args.progress.now) (take c.args.at c.args.text.now) c.args.spot
    (drop c.args.at c.args.text.now) (seen c.if-is_end.progress) c.if-is_end.from c.if-is_end.spot
    (c.loop-here.here + 1)
after_byte c = elim c.if-is_end.branch [
  | then-is_end+in_ok-read w ↦ rw (w.progress-is, w.from-is, w.spot-is, w.beginning-spot.ensures)
      (scan_ends _ _ _ _ _ _ _ _ _ _ c.loop-here.invariant c.loop-here-test.true
      (sym c.is_end.ensures ∙ w.if-is_end.true)
      (ap (step (seen c.loop-here.progress)) (sym w.entry_of.ensures) ∙ w.in_ok-read.ensures.ok))
  | else-is_end w ↦ rw (w.progress-is, w.from-is, w.spot-is, w.after-spot.ensures)
      (scan_goes_on _ _ _ _ _ _ _ _ _ c.loop-here.invariant c.loop-here-test.true
      (sym c.is_end.ensures ∙ w.if-is_end.false))
]

pub loop-here-preserved : goal.loop-here-preserved
loop-here-preserved c =
    scan_turns _ _ _ _ _ _ _ _ _ _ (after_byte c) c.next_turn-here-in-loop-here.ensures.value c.next_turn-here-in-loop-here.ensures.within
