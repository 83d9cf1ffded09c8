use Rattle.std.proofs.Common.{◌≡◌, ◌≤◌, ◌+◌, length}
use Rattle.service_field.specs.Faults.{form_fault}
use Rattle.service_field.proofs.form.Form.fault.Given as goal

-- the first fault of what is left is that of the whole
abbrev pub invariant-loop-fault : goal.invariant-loop-fault
invariant-loop-fault l =
    (l.at + length l.rest ≤ l.fn.at + length l.text) × (form_fault l.self l.at l.rest ≡ form_fault l.self l.fn.at l.text)

abbrev pub decreases-loop-fault : goal.decreases-loop-fault
decreases-loop-fault l = length l.rest
