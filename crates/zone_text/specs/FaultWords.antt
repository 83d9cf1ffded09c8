-- How the fault of a zone text is printed (this project's own).
use Rattle.std.specs.Prelude.{ℕ, List, ◌++◌, codes, decimal}
use Rattle.zone_token.specs.FaultWords.{name_of}
use Rattle.zone_text.specs.declared.fault.TextFault.{TextFault}

-- a fault: the line on which the broken entry begins, and the name of the reason
abbrev pub text_fault : TextFault → List ℕ
text_fault fault = decimal fault.line ++ codes " " ++ name_of fault.why
