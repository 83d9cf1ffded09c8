-- Domains as they are typed (RFC 3958, section 6.1; which texts are taken is this project's own).
use Rattle.std.specs.Prelude.{ℕ, not, ◌==◌, nat_lt, if◌then◌else◌, List, [], length, position, Option, Some, None, Result, Ok, Err}
use Rattle.std.specs.Char.{is_ascii_graphic}
use Rattle.dns_name.specs.Reading.{name_of}
use Rattle.dns_name.specs.declared.fault.NameFault.{NameFault}
use Rattle.snaptr_app.specs.declared.fault.DomainFault.{DomainFault}
use Rattle.snaptr_app.specs.declared.fault.DomainFault.TheVariants.{Empty, TooLong, NotPrintable, BadName}

-- the key of a text: the name that it stands for with the root as origin, or the name's fault (RFC 3958, section 6.2)
abbrev pub key_of : List ℕ → Result (List (List ℕ)) NameFault
key_of text = name_of text (Some [])

-- the place of the first byte that does not print: one outside 0x21 to 0x7E
abbrev pub first_unprinted : List ℕ → Option ℕ
first_unprinted text = position (λ b. not (is_ascii_graphic b)) text

-- the fault of a reading
abbrev pub reading_fault : Result (List (List ℕ)) NameFault → Option DomainFault
reading_fault (Ok key) = None
reading_fault (Err fault) = Some (BadName fault)

-- the fault of a byte that does not print, or else another
abbrev pub unprinted_or : Option ℕ → Option DomainFault → Option DomainFault
unprinted_or None other = other
unprinted_or (Some at) other = Some (NotPrintable at)

-- the fault of a text that is no domain: the first in this order
abbrev pub domain_fault : List ℕ → Option DomainFault
domain_fault text =
    if length text == 0 then Some Empty
    else if nat_lt 255 (length text) then Some TooLong
    else unprinted_or (first_unprinted text) (reading_fault (key_of text))
