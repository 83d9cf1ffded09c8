use Rattle.std.proofs.Common.{◌≡◌, [], ◌++◌, take, get_or, codes}
use Rattle.std.specs.List.{flat_map}
use Rattle.rdata_field.specs.Strings.{quoted}
use Rattle.zone_text.proofs.written.append_strings.Given as goal

abbrev pub invariant-loop-string : goal.invariant-loop-string
invariant-loop-string l = l.out ≡ l.fn.out ++ (quoted (get_or l.strings 0 []) ++ flat_map (λ string. codes " " ++ quoted string) (take l.string-index l.rest))
