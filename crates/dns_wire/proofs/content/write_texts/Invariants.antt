use Rattle.std.proofs.Common.{◌≡◌, ◌++◌, take}
use Rattle.std.specs.List.{AllByRecursion, flat_map}
use Rattle.dns_wire.specs.Ranges.{IsText}
use Rattle.rdata_field.specs.Strings.{string_wire}
use Rattle.dns_wire.proofs.content.write_texts.Given as goal

abbrev pub invariant-loop-text : goal.invariant-loop-text
invariant-loop-text l = (l.out ≡ l.initial.out ++ flat_map string_wire (take l.text-index l.texts)) × AllByRecursion IsText (take l.text-index l.texts)
