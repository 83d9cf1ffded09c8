-- NAPTR rules and their RDATA (RFC 3403, section 4.1).
use Rattle.std.specs.Prelude.{ℕ, ◌<◌, ◌≤◌, ◌^◌, List, ◌++◌, length}
use Rattle.std.specs.Int.{w16, to_be_bytes}
use Rattle.dns_name.specs.Name.{IsName, wire_of}
use Rattle.rdata_field.specs.Strings.{string_wire}
use Rattle.naptr_rule.specs.declared.rule.Naptr.{Naptr}

-- the RDATA of a rule: two numbers of 16 bits, the high byte first, three character-strings, and a name without
-- compression (RFC 3403, 4.1)
abbrev pub rdata : Naptr → List ℕ
rdata rule =
    to_be_bytes w16 rule.order ++ to_be_bytes w16 rule.preference ++ string_wire rule.flags ++ string_wire rule.services
    ++ string_wire rule.regexp ++ wire_of rule.replacement

-- the fields of a rule: numbers of 16 bits, texts of at most 255 bytes, a name
pub record IsRule (rule : Naptr) : Type 0 where
  pub order : rule.order < 2 ^ 16
  pub preference : rule.preference < 2 ^ 16
  pub flags : length rule.flags ≤ 255
  pub services : length rule.services ≤ 255
  pub regexp : length rule.regexp ≤ 255
  pub replacement : IsName rule.replacement
