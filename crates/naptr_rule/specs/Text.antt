-- How the fields of a rule are written in zone texts (RFC 1035, section 5.1).
use Rattle.std.specs.Prelude.{ℕ, List, ◌++◌, codes, decimal}
use Rattle.dns_name.specs.Text.{text_of}
use Rattle.rdata_field.specs.Strings.{quoted}
use Rattle.naptr_rule.specs.declared.rule.Naptr.{Naptr}

-- the six fields, with one space between them
abbrev pub rule_text : Naptr → List ℕ
rule_text rule =
    decimal rule.order ++ codes " " ++ decimal rule.preference ++ codes " " ++ quoted rule.flags ++ codes " "
    ++ quoted rule.services ++ codes " " ++ quoted rule.regexp ++ codes " " ++ text_of rule.replacement
