-- Which of its two fields a rule has, and which its flags ask for (RFC 3403, section 4.1).
use Rattle.std.specs.Prelude.{◌≡◌, ◌≢◌, ◌⊎◌, Bool, true, []}
use Rattle.naptr_rule.specs.declared.rule.Naptr.{Naptr}
use Rattle.service_field.specs.declared.kind.Kind.{Kind}
use Rattle.service_field.specs.declared.kind.Kind.TheVariants as kind

-- REGEXP alone is there, or REPLACEMENT alone (RFC 3403, 4.1)
abbrev pub HasRegexp : Naptr → Type 0
HasRegexp rule = (rule.regexp ≢ []) × (rule.replacement ≡ [])

abbrev pub HasReplacement : Naptr → Type 0
HasReplacement rule = (rule.regexp ≡ []) × (rule.replacement ≢ [])

-- which of the two a rule has by the kind of its flags (RFC 3403, 4.1); one that is not terminal has REGEXP only where the
-- application allows it
abbrev pub HasFields : Kind → (by_regexp : Bool) → Naptr → Type 0
HasFields kind.Step by_regexp rule = HasReplacement rule ⊎ ((by_regexp ≡ true) × HasRegexp rule)
HasFields kind.TerminalUri by_regexp rule = HasRegexp rule
HasFields (kind.TerminalName letter) by_regexp rule = HasReplacement rule
HasFields kind.Unknown by_regexp rule = ⊥
