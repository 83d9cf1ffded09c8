-- The steps of the check of a rule, for private functions alone (this project's own).
use Rattle.std.specs.Prelude.{◌≡◌, ◌⊎◌, ℕ, ◌==◌, Bool, true, false, cond, List, [], ◌∷◌}
use Rattle.naptr_rule.specs.declared.rule.Naptr.{Naptr}
use Rattle.service_field.specs.Applications.{Meaning}
use Rattle.service_field.specs.declared.kind.Kind.TheVariants as kind
use Rattle.subst_expr.specs.Pieces.{backslash}
use Rattle.subst_expr.specs.Replacement.{is_group_digit}
use Rattle.subst_expr.specs.declared.regexp.RegexpFault.{RegexpFault}
use Rattle.subst_expr.specs.declared.regexp.RegexpFault.TheVariants as regexp
use Rattle.rule_check.specs.WellFormed.{HasFault, HasScheme, HasWhole}
use Rattle.rule_check.specs.declared.fault.RuleFault.{RuleFault}
use Rattle.rule_check.specs.declared.fault.RuleFault.TheVariants as fault

-- the fault of a rule that a fault of its REGEXP is
abbrev pub of_regexp : RegexpFault → RuleFault
of_regexp (regexp.Split why) = fault.Regexp (regexp.Split why)
of_regexp (regexp.Ere why) = fault.Regexp (regexp.Ere why)
of_regexp (regexp.NoGroup at) = fault.Regexp (regexp.NoGroup at)
of_regexp regexp.Memory = fault.Memory

-- the literal text that the bytes of a replacement begin with; a byte is escaped where the byte before it begins a pair
abbrev pub literal_from : Bool → List ℕ → List ℕ
literal_from escaped [] = []
literal_from true (b ∷ rest) = cond (is_group_digit b) [] (b ∷ literal_from false rest)
literal_from false (b ∷ rest) = cond (b == backslash) (literal_from true rest) (b ∷ literal_from false rest)

-- the fault of a REGEXP that is there
abbrev pub IsFaultOfRegexp : Meaning → Naptr → RuleFault → Type 0
IsFaultOfRegexp m rule f = (f ≡ fault.Memory) ⊎ ((why : RegexpFault) × (f ≡ fault.Regexp why) × HasFault m rule (fault.Regexp why))

-- what is asked of the REGEXP of a rule that gives a URI
pub record HasUriForm (m : Meaning) (rule : Naptr) : Type 0 where
  pub scheme : m.kind rule.flags ≡ kind.TerminalUri → HasScheme rule.regexp
  pub whole : m.kind rule.flags ≡ kind.TerminalUri → m.wants_whole ≡ true → HasWhole rule.regexp

-- the first of the two faults
abbrev pub IsUriFault : Meaning → Naptr → RuleFault → Type 0
IsUriFault m rule f =
    ((f ≡ fault.NoScheme) × HasFault m rule fault.NoScheme)
    ⊎ ((f ≡ fault.UriForm) × ¬ HasFault m rule fault.NoScheme × HasFault m rule fault.UriForm)
