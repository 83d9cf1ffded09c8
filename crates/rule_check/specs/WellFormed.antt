-- Which rules provisioning takes, and the first fault of the others (RFC 3403, section 4.1; RFC 4848, section 2.2; that a
-- REGEXP that gives a URI begins its output with a literal scheme, and the order of the faults, are this project's own).
use Rattle.std.specs.Prelude.{◌≡◌, ◌≢◌, ◌⊎◌, ℕ, ◌<◌, true, if◌then◌else◌, List, [], ◌∷◌, ◌++◌, codes, Some, None, Ok}
use Rattle.naptr_rule.specs.declared.rule.Naptr.{Naptr}
use Rattle.service_field.specs.Applications.{Meaning}
use Rattle.service_field.specs.declared.kind.Kind.TheVariants as kind
use Rattle.subst_expr.specs.Pieces.{Piece, Plain, Pair}
use Rattle.subst_expr.specs.Regexp.{IsWellFormed, IsRegexpFault}
use Rattle.subst_expr.specs.Replacement.{HasPieces, is_group_digit}
use Rattle.subst_expr.specs.Split.{Splits}
use Rattle.subst_expr.specs.declared.regexp.RegexpFault.TheVariants as regexp
use Rattle.subst_expr.specs.declared.subst.Subst.{Subst}
use Rattle.rule_check.specs.Fields.{HasFields}
use Rattle.rule_check.specs.Uris.{IsScheme}
use Rattle.rule_check.specs.declared.fault.RuleFault.{RuleFault}
use Rattle.rule_check.specs.declared.fault.RuleFault.TheVariants as fault

-- the literal text that a replacement begins with, up to its first back reference; an escaped byte stands for itself
abbrev pub literal_front : List Piece → List ℕ
literal_front [] = []
literal_front (Plain b ∷ pieces) = b ∷ literal_front pieces
literal_front (Pair b ∷ pieces) = if is_group_digit b then [] else b ∷ literal_front pieces

-- a text begins with a scheme and a colon
abbrev pub BeginsWithScheme : List ℕ → Type 0
BeginsWithScheme text = (scheme : List ℕ) × (rest : List ℕ) × (text ≡ scheme ++ 58 ∷ rest) × IsScheme scheme

-- the replacement begins with a scheme and a colon as literal text
abbrev pub GivesScheme : Subst → Type 0
GivesScheme s = (pieces : List Piece) × HasPieces s pieces × BeginsWithScheme (literal_front pieces)

abbrev pub HasScheme : List ℕ → Type 0
HasScheme text = (s : Subst) × Splits text (Ok s) × GivesScheme s

-- the expression is one of the two that take the whole string (RFC 4848, 2.2)
abbrev pub TakesWhole : List ℕ → Type 0
TakesWhole ere = (ere ≡ codes ".*") ⊎ (ere ≡ codes "^.*$")

abbrev pub HasWhole : List ℕ → Type 0
HasWhole text = (s : Subst) × Splits text (Ok s) × TakesWhole s.ere

-- services without a fault; a rule that is not terminal may have none
abbrev pub HasGoodServices : Meaning → Naptr → Type 0
HasGoodServices m rule = (m.fault rule.services ≡ None) ⊎ ((m.kind rule.flags ≡ kind.Step) × (rule.services ≡ []))

-- a rule that provisioning takes
pub record IsWellFormedRule (m : Meaning) (rule : Naptr) : Type 0 where
  pub fields : HasFields (m.kind rule.flags) m.steps_by_regexp rule
  pub services : HasGoodServices m rule
  pub regexp : (rule.regexp ≡ []) ⊎ IsWellFormed rule.regexp
  pub scheme : m.kind rule.flags ≡ kind.TerminalUri → HasScheme rule.regexp
  pub whole : m.kind rule.flags ≡ kind.TerminalUri → m.wants_whole ≡ true → HasWhole rule.regexp

-- what each fault says by itself
abbrev pub HasFault : Meaning → Naptr → RuleFault → Type 0
HasFault m rule fault.UnknownFlags = m.kind rule.flags ≡ kind.Unknown
HasFault m rule fault.BothFields = (rule.regexp ≢ []) × (rule.replacement ≢ [])
HasFault m rule fault.NoField = (rule.regexp ≡ []) × (rule.replacement ≡ [])
HasFault m rule fault.WrongField = ¬ HasFields (m.kind rule.flags) m.steps_by_regexp rule
HasFault m rule (fault.Services why) = (m.fault rule.services ≡ Some why) × ¬ ((m.kind rule.flags ≡ kind.Step) × (rule.services ≡ []))
HasFault m rule (fault.Regexp why) = (rule.regexp ≢ []) × (why ≢ regexp.Memory) × IsRegexpFault rule.regexp why
HasFault m rule fault.NoScheme = (m.kind rule.flags ≡ kind.TerminalUri) × ¬ HasScheme rule.regexp
HasFault m rule fault.UriForm = (m.wants_whole ≡ true) × (m.kind rule.flags ≡ kind.TerminalUri) × ¬ HasWhole rule.regexp
HasFault m rule fault.Memory = ⊥

-- the order of the faults
abbrev pub number : RuleFault → ℕ
number fault.UnknownFlags = 1
number fault.BothFields = 2
number fault.NoField = 3
number fault.WrongField = 4
number (fault.Services why) = 5
number (fault.Regexp why) = 6
number fault.NoScheme = 7
number fault.UriForm = 8
number fault.Memory = 9

-- the first fault of a rule in that order
pub record IsFirstFault (m : Meaning) (rule : Naptr) (f : RuleFault) : Type 0 where
  pub here : HasFault m rule f
  pub first : (earlier : RuleFault) → number earlier < number f → ¬ HasFault m rule earlier

-- a rule that is well formed has no fault, and any other has a first one, which is one
abbrev pub WellFormedOrFault : Type 0
WellFormedOrFault = (m : Meaning) (rule : Naptr) → IsWellFormedRule m rule ⊎ ((f : RuleFault) × IsFirstFault m rule f)

abbrev pub WellFormedHasNoRuleFault : Type 0
WellFormedHasNoRuleFault = (m : Meaning) (rule : Naptr) (f : RuleFault) → IsWellFormedRule m rule → ¬ HasFault m rule f

abbrev pub OneRuleFault : Type 0
OneRuleFault = (m : Meaning) (rule : Naptr) (one other : RuleFault) → IsFirstFault m rule one → IsFirstFault m rule other → one ≡ other
