-- What provisioning asks of a REGEXP, told by its bytes.
use Rattle.std.proofs.Common.{◌≡◌, ◌≢◌, ◌⊎◌, inl, inr, ℕ, List, [], ◌∷◌, ◌++◌, Bool, true, false, not, ◌==◌, cond}
use Rattle.std.proofs.Common.{Result, Ok, Err, IsTrue, ◌↔◌, ◌<◌, Option, Some, None, arith, refl, sym, ap, subst, ◌∙◌}
use Rattle.std.specs.List.{AllPass, list_all}
use Rattle.std.proofs.lemmas.Bool.{ne_eqb}
use Rattle.std.proofs.lemmas.List.Sums.{list_all-from_AllPass}
use Rattle.naptr_rule.specs.declared.rule.Naptr.{Naptr}
use Rattle.service_field.specs.Applications.{Meaning}
use Rattle.subst_expr.specs.Pieces.{Piece, Plain, Pair, backslash, spelled, IsPart}
use Rattle.subst_expr.specs.Regexp.{IsRegexpFault, IsWellFormed}
use Rattle.subst_expr.specs.Replacement.{HasPieces, is_group_digit}
use Rattle.subst_expr.specs.Split.{Splits}
use Rattle.subst_expr.specs.Laws.{SplitHasPieces, WellFormedHasNoFault}
use Rattle.subst_expr.specs.declared.subst.Subst.{Subst}
use Rattle.subst_expr.specs.declared.subst.SubstFault.{SubstFault}
use Rattle.subst_expr.specs.declared.regexp.RegexpFault.{RegexpFault}
use Rattle.subst_expr.specs.declared.regexp.RegexpFault.TheVariants as regexp
use Rattle.service_field.specs.declared.fault.ServiceFault.{ServiceFault}
use Rattle.service_field.specs.declared.kind.Kind.{Kind}
use Rattle.service_field.specs.declared.kind.Kind.TheVariants as kind
use Rattle.rule_check.specs.Checking.{IsFaultOfRegexp, IsUriFault, literal_from, of_regexp}
use Rattle.rule_check.specs.Fields.{HasFields, HasRegexp, HasReplacement}
use Rattle.rule_check.specs.Uris.{IsScheme}
use Rattle.rule_check.specs.WellFormed.{BeginsWithScheme, GivesScheme, HasFault, HasGoodServices, HasScheme, IsFirstFault, literal_front, number}
use Rattle.rule_check.specs.declared.fault.RuleFault.{RuleFault}
use Rattle.rule_check.specs.declared.fault.RuleFault.TheVariants as fault
use Rattle.rule_check.proofs.UriLemmas.{no_colon, one_cut, scheme_plain}

abbrev plain : ℕ → Bool
plain b = not (b == 58)

-- a text that begins with a scheme and is cut at its first colon has the scheme before it
pub scheme_cut : (text front back : List ℕ) → text ≡ front ++ 58 ∷ back → AllPass plain front → BeginsWithScheme text → IsScheme front
scheme_cut text front back e p (scheme, rest, parts, (first, others, is, letter, all)) =
    let spelt : list_all plain scheme ≡ true = subst (λ b. list_all plain b ≡ true) (sym is) (scheme_plain first others letter all) in
    let cut : (front ≡ scheme) × (back ≡ rest) =
    one_cut front back scheme rest (list_all-from_AllPass plain front p) spelt (sym e ∙ parts) in
    (first, others, cut.0 ∙ is, letter, all)

pub scheme_none : (text : List ℕ) → AllPass plain text → BeginsWithScheme text → ⊥
scheme_none text p (scheme, rest, parts, h) =
    no_colon scheme rest (subst (λ b. list_all plain b ≡ true) parts (list_all-from_AllPass plain text p))

-- the pass over the bytes of a replacement finds the literal text that its pieces begin with
pub literal_spelled : (delim : ℕ) (pieces : List Piece) → IsPart delim pieces → literal_from false (spelled pieces) ≡ literal_front pieces
literal_spelled delim [] part = refl
literal_spelled delim (Plain b ∷ pieces) part =
    ap (λ e. cond e (literal_from true (spelled pieces)) (b ∷ literal_from false (spelled pieces))) (ne_eqb b backslash part.1)
    ∙ ap (λ t. b ∷ t) (literal_spelled delim pieces part.2)
literal_spelled delim (Pair b ∷ pieces) part = ap (λ t. cond (is_group_digit b) [] (b ∷ t)) (literal_spelled delim pieces part)

literal_of : (s : Subst) (pieces : List Piece) → HasPieces s pieces → literal_from false s.repl ≡ literal_front pieces
literal_of s pieces h = ap (λ b. literal_from false b) h.spelt ∙ literal_spelled s.delim pieces h.part

-- a split gives a scheme where the literal text of its bytes begins with one
pub scheme_told : SplitHasPieces → (text : List ℕ) (s : Subst) → Splits text (Ok s) → BeginsWithScheme (literal_from false s.repl) → HasScheme text
scheme_told pieces_of text s split begins = by (pieces_of text s split)
  where
    by : ((pieces : List Piece) × HasPieces s pieces) → HasScheme text
    by (pieces, h) = (s, split, (pieces, h, subst (λ t. BeginsWithScheme t) (literal_of s pieces h) begins))

pub scheme_there : (s r : Subst) → s ≡ r → GivesScheme r → BeginsWithScheme (literal_from false s.repl)
scheme_there s r same (pieces, h, begins) =
    subst (λ t. BeginsWithScheme (literal_from false t.repl)) (sym same) (subst (λ t. BeginsWithScheme t) (sym (literal_of r pieces h)) begins)

pub same_of : (s r : Subst) → ◌≡◌ {A = Result Subst SubstFault} (Ok s) (Ok r) → s ≡ r
same_of s r e = cc

-- .. and nowhere else
pub scheme_iff : SplitHasPieces → (text : List ℕ) (s : Subst) (t : Bool) → Splits text (Ok s)
    → ((other : Result Subst SubstFault) → Splits text other → Ok s ≡ other)
    → (IsTrue t ↔ BeginsWithScheme (literal_from false s.repl)) → IsTrue t ↔ HasScheme text
scheme_iff pieces_of text s t split only iff = (λ h. scheme_told pieces_of text s split (iff.0 h), back)
  where
    back : HasScheme text → IsTrue t
    back (r, other, gives) = iff.1 (scheme_there s r (same_of s r (only (Ok r) other)) gives)

pub no_scheme : (text : List ℕ) (e : SubstFault) → ((other : Result Subst SubstFault) → Splits text other → Err e ≡ other) → HasScheme text → ⊥
no_scheme text e only (r, other, gives) = let same : Err e ≡ Ok r = only (Ok r) other in cc

-- a fault of a REGEXP that is there is one of its rule
pub regexp_err : (m : Meaning) (rule : Naptr) (why : RegexpFault) → rule.regexp ≢ [] → IsRegexpFault rule.regexp why → IsFaultOfRegexp m rule (of_regexp why)
regexp_err m rule (regexp.Split e) some h = inr (regexp.Split e, refl, (some, (λ same. cc), h))
regexp_err m rule (regexp.Ere e) some h = inr (regexp.Ere e, refl, (some, (λ same. cc), h))
regexp_err m rule (regexp.NoGroup at) some h = inr (regexp.NoGroup at, refl, (some, (λ same. cc), h))
regexp_err m rule regexp.Memory some h = inl refl

-- a rule with the field that its flags ask for has one of the two
one_field : (k : Kind) (b : Bool) (rule : Naptr) → HasFields k b rule → HasRegexp rule ⊎ HasReplacement rule
one_field kind.Step b rule (inl h) = inr h
one_field kind.Step b rule (inr (t, h)) = inl h
one_field kind.TerminalUri b rule h = inl h
one_field (kind.TerminalName letter) b rule h = inr h
one_field kind.Unknown b rule h = absurd h

not_both : (m : Meaning) (rule : Naptr) → HasRegexp rule ⊎ HasReplacement rule → HasFault m rule fault.BothFields → ⊥
not_both m rule (inl (some, root)) (r, s) = s root
not_both m rule (inr (none, some)) (r, s) = r none

not_none : (m : Meaning) (rule : Naptr) → HasRegexp rule ⊎ HasReplacement rule → HasFault m rule fault.NoField → ⊥
not_none m rule (inl (some, root)) (r, s) = some r
not_none m rule (inr (none, some)) (r, s) = some s

good_services : (m : Meaning) (rule : Naptr) → HasGoodServices m rule → (why : ServiceFault) → HasFault m rule (fault.Services why) → ⊥
good_services m rule (inl none) why (some, other) = let x : None ≡ Some why = sym none ∙ some in cc
good_services m rule (inr step) why (some, other) = other step

good_regexp : WellFormedHasNoFault → (m : Meaning) (rule : Naptr) → (rule.regexp ≡ []) ⊎ IsWellFormed rule.regexp → (why : RegexpFault)
    → HasFault m rule (fault.Regexp why) → ⊥
good_regexp law m rule (inl none) why (some, other, h) = some none
good_regexp law m rule (inr formed) why (some, other, h) = other (law rule.regexp why formed h)

-- a rule that passes the first tests has none of the faults before those of its services, of its REGEXP, and of its URI
pub before_services : (m : Meaning) (rule : Naptr) → HasFields (m.kind rule.flags) m.steps_by_regexp rule
    → (e : RuleFault) → number e < 5 → HasFault m rule e → ⊥
before_services m rule fields fault.UnknownFlags less h = subst (λ k. HasFields k m.steps_by_regexp rule) h fields
before_services m rule fields fault.BothFields less h = not_both m rule (one_field (m.kind rule.flags) m.steps_by_regexp rule fields) h
before_services m rule fields fault.NoField less h = not_none m rule (one_field (m.kind rule.flags) m.steps_by_regexp rule fields) h
before_services m rule fields fault.WrongField less h = h fields
before_services m rule fields e less h = absurd (omega (arith, less))

pub before_regexp : (m : Meaning) (rule : Naptr) → HasFields (m.kind rule.flags) m.steps_by_regexp rule → HasGoodServices m rule
    → (e : RuleFault) → number e < 6 → HasFault m rule e → ⊥
before_regexp m rule fields services (fault.Services why) less h = good_services m rule services why h
before_regexp m rule fields services e less h = before_services m rule fields e (omega (arith, less)) h

pub no_earlier : WellFormedHasNoFault → (m : Meaning) (rule : Naptr) → HasFields (m.kind rule.flags) m.steps_by_regexp rule
    → HasGoodServices m rule → (rule.regexp ≡ []) ⊎ IsWellFormed rule.regexp → (e : RuleFault) → number e < 7 → HasFault m rule e → ⊥
no_earlier law m rule fields services regexp (fault.Regexp why) less h = good_regexp law m rule regexp why h
no_earlier law m rule fields services regexp e less h = before_regexp m rule fields services e (omega (arith, less)) h

-- and none before the second of its URI where it has not the first
no_earlier_but : (m : Meaning) (rule : Naptr) → ((e : RuleFault) → number e < 7 → HasFault m rule e → ⊥) → (HasFault m rule fault.NoScheme → ⊥)
    → (e : RuleFault) → number e < 8 → HasFault m rule e → ⊥
no_earlier_but m rule none one fault.NoScheme less h = one h
no_earlier_but m rule none one e less h = none e (omega (arith, less)) h

pub uri_first : WellFormedHasNoFault → (m : Meaning) (rule : Naptr) (f : RuleFault) → HasFields (m.kind rule.flags) m.steps_by_regexp rule
    → HasGoodServices m rule → (rule.regexp ≡ []) ⊎ IsWellFormed rule.regexp → IsUriFault m rule f → IsFirstFault m rule f
uri_first law m rule f fields services regexp (inl (is, h)) =
    subst (λ g. IsFirstFault m rule g) (sym is) (record { here = h; first = no_earlier law m rule fields services regexp })
uri_first law m rule f fields services regexp (inr (is, one, h)) =
    subst (λ g. IsFirstFault m rule g) (sym is) (record { here = h; first = no_earlier_but m rule (no_earlier law m rule fields services regexp) one })
