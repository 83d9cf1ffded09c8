-- What a rule is asked for holds, or does not.
use Rattle.std.proofs.Common.{◌≡◌, ◌⊎◌, inl, inr, ℕ, ◌<◌, ◌≤◌, ◌==◌, Bool, true, false, not, List, [], ◌∷◌, ◌++◌}
use Rattle.std.proofs.Common.{length, refl, ap, subst, arith}
use Rattle.std.proofs.lemmas.Bool.Decides.{nat_tests}
use Rattle.std.proofs.lemmas.Bool.{eqb-true}
use Rattle.std.proofs.lemmas.List.Sums.{list_all-from_AllPass, AllPass-from_list_all}
use Rattle.std.specs.Char.{is_ascii_alphabetic}
use Rattle.std.specs.List.{AllPass, list_all}
use Rattle.naptr_data.proofs.DecideLemmas.{Either}
use Rattle.naptr_rule.specs.declared.rule.Naptr.{Naptr}
use Rattle.rule_check.specs.Fields.{HasRegexp, HasReplacement}
use Rattle.rule_check.specs.Uris.{IsScheme, IsUri, is_scheme_byte, is_visible}
use Rattle.rule_check.proofs.UriLemmas.{IsRest, uri_cut, uri_made, uri_none}

-- both of two facts, or not
pub both : {P Q : Type 0} → Either P → Either Q → Either (P × Q)
both (inl p) (inl q) = inl (p, q)
both (inl p) (inr not_q) = inr (λ h. not_q h.1)
both (inr not_p) q = inr (λ h. not_p h.0)

-- one of two facts, or neither
pub one_of : {P Q : Type 0} → Either P → Either Q → Either (P ⊎ Q)
one_of (inl p) q = inl (inl p)
one_of (inr not_p) (inl q) = inl (inr q)
one_of {P} {Q} (inr not_p) (inr not_q) = inr neither
  where
    neither : P ⊎ Q → ⊥
    neither (inl p) = not_p p
    neither (inr q) = not_q q

pub opposite : {P : Type 0} → Either P → Either (P → ⊥)
opposite (inl p) = inr (λ h. h p)
opposite (inr not_p) = inl not_p

pub is_true : (t : Bool) → Either (t ≡ true)
is_true true = inl refl
is_true false = inr (λ e. cc)

pub is_empty : {X : Type 0} → (xs : List X) → Either (xs ≡ [])
is_empty [] = inl refl
is_empty (x ∷ xs) = inr (λ e. cc)

pub less_or_not : (n m : ℕ) → Either (n < m)
less_or_not n m = grind (arith, nat_tests)

pub at_most_or_not : (n m : ℕ) → Either (n ≤ m)
at_most_or_not n m = grind (arith, nat_tests)

pub all_pass : {X : Type 0} → (p : X → Bool) (xs : List X) → Either (AllPass p xs)
all_pass p xs = by (is_true (list_all p xs))
  where
    by : Either (list_all p xs ≡ true) → Either (AllPass p xs)
    by (inl e) = inl (AllPass-from_list_all p xs e)
    by (inr no_all) = inr (λ h. no_all (list_all-from_AllPass p xs h))

-- bytes are cut at a first colon, or have none
abbrev pub HasColon : List ℕ → Type 0
HasColon bytes = (front back : List ℕ) × (bytes ≡ front ++ 58 ∷ back) × (list_all (λ b. not (b == 58)) front ≡ true)

pub cut_or_plain : (bytes : List ℕ) → HasColon bytes ⊎ (list_all (λ b. not (b == 58)) bytes ≡ true)
cut_or_plain [] = inr refl
cut_or_plain (b ∷ bytes) = by (b == 58) refl (cut_or_plain bytes)
  where
    by : (t : Bool) → (b == 58) ≡ t → HasColon bytes ⊎ (list_all (λ b. not (b == 58)) bytes ≡ true)
        → HasColon (b ∷ bytes) ⊎ (list_all (λ b. not (b == 58)) (b ∷ bytes) ≡ true)
    by true e h = inl ([], bytes, ap (λ c. c ∷ bytes) (eqb-true b 58 e), refl)
    by false e (inl (front, back, is, plain)) = inl (b ∷ front, back, ap (λ r. b ∷ r) is, rw (e, plain) refl)
    by false e (inr plain) = inr (rw (e, plain) refl)

pub scheme_or_not : (bytes : List ℕ) → Either (IsScheme bytes)
scheme_or_not [] = inr none
  where
    none : IsScheme [] → ⊥
    none (first, rest, is, letter, all) = cc
scheme_or_not (b ∷ bytes) = by (is_true (is_ascii_alphabetic b)) (all_pass is_scheme_byte bytes)
  where
    same : (first : ℕ) (rest : List ℕ) → b ∷ bytes ≡ first ∷ rest → (first ≡ b) × (rest ≡ bytes)
    same first rest e = (cc, cc)

    letter_of : IsScheme (b ∷ bytes) → is_ascii_alphabetic b ≡ true
    letter_of (first, rest, is, letter, all) = subst (λ x. is_ascii_alphabetic x ≡ true) (same first rest is).0 letter

    all_of : IsScheme (b ∷ bytes) → AllPass is_scheme_byte bytes
    all_of (first, rest, is, letter, all) = subst (λ x. AllPass is_scheme_byte x) (same first rest is).1 all

    by : Either (is_ascii_alphabetic b ≡ true) → Either (AllPass is_scheme_byte bytes) → Either (IsScheme (b ∷ bytes))
    by (inl letter) (inl all) = inl (b, bytes, refl, letter, all)
    by (inl letter) (inr no_all) = inr (λ h. no_all (all_of h))
    by (inr no_letter) all = inr (λ h. no_letter (letter_of h))

pub uri_or_not : (bytes : List ℕ) → Either (IsUri bytes)
uri_or_not bytes = by (cut_or_plain bytes)
  where
    halves : (front back : List ℕ) → bytes ≡ front ++ 58 ∷ back → list_all (λ b. not (b == 58)) front ≡ true
        → Either (IsScheme front × IsRest back) → Either (IsUri bytes)
    halves front back is plain (inl (scheme, rest)) = inl (uri_made bytes front back is scheme rest)
    halves front back is plain (inr no_parts) =
        inr (λ u. no_parts (uri_cut bytes front back is (AllPass-from_list_all (λ b. not (b == 58)) front plain) u))

    by : HasColon bytes ⊎ (list_all (λ b. not (b == 58)) bytes ≡ true) → Either (IsUri bytes)
    by (inl (front, back, is, plain)) =
        halves front back is plain (both (scheme_or_not front) (both (less_or_not 0 (length back)) (all_pass is_visible back)))
    by (inr plain) = inr (λ u. uri_none bytes (AllPass-from_list_all (λ b. not (b == 58)) bytes plain) u)

pub regexp_or_not : (rule : Naptr) → Either (HasRegexp rule)
regexp_or_not rule = both (opposite (is_empty rule.regexp)) (is_empty rule.replacement)

pub replacement_or_not : (rule : Naptr) → Either (HasReplacement rule)
replacement_or_not rule = both (is_empty rule.regexp) (opposite (is_empty rule.replacement))
