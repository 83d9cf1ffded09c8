-- A URI is cut at its first colon.
use Rattle.std.proofs.Common.{◌≡◌, ℕ, ◌<◌, List, [], ◌∷◌, ◌++◌, length, Bool, true, false, not, ◌==◌, ◌&&◌, refl, sym, ap, subst, ◌∙◌}
use Rattle.std.specs.Char.{is_ascii_alphabetic}
use Rattle.std.specs.List.{AllPass, list_all}
use Rattle.std.proofs.lemmas.Bool.{eqb-true}
use Rattle.std.proofs.lemmas.List.Sums.{list_all-from_AllPass}
use Rattle.rule_check.specs.Uris.{IsScheme, IsUri, is_scheme_byte, is_visible}

-- a byte that is no colon
abbrev plain : ℕ → Bool
plain b = not (b == 58)

both_true : (a b : Bool) → (a && b) ≡ true → (a ≡ true) × (b ≡ true)
both_true true b h = (refl, h)
both_true false b h = cc

and_true : (a b : Bool) → a ≡ true → b ≡ true → (a && b) ≡ true
and_true true b h k = k
and_true false b h k = cc

-- a byte that passes a test which no colon passes is no colon
apart : (p : ℕ → Bool) → p 58 ≡ false → (b : ℕ) → p b ≡ true → plain b ≡ true
apart p n b h = by (b == 58) refl
  where
    by : (t : Bool) → (b == 58) ≡ t → not t ≡ true
    by true e =
        let same : b ≡ 58 = eqb-true b 58 e in
        let passes : p 58 ≡ true = subst (λ x. p x ≡ true) same h in
        cc
    by false e = refl

all_plain : (bytes : List ℕ) → list_all is_scheme_byte bytes ≡ true → list_all plain bytes ≡ true
all_plain [] h = refl
all_plain (b ∷ bytes) h =
    let parts : (is_scheme_byte b ≡ true) × (list_all is_scheme_byte bytes ≡ true) = both_true (is_scheme_byte b) (list_all is_scheme_byte bytes) h in
    and_true (plain b) (list_all plain bytes) (apart is_scheme_byte refl b parts.0) (all_plain bytes parts.1)

-- bytes with a colon among them are not free of it
pub no_colon : (xs ys : List ℕ) → list_all plain (xs ++ 58 ∷ ys) ≡ true → ⊥
no_colon [] ys h = cc
no_colon (x ∷ xs) ys h = no_colon xs ys (both_true (plain x) (list_all plain (xs ++ 58 ∷ ys)) h).1

-- bytes are cut at their first colon in one way
pub one_cut : (xs ys us vs : List ℕ) → list_all plain xs ≡ true → list_all plain us ≡ true → xs ++ 58 ∷ ys ≡ us ++ 58 ∷ vs → (xs ≡ us) × (ys ≡ vs)
one_cut [] ys [] vs p q e = (refl, cc)
one_cut [] ys (u ∷ us) vs p q e =
    let same : u ≡ 58 = cc in
    absurd (no_colon [] us (subst (λ b. list_all plain (b ∷ us) ≡ true) same q))
one_cut (x ∷ xs) ys [] vs p q e =
    let same : x ≡ 58 = cc in
    absurd (no_colon [] xs (subst (λ b. list_all plain (b ∷ xs) ≡ true) same p))
one_cut (x ∷ xs) ys (u ∷ us) vs p q e =
    let same : x ≡ u = cc in
    let rest : xs ++ 58 ∷ ys ≡ us ++ 58 ∷ vs = cc in
    let cut : (xs ≡ us) × (ys ≡ vs) = one_cut xs ys us vs (both_true (plain x) (list_all plain xs) p).1 (both_true (plain u) (list_all plain us) q).1 rest in
    (cc, cut.1)

-- what stands after the colon
abbrev pub IsRest : List ℕ → Type 0
IsRest bytes = (0 < length bytes) × AllPass is_visible bytes

pub scheme_plain : (u : ℕ) (us : List ℕ) → is_ascii_alphabetic u ≡ true → AllPass is_scheme_byte us → list_all plain (u ∷ us) ≡ true
scheme_plain u us h k =
    and_true (plain u) (list_all plain us) (apart is_ascii_alphabetic refl u h) (all_plain us (list_all-from_AllPass is_scheme_byte us k))

-- a URI that is cut at its first colon has a scheme and a rest
pub uri_cut : (bytes front back : List ℕ) → bytes ≡ front ++ 58 ∷ back → AllPass (λ b. not (b == 58)) front → IsUri bytes → IsScheme front × IsRest back
uri_cut bytes front back e p u =
    let cut : (front ≡ u.first ∷ u.scheme) × (back ≡ u.rest) =
    one_cut front back (u.first ∷ u.scheme) u.rest (list_all-from_AllPass plain front p)
    (scheme_plain u.first u.scheme u.letter u.scheme_bytes) (sym e ∙ u.parts) in (
      (u.first, u.scheme, cut.0, u.letter, u.scheme_bytes),
      (subst (λ r. 0 < length r) (sym cut.1) u.some, subst (λ r. AllPass is_visible r) (sym cut.1) u.visible),
    )

-- a scheme and a rest make a URI
pub uri_made : (bytes front back : List ℕ) → bytes ≡ front ++ 58 ∷ back → IsScheme front → IsRest back → IsUri bytes
uri_made bytes front back e (first, scheme, is, letter, all) (some, visible) = record {
  first = first;
  scheme = scheme;
  rest = back;
  parts = e ∙ ap (λ f. f ++ 58 ∷ back) is;
  letter = letter;
  scheme_bytes = all;
  some = some;
  visible = visible;
}

-- bytes without a colon are no URI
pub uri_none : (bytes : List ℕ) → AllPass (λ b. not (b == 58)) bytes → IsUri bytes → ⊥
uri_none bytes p u =
    no_colon (u.first ∷ u.scheme) u.rest (subst (λ b. list_all plain b ≡ true) u.parts (list_all-from_AllPass plain bytes p))
