use Rattle.std.proofs.Common.{◌≡◌, ◌∙◌, ℕ, ◌<◌, List, [], ◌∷◌, ◌++◌, length, true, refl, ap, inl, inr}
use Rattle.std.proofs.Common.{subst, arith, append_assoc, length-append}
use Rattle.std.specs.Prelude.{◌⊎◌, ⊤, ◌==◌, ◌||◌, not}
use Rattle.std.specs.List.{flat_map}
use Rattle.std.proofs.lemmas.Bool.{cond_both, and_parts, eqb-true}
use Rattle.zone_token.specs.Bytes.{line_feed}
use Rattle.zone_token.specs.Entries.{beginning, after, ends_entry, is_quoted, entries_from, entries_of}
use Rattle.zone_token.specs.declared.spot.Spot.{Spot}

-- the bytes of entries
abbrev bytes_of : List (List ℕ) → List ℕ
bytes_of entries = flat_map (λ entry. entry) entries

-- entries are what they were cut from
cut_is : (begun : List ℕ) (spot : Spot) (text : List ℕ) → bytes_of (entries_from begun spot text) ≡ begun ++ text
cut_is [] spot [] = refl
cut_is (b ∷ begun) spot [] = refl
cut_is begun spot (byte ∷ rest) =
    let P : List (List ℕ) → Type 0 = λ es. bytes_of es ≡ begun ++ byte ∷ rest in
    cond_both (ends_entry spot byte) _ _ P
    (λ _. ap (λ bytes. (begun ++ byte ∷ []) ++ bytes) (cut_is [] beginning rest) ∙ append_assoc begun (byte ∷ []) rest)
    (λ _. cut_is (begun ++ byte ∷ []) (after spot byte) rest ∙ append_assoc begun (byte ∷ []) rest)

pub are_the_text : (text : List ℕ) → bytes_of (entries_of text) ≡ text
are_the_text text = cut_is [] beginning text

-- an entry ends with a line feed
abbrev pub EndsLine : List ℕ → Type 0
EndsLine entry = (bytes : List ℕ) × (entry ≡ bytes ++ line_feed ∷ [])

-- no entry is empty, and each ends with a line feed unless it is the last
abbrev Lined : List (List ℕ) → Type 0
Lined [] = ⊤
Lined (entry ∷ entries) = (0 < length entry) × ((length entries ≡ 0) ⊎ EndsLine entry) × Lined entries

ends_line : (begun : List ℕ) (spot : Spot) (byte : ℕ) → ends_entry spot byte ≡ true → EndsLine (begun ++ byte ∷ [])
ends_line begun spot byte ends =
    let both = and_parts (byte == line_feed) (is_quoted spot.part || not spot.inside) ends in
    (begun, ap (λ b. begun ++ b ∷ []) (eqb-true byte line_feed both.0))

lined : (begun : List ℕ) (spot : Spot) (text : List ℕ) → Lined (entries_from begun spot text)
lined [] spot [] = tt
lined (b ∷ begun) spot [] = (omega arith, inl refl, tt)
lined begun spot (byte ∷ rest) =
    cond_both (ends_entry spot byte) _ _ Lined
    (λ ends. (omega (arith, length-append begun (byte ∷ [])), inr (ends_line begun spot byte ends), lined [] beginning rest))
    (λ _. lined (begun ++ byte ∷ []) (after spot byte) rest)

lined-at : (front back : List (List ℕ)) (entry : List ℕ) → Lined (front ++ entry ∷ back) → (0 < length entry) × ((length back ≡ 0) ⊎ EndsLine entry)
lined-at [] back entry all = (all.0, all.1)
lined-at (first ∷ front) back entry all = lined-at front back entry all.2

pub are_some : (text entry : List ℕ) (front back : List (List ℕ)) → entries_of text ≡ front ++ entry ∷ back → 0 < length entry
are_some text entry front back is = (lined-at front back entry (subst Lined is (lined [] beginning text))).0

pub are_lines : (text entry next : List ℕ) (front back : List (List ℕ)) → entries_of text ≡ front ++ entry ∷ next ∷ back → EndsLine entry
are_lines text entry next front back is = ends (lined-at front (next ∷ back) entry (subst Lined is (lined [] beginning text))).1
  where
    ends : (length (next ∷ back) ≡ 0) ⊎ EndsLine entry → EndsLine entry
    ends (inl none) = absurd (omega (arith, none))
    ends (inr line) = line
