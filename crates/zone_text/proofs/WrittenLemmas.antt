-- Items that are written one after another.
use Rattle.std.proofs.Common.{◌≡◌, refl, ℕ, zero, suc, ◌+◌, ◌-◌, ◌≤◌, List, [], ◌∷◌, ◌++◌, length, get_or, take, drop, codes, ap, ◌∙◌, arith}
use Rattle.std.proofs.lemmas.List.{take_all}
use Rattle.std.proofs.Math.Seq.{take-append_seam}
use Rattle.std.specs.List.{flat_map}
use Rattle.std.specs.Net.Addr.{segments_of}
use Rattle.std.specs.Net.Text.{hex, groups_text}
use Rattle.rdata_field.specs.Strings.{quoted}
use Rattle.zone_text.specs.FieldsText.{strings_text}

-- what was held stands at the front of what it was made longer to
pub held_front : (held more whole : List ℕ) → whole ≡ held ++ more → take (length held) whole ≡ held
held_front held more whole is = ap (take (length held)) is ∙ take-append_seam held more

-- the items after the first, taken past their end
all_after : {A : Type 0} (rest : List A) (most at : ℕ) → length rest ≤ most → length (take most rest) ≤ at → take at (take most rest) ≡ rest
all_after rest most at fits end = take_all at _ end ∙ take_all most rest fits

-- all strings were written
pub strings_end : (strings : List (List ℕ)) (at : ℕ) → 1 ≤ length strings → length (take (length strings - 1) (drop 1 strings)) ≤ at
    → quoted (get_or strings 0 [])
    ++ flat_map (λ string. codes " " ++ quoted string) (take at (take (length strings - 1) (drop 1 strings)))
    ≡ strings_text strings
strings_end [] at some end = absurd (omega arith)
strings_end (first ∷ rest) at some end =
    ap (λ l. quoted first ++ flat_map (λ string. codes " " ++ quoted string) l) (all_after rest (length (first ∷ rest) - 1) at (omega arith) end)

-- two bytes make one group
pub length-segments : (count : ℕ) (octets : List ℕ) → length octets ≡ count + count → length (segments_of octets) ≡ count
length-segments zero [] two = refl
length-segments zero (a ∷ octets) two = absurd (omega arith)
length-segments (suc count) [] two = absurd (omega arith)
length-segments (suc count) (a ∷ []) two = absurd (omega arith)
length-segments (suc count) (a ∷ b ∷ octets) two = ap suc (length-segments count octets (omega arith))

-- all groups were written
pub groups_end : (groups : List ℕ) (at : ℕ) → length groups ≡ 8 → length (take 7 (drop 1 groups)) ≤ at
    → hex (get_or groups 0 0) ++ flat_map (λ group. codes ":" ++ hex group) (take at (take 7 (drop 1 groups))) ≡ groups_text groups
groups_end [] at eight end = absurd (omega arith)
groups_end (first ∷ rest) at eight end = ap (λ l. hex first ++ flat_map (λ group. codes ":" ++ hex group) l) (all_after rest 7 at (omega arith) end)
