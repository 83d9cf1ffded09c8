use Rattle.std.proofs.Common.{◌≡◌, ◌∙◌, ℕ, zero, suc, ◌+◌, ◌<◌, ◌≤◌, List, [], ◌∷◌, ◌++◌, length, drop, get_or, cond}
use Rattle.std.proofs.Common.{ltb, Bool, true, false, Option, Some, None, refl, sym, ap, arith, append_assoc, add-one}
use Rattle.std.proofs.Common.{length-append}
use Rattle.std.specs.Prelude.{nat_le, if◌then◌else◌, ◌==◌, is_some, position}
use Rattle.std.specs.List.{position_or_len}
use Rattle.std.proofs.lemmas.List.Sums.{fails_before_first}
use Rattle.std.specs.Option.{IfSome, IsNone}
use Rattle.std.proofs.lemmas.List.{append-nil}
use Rattle.std.proofs.lemmas.Bool.{false≢true}
use Rattle.std.proofs.lemmas.Bool.Decides.{nat_tests}
use Rattle.zone_token.specs.Bytes.{backslash, first_byte}
use Rattle.zone_token.specs.Texts.{◌>>=◌, undone_from, string_of}

-- bytes before others, if there are others
abbrev pub bytes_before : List ℕ → Option (List ℕ) → Option (List ℕ)
bytes_before front rest = rest >>= λ bytes. Some (front ++ bytes)

-- at most 255 bytes
abbrev pub if_short : List ℕ → Option (List ℕ)
if_short bytes = if nat_le (length bytes) 255 then Some bytes else None

undone_from-drop : (skipped : ℕ) (text : List ℕ) → undone_from skipped text ≡ undone_from 0 (drop skipped text)
unfolding undone_from
undone_from-drop zero text = refl
undone_from-drop (suc skipped) [] = refl
undone_from-drop (suc skipped) (byte ∷ rest) = undone_from-drop skipped rest

pub before-before : (some more : List ℕ) (rest : Option (List ℕ)) → bytes_before some (bytes_before more rest) ≡ bytes_before (some ++ more) rest
before-before some more None = refl
before-before some more (Some bytes) = ap Some (sym (append_assoc some more bytes))

pub undone-step : (text : List ℕ) (byte more : ℕ) → 0 < length text → first_byte text ≡ Some (byte, more)
    → undone_from 0 text ≡ bytes_before (byte ∷ []) (undone_from 0 (drop (more + 1) text))
unfolding undone_from
undone-step [] byte more some is = absurd (omega arith)
undone-step (b ∷ rest) byte more some is =
    rw is (ap (bytes_before (byte ∷ [])) (undone_from-drop more rest ∙ ap (λ n. undone_from 0 (drop n (b ∷ rest))) (sym (add-one more))))

undone-fault : (text : List ℕ) → 0 < length text → first_byte text ≡ None → undone_from 0 text ≡ None
unfolding undone_from
undone-fault [] some is = absurd (omega arith)
undone-fault (b ∷ rest) some is = rw is refl

undone-end : (text : List ℕ) → length text ≡ 0 → undone_from 0 text ≡ Some []
unfolding undone_from
undone-end [] none = refl
undone-end (b ∷ rest) none = absurd (omega arith)

-- more than 255 bytes are no character-string
not_short : (bytes : List ℕ) → 255 < length bytes → if_short bytes ≡ None
not_short bytes long = grind (arith, nat_tests)

too_many : (front : List ℕ) (rest : Option (List ℕ)) → 255 < length front → (bytes_before front rest >>= if_short) ≡ None
too_many front None long = refl
too_many front (Some bytes) long = not_short (front ++ bytes) (omega (arith, length-append front bytes))

-- the loop over a text: what each of its ends and its step give

pub loop_goes_on : (bytes now : List ℕ) (left rest text : List ℕ) (byte more : ℕ)
    → bytes_before bytes (undone_from 0 left) ≡ undone_from 0 text → 0 < length left
    → first_byte left ≡ Some (byte, more) → now ≡ bytes ++ byte ∷ [] → rest ≡ drop (more + 1) left
    → bytes_before now (undone_from 0 rest) ≡ undone_from 0 text
loop_goes_on bytes now left rest text byte more same some is pushed after =
    rw (pushed, after) (sym (before-before bytes (byte ∷ []) (undone_from 0 (drop (more + 1) left)))
    ∙ ap (bytes_before bytes) (sym (undone-step left byte more some is)) ∙ same)

pub loop_breaks : (bytes left text : List ℕ) → bytes_before bytes (undone_from 0 left) ≡ undone_from 0 text
    → 0 < length left → first_byte left ≡ None → string_of text ≡ None
unfolding string_of
loop_breaks bytes left text same some is = ap (λ o. o >>= if_short) (sym same ∙ ap (bytes_before bytes) (undone-fault left some is))

pub loop_is_full : (bytes left text : List ℕ) (byte more : ℕ)
    → bytes_before bytes (undone_from 0 left) ≡ undone_from 0 text → 0 < length left
    → first_byte left ≡ Some (byte, more) → length bytes ≡ 255 → string_of text ≡ None
unfolding string_of
loop_is_full bytes left text byte more same some is full =
    ap (λ o. o >>= if_short) (sym same ∙ ap (bytes_before bytes) (undone-step left byte more some is)
    ∙ before-before bytes (byte ∷ []) (undone_from 0 (drop (more + 1) left)))
    ∙ too_many (bytes ++ byte ∷ []) (undone_from 0 (drop (more + 1) left)) (omega (arith, length-append bytes (byte ∷ [])))

-- at most 255 bytes are one
is_short : (bytes : List ℕ) → length bytes ≤ 255 → if_short bytes ≡ Some bytes
is_short bytes short = grind (arith, nat_tests)

-- what Text255::from_bytes gives is the character-string
short_is : (bytes : List ℕ) (result : Option (List ℕ)) → length bytes ≤ 255 → (IsNone result → 255 < length bytes)
    → IfSome result (λ text. text ≡ bytes) → result ≡ if_short bytes
short_is bytes None short long is = absurd (omega (arith, long refl))
short_is bytes (Some text) short long is = ap Some is ∙ sym (is_short bytes short)

pub loop_ends : (bytes left text slice : List ℕ) (result : Option (List ℕ))
    → bytes_before bytes (undone_from 0 left) ≡ undone_from 0 text → length left ≡ 0 → slice ≡ bytes
    → length bytes ≤ 255 → IfSome result (λ text. text ≡ slice) → (IsNone result → 255 < length slice)
    → result ≡ string_of text
unfolding string_of
loop_ends bytes left text slice result same none whole short is long =
    short_is slice result (omega (arith, ap length whole)) long is ∙ ap if_short whole
    ∙ ap (λ o. o >>= if_short) (ap Some (sym (append-nil bytes)) ∙ ap (bytes_before bytes) (sym (undone-end left none)) ∙ same)

-- one byte more where there is room
pub room : (bytes now : List ℕ) (byte : ℕ) {full : Bool} → length bytes ≤ 255 → (length bytes ≡ 255 → full ≡ true)
    → full ≡ false → now ≡ bytes ++ byte ∷ [] → length now ≤ 255
room bytes now byte {full} most test fails is =
    let other : length bytes ≡ 255 → ⊥ = λ h. false≢true (sym fails ∙ test h) in
    omega (arith, ap length is, length-append bytes (byte ∷ []), other)

-- a text without a backslash stands for its own bytes
undone-byte : (byte : ℕ) (rest : List ℕ) → (byte == backslash) ≡ false → undone_from 0 (byte ∷ rest) ≡ bytes_before (byte ∷ []) (undone_from 0 rest)
unfolding undone_from
undone-byte byte rest other = rw other refl

undone-plain : (text : List ℕ) → ((k : ℕ) → k < length text → (get_or text k 0 == backslash) ≡ false) → undone_from 0 text ≡ Some text
undone-plain [] each = undone-end [] refl
undone-plain (byte ∷ rest) each =
    undone-byte byte rest (each 0 (omega arith)) ∙ ap (bytes_before (byte ∷ [])) (undone-plain rest (λ k below. each (suc k) (omega arith)))

never-le : (n size : ℕ) → is_some (cond (ltb n size) (Some n) None) ≡ false → size ≤ n
never-le n size is = grind (arith, nat_tests)

-- what Text255::from_bytes gives of a text without a backslash
pub plain_string : (text : List ℕ) (place : Option ℕ) (result : Option (List ℕ))
    → place ≡ position (λ byte. byte == backslash) text → is_some place ≡ false
    → IfSome result (λ string. string ≡ text) → (IsNone result → 255 < length text)
    → (255 < length text → IsNone result) → result ≡ string_of text
unfolding string_of
plain_string text place result is never some none long =
    let least = never-le (position_or_len (λ byte. byte == backslash) text) (length text) (ap is_some (sym is) ∙ never) in
    let whole = undone-plain text (λ k below. fails_before_first (λ byte. byte == backslash) text k 0 (omega (arith, least))) in
    short_of text result some none long ∙ ap (λ o. o >>= if_short) (sym whole)
  where
    short_of : (text : List ℕ) (result : Option (List ℕ)) → IfSome result (λ string. string ≡ text)
        → (IsNone result → 255 < length text) → (255 < length text → IsNone result) → result ≡ if_short text
    short_of text None some none long = sym (not_short text (none refl))
    short_of text (Some string) some none long =
        let small : 255 < length text → ⊥ = λ more. false≢true (sym (long more)) in
        ap Some some ∙ sym (is_short text (omega (arith, small)))
