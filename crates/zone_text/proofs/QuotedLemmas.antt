-- Character-strings in quotes, read again.
use Rattle.std.proofs.Common.{◌≡◌, ◌∙◌, ℕ, ◌+◌, ◌*◌, ◌/◌, ◌%◌, ◌<◌, ◌≤◌, List, [], ◌∷◌, ◌++◌, length, Bool, true, false}
use Rattle.std.proofs.Common.{Some, refl, ap, subst, sym, inl, inr, arith, append_assoc, length-append}
use Rattle.std.specs.Prelude.{nat_le, not, ◌==◌, ◌&&◌, ◌||◌, is_some}
use Rattle.std.specs.Char.{is_ascii_digit}
use Rattle.std.specs.List.{AllByRecursion, flat_map}
use Rattle.std.proofs.lemmas.Bool.{cond-true, cond-false, cond_both, ne_eqb, eqb-true, le-leb, and_from, or_cases}
use Rattle.std.proofs.lemmas.Bool.Decides.{nat_tests}
use Rattle.dns_name.specs.Name.{IsByte}
use Rattle.dns_name.specs.Text.{decimal_of}
use Rattle.rdata_field.specs.Strings.{quoted_byte}
use Rattle.zone_token.specs.Bytes.{line_feed, quote, backslash, is_quotable, escaped_byte, is_escape}
use Rattle.zone_token.specs.Texts.{undone_from, string_of}
use Rattle.zone_token.specs.Tokens.{is_in_quotes, quoted_from}
use Rattle.zone_token.proofs.TextLemmas.{bytes_before, undone-step}

-- a digit
pub digit_is : (n : ℕ) → n ≤ 9 → is_ascii_digit (48 + n) ≡ true
digit_is n h = and_from _ _ (le-leb 48 (48 + n) (omega arith)) (le-leb (48 + n) 57 (omega arith))

-- three digits after a backslash
pub escaped-decimal : (x y z : ℕ) (rest : List ℕ) → is_ascii_digit x ≡ true → is_ascii_digit y ≡ true
    → is_ascii_digit z ≡ true → decimal_of x y z ≤ 255 → escaped_byte (x ∷ y ∷ z ∷ rest) ≡ Some (decimal_of x y z, 3)
escaped-decimal x y z rest hx hy hz small =
    cond-true (is_ascii_digit x) _ _ hx
    ∙ cond-true (is_ascii_digit y && is_ascii_digit z && nat_le (decimal_of x y z) 255) _ _
    (and_from _ _ (and_from _ _ hy hz) (le-leb (decimal_of x y z) 255 small))

-- the scan of a quoted token goes on after a byte
goes : (escaped : Bool) (size byte : ℕ) (rest : List ℕ) → (byte == line_feed) ≡ false
    → (not escaped && byte == quote) ≡ false → is_in_quotes escaped (byte ∷ rest) ≡ true
    → quoted_from escaped size (byte ∷ rest) ≡ quoted_from (not escaped && byte == backslash) (size + 1) rest
goes escaped size byte rest line closing inside =
    cond-false (byte == line_feed) _ _ line ∙ cond-false (not escaped && byte == quote) _ _ closing ∙ cond-true (is_in_quotes escaped (byte ∷ rest)) _ _ inside

-- the scan of a quoted token passes a text
abbrev pub Passes : List ℕ → Type 0
Passes text = (size : ℕ) (rest : List ℕ) → quoted_from false size (text ++ rest) ≡ quoted_from false (size + length text) rest

Passes-append : (one other : List ℕ) → Passes one → Passes other → Passes (one ++ other)
Passes-append one other p q size rest =
    ap (quoted_from false size) (append_assoc one other rest) ∙ p size (other ++ rest) ∙ q (size + length one) rest
    ∙ ap (λ n. quoted_from false n rest) (let e : size + length one + length other ≡ size + length (one ++ other) = omega (arith, length-append one other) in e)

Passes-plain : (byte : ℕ) → (byte == line_feed) ≡ false → (byte == quote) ≡ false → (byte == backslash) ≡ false → is_quotable byte ≡ true → Passes (byte ∷ [])
Passes-plain byte line closing escape may size rest =
    goes false size byte rest line closing (and_from _ _ may refl) ∙ ap (λ e. quoted_from e (size + 1) rest) escape

Passes-digit : (n : ℕ) → n ≤ 9 → Passes ((48 + n) ∷ [])
Passes-digit n h = Passes-plain (48 + n) (ne_eqb (48 + n) 10 (λ e. omega (arith, e)))
    (ne_eqb (48 + n) 34 (λ e. omega (arith, e))) (ne_eqb (48 + n) 92 (λ e. omega (arith, e))) (grind (arith, nat_tests))

Passes-decimal : (a b c : ℕ) → a ≤ 9 → b ≤ 9 → c ≤ 9 → 100 * a + 10 * b + c ≤ 255 → Passes (92 ∷ (48 + a) ∷ (48 + b) ∷ (48 + c) ∷ [])
Passes-decimal a b c ha hb hc small size rest =
    let x = 48 + a in let y = 48 + b in let z = 48 + c in
    let may : is_quotable x ≡ true = grind (arith, nat_tests) in
    let value : decimal_of x y z ≤ 255 = omega arith in
    let escape : is_escape (x ∷ y ∷ z ∷ rest) ≡ true = ap is_some (escaped-decimal x y z rest (digit_is a ha) (digit_is b hb) (digit_is c hc) value) in
    goes true (size + 1) x (y ∷ z ∷ rest) (ne_eqb x 10 (λ e. omega (arith, e))) refl (and_from _ _ may escape)
    ∙ Passes-digit b hb (size + 1 + 1) (z ∷ rest) ∙ Passes-digit c hc (size + 1 + 1 + 1) rest
    ∙ ap (λ n. quoted_from false n rest) (let e : size + 1 + 1 + 1 + 1 ≡ size + 4 = omega arith in e)

Passes-special : (byte : ℕ) → (byte == 34 || byte == 92) ≡ true → Passes (92 ∷ byte ∷ [])
Passes-special byte special size rest =
    let sum : size + 1 + 1 ≡ size + 2 = omega arith in
    let P : ℕ → Type 0 = λ b. quoted_from false size (92 ∷ b ∷ rest) ≡ quoted_from false (size + 2) rest in
    elim (or_cases (byte == 34) (byte == 92) special) [
      | inl is ↦ subst P (sym (eqb-true byte 34 is)) (ap (λ n. quoted_from false n rest) sum)
      | inr is ↦ subst P (sym (eqb-true byte 92 is)) (ap (λ n. quoted_from false n rest) sum)
    ]

pub Passes-quoted_byte : (byte : ℕ) → byte < 256 → Passes (quoted_byte byte)
Passes-quoted_byte byte small =
    cond_both (byte == 34 || byte == 92) _ _ Passes (λ special. Passes-special byte special) (λ other.
    cond_both (nat_le 32 byte && nat_le byte 126) _ _ Passes
    (λ shown. Passes-plain byte (grind (arith, nat_tests)) (grind (arith, nat_tests)) (grind (arith, nat_tests)) (grind (arith, nat_tests)))
    (λ hidden. Passes-decimal (byte / 100) (byte / 10 % 10) (byte % 10) (omega arith) (omega arith) (omega arith) (omega arith)))

pub Passes-string : (text : List ℕ) → AllByRecursion IsByte text → Passes (flat_map quoted_byte text)
Passes-string [] h size rest = ap (λ n. quoted_from false n rest) (let e : size ≡ size + 0 = omega arith in e)
Passes-string (b ∷ text) h size rest = Passes-append (quoted_byte b) (flat_map quoted_byte text) (Passes-quoted_byte b h.0) (Passes-string text h.1) size rest

-- a text stands for a byte, whatever follows it
abbrev Undoes : ℕ → List ℕ → Type 0
Undoes byte text = (rest : List ℕ) → undone_from 0 (text ++ rest) ≡ bytes_before (byte ∷ []) (undone_from 0 rest)

Undoes-decimal : (byte : ℕ) → byte < 256 → Undoes byte (92 ∷ (48 + byte / 100) ∷ (48 + byte / 10 % 10) ∷ (48 + byte % 10) ∷ [])
Undoes-decimal byte small rest =
    let x = 48 + byte / 100 in let y = 48 + byte / 10 % 10 in let z = 48 + byte % 10 in
    let value : decimal_of x y z ≡ byte = omega arith in
    undone-step (92 ∷ x ∷ y ∷ z ∷ rest) byte 3 (omega arith)
    (escaped-decimal x y z rest (digit_is (byte / 100) (omega arith)) (digit_is (byte / 10 % 10) (omega arith))
    (digit_is (byte % 10) (omega arith)) (omega arith)
    ∙ ap (λ v. Some (v, 3)) value)

Undoes-quoted_byte : (byte : ℕ) → byte < 256 → Undoes byte (quoted_byte byte)
Undoes-quoted_byte byte small =
    cond_both (byte == 34 || byte == 92) _ _ (Undoes byte)
    (λ special rest. let other : is_ascii_digit byte ≡ false = grind (arith, nat_tests) in
    undone-step (92 ∷ byte ∷ rest) byte 1 (omega arith) (cond-false (is_ascii_digit byte) _ _ other)) (λ other.
    cond_both (nat_le 32 byte && nat_le byte 126) _ _ (Undoes byte)
    (λ shown rest. let plain : (byte == 92) ≡ false = grind (arith, nat_tests) in
    undone-step (byte ∷ rest) byte 0 (omega arith) (cond-false (byte == 92) _ _ plain))
    (λ hidden. Undoes-decimal byte small))

undone-string : (text : List ℕ) → AllByRecursion IsByte text → undone_from 0 (flat_map quoted_byte text) ≡ Some text
unfolding undone_from
undone-string [] h = refl
undone-string (b ∷ text) h = Undoes-quoted_byte b h.0 (flat_map quoted_byte text) ∙ ap (bytes_before (b ∷ [])) (undone-string text h.1)

-- a character-string is read from what stands between its quotes
pub string_of-quoted : (text : List ℕ) → AllByRecursion IsByte text → length text ≤ 255 → string_of (flat_map quoted_byte text) ≡ Some text
unfolding string_of
string_of-quoted text h short = rw (undone-string text h) (cond-true (nat_le (length text) 255) _ _ (le-leb (length text) 255 short))
