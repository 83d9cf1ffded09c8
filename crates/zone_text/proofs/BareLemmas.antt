-- Bare tokens as they are written, scanned again.
use Rattle.std.proofs.Common.{◌≡◌, ◌∙◌, ℕ, ◌+◌, ◌*◌, ◌/◌, ◌%◌, ◌<◌, ◌≤◌, List, [], ◌∷◌, ◌++◌, length, Bool, true, false}
use Rattle.std.proofs.Common.{refl, ap, sym, arith, append_assoc, length-append}
use Rattle.std.specs.Prelude.{not, ◌==◌, ◌&&◌, ◌||◌, is_some, bytes_eq}
use Rattle.std.specs.Char.{is_ascii_digit}
use Rattle.std.specs.List.{AllByRecursion, flat_map}
use Rattle.std.proofs.lemmas.List.{append-nil}
use Rattle.std.proofs.lemmas.Bool.{cond-true, cond-false, cond_both}
use Rattle.std.proofs.lemmas.Bool.Decides.{nat_tests}
use Rattle.dns_name.specs.Name.{IsByte, IsLabel}
use Rattle.dns_name.specs.Text.{decimal_of, is_special, is_visible as is_shown, byte_text, label_text, text_of}
use Rattle.zone_token.specs.Bytes.{backslash, is_visible, is_escape}
use Rattle.zone_token.specs.Tokens.{ends_bare, is_bare, bare_from}
use Rattle.zone_text.proofs.QuotedLemmas.{digit_is, escaped-decimal}

-- a byte that stands as it is in a bare token
abbrev pub is_plain : ℕ → Bool
is_plain byte = is_visible byte && not (byte == 34 || byte == 40 || byte == 41 || byte == 59 || byte == 92)

-- no bare token ends at it
ends-plain : (byte : ℕ) (rest : List ℕ) → is_plain byte ≡ true → ends_bare (byte ∷ rest) ≡ false
ends-plain byte rest plain =
    let a : (byte == 32) ≡ false = grind (arith, nat_tests) in
    let b : (byte == 9) ≡ false = grind (arith, nat_tests) in
    let c : (byte == 13) ≡ false = grind (arith, nat_tests) in
    let d : (byte == 10) ≡ false = grind (arith, nat_tests) in
    let e : (byte == 59) ≡ false = grind (arith, nat_tests) in
    let f : (byte == 40) ≡ false = grind (arith, nat_tests) in
    let g : (byte == 41) ≡ false = grind (arith, nat_tests) in
    let h : (byte == 34) ≡ false = grind (arith, nat_tests) in
    rw (a, b, c, d, e, f, g, h) refl

-- the scan of a bare token goes on after a byte
goes : (escaped : Bool) (size byte : ℕ) (rest : List ℕ) → (not escaped && ends_bare (byte ∷ rest)) ≡ false → is_bare escaped (byte ∷ rest) ≡ true
    → bare_from escaped size (byte ∷ rest) ≡ bare_from (not escaped && byte == backslash) (size + 1) rest
goes escaped size byte rest ends may = cond-false (not escaped && ends_bare (byte ∷ rest)) _ _ ends ∙ cond-true (is_bare escaped (byte ∷ rest)) _ _ may

-- the scan of a bare token passes a text
abbrev pub PassesBare : List ℕ → Type 0
PassesBare text = (size : ℕ) (rest : List ℕ) → bare_from false size (text ++ rest) ≡ bare_from false (size + length text) rest

pub PassesBare-append : (one other : List ℕ) → PassesBare one → PassesBare other → PassesBare (one ++ other)
PassesBare-append one other p q size rest =
    ap (bare_from false size) (append_assoc one other rest) ∙ p size (other ++ rest) ∙ q (size + length one) rest
    ∙ ap (λ n. bare_from false n rest) (let e : size + length one + length other ≡ size + length (one ++ other) = omega (arith, length-append one other) in e)

PassesBare-byte : (byte : ℕ) → is_plain byte ≡ true → PassesBare (byte ∷ [])
PassesBare-byte byte plain size rest =
    let shown : is_visible byte ≡ true = grind (arith, nat_tests) in
    let other : (byte == 92) ≡ false = grind (arith, nat_tests) in
    let may : is_bare false (byte ∷ rest) ≡ true = rw shown refl in
    goes false size byte rest (ends-plain byte rest plain) may ∙ ap (λ e. bare_from e (size + 1) rest) other

pub PassesBare-plain : (text : List ℕ) → AllByRecursion (λ byte. is_plain byte ≡ true) text → PassesBare text
PassesBare-plain [] all size rest = ap (λ n. bare_from false n rest) (let e : size ≡ size + 0 = omega arith in e)
PassesBare-plain (byte ∷ text) all size rest = PassesBare-append (byte ∷ []) text (PassesBare-byte byte all.0) (PassesBare-plain text all.1) size rest

PassesBare-digit : (n : ℕ) → n ≤ 9 → PassesBare ((48 + n) ∷ [])
PassesBare-digit n h = PassesBare-byte (48 + n) (grind (arith, nat_tests))

-- an escape is passed
PassesBare-decimal : (a b c : ℕ) → a ≤ 9 → b ≤ 9 → c ≤ 9 → 100 * a + 10 * b + c ≤ 255 → PassesBare (92 ∷ (48 + a) ∷ (48 + b) ∷ (48 + c) ∷ [])
PassesBare-decimal a b c ha hb hc small size rest =
    let x = 48 + a in let y = 48 + b in let z = 48 + c in
    let shown : is_visible x ≡ true = grind (arith, nat_tests) in
    let value : decimal_of x y z ≤ 255 = omega arith in
    let escape : is_escape (x ∷ y ∷ z ∷ rest) ≡ true = ap is_some (escaped-decimal x y z rest (digit_is a ha) (digit_is b hb) (digit_is c hc) value) in
    let may : is_bare true (x ∷ y ∷ z ∷ rest) ≡ true = rw (shown, escape) refl in
    goes true (size + 1) x (y ∷ z ∷ rest) refl may
    ∙ PassesBare-digit b hb (size + 1 + 1) (z ∷ rest) ∙ PassesBare-digit c hc (size + 1 + 1 + 1) rest
    ∙ ap (λ n. bare_from false n rest) (let e : size + 1 + 1 + 1 + 1 ≡ size + 4 = omega arith in e)

PassesBare-special : (byte : ℕ) → is_special byte ≡ true → PassesBare (92 ∷ byte ∷ [])
PassesBare-special byte special size rest =
    let shown : is_visible byte ≡ true = grind (arith, nat_tests) in
    let other : is_ascii_digit byte ≡ false = grind (arith, nat_tests) in
    let escape : is_escape (byte ∷ rest) ≡ true = ap is_some (cond-false (is_ascii_digit byte) _ _ other) in
    let may : is_bare true (byte ∷ rest) ≡ true = rw (shown, escape) refl in
    goes true (size + 1) byte rest refl may ∙ ap (λ n. bare_from false n rest) (let e : size + 1 + 1 ≡ size + 2 = omega arith in e)

-- names are passed
PassesBare-byte_text : (byte : ℕ) → byte < 256 → PassesBare (byte_text byte)
PassesBare-byte_text byte small =
    cond_both (is_special byte) _ _ PassesBare (λ special. PassesBare-special byte special) (λ other.
    cond_both (is_shown byte) _ _ PassesBare (λ shown. PassesBare-byte byte (grind (arith, nat_tests)))
    (λ hidden. PassesBare-decimal (byte / 100) (byte / 10 % 10) (byte % 10) (omega arith) (omega arith) (omega arith) (omega arith)))

PassesBare-bytes : (label : List ℕ) → AllByRecursion IsByte label → PassesBare (flat_map byte_text label)
PassesBare-bytes [] all size rest = ap (λ n. bare_from false n rest) (let e : size ≡ size + 0 = omega arith in e)
PassesBare-bytes (byte ∷ label) all size rest =
    PassesBare-append (byte_text byte) (flat_map byte_text label) (PassesBare-byte_text byte all.0)
    (PassesBare-bytes label all.1) size rest

PassesBare-labels : (labels : List (List ℕ)) → AllByRecursion IsLabel labels → PassesBare (flat_map label_text labels)
PassesBare-labels [] all size rest = ap (λ n. bare_from false n rest) (let e : size ≡ size + 0 = omega arith in e)
PassesBare-labels (label ∷ labels) all size rest =
    PassesBare-append (label_text label) (flat_map label_text labels)
    (PassesBare-append (flat_map byte_text label) (46 ∷ []) (PassesBare-bytes label all.0.bytes)
    (PassesBare-byte 46 refl)) (PassesBare-labels labels all.1) size rest

pub PassesBare-name : (labels : List (List ℕ)) → AllByRecursion IsLabel labels → PassesBare (text_of labels)
PassesBare-name [] all = PassesBare-byte 46 refl
PassesBare-name (label ∷ labels) all = PassesBare-labels (label ∷ labels) all

-- a test fails of a text, whatever follows it
abbrev pub Fails : (List ℕ → Bool) → List ℕ → Type 0
Fails test text = (rest : List ℕ) → test (text ++ rest) ≡ false

-- no bare token ends where a text begins
abbrev pub Begins : List ℕ → Type 0
Begins text = Fails ends_bare text

pub Begins-plain : (text : List ℕ) → 0 < length text → AllByRecursion (λ byte. is_plain byte ≡ true) text → Begins text
Begins-plain [] some all rest = absurd (omega arith)
Begins-plain (byte ∷ text) some all rest = ends-plain byte (text ++ rest) all.0

-- how the text of a byte begins: with a backslash, or with a visible byte that is not special
begins_byte : (test : List ℕ → Bool) (byte : ℕ) → ((rest : List ℕ) → test (92 ∷ rest) ≡ false)
    → ((rest : List ℕ) → is_special byte ≡ false → is_shown byte ≡ true → test (byte ∷ rest) ≡ false)
    → Fails test (byte_text byte)
begins_byte test byte escaped shown =
    cond_both (is_special byte) _ _ (Fails test) (λ special rest. escaped (byte ∷ rest)) (λ other.
    cond_both (is_shown byte) _ _ (Fails test) (λ visible rest. shown rest other visible) (λ hidden rest. escaped _))

Fails-append : (test : List ℕ → Bool) (one other : List ℕ) → Fails test one → Fails test (one ++ other)
Fails-append test one other begins rest = ap test (append_assoc one other rest) ∙ begins (other ++ rest)

begins_name : (test : List ℕ → Bool) → Fails test (46 ∷ []) → ((byte : ℕ) → Fails test (byte_text byte))
    → (labels : List (List ℕ)) → AllByRecursion IsLabel labels → Fails test (text_of labels)
begins_name test root each [] all rest = root rest
begins_name test root each ([] ∷ labels) all rest = absurd (let some = all.0.some in omega arith)
begins_name test root each ((byte ∷ label) ∷ labels) all rest =
    Fails-append test (label_text (byte ∷ label)) (flat_map label_text labels)
    (Fails-append test (flat_map byte_text (byte ∷ label)) (46 ∷ []) (Fails-append test (byte_text byte) (flat_map byte_text label) (each byte))) rest

shown-plain : (byte : ℕ) → is_special byte ≡ false → is_shown byte ≡ true → is_plain byte ≡ true
shown-plain byte other shown = grind (arith, nat_tests)

pub Begins-name : (labels : List (List ℕ)) → AllByRecursion IsLabel labels → Begins (text_of labels)
Begins-name = begins_name ends_bare (λ rest. refl)
    (λ byte. begins_byte ends_bare byte (λ rest. refl)
    (λ rest other shown. ends-plain byte rest (shown-plain byte other shown)))

-- no name is written as the sign of the origin
first-other : (byte : ℕ) (rest : List ℕ) → (byte == 64) ≡ false → bytes_eq (byte ∷ rest) (64 ∷ []) ≡ false
first-other byte rest other = rw other refl

pub no_sign : (labels : List (List ℕ)) → AllByRecursion IsLabel labels → bytes_eq (text_of labels) (64 ∷ []) ≡ false
no_sign labels all =
    ap (λ t. bytes_eq t (64 ∷ [])) (sym (append-nil (text_of labels)))
    ∙ begins_name (λ text. bytes_eq text (64 ∷ [])) (λ rest. refl)
    (λ byte. begins_byte (λ text. bytes_eq text (64 ∷ [])) byte (λ rest. refl)
    (λ rest other shown. first-other byte rest (grind (arith, nat_tests)))) labels all []
