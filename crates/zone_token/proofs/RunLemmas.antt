use Rattle.std.proofs.Common.{◌≡◌, ◌∙◌, ℕ, zero, suc, ◌+◌, ◌-◌, ◌<◌, ◌≤◌, List, [], ◌∷◌, length, take, drop, get_or}
use Rattle.std.proofs.Common.{Bool, true, false, not, Some, None, cond, ltb, ap, sym, refl, arith}
use Rattle.std.specs.Prelude.{◌==◌, unwrap_or}
use Rattle.std.specs.List.{position_or_len}
use Rattle.std.proofs.lemmas.List.{take_rest, length-drop}
use Rattle.std.proofs.lemmas.List.Sums.{fails_before_first}
use Rattle.std.proofs.lemmas.Bool.Decides.{nat_tests}
use Rattle.zone_token.specs.Bytes.{backslash, line_feed, quote, size_until}
use Rattle.zone_token.specs.Tokens.{is_plain, is_plain_quoted, is_bare, ends_bare, bare_from, is_in_quotes, quoted_from}

-- each byte before the first that passes fails
pub until-le : (n size : ℕ) → unwrap_or (cond (ltb n size) (Some n) None) size ≤ n
until-le n size = grind (arith, nat_tests)

not-false : (b : Bool) → not b ≡ false → b ≡ true
not-false true is = refl
not-false false is = cc

pub until-passes : (test : ℕ → Bool) (text : List ℕ) (size : ℕ) → size ≡ size_until (λ byte. not (test byte)) text
    → (k : ℕ) → k < size → test (get_or text k 0) ≡ true
until-passes test text size is k below =
    let least = until-le (position_or_len (λ byte. not (test byte)) text) (length text) in
    not-false _ (fails_before_first (λ byte. not (test byte)) text k 0 (omega (arith, is, least)))

-- what a plain byte is not
plain-ends : (byte : ℕ) (rest : List ℕ) → is_plain byte ≡ true → ends_bare (byte ∷ rest) ≡ false
plain-ends byte rest is = grind (arith, nat_tests)

plain-bare : (byte : ℕ) (rest : List ℕ) → is_plain byte ≡ true → is_bare false (byte ∷ rest) ≡ true
plain-bare byte rest is = grind (arith, nat_tests)

plain-goes : (byte : ℕ) → is_plain byte ≡ true → (byte == backslash) ≡ false
plain-goes byte is = grind (arith, nat_tests)

-- a plain byte goes on with a bare token
bare-plain : (size byte : ℕ) (rest : List ℕ) → is_plain byte ≡ true → bare_from false size (byte ∷ rest) ≡ bare_from false (size + 1) rest
bare-plain size byte rest is = rw (plain-ends byte rest is, plain-bare byte rest is, plain-goes byte is) refl

-- so do some of these
pub bare-run : (n size : ℕ) (text : List ℕ) → n ≤ length text → ((k : ℕ) → k < n → is_plain (get_or text k 0) ≡ true)
    → bare_from false (size + n) (drop n text) ≡ bare_from false size text
bare-run zero size text inside each = ap (λ k. bare_from false k text) (omega arith)
bare-run (suc n) size [] inside each = absurd (omega arith)
bare-run (suc n) size (byte ∷ rest) inside each =
    let place : size + suc n ≡ size + 1 + n = omega arith in
    ap (λ k. bare_from false k (drop n rest)) place
    ∙ bare-run n (size + 1) rest (omega arith) (λ k below. each (suc k) (omega arith))
    ∙ sym (bare-plain size byte rest (each 0 (omega arith)))

-- the loop over a bare token begins after its plain bytes
pub bare-begins : (size : ℕ) (text : List ℕ) → size ≡ size_until (λ byte. not (is_plain byte)) text
    → size ≤ length text → bare_from false size (take (length text - size) (drop size text)) ≡ bare_from false 0 text
bare-begins size text is inside =
    let start : size ≡ 0 + size = omega arith in
    ap (bare_from false size) (take_rest text size) ∙ ap (λ n. bare_from false n (drop size text)) start
    ∙ bare-run size 0 text inside (until-passes is_plain text size is)

quoted-feed : (byte : ℕ) → is_plain_quoted byte ≡ true → (byte == line_feed) ≡ false
quoted-feed byte is = grind (arith, nat_tests)

quoted-closes : (byte : ℕ) → is_plain_quoted byte ≡ true → (byte == quote) ≡ false
quoted-closes byte is = grind (arith, nat_tests)

quoted-in : (byte : ℕ) (rest : List ℕ) → is_plain_quoted byte ≡ true → is_in_quotes false (byte ∷ rest) ≡ true
quoted-in byte rest is = grind (arith, nat_tests)

quoted-goes : (byte : ℕ) → is_plain_quoted byte ≡ true → (byte == backslash) ≡ false
quoted-goes byte is = grind (arith, nat_tests)

quoted-plain : (size byte : ℕ) (rest : List ℕ) → is_plain_quoted byte ≡ true → quoted_from false size (byte ∷ rest) ≡ quoted_from false (size + 1) rest
quoted-plain size byte rest is = rw (quoted-feed byte is, quoted-closes byte is, quoted-in byte rest is, quoted-goes byte is) refl

pub quoted-run : (n size : ℕ) (text : List ℕ) → n ≤ length text
    → ((k : ℕ) → k < n → is_plain_quoted (get_or text k 0) ≡ true)
    → quoted_from false (size + n) (drop n text) ≡ quoted_from false size text
quoted-run zero size text inside each = ap (λ k. quoted_from false k text) (omega arith)
quoted-run (suc n) size [] inside each = absurd (omega arith)
quoted-run (suc n) size (byte ∷ rest) inside each =
    let place : size + suc n ≡ size + 1 + n = omega arith in
    ap (λ k. quoted_from false k (drop n rest)) place
    ∙ quoted-run n (size + 1) rest (omega arith) (λ k below. each (suc k) (omega arith))
    ∙ sym (quoted-plain size byte rest (each 0 (omega arith)))

-- the loop over a quoted token begins after its plain bytes
pub quoted-begins : (size : ℕ) (text : List ℕ) → size ≡ size_until (λ byte. not (is_plain_quoted byte)) text
    → size ≤ length text → quoted_from false size (take (length text - size) (drop size text))
    ≡ quoted_from false 0 text
quoted-begins size text is inside =
    let start : size ≡ 0 + size = omega arith in
    ap (quoted_from false size) (take_rest text size) ∙ ap (λ n. quoted_from false n (drop size text)) start
    ∙ quoted-run size 0 text inside (until-passes is_plain_quoted text size is)

-- what is left after some bytes
pub left-size : (size : ℕ) (text : List ℕ) → size ≤ length text → size + length (take (length text - size) (drop size text)) ≡ length text
left-size size text inside = omega (arith, ap length (take_rest text size), length-drop size text)
