-- The tokens of fields with spaces between them.
use Rattle.std.proofs.Common.{◌≡◌, ◌∙◌, ℕ, ◌+◌, ◌-◌, ◌<◌, List, [], ◌∷◌, ◌++◌, length, take, drop, codes, Bool, true}
use Rattle.std.proofs.Common.{false, Ok, refl, ap, sym, arith, append_assoc, length-append}
use Rattle.std.specs.Prelude.{cond, ◌==◌, ◌||◌, if◌then◌else◌}
use Rattle.std.specs.List.{AllByRecursion, flat_map}
use Rattle.std.proofs.Math.Seq.{take-append_seam, drop-append_seam}
use Rattle.std.proofs.lemmas.Bool.{cond-true, false≢true}
use Rattle.rdata_field.specs.Strings.{quoted_byte}
use Rattle.dns_name.specs.Name.{IsByte}
use Rattle.zone_token.specs.Bytes.{is_blank, line_feed, semicolon, opening, closing, quote}
use Rattle.zone_token.specs.Token.{Token}
use Rattle.zone_token.specs.Tokens.{◌>>=◌, nothing, one, ends_bare, bare_from, quoted_from, front_of, tokens_from, tokens_of}
use Rattle.zone_token.proofs.TokenLemmas.{after_tokens, none-before, tokens-step, tokens-end}
use Rattle.zone_text.proofs.QuotedLemmas.{Passes-string}
use Rattle.zone_text.proofs.BareLemmas.{PassesBare, Begins}

-- a bare token, and a quoted one
abbrev pub bare : List ℕ → Token
bare text = record { quoted = false; text = text }

abbrev pub between_quotes : List ℕ → Token
between_quotes text = record { quoted = true; text = flat_map quoted_byte text }

-- a token as it stands in a line
abbrev pub field_text : Token → List ℕ
field_text token = if token.quoted then 34 ∷ (token.text ++ 34 ∷ []) else token.text

-- tokens, each after a space
abbrev pub line_after : List Token → List ℕ
line_after tokens = flat_map (λ token. codes " " ++ field_text token) tokens

-- tokens with one space between them
abbrev pub line_of : List Token → List ℕ
line_of [] = []
line_of (token ∷ tokens) = field_text token ++ line_after tokens

-- none of the tests holds
none_of : {X : Type 0} (a b c d e f : Bool) (x y z u v w : X) → (a || b || c || d || e || f) ≡ false
    → cond (a || b) x (cond c y (cond d z (cond e u (cond f v w)))) ≡ w
none_of true b c d e f x y z u v w h = absurd (false≢true (sym h))
none_of false true c d e f x y z u v w h = absurd (false≢true (sym h))
none_of false false true d e f x y z u v w h = absurd (false≢true (sym h))
none_of false false false true e f x y z u v w h = absurd (false≢true (sym h))
none_of false false false false true f x y z u v w h = absurd (false≢true (sym h))
none_of false false false false false true x y z u v w h = absurd (false≢true (sym h))
none_of false false false false false false x y z u v w h = refl

-- what stands at the front of a bare token
front-bare : (byte size : ℕ) (rest : List ℕ) → ends_bare (byte ∷ rest) ≡ false
    → bare_from false 0 (byte ∷ rest) ≡ Ok size
    → front_of false (byte ∷ rest) ≡ Ok (one false (take size (byte ∷ rest)) (size - 1) false)
unfolding front_of
front-bare byte size rest begins passes =
    none_of (is_blank (byte ∷ rest)) (byte == line_feed) (byte == semicolon) (byte == opening) (byte == closing) (byte == quote) _ _ _ _ _ _ begins
    ∙ ap (λ r. r >>= λ n. Ok (one false (take n (byte ∷ rest)) (n - 1) false)) passes

bare-end : (size : ℕ) (rest : List ℕ) → ends_bare rest ≡ true → bare_from false size rest ≡ Ok size
bare-end size [] ends = refl
bare-end size (byte ∷ rest) ends = cond-true (ends_bare (byte ∷ rest)) _ _ ends

-- a token at the front of a text is read, and then the others
abbrev pub Reads : Token → Type 0
Reads token = (rest : List ℕ) → ends_bare rest ≡ true → tokens_from 0 false (field_text token ++ rest) ≡ after_tokens (token ∷ []) (tokens_from 0 false rest)

pub Reads-bare : (text : List ℕ) → 0 < length text → Begins text → PassesBare text → Reads (bare text)
Reads-bare [] some begins passes rest ends = absurd (omega arith)
Reads-bare (byte ∷ text) some begins passes rest ends =
    let whole : List ℕ = byte ∷ (text ++ rest) in
    let size = length (byte ∷ text) in
    let scanned : bare_from false 0 whole ≡ Ok size = passes 0 rest ∙ bare-end (0 + size) rest ends ∙ ap Ok (let e : 0 + size ≡ size = omega arith in e) in
    let back : size - 1 + 1 ≡ size = omega arith in
    tokens-step false whole _ (omega arith) (front-bare byte size (text ++ rest) (begins rest) scanned)
    ∙ ap (λ t. after_tokens (bare t ∷ []) (tokens_from 0 false (drop (size - 1 + 1) whole))) (take-append_seam (byte ∷ text) rest)
    ∙ ap (λ t. after_tokens (bare (byte ∷ text) ∷ []) (tokens_from 0 false t)) (ap (λ n. drop n whole) back ∙ drop-append_seam (byte ∷ text) rest)

-- what stands at the front of a quoted token
front-quoted : (size : ℕ) (rest : List ℕ) → quoted_from false 0 rest ≡ Ok size → front_of false (34 ∷ rest) ≡ Ok (one true (take size rest) (size + 1) false)
unfolding front_of
front-quoted size rest passes = ap (λ r. r >>= λ n. Ok (one true (take n rest) (n + 1) false)) passes

pub Reads-quoted : (text : List ℕ) → AllByRecursion IsByte text → Reads (between_quotes text)
Reads-quoted text bytes rest ends =
    let inside = flat_map quoted_byte text in
    let size = length inside in
    let after : List ℕ = inside ++ 34 ∷ rest in
    let parts : (inside ++ 34 ∷ []) ++ rest ≡ after = append_assoc inside (34 ∷ []) rest in
    let scanned : quoted_from false 0 after ≡ Ok size = Passes-string text bytes 0 (34 ∷ rest) ∙ ap Ok (let e : 0 + size ≡ size = omega arith in e) in
    let front : List ℕ = 34 ∷ (inside ++ 34 ∷ []) in
    let count : size + 1 + 1 ≡ length front = omega (arith, length-append inside (34 ∷ [])) in
    ap (λ t. tokens_from 0 false (34 ∷ t)) parts
    ∙ tokens-step false (34 ∷ after) _ (omega arith) (front-quoted size after scanned)
    ∙ ap (λ t. after_tokens (record { quoted = true; text = t } ∷ [])
    (tokens_from 0 false (drop (size + 1 + 1) (34 ∷ after)))) (take-append_seam inside (34 ∷ rest))
    ∙ ap (λ t. after_tokens (between_quotes text ∷ []) (tokens_from 0 false t))
    (ap (λ n. drop n (34 ∷ after)) count ∙ ap (λ t. drop (length front) (34 ∷ t)) (sym parts) ∙ drop-append_seam front rest)

-- a space is passed over
front-space : (rest : List ℕ) → front_of false (32 ∷ rest) ≡ Ok (nothing 0 false)
unfolding front_of
front-space rest = refl

after-space : (rest : List ℕ) → tokens_from 0 false (32 ∷ rest) ≡ tokens_from 0 false rest
after-space rest = tokens-step false (32 ∷ rest) (nothing 0 false) (omega arith) (front-space rest) ∙ none-before (tokens_from 0 false rest)

ends-after : (tokens : List Token) → ends_bare (line_after tokens) ≡ true
ends-after [] = refl
ends-after (token ∷ tokens) = refl

reads-after : (tokens : List Token) → AllByRecursion Reads tokens → tokens_from 0 false (line_after tokens) ≡ Ok tokens
reads-after [] all = tokens-end [] refl
reads-after (token ∷ tokens) all =
    after-space (field_text token ++ line_after tokens) ∙ all.0 (line_after tokens) (ends-after tokens)
    ∙ ap (after_tokens (token ∷ [])) (reads-after tokens all.1)

-- the tokens of a line are read again
pub tokens_of-line_of : (tokens : List Token) → AllByRecursion Reads tokens → tokens_of (line_of tokens) ≡ Ok tokens
unfolding tokens_of
tokens_of-line_of [] all = tokens-end [] refl
tokens_of-line_of (token ∷ tokens) all = all.0 (line_after tokens) (ends-after tokens) ∙ ap (after_tokens (token ∷ [])) (reads-after tokens all.1)
