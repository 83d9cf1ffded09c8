-- The tokens of an entry, and its lexical fault (RFC 1035, section 5.1).
use Rattle.std.specs.Prelude.{◌≡◌, ◌≢◌, ℕ, zero, suc, nat_le, ◌+◌, ◌-◌, List, [], ◌∷◌, ◌++◌, length, take, position}
use Rattle.std.specs.Prelude.{unwrap_or, Bool, true, false, not, ◌&&◌, ◌||◌, ◌==◌, if◌then◌else◌, Some, None, Result}
use Rattle.std.specs.Prelude.{Ok, Err}
use Rattle.std.specs.Option.{option_to_list}
use Rattle.zone_token.specs.Bytes.{line_feed, quote, opening, closing, semicolon, backslash, is_blank, is_visible, is_quotable, is_escape}
use Rattle.zone_token.specs.Token.{Token}
use Rattle.zone_token.specs.declared.token.Front.{Front}
use Rattle.zone_token.specs.declared.fault.TextWhy.{TextWhy}
use Rattle.zone_token.specs.declared.fault.TextWhy.TheVariants.{BadToken, OpenQuote, OpenParen, Memory}

-- what was read is what a definition gives, unless memory was wanting
abbrev pub GivesOrMemory : {A : Type 0} → Result A TextWhy → Result A TextWhy → Type 0
GivesOrMemory (Ok x) read = read ≡ Ok x
GivesOrMemory (Err why) read = why ≢ Memory → read ≡ Err why

infixl 10 ◌>>=◌
abbrev pub ◌>>=◌ : {A B : Type 0} → Result A TextWhy → (A → Result B TextWhy) → Result B TextWhy
(Ok x) >>= f = f x
(Err e) >>= f = Err e

-- a bare token ends at the front of a text: before a blank, a line feed, ; ( ) or a quotation mark
abbrev pub ends_bare : List ℕ → Bool
ends_bare [] = true
ends_bare (byte ∷ rest) =
    is_blank (byte ∷ rest) || byte == line_feed || byte == semicolon || byte == opening || byte == closing || byte == quote

-- the byte at the front of a text may stand in a bare token, after a backslash or not
abbrev pub is_bare : Bool → List ℕ → Bool
is_bare escaped [] = false
is_bare escaped (byte ∷ rest) =
    (is_visible byte || is_blank (byte ∷ rest)) && (not escaped || is_escape (byte ∷ rest))

-- a byte that stands in a bare token whatever stands around it, after no backslash
abbrev pub is_plain : ℕ → Bool
is_plain byte =
    is_visible byte && not (byte == semicolon || byte == opening || byte == closing || byte == quote || byte == backslash)

-- a byte that stands in a quoted token whatever stands around it, after no backslash
abbrev pub is_plain_quoted : ℕ → Bool
is_plain_quoted byte = nat_le 32 byte && nat_le byte 126 && not (byte == quote || byte == backslash)

-- how many bytes a bare token has at the front of a text, where some stand before it
abbrev pub bare_from : Bool → ℕ → List ℕ → Result ℕ TextWhy
bare_from escaped size [] = if escaped then Err BadToken else Ok size
bare_from escaped size (byte ∷ rest) =
    if not escaped && ends_bare (byte ∷ rest) then Ok size
    else if is_bare escaped (byte ∷ rest) then bare_from (not escaped && byte == backslash) (size + 1) rest
    else Err BadToken

-- the byte at the front of a text may stand in a quoted token, after a backslash or not
abbrev pub is_in_quotes : Bool → List ℕ → Bool
is_in_quotes escaped [] = false
is_in_quotes escaped (byte ∷ rest) = is_quotable byte && (not escaped || is_escape (byte ∷ rest))

-- how many bytes stand at the front of a text before the quotation mark that closes
abbrev pub quoted_from : Bool → ℕ → List ℕ → Result ℕ TextWhy
quoted_from escaped size [] = if escaped then Err BadToken else Err OpenQuote
quoted_from escaped size (byte ∷ rest) =
    if byte == line_feed then Err OpenQuote
    else if not escaped && byte == quote then Ok size
    else if is_in_quotes escaped (byte ∷ rest) then quoted_from (not escaped && byte == backslash) (size + 1) rest
    else Err BadToken

-- how many bytes stand at the front of a text before its first line feed
abbrev pub comment_size : List ℕ → ℕ
comment_size text = unwrap_or (position (λ byte. byte == line_feed) text) (length text)

-- no token
abbrev pub nothing : ℕ → Bool → Front
nothing more inside = record { token = None; more = more; inside = inside }

-- a token
abbrev pub one : Bool → List ℕ → ℕ → Bool → Front
one quoted text more inside = record { token = Some (record { quoted = quoted; text = text }); more = more; inside = inside }

-- what stands at the front of a text that is not empty: a token or none, how many bytes it has beyond the first, and
-- whether parentheses are open after it, where they are open before it or not; or its fault
unfoldable pub front_of : Bool → List ℕ → Result Front TextWhy
front_of inside [] = Err BadToken
front_of inside (byte ∷ rest) =
    if is_blank (byte ∷ rest) || byte == line_feed then Ok (nothing 0 inside)
    else if byte == semicolon then Ok (nothing (comment_size rest) inside)
    else if byte == opening then (if inside then Err BadToken else Ok (nothing 0 true))
    else if byte == closing then (if inside then Ok (nothing 0 false) else Err BadToken)
    else if byte == quote then (quoted_from false 0 rest >>= λ size. Ok (one true (take size rest) (size + 1) inside))
    else (bare_from false 0 (byte ∷ rest) >>= λ size. Ok (one false (take size (byte ∷ rest)) (size - 1) inside))

-- the tokens of an entry after some skipped bytes, with parentheses open or not, or the first lexical fault
unfoldable pub tokens_from : ℕ → Bool → List ℕ → Result (List Token) TextWhy
tokens_from skipped inside [] = if inside then Err OpenParen else Ok []
tokens_from (suc skipped) inside (byte ∷ rest) = tokens_from skipped inside rest
tokens_from zero inside (byte ∷ rest) = do
  front ← front_of inside (byte ∷ rest)
  tokens ← tokens_from front.more front.inside rest
  Ok (option_to_list front.token ++ tokens)

-- the tokens of an entry, or its first lexical fault
unfoldable pub tokens_of : List ℕ → Result (List Token) TextWhy
tokens_of entry = tokens_from 0 false entry

-- an entry that is blank but for a comment that ends it (RFC 1035, 5.1: `<blank>[<comment>]`); a comment ends with its line
abbrev pub is_blank_entry : List ℕ → Bool
is_blank_entry [] = true
is_blank_entry (byte ∷ rest) =
    if is_blank (byte ∷ rest) || byte == line_feed then is_blank_entry rest
    else byte == semicolon && nat_le (length rest) (comment_size rest + 1)
