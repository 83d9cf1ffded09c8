use Rattle.std.proofs.Common.{◌≡◌, ◌∙◌, ℕ, ◌+◌, ◌≤◌, List, [], ◌∷◌, length, drop, get_or, Bool, true, false, Option, Some}
use Rattle.std.proofs.Common.{None, Ok, refl, sym, ap, subst, arith, add-one}
use Rattle.std.specs.Prelude.{◌==◌, ◌||◌, ◌&&◌, if◌then◌else◌, nat_le, position, unwrap_or}
use Rattle.std.proofs.lemmas.List.{length-drop, drop_more}
use Rattle.std.proofs.lemmas.List.Quantifiers.{position-Some}
use Rattle.std.proofs.lemmas.Bool.{cond-true, and_parts, eqb-true, leb-true}
use Rattle.zone_token.specs.Bytes.{line_feed, semicolon, is_blank}
use Rattle.zone_token.specs.Tokens.{comment_size, is_blank_entry, nothing, front_of, tokens_from, tokens_of}
use Rattle.zone_token.proofs.TokenLemmas.{tokens-step, tokens-end, none-before}

or_right : (a b : Bool) → b ≡ true → (a || b) ≡ true
or_right true b is = refl
or_right false b is = is

-- a blank or a line feed at the front is no token
space_gone : (byte : ℕ) (rest : List ℕ) → (is_blank (byte ∷ rest) || byte == line_feed) ≡ true
    → tokens_from 0 false (byte ∷ rest) ≡ tokens_from 0 false rest
unfolding front_of
space_gone byte rest is =
    tokens-step false (byte ∷ rest) (nothing 0 false) (omega arith) (cond-true (is_blank (byte ∷ rest) || byte == line_feed) _ _ is)
    ∙ none-before (tokens_from 0 false rest)

-- what stands after a comment that ends its entry has no token
after_comment : (rest : List ℕ) (place : Option ℕ) → length rest ≤ comment_size rest + 1
    → position (λ byte. byte == line_feed) rest ≡ place → tokens_from 0 false (drop (comment_size rest) rest) ≡ Ok []
after_comment rest None ends is =
    let size : comment_size rest ≡ length rest = ap (λ o. unwrap_or o (length rest)) is in
    tokens-end (drop (comment_size rest) rest) (omega (arith, length-drop (comment_size rest) rest, size))
after_comment rest (Some i) ends is =
    let size : comment_size rest ≡ i = ap (λ o. unwrap_or o (length rest)) is in
    let found = position-Some (λ byte. byte == line_feed) rest i 0 is in
    let cut : drop (comment_size rest) rest ≡ get_or rest i 0 ∷ drop (i + 1) rest =
    ap (λ n. drop n rest) size ∙ drop_more rest i 0 found.0 in
    ap (tokens_from 0 false) cut
    ∙ space_gone (get_or rest i 0) (drop (i + 1) rest) (or_right (is_blank (get_or rest i 0 ∷ drop (i + 1) rest)) _ found.1)
    ∙ tokens-end (drop (i + 1) rest) (omega (arith, length-drop (i + 1) rest, ends, size))

-- a comment that ends its entry is no token
comment_gone : (rest : List ℕ) → length rest ≤ comment_size rest + 1 → tokens_from 0 false (semicolon ∷ rest) ≡ Ok []
unfolding front_of
comment_gone rest ends =
    tokens-step false (semicolon ∷ rest) (nothing (comment_size rest) false) (omega arith) refl
    ∙ none-before (tokens_from 0 false (drop (comment_size rest + 1) (semicolon ∷ rest)))
    ∙ ap (λ n. tokens_from 0 false (drop n (semicolon ∷ rest))) (add-one (comment_size rest))
    ∙ after_comment rest (position (λ byte. byte == line_feed) rest) ends refl

-- a blank entry has no token
pub blank_has_none : (entry : List ℕ) → is_blank_entry entry ≡ true → tokens_of entry ≡ Ok []
unfolding tokens_of
blank_has_none [] is = tokens-end [] refl
blank_has_none (byte ∷ rest) is = by (blank_has_none rest) (is_blank (byte ∷ rest) || byte == line_feed) refl is
  where
    by : (is_blank_entry rest ≡ true → tokens_of rest ≡ Ok []) → (space : Bool) → (is_blank (byte ∷ rest) || byte == line_feed) ≡ space
        → (if space then is_blank_entry rest else byte == semicolon && nat_le (length rest) (comment_size rest + 1)) ≡ true
        → tokens_from 0 false (byte ∷ rest) ≡ Ok []
    by later true here more = space_gone byte rest here ∙ later more
    by later false here last =
        let parts = and_parts (byte == semicolon) (nat_le (length rest) (comment_size rest + 1)) last in
        subst (λ b. tokens_from 0 false (b ∷ rest) ≡ Ok []) (sym (eqb-true byte semicolon parts.0))
        (comment_gone rest (leb-true (length rest) (comment_size rest + 1) parts.1))
