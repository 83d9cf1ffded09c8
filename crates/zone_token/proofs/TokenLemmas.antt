use Rattle.std.proofs.Common.{◌≡◌, ◌∙◌, ℕ, zero, suc, ◌+◌, ◌<◌, List, [], ◌∷◌, ◌++◌, length, drop, Bool, true, false}
use Rattle.std.proofs.Common.{Result, Ok, Err, refl, sym, ap, arith, append_assoc, add-one}
use Rattle.std.proofs.lemmas.List.{append-nil}
use Rattle.std.specs.Option.{option_to_list}
use Rattle.zone_token.specs.Token.{Token}
use Rattle.zone_token.specs.Tokens.{◌>>=◌, front_of, tokens_from, tokens_of}
use Rattle.zone_token.specs.declared.token.Front.{Front}
use Rattle.zone_token.specs.declared.fault.TextWhy.{TextWhy}
use Rattle.zone_token.specs.declared.fault.TextWhy.TheVariants.{OpenParen}

-- tokens before others, unless these have a fault
abbrev pub after_tokens : List Token → Result (List Token) TextWhy → Result (List Token) TextWhy
after_tokens front rest = rest >>= λ tokens. Ok (front ++ tokens)

-- the tokens after some skipped bytes are those of what is left
tokens_from-drop : (skipped : ℕ) (inside : Bool) (text : List ℕ) → tokens_from skipped inside text ≡ tokens_from 0 inside (drop skipped text)
unfolding tokens_from
tokens_from-drop zero inside text = refl
tokens_from-drop (suc skipped) inside [] = refl
tokens_from-drop (suc skipped) inside (byte ∷ rest) = tokens_from-drop skipped inside rest

-- tokens go before others one list after another
pub after-after : (some more : List Token) (rest : Result (List Token) TextWhy) → after_tokens some (after_tokens more rest) ≡ after_tokens (some ++ more) rest
after-after some more (Ok tokens) = ap Ok (sym (append_assoc some more tokens))
after-after some more (Err why) = refl

pub none-before : (rest : Result (List Token) TextWhy) → after_tokens [] rest ≡ rest
none-before (Ok tokens) = refl
none-before (Err why) = refl

-- the tokens of a text are those at its front and those after it
pub tokens-step : (inside : Bool) (text : List ℕ) (front : Front) → 0 < length text → front_of inside text ≡ Ok front
    → tokens_from 0 inside text
    ≡ after_tokens (option_to_list front.token) (tokens_from 0 front.inside (drop (front.more + 1) text))
unfolding tokens_from
tokens-step inside [] front some is = absurd (omega arith)
tokens-step inside (byte ∷ rest) front some is =
    rw is (ap (after_tokens (option_to_list front.token))
    (tokens_from-drop front.more front.inside rest
    ∙ ap (λ n. tokens_from 0 front.inside (drop n (byte ∷ rest))) (sym (add-one front.more))))

-- a fault at the front is the fault of the text
pub tokens-fault : (inside : Bool) (text : List ℕ) (why : TextWhy) → 0 < length text → front_of inside text ≡ Err why → tokens_from 0 inside text ≡ Err why
unfolding tokens_from
tokens-fault inside [] why some is = absurd (omega arith)
tokens-fault inside (byte ∷ rest) why some is = rw is refl

pub tokens-open : (text : List ℕ) → length text ≡ 0 → tokens_from 0 true text ≡ Err OpenParen
unfolding tokens_from
tokens-open [] none = refl
tokens-open (byte ∷ rest) none = absurd (omega arith)

pub tokens-end : (text : List ℕ) → length text ≡ 0 → tokens_from 0 false text ≡ Ok []
unfolding tokens_from
tokens-end [] none = refl
tokens-end (byte ∷ rest) none = absurd (omega arith)

-- the loop over an entry: what each of its ends and its step give

pub loop_starts : (tokens : List Token) (entry : List ℕ) → tokens ≡ [] → after_tokens tokens (tokens_from 0 false entry) ≡ tokens_of entry
unfolding tokens_of
loop_starts tokens entry is = rw is (none-before _)

pub loop_goes_on : (tokens now : List Token) (inside : Bool) (text rest entry : List ℕ) (front : Front)
    → after_tokens tokens (tokens_from 0 inside text) ≡ tokens_of entry → 0 < length text
    → front_of inside text ≡ Ok front → now ≡ tokens ++ option_to_list front.token → rest ≡ drop (front.more + 1) text
    → after_tokens now (tokens_from 0 front.inside rest) ≡ tokens_of entry
loop_goes_on tokens now inside text rest entry front same some is more left =
    rw (more, left) (sym (after-after tokens (option_to_list front.token) (tokens_from 0 front.inside (drop (front.more + 1) text)))
    ∙ ap (after_tokens tokens) (sym (tokens-step inside text front some is)) ∙ same)

pub loop_breaks : (tokens : List Token) (inside : Bool) (text entry : List ℕ) (why : TextWhy)
    → after_tokens tokens (tokens_from 0 inside text) ≡ tokens_of entry → 0 < length text
    → front_of inside text ≡ Err why → tokens_of entry ≡ Err why
loop_breaks tokens inside text entry why same some is = sym same ∙ ap (after_tokens tokens) (tokens-fault inside text why some is)

pub loop_ends : (tokens : List Token) (text entry : List ℕ)
    → after_tokens tokens (tokens_from 0 false text) ≡ tokens_of entry → length text ≡ 0 → tokens_of entry ≡ Ok tokens
loop_ends tokens text entry same none = sym same ∙ ap (after_tokens tokens) (tokens-end text none) ∙ ap Ok (append-nil tokens)

pub loop_ends_open : (tokens : List Token) (text entry : List ℕ)
    → after_tokens tokens (tokens_from 0 true text) ≡ tokens_of entry → length text ≡ 0
    → tokens_of entry ≡ Err OpenParen
loop_ends_open tokens text entry same none = sym same ∙ ap (after_tokens tokens) (tokens-open text none)
