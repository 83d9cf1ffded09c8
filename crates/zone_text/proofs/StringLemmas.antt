use Rattle.std.proofs.Common.{◌≡◌, ◌∙◌, ℕ, ◌+◌, ◌<◌, ◌≤◌, List, [], ◌∷◌, ◌++◌, length, get_or, drop, Result, Ok, Err, refl, sym, ap, arith, append_assoc}
use Rattle.std.specs.Option.{ok_or}
use Rattle.std.proofs.lemmas.List.{append-nil, drop_all, drop_more}
use Rattle.zone_token.specs.Token.{Token}
use Rattle.zone_token.specs.Tokens.{◌>>=◌}
use Rattle.zone_token.specs.Texts.{string_of}
use Rattle.zone_text.specs.Data.{strings_of}
use Rattle.zone_token.specs.declared.fault.TextWhy.{TextWhy}
use Rattle.zone_token.specs.declared.fault.TextWhy.TheVariants.{BadData}

-- strings before others, unless these have a fault
abbrev pub strings_before : List (List ℕ) → Result (List (List ℕ)) TextWhy → Result (List (List ℕ)) TextWhy
strings_before front rest = rest >>= λ strings. Ok (front ++ strings)

pub strings-step : (token : Token) (tokens : List Token) (string : List ℕ)
    → ok_or (string_of token.text) BadData ≡ Ok string
    → strings_of (token ∷ tokens) ≡ strings_before (string ∷ []) (strings_of tokens)
unfolding strings_of
strings-step token tokens string is = rw is refl

strings-fault : (token : Token) (tokens : List Token) (why : TextWhy) → ok_or (string_of token.text) BadData ≡ Err why → strings_of (token ∷ tokens) ≡ Err why
unfolding strings_of
strings-fault token tokens why is = rw is refl

before-before : (some more : List (List ℕ)) (rest : Result (List (List ℕ)) TextWhy)
    → strings_before some (strings_before more rest) ≡ strings_before (some ++ more) rest
before-before some more (Ok strings) = ap Ok (sym (append_assoc some more strings))
before-before some more (Err why) = refl

none-before : (rest : Result (List (List ℕ)) TextWhy) → strings_before [] rest ≡ rest
none-before (Ok strings) = refl
none-before (Err why) = refl

pub loop_starts : (texts : List (List ℕ)) (fields : List Token) → texts ≡ [] → strings_before texts (strings_of fields) ≡ strings_of fields
loop_starts texts fields is = rw is (none-before _)

pub loop_goes_on : (texts now : List (List ℕ)) (fields : List Token) (at : ℕ) (token : Token) (string : List ℕ)
    → strings_before texts (strings_of (drop at fields)) ≡ strings_of fields → at < length fields
    → token ≡ get_or fields at token → ok_or (string_of token.text) BadData ≡ Ok string → now ≡ texts ++ string ∷ []
    → strings_before now (strings_of (drop (at + 1) fields)) ≡ strings_of fields
loop_goes_on texts now fields at token string same below is read pushed =
    let here : drop at fields ≡ token ∷ drop (at + 1) fields = drop_more fields at token below ∙ ap (λ t. t ∷ drop (at + 1) fields) (sym is) in
    rw pushed (sym (before-before texts (string ∷ []) (strings_of (drop (at + 1) fields)))
    ∙ ap (strings_before texts) (sym (ap strings_of here ∙ strings-step token (drop (at + 1) fields) string read)) ∙ same)

pub loop_breaks : (texts : List (List ℕ)) (fields : List Token) (at : ℕ) (token : Token) (why : TextWhy)
    → strings_before texts (strings_of (drop at fields)) ≡ strings_of fields → at < length fields
    → token ≡ get_or fields at token → ok_or (string_of token.text) BadData ≡ Err why → strings_of fields ≡ Err why
loop_breaks texts fields at token why same below is read =
    let here : drop at fields ≡ token ∷ drop (at + 1) fields = drop_more fields at token below ∙ ap (λ t. t ∷ drop (at + 1) fields) (sym is) in
    sym same ∙ ap (strings_before texts) (ap strings_of here ∙ strings-fault token (drop (at + 1) fields) why read)

pub loop_ends : (texts : List (List ℕ)) (fields : List Token) (at : ℕ)
    → strings_before texts (strings_of (drop at fields)) ≡ strings_of fields → length fields ≤ at
    → strings_of fields ≡ Ok texts
unfolding strings_of
loop_ends texts fields at same past = sym same ∙ ap (λ ts. strings_before texts (strings_of ts)) (drop_all at fields past) ∙ ap Ok (append-nil texts)

some_from : (first : Result (List ℕ) TextWhy) (rest : Result (List (List ℕ)) TextWhy) (texts : List (List ℕ))
    → (first >>= λ string. rest >>= λ strings. Ok (string ∷ strings)) ≡ Ok texts → 0 < length texts
some_from (Err why) rest texts is = cc
some_from (Ok string) (Err why) texts is = cc
some_from (Ok string) (Ok strings) texts is =
    let e : string ∷ strings ≡ texts = cc in omega (arith, ap length e)

-- there are strings where there are tokens
pub strings_some : (fields : List Token) (texts : List (List ℕ)) → 0 < length fields → strings_of fields ≡ Ok texts → 0 < length texts
unfolding strings_of
strings_some [] texts some is = absurd (omega arith)
strings_some (token ∷ tokens) texts some is = some_from (ok_or (string_of token.text) BadData) (strings_of tokens) texts is
