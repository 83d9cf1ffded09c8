use Rattle.std.proofs.Common.{◌≡◌, ℕ, ◌+◌, drop, List, [], ◌∷◌, length, Bool, true, false, Result, Ok, Err, refl, sym, arith}
use Rattle.std.specs.Prelude.{IfOk, nat_lt, bytes_eq, codes}
use Rattle.std.specs.Option.{ok_or}
use Rattle.std.proofs.lemmas.Bool.{cond_both, lt-ltb}
use Rattle.dns_name.specs.Name.{Labels}
use Rattle.dns_wire.specs.Kinds.{is_whole}
use Rattle.dns_wire.specs.declared.content.Content.{Content}
use Rattle.zone_token.specs.Token.{Token}
use Rattle.zone_token.specs.Tokens.{◌>>=◌, tokens_of}
use Rattle.zone_token.specs.Texts.{string_of}
use Rattle.zone_token.specs.Bytes.{is_blank}
use Rattle.zone_token.specs.Fields.{name_at, ends_at}
use Rattle.zone_text.specs.Data.{number_at, a_of, target_of, soa_of, mx_of, strings_of, txt_of, aaaa_of, srv_of, naptr_of, content_of}
use Rattle.zone_text.specs.Meaning.{head_at, kind_at, ttl_for, statement_of, record_of, origin_of, default_ttl_of}
use Rattle.zone_text.specs.Meaning.{directive_of, is_directive, meaning_of, entry_of, is_whole_meaning}
use Rattle.zone_text.specs.declared.kind.Kind.{Kind}
use Rattle.zone_text.specs.declared.kind.Kind.TheVariants as kind
use Rattle.zone_text.specs.declared.meaning.Standing.{Standing}
use Rattle.zone_text.specs.declared.meaning.Statement.{Statement}
use Rattle.zone_text.specs.declared.meaning.Meaning.{Meaning}
use Rattle.zone_token.specs.declared.fault.TextWhy.{TextWhy}
use Rattle.zone_token.specs.declared.fault.TextWhy.TheVariants.{BadName, BadData, NoOwner}

-- what is read is whole
abbrev IsWhole : Content → Type 0
IsWhole c = is_whole c ≡ true

abbrev IsSome : List (List ℕ) → Type 0
IsSome texts = nat_lt 0 (length texts) ≡ true

abbrev StatesWhole : Statement → Type 0
StatesWhole said = is_whole said.content ≡ true

abbrev MeansWhole : Meaning → Type 0
MeansWhole meaning = is_whole_meaning meaning ≡ true

-- what holds of whatever is read next
next : {A B : Type 0} (Q : B → Type 0) (r : Result A TextWhy) (f : A → Result B TextWhy) → ((x : A) → IfOk (f x) Q) → IfOk (r >>= f) Q
next Q (Ok x) f holds = holds x
next Q (Err why) f holds = tt

-- the same where something holds of what was read
next_of : {A B : Type 0} (P : A → Type 0) (Q : B → Type 0) (r : Result A TextWhy) (f : A → Result B TextWhy) → IfOk r P
    → ((x : A) → P x → IfOk (f x) Q) → IfOk (r >>= f) Q
next_of P Q (Ok x) f first holds = holds x first
next_of P Q (Err why) f first holds = tt

mx-whole : (origin : Labels) (fields : List Token) → IfOk (mx_of origin fields) IsWhole
unfolding mx_of
mx-whole origin fields =
    next IsWhole (number_at 65_535 fields 0) _
    (λ preference. next IsWhole (name_at BadData origin fields 1) _
    (λ exchange. next IsWhole (ends_at fields 2) _ (λ end. refl {A = Bool})))

srv-whole : (origin : Labels) (fields : List Token) → IfOk (srv_of origin fields) IsWhole
unfolding srv_of
srv-whole origin fields =
    next IsWhole (number_at 65_535 fields 0) _
    (λ priority. next IsWhole (number_at 65_535 fields 1) _
    (λ weight. next IsWhole (number_at 65_535 fields 2) _ (λ port.
    next IsWhole (name_at BadData origin fields 3) _ (λ target. next IsWhole (ends_at fields 4) _ (λ end. refl {A = Bool})))))

some-more : (string : List ℕ) (strings : List (List ℕ)) → IsSome (string ∷ strings)
some-more string strings = lt-ltb 0 (length (string ∷ strings)) (omega arith)

txt-some : (fields : List Token) → IfOk (txt_of fields) IsSome
unfolding txt_of strings_of
txt-some [] = tt
txt-some (token ∷ tokens) = next IsSome (ok_or (string_of token.text) BadData) _
    (λ string. next IsSome (strings_of tokens) _ (λ strings. some-more string strings))

-- content that is read is whole
content-whole : (of : Kind) (origin : Labels) (fields : List Token) → IfOk (content_of of origin fields) IsWhole
unfolding content_of
content-whole kind.A origin fields = next IsWhole (a_of fields) _ (λ address. refl {A = Bool})
content-whole kind.Ns origin fields = next IsWhole (target_of origin fields) _ (λ server. refl {A = Bool})
content-whole kind.Cname origin fields = next IsWhole (target_of origin fields) _ (λ target. refl {A = Bool})
content-whole kind.Soa origin fields = next IsWhole (soa_of origin fields) _ (λ soa. refl {A = Bool})
content-whole kind.Ptr origin fields = next IsWhole (target_of origin fields) _ (λ name. refl {A = Bool})
content-whole kind.Mx origin fields = mx-whole origin fields
content-whole kind.Txt origin fields = next_of IsSome IsWhole (txt_of fields) _ (txt-some fields) (λ texts some. some)
content-whole kind.Aaaa origin fields = next IsWhole (aaaa_of fields) _ (λ address. refl {A = Bool})
content-whole kind.Srv origin fields = srv-whole origin fields
content-whole kind.Naptr origin fields = next IsWhole (naptr_of origin fields) _ (λ rule. refl {A = Bool})

statement-whole : (standing : Standing) (owner : Labels) (tokens : List Token) (place : ℕ) → IfOk (statement_of standing owner tokens place) StatesWhole
unfolding statement_of
statement-whole standing owner tokens place =
    next StatesWhole (head_at tokens place) _
    (λ head. next StatesWhole (kind_at tokens head.place) _
    (λ of. next StatesWhole (ttl_for standing head.ttl of) _ (λ ttl.
    next_of IsWhole StatesWhole (content_of of standing.origin (drop (head.place + 1) tokens)) _
    (content-whole of standing.origin (drop (head.place + 1) tokens)) (λ said whole. whole))))

record-whole : (standing : Standing) (blank : Bool) (tokens : List Token) → IfOk (record_of standing blank tokens) StatesWhole
unfolding record_of
record-whole standing true tokens = next StatesWhole (ok_or standing.owner NoOwner) _ (λ owner. statement-whole standing owner tokens 0)
record-whole standing false tokens = next StatesWhole (name_at BadName standing.origin tokens 0) _ (λ owner. statement-whole standing owner tokens 1)

directive-whole : (origin : Labels) (word : List ℕ) (tokens : List Token) → IfOk (directive_of origin word tokens) MeansWhole
unfolding directive_of
directive-whole origin word tokens =
    let P : Result Meaning TextWhy → Type 0 = λ r. IfOk r MeansWhole in
    cond_both (bytes_eq word (codes "$ORIGIN")) _ _ P (λ _. next MeansWhole (origin_of origin tokens) _ (λ name. refl {A = Bool}))
    (λ _. cond_both (bytes_eq word (codes "$TTL")) _ _ P (λ _. next MeansWhole (default_ttl_of tokens) _ (λ ttl. refl {A = Bool})) (λ _. tt))

meaning-whole : (standing : Standing) (blank : Bool) (tokens : List Token) → IfOk (meaning_of standing blank tokens) MeansWhole
unfolding meaning_of
meaning-whole standing blank [] = refl {A = Bool}
meaning-whole standing blank (token ∷ tokens) =
    let P : Result Meaning TextWhy → Type 0 = λ r. IfOk r MeansWhole in
    cond_both (is_directive blank token) _ _ P (λ _. directive-whole standing.origin token.text (token ∷ tokens))
    (λ _. next_of StatesWhole MeansWhole (record_of standing blank (token ∷ tokens)) _ (record-whole standing blank (token ∷ tokens)) (λ said whole. whole))

-- what an entry means is whole
entry-whole : (standing : Standing) (entry : List ℕ) → IfOk (entry_of standing entry) MeansWhole
unfolding entry_of
entry-whole standing entry = next MeansWhole (tokens_of entry) _ (λ tokens. meaning-whole standing (is_blank entry) tokens)

pub entry_is_whole : (standing : Standing) (entry : List ℕ) (meaning : Meaning) → entry_of standing entry ≡ Ok meaning → is_whole_meaning meaning ≡ true
entry_is_whole standing entry meaning is = from (entry_of standing entry) is (entry-whole standing entry)
  where
    from : (r : Result Meaning TextWhy) → r ≡ Ok meaning → IfOk r MeansWhole → is_whole_meaning meaning ≡ true
    from (Ok other) same whole =
        let e : other ≡ meaning = cc in
        rw (sym e) whole
    from (Err why) same whole = cc
