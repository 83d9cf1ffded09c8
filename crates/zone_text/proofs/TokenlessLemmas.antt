use Rattle.std.proofs.Common.{◌≡◌, ◌∙◌, ℕ, ◌+◌, ◌≤◌, List, [], length, true, false, Result, Ok, Err, refl, sym, ap}
use Rattle.std.specs.Prelude.{nat_lt}
use Rattle.std.proofs.lemmas.List.{append-nil}
use Rattle.std.proofs.lemmas.Bool.{cond-false, le-ltb}
use Rattle.zone_token.specs.Bytes.{is_blank}
use Rattle.zone_token.specs.Token.{Token}
use Rattle.zone_token.specs.Tokens.{◌>>=◌, is_blank_entry, tokens_of}
use Rattle.zone_token.specs.declared.fault.TextWhy.{TextWhy}
use Rattle.zone_token.proofs.BlankLemmas.{blank_has_none}
use Rattle.zone_text.specs.Meaning.{meaning_of, entry_of}
use Rattle.zone_text.specs.Zone.{most_bytes, lines_in, unless_full, entry_within}
use Rattle.zone_text.specs.Reading.{Read, read_after, on_line, step}
use Rattle.zone_text.specs.declared.meaning.Meaning.{Meaning}
use Rattle.zone_text.specs.declared.meaning.Meaning.TheVariants.{Nothing}
use Rattle.zone_text.specs.declared.meaning.Standing.{Standing}

-- an entry that fits means what its tokens do
sized : (size number : ℕ) (standing : Standing) (entry : List ℕ) (r : Result (List Token) TextWhy) → size ≤ most_bytes
    → tokens_of entry ≡ r → entry_within size number standing entry
    ≡ ((r >>= λ tokens. meaning_of standing (is_blank entry) tokens) >>= unless_full number)
unfolding entry_of
sized size number standing entry r within is =
    let fits : nat_lt most_bytes size ≡ false = le-ltb most_bytes size within in
    cond-false (nat_lt most_bytes size) _ _ fits
    ∙ ap (λ (t : Result (List Token) TextWhy). (t >>= λ tokens. meaning_of standing (is_blank entry) tokens) >>= unless_full number) is

-- an entry whose tokens are broken is broken so
pub broken_tokens : (size number : ℕ) (standing : Standing) (entry : List ℕ) (why : TextWhy) → size ≤ most_bytes
    → tokens_of entry ≡ Err why → entry_within size number standing entry ≡ Err why
broken_tokens size number standing entry why within is = sized size number standing entry (Err why) within is

nothing_meant : (number : ℕ) (standing : Standing) (entry : List ℕ) → (meaning_of standing (is_blank entry) [] >>= unless_full number) ≡ Ok Nothing
unfolding meaning_of
nothing_meant number standing entry = refl

-- a blank entry goes by
pub goes_by : (read next : Read) (entry : List ℕ) → read.size + length entry ≤ most_bytes → is_blank_entry entry ≡ true
    → next ≡ record read { line = read.line + lines_in entry; size = read.size + length entry }
    → step read entry ≡ Ok next
goes_by read next entry within blank passed =
    let means : entry_within (read.size + length entry) (length read.said) read.standing entry ≡ Ok Nothing =
    sized (read.size + length entry) (length read.said) read.standing entry (Ok []) within (blank_has_none entry blank)
    ∙ nothing_meant (length read.said) read.standing entry in
    ap (λ (o : Result Meaning TextWhy). on_line read.line o (λ m. Ok (read_after read entry m))) means
    ∙ ap (λ said. Ok
    (record {
      standing = read.standing;
      line = read.line + lines_in entry;
      size = read.size + length entry;
      said = said;
    })) (append-nil read.said)
    ∙ ap Ok (sym passed)
