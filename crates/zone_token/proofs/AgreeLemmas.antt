use Rattle.std.proofs.Common.{◌≡◌, ◌∙◌, ℕ, suc, ◌+◌, ◌-◌, ◌≤◌, List, [], ◌∷◌, ◌++◌, length, take, drop, Bool}
use Rattle.std.proofs.Common.{true, false, not, Some, None, Result, Ok, Err, cond, ltb, refl, sym, ap, subst, arith}
use Rattle.std.proofs.Common.{append_assoc}
use Rattle.std.specs.Prelude.{◌==◌, ◌||◌, ◌&&◌, if◌then◌else◌, unwrap_or}
use Rattle.std.specs.List.{position_or_len}
use Rattle.std.proofs.lemmas.List.{append-nil, take-append-drop}
use Rattle.std.proofs.lemmas.Bool.{cond-false, and_parts, eqb-true}
use Rattle.std.proofs.lemmas.Bool.Decides.{nat_tests}
use Rattle.zone_token.specs.Bytes.{line_feed, quote, opening, closing, semicolon, backslash, is_blank}
use Rattle.zone_token.specs.Entries.{after, ends_entry, is_quoted, last_entry, entries_from}
use Rattle.zone_token.specs.Tokens.{◌>>=◌, ends_bare, is_bare, bare_from, is_in_quotes, quoted_from, comment_size, nothing, one, front_of}
use Rattle.zone_token.specs.Laws.{plain, EntriesGoOn}
use Rattle.zone_token.specs.declared.spot.Part.TheVariants.{Plain, Escaped, Quoted, QuotedEscaped, Comment}
use Rattle.zone_token.specs.declared.spot.Spot.{Spot}
use Rattle.zone_token.specs.declared.token.Front.{Front}
use Rattle.zone_token.specs.declared.fault.TextWhy.{TextWhy}
use Rattle.zone_token.specs.declared.fault.TextWhy.TheVariants.{BadToken, OpenQuote}

-- bytes lead from a spot to another, and end no entry on the way
abbrev Passes : Spot → List ℕ → Spot → Type 0
Passes spot [] last = spot ≡ last
Passes spot (byte ∷ rest) last = (ends_entry spot byte ≡ false) × Passes (after spot byte) rest last

passes-entries : (begun : List ℕ) (spot last : Spot) (some rest : List ℕ) → Passes spot some last
    → entries_from begun spot (some ++ rest) ≡ entries_from (begun ++ some) last rest
passes-entries begun spot last [] rest p = ap (λ s. entries_from begun s rest) p ∙ ap (λ b. entries_from b last rest) (sym (append-nil begun))
passes-entries begun spot last (byte ∷ some) rest p =
    cond-false (ends_entry spot byte) _ _ p.0
    ∙ passes-entries (begun ++ byte ∷ []) (after spot byte) last some rest p.1 ∙ ap (λ b. entries_from b last rest) (append_assoc begun (byte ∷ []) some)

-- one byte of plain text
one-more : (begun : List ℕ) (inside : Bool) (next : Spot) (byte : ℕ) (rest : List ℕ)
    → ends_entry (plain inside) byte ≡ false → after (plain inside) byte ≡ next
    → entries_from begun (plain inside) (byte ∷ rest) ≡ entries_from (begun ++ byte ∷ []) next rest
one-more begun inside next byte rest goes is =
    cond-false (ends_entry (plain inside) byte) _ _ goes ∙ ap (λ s. entries_from (begun ++ byte ∷ []) s rest) is

six : (a b c d e f : Bool) → (a || b || c || d || e || f) ≡ false → (a ≡ false) × (b ≡ false) × (c ≡ false) × (d ≡ false) × (e ≡ false) × (f ≡ false)
six false false false false false false is = (refl, refl, refl, refl, refl, refl)
six true b c d e f is = cc
six false true c d e f is = cc
six false false true d e f is = cc
six false false false true e f is = cc
six false false false false true f is = cc
six false false false false false true is = cc

-- the spot in a bare token, after a backslash or not
abbrev bare_spot : Bool → Bool → Spot
bare_spot true inside = record { part = Escaped; inside = inside }
bare_spot false inside = plain inside

bare-of : (escapes inside : Bool) → ◌≡◌ {A = Spot} (record { part = if escapes then Escaped else Plain; inside = inside }) (bare_spot escapes inside)
bare-of true inside = refl
bare-of false inside = refl

visible-feed : (byte : ℕ) (rest : List ℕ) → is_bare true (byte ∷ rest) ≡ true → (byte == line_feed) ≡ false
visible-feed byte rest is = grind (arith, nat_tests)

-- a byte of a bare token
bare-step : (escaped inside : Bool) (byte : ℕ) (rest : List ℕ) → (not escaped && ends_bare (byte ∷ rest)) ≡ false
    → is_bare escaped (byte ∷ rest) ≡ true
    → (ends_entry (bare_spot escaped inside) byte ≡ false)
    × (after (bare_spot escaped inside) byte ≡ bare_spot (not escaped && byte == backslash) inside)
bare-step true inside byte rest goes is = (ap (λ t. t && (is_quoted Escaped || not inside)) (visible-feed byte rest is), refl)
bare-step false inside byte rest goes is =
    let s = six (is_blank (byte ∷ rest)) (byte == line_feed) (byte == semicolon) (byte == opening) (byte == closing) (byte == quote) goes in
    (ap (λ t. t && (is_quoted Plain || not inside)) s.1, rw (s.5, s.2, s.3, s.4) (bare-of (byte == backslash) inside))

bare-passes : (escaped inside : Bool) (size n : ℕ) (text : List ℕ) → bare_from escaped size text ≡ Ok n
    → (size ≤ n) × Passes (bare_spot escaped inside) (take (n - size) text) (plain inside)
bare-passes true inside size n [] is = cc
bare-passes false inside size n [] is =
    let e : size ≡ n = cc in
    let none : 0 ≡ n - size = omega (arith, e) in
    (omega (arith, e), subst (λ k. Passes (plain inside) (take {A = ℕ} k []) (plain inside)) none refl)
bare-passes escaped inside size n (byte ∷ rest) is =
    at (λ same. bare-passes (not escaped && byte == backslash) inside (size + 1) n rest same)
    (not escaped && ends_bare (byte ∷ rest)) (is_bare escaped (byte ∷ rest)) refl refl is
  where
    Later : Type 0
    Later = bare_from (not escaped && byte == backslash) (size + 1) rest ≡ Ok n
        → (size + 1 ≤ n) × Passes (bare_spot (not escaped && byte == backslash) inside) (take (n - (size + 1)) rest)
        (plain inside)

    at : Later → (ends bare : Bool) → (not escaped && ends_bare (byte ∷ rest)) ≡ ends
        → is_bare escaped (byte ∷ rest) ≡ bare
        → (if ends then Ok size else if bare then bare_from (not escaped && byte == backslash) (size + 1) rest else Err
        BadToken) ≡ Ok n → (size ≤ n) × Passes (bare_spot escaped inside) (take (n - size) (byte ∷ rest)) (plain inside)
    at again true bare ends is same =
        let e : size ≡ n = cc in
        let none : 0 ≡ n - size = omega (arith, e) in
        let plainly : escaped ≡ false = not-true escaped (and_parts (not escaped) (ends_bare (byte ∷ rest)) ends).0 in (
          omega (arith, e),
          subst (λ k. Passes (bare_spot escaped inside) (take {A = ℕ} k (byte ∷ rest)) (plain inside)) none
              (ap (λ t. bare_spot t inside) plainly),
        )
      where
        not-true : (t : Bool) → not t ≡ true → t ≡ false
        not-true true is = cc
        not-true false is = refl
    at again false false ends is same = cc
    at again false true ends is same =
        let later = again same in
        let step = bare-step escaped inside byte rest ends is in
        let longer : suc (n - (size + 1)) ≡ n - size = omega (arith, later.0) in
        let first : Passes (after (bare_spot escaped inside) byte) (take (n - (size + 1)) rest) (plain inside) =
        subst (λ s. Passes s (take (n - (size + 1)) rest) (plain inside)) (sym step.1) later.1 in
        (omega (arith, later.0), subst (λ k. Passes (bare_spot escaped inside) (take {A = ℕ} k (byte ∷ rest)) (plain inside)) longer (step.0, first))

-- the spot in a quoted token, after a backslash or not
abbrev quoted_spot : Bool → Bool → Spot
quoted_spot true inside = record { part = QuotedEscaped; inside = inside }
quoted_spot false inside = record { part = Quoted; inside = inside }

quoted-of : (escapes inside : Bool) → ◌≡◌ {A = Spot} (record { part = if escapes then QuotedEscaped else Quoted; inside = inside }) (quoted_spot escapes inside)
quoted-of true inside = refl
quoted-of false inside = refl

-- a byte of a quoted token
quoted-step : (escaped inside : Bool) (byte : ℕ) → (byte == line_feed) ≡ false → (not escaped && byte == quote) ≡ false
    → (ends_entry (quoted_spot escaped inside) byte ≡ false)
    × (after (quoted_spot escaped inside) byte ≡ quoted_spot (not escaped && byte == backslash) inside)
quoted-step true inside byte feed closes = (ap (λ t. t && (is_quoted QuotedEscaped || not inside)) feed, refl)
quoted-step false inside byte feed closes = (ap (λ t. t && (is_quoted Quoted || not inside)) feed, rw closes (quoted-of (byte == backslash) inside))

-- the quotation mark that closes
quoted-close : (escaped inside : Bool) (byte : ℕ) → (byte == line_feed) ≡ false → (not escaped && byte == quote) ≡ true
    → Passes (quoted_spot escaped inside) (byte ∷ []) (plain inside)
quoted-close true inside byte feed closes = cc
quoted-close false inside byte feed closes = (ap (λ t. t && (is_quoted Quoted || not inside)) feed, rw closes refl)

quoted-passes : (escaped inside : Bool) (size n : ℕ) (text : List ℕ) → quoted_from escaped size text ≡ Ok n
    → (size ≤ n) × Passes (quoted_spot escaped inside) (take (n - size + 1) text) (plain inside)
quoted-passes true inside size n [] is = cc
quoted-passes false inside size n [] is = cc
quoted-passes escaped inside size n (byte ∷ rest) is =
    at (λ same. quoted-passes (not escaped && byte == backslash) inside (size + 1) n rest same) (byte == line_feed)
    (not escaped && byte == quote) (is_in_quotes escaped (byte ∷ rest)) refl refl is
  where
    Later : Type 0
    Later = quoted_from (not escaped && byte == backslash) (size + 1) rest ≡ Ok n
        → (size + 1 ≤ n) × Passes (quoted_spot (not escaped && byte == backslash) inside)
        (take (n - (size + 1) + 1) rest) (plain inside)

    at : Later → (feeds closes stays : Bool) → (byte == line_feed) ≡ feeds → (not escaped && byte == quote) ≡ closes
        → (if feeds then Err OpenQuote else if closes then Ok size else if stays then quoted_from
        (not escaped && byte == backslash) (size + 1) rest else Err BadToken) ≡ Ok n
        → (size ≤ n) × Passes (quoted_spot escaped inside) (take (n - size + 1) (byte ∷ rest)) (plain inside)
    at again true closes stays feed close same = cc
    at again false true stays feed close same =
        let e : size ≡ n = cc in
        let one : suc 0 ≡ n - size + 1 = omega (arith, e) in (
          omega (arith, e),
          subst (λ k. Passes (quoted_spot escaped inside) (take {A = ℕ} k (byte ∷ rest)) (plain inside)) one
              (quoted-close escaped inside byte feed close),
        )
    at again false false false feed close same = cc
    at again false false true feed close same =
        let later = again same in
        let step = quoted-step escaped inside byte feed close in
        let longer : suc (n - (size + 1) + 1) ≡ n - size + 1 = omega (arith, later.0) in
        let first : Passes (after (quoted_spot escaped inside) byte) (take (n - (size + 1) + 1) rest) (plain inside) =
        subst (λ s. Passes s (take (n - (size + 1) + 1) rest) (plain inside)) (sym step.1) later.1 in
        (omega (arith, later.0), subst (λ k. Passes (quoted_spot escaped inside) (take {A = ℕ} k (byte ∷ rest)) (plain inside)) longer (step.0, first))

-- the spot in a comment
abbrev comment_spot : Bool → Spot
comment_spot inside = record { part = Comment; inside = inside }

abbrev feeds : ℕ → Bool
feeds byte = byte == line_feed

-- a comment goes on to its line feed, and then stands as plain text does
comment-over : (begun : List ℕ) (inside : Bool) (text : List ℕ)
    → entries_from begun (comment_spot inside) text
    ≡ entries_from (begun ++ take (position_or_len feeds text) text) (plain inside)
    (drop (position_or_len feeds text) text)
comment-over begun inside [] = ap last_entry (sym (append-nil begun))
comment-over begun inside (byte ∷ rest) = at (comment-over (begun ++ byte ∷ []) inside rest) (feeds byte) refl
  where
    feed-here : ◌≡◌ (entries_from begun (comment_spot inside) (line_feed ∷ rest)) (entries_from begun (plain inside) (line_feed ∷ rest))
    feed-here = refl

    ends-here : (byte ≡ line_feed) → entries_from begun (comment_spot inside) (byte ∷ rest) ≡ entries_from begun (plain inside) (byte ∷ rest)
    ends-here e = subst (λ b. entries_from begun (comment_spot inside) (b ∷ rest) ≡ entries_from begun (plain inside) (b ∷ rest)) (sym e) feed-here

    Over : ℕ → Type 0
    Over n = entries_from begun (comment_spot inside) (byte ∷ rest) ≡ entries_from (begun ++ take n (byte ∷ rest)) (plain inside) (drop n (byte ∷ rest))

    at : entries_from (begun ++ byte ∷ []) (comment_spot inside) rest
        ≡ entries_from ((begun ++ byte ∷ []) ++ take (position_or_len feeds rest) rest) (plain inside)
        (drop (position_or_len feeds rest) rest) → (t : Bool) → feeds byte ≡ t
        → Over (position_or_len feeds (byte ∷ rest))
    at later true is =
        let none : position_or_len feeds (byte ∷ rest) ≡ 0 = ap (λ t. cond (not t) (1 + position_or_len feeds rest) 0) is in
        subst Over (sym none) (ends-here (eqb-true byte line_feed is) ∙ ap (λ b. entries_from b (plain inside) (byte ∷ rest)) (sym (append-nil begun)))
    at later false is =
        let n = position_or_len feeds rest in
        let more : position_or_len feeds (byte ∷ rest) ≡ 1 + n = ap (λ t. cond (not t) (1 + n) 0) is in
        let next : 1 + n ≡ suc n = omega arith in
        let goes : ends_entry (comment_spot inside) byte ≡ false = ap (λ t. t && (is_quoted Comment || not inside)) is in
        let stays : after (comment_spot inside) byte ≡ comment_spot inside = rw is refl in
        subst Over (sym (more ∙ next))
        (cond-false (ends_entry (comment_spot inside) byte) _ _ goes ∙ ap (λ s. entries_from (begun ++ byte ∷ []) s rest) stays
        ∙ later ∙ ap (λ b. entries_from b (plain inside) (drop n rest)) (append_assoc begun (byte ∷ []) (take n rest)))

within-len : (test : ℕ → Bool) (text : List ℕ) → position_or_len test text ≤ length text
within-len test [] = omega arith
within-len test (byte ∷ rest) = at (within-len test rest) (test byte) refl
  where
    at : position_or_len test rest ≤ length rest → (t : Bool) → test byte ≡ t → position_or_len test (byte ∷ rest) ≤ suc (length rest)
    at later true is = let e : position_or_len test (byte ∷ rest) ≡ 0 = ap (λ t. cond (not t) (1 + position_or_len test rest) 0) is in omega (arith, e)
    at later false is = let e : position_or_len test (byte ∷ rest) ≡ 1 + position_or_len test rest =
        ap (λ t. cond (not t) (1 + position_or_len test rest) 0) is in omega (arith, e, later)

size-is : (n size : ℕ) → n ≤ size → unwrap_or (cond (ltb n size) (Some n) None) size ≡ n
size-is n size within = grind (arith, nat_tests)

comment-is : (text : List ℕ) → comment_size text ≡ position_or_len feeds text
comment-is text = size-is (position_or_len feeds text) (length text) (within-len feeds text)

-- a blank or a line feed is no mark
blank-quote : (byte : ℕ) (rest : List ℕ) → (is_blank (byte ∷ rest) || byte == line_feed) ≡ true → (byte == quote) ≡ false
blank-quote byte rest is = grind (arith, nat_tests)

blank-comment : (byte : ℕ) (rest : List ℕ) → (is_blank (byte ∷ rest) || byte == line_feed) ≡ true → (byte == semicolon) ≡ false
blank-comment byte rest is = grind (arith, nat_tests)

blank-escape : (byte : ℕ) (rest : List ℕ) → (is_blank (byte ∷ rest) || byte == line_feed) ≡ true → (byte == backslash) ≡ false
blank-escape byte rest is = grind (arith, nat_tests)

blank-opening : (byte : ℕ) (rest : List ℕ) → (is_blank (byte ∷ rest) || byte == line_feed) ≡ true → (byte == opening) ≡ false
blank-opening byte rest is = grind (arith, nat_tests)

blank-closing : (byte : ℕ) (rest : List ℕ) → (is_blank (byte ∷ rest) || byte == line_feed) ≡ true → (byte == closing) ≡ false
blank-closing byte rest is = grind (arith, nat_tests)

-- no entry ends at a byte other than a line feed, nor inside parentheses
goes_on_at : (inside : Bool) (byte : ℕ) → (byte ≡ line_feed → inside ≡ true) → ends_entry (plain inside) byte ≡ false
goes_on_at inside byte within = at (byte == line_feed) refl
  where
    at : (t : Bool) → (byte == line_feed) ≡ t → (t && (is_quoted Plain || not inside)) ≡ false
    at true is = ap not (within (eqb-true byte line_feed is))
    at false is = refl

-- a front takes a byte and more
abbrev Over : List ℕ → Bool → ℕ → List ℕ → ℕ → Bool → Type 0
Over begun inside byte rest more now =
    entries_from begun (plain inside) (byte ∷ rest)
    ≡ entries_from (begun ++ byte ∷ take more rest) (plain now) (drop more rest)

over_blank : (begun : List ℕ) (inside : Bool) (byte : ℕ) (rest : List ℕ) → (byte ≡ line_feed → inside ≡ true)
    → (is_blank (byte ∷ rest) || byte == line_feed) ≡ true → Over begun inside byte rest 0 inside
over_blank begun inside byte rest within is =
    one-more begun inside (plain inside) byte rest (goes_on_at inside byte within)
    (rw (blank-quote byte rest is, blank-comment byte rest is, blank-escape byte rest is, blank-opening byte rest is, blank-closing byte rest is) refl)

over_comment : (begun : List ℕ) (inside : Bool) (rest : List ℕ) → Over begun inside semicolon rest (comment_size rest) inside
over_comment begun inside rest =
    let n = position_or_len feeds rest in
    subst (λ k. Over begun inside semicolon rest k inside) (sym (comment-is rest))
    (one-more begun inside (comment_spot inside) semicolon rest refl refl ∙ comment-over (begun ++ semicolon ∷ []) inside rest
    ∙ ap (λ b. entries_from b (plain inside) (drop n rest)) (append_assoc begun (semicolon ∷ []) (take n rest)))

over_quoted : (begun : List ℕ) (inside : Bool) (rest : List ℕ) (n : ℕ) → quoted_from false 0 rest ≡ Ok n → Over begun inside quote rest (n + 1) inside
over_quoted begun inside rest n is =
    let same : n - 0 + 1 ≡ n + 1 = omega arith in
    let passes : Passes (quoted_spot false inside) (take (n + 1) rest) (plain inside) =
    subst (λ k. Passes (quoted_spot false inside) (take k rest) (plain inside)) same
    (quoted-passes false inside 0 n rest is).1 in
    one-more begun inside (quoted_spot false inside) quote rest refl refl
    ∙ ap (entries_from (begun ++ quote ∷ []) (quoted_spot false inside)) (sym (take-append-drop (n + 1) rest))
    ∙ passes-entries (begun ++ quote ∷ []) (quoted_spot false inside) (plain inside) (take (n + 1) rest) (drop (n + 1) rest) passes
    ∙ ap (λ b. entries_from b (plain inside) (drop (n + 1) rest)) (append_assoc begun (quote ∷ []) (take (n + 1) rest))

-- a bare token has a byte
bare-some : (byte n : ℕ) (rest : List ℕ) → ends_bare (byte ∷ rest) ≡ false → bare_from false 0 (byte ∷ rest) ≡ Ok n → 1 ≤ n
bare-some byte n rest goes is = at (is_bare false (byte ∷ rest)) (sym (cond-false (ends_bare (byte ∷ rest)) _ _ goes) ∙ is)
  where
    at : (t : Bool) → (if t then bare_from (byte == backslash) 1 rest else Err BadToken) ≡ Ok n → 1 ≤ n
    at true same = (bare-passes (byte == backslash) false 1 n rest same).0
    at false same = cc

over_bare : (begun : List ℕ) (inside : Bool) (byte : ℕ) (rest : List ℕ) (n : ℕ) → ends_bare (byte ∷ rest) ≡ false
    → bare_from false 0 (byte ∷ rest) ≡ Ok n → Over begun inside byte rest (n - 1) inside
over_bare begun inside byte rest n goes is =
    let some = bare-some byte n rest goes is in
    let same : n - 0 ≡ suc (n - 1) = omega (arith, some) in
    let passes : Passes (plain inside) (byte ∷ take (n - 1) rest) (plain inside) =
    subst (λ k. Passes (plain inside) (take k (byte ∷ rest)) (plain inside)) same
    (bare-passes false inside 0 n (byte ∷ rest) is).1 in
    ap (λ t. entries_from begun (plain inside) (byte ∷ t)) (sym (take-append-drop (n - 1) rest))
    ∙ passes-entries begun (plain inside) (plain inside) (byte ∷ take (n - 1) rest) (drop (n - 1) rest) passes

front-more : (one other : Front) → ◌≡◌ {A = Result Front TextWhy} (Ok one) (Ok other) → one ≡ other
front-more one other is = cc

-- whatever is at the front
pub goes_on : EntriesGoOn
unfolding front_of
goes_on begun inside byte rest front is within =
    at (is_blank (byte ∷ rest) || byte == line_feed) (byte == semicolon) (byte == opening) (byte == closing) (byte == quote) refl refl refl refl refl is
  where
    Made : Front → Type 0
    Made f = Over begun inside byte rest f.more f.inside

    made : (f : Front) → Made f → ◌≡◌ {A = Result Front TextWhy} (Ok f) (Ok front) → Made front
    made f over same = subst Made (front-more f front same) over

    opening_at : (t : Bool) → inside ≡ t → byte ≡ opening → (if t then Err BadToken else Ok (nothing 0 true)) ≡ Ok front → Made front
    opening_at true in_them e same = cc
    opening_at false in_them e same =
        made (nothing 0 true)
        (subst (λ b. Over begun inside b rest 0 true) (sym e) (one-more begun inside (plain true) opening rest refl refl)) same

    closing_at : (t : Bool) → inside ≡ t → byte ≡ closing → (if t then Ok (nothing 0 false) else Err BadToken) ≡ Ok front → Made front
    closing_at false in_them e same = cc
    closing_at true in_them e same =
        made (nothing 0 false)
        (subst (λ b. Over begun inside b rest 0 false) (sym e) (one-more begun inside (plain false) closing rest refl refl)) same

    quoted : (r : Result ℕ TextWhy) → quoted_from false 0 rest ≡ r → byte ≡ quote
        → (r >>= λ size. Ok (one true (take size rest) (size + 1) inside)) ≡ Ok front → Made front
    quoted (Err why) read e same = cc
    quoted (Ok n) read e same =
        made (one true (take n rest) (n + 1) inside) (subst (λ b. Over begun inside b rest (n + 1) inside) (sym e) (over_quoted begun inside rest n read)) same

    bare : (r : Result ℕ TextWhy) → bare_from false 0 (byte ∷ rest) ≡ r → ends_bare (byte ∷ rest) ≡ false
        → (r >>= λ size. Ok (one false (take size (byte ∷ rest)) (size - 1) inside)) ≡ Ok front → Made front
    bare (Err why) read goes same = cc
    bare (Ok n) read goes same = made (one false (take n (byte ∷ rest)) (n - 1) inside) (over_bare begun inside byte rest n goes read) same

    none : (a b c d e f : Bool) → (a || b) ≡ false → c ≡ false → d ≡ false → e ≡ false → f ≡ false → (a || b || c || d || e || f) ≡ false
    none false false false false false false p q r s t = refl
    none true b c d e f p q r s t = cc
    none false true c d e f p q r s t = cc
    none false false true d e f p q r s t = cc
    none false false false true e f p q r s t = cc
    none false false false false true f p q r s t = cc
    none false false false false false true p q r s t = cc

    at : (blank comment opens closes quotes : Bool) → (is_blank (byte ∷ rest) || byte == line_feed) ≡ blank
        → (byte == semicolon) ≡ comment → (byte == opening) ≡ opens → (byte == closing) ≡ closes
        → (byte == quote) ≡ quotes
        → (if blank then Ok (nothing 0 inside) else if comment then Ok (nothing (comment_size rest) inside) else if
        opens then (if inside then Err BadToken else Ok (nothing 0 true)) else if closes then
        (if inside then Ok (nothing 0 false) else Err BadToken) else if quotes then
        (quoted_from false 0 rest >>= λ size. Ok (one true (take size rest) (size + 1) inside)) else
        (bare_from false 0 (byte ∷ rest) >>= λ size. Ok (one false (take size (byte ∷ rest)) (size - 1) inside)))
        ≡ Ok front → Made front
    at true c o l q b1 b2 b3 b4 b5 same = made (nothing 0 inside) (over_blank begun inside byte rest within b1) same
    at false true o l q b1 b2 b3 b4 b5 same =
        made (nothing (comment_size rest) inside)
        (subst (λ b. Over begun inside b rest (comment_size rest) inside) (sym (eqb-true byte semicolon b2))
        (over_comment begun inside rest)) same
    at false false true l q b1 b2 b3 b4 b5 same = opening_at inside refl (eqb-true byte opening b3) same
    at false false false true q b1 b2 b3 b4 b5 same = closing_at inside refl (eqb-true byte closing b4) same
    at false false false false true b1 b2 b3 b4 b5 same = quoted (quoted_from false 0 rest) refl (eqb-true byte quote b5) same
    at false false false false false b1 b2 b3 b4 b5 same =
        bare (bare_from false 0 (byte ∷ rest)) refl
        (none (is_blank (byte ∷ rest)) (byte == line_feed) (byte == semicolon) (byte == opening) (byte == closing)
        (byte == quote) b1 b2 b3 b4 b5) same

-- a line feed outside parentheses is no token
pub feed_is_nothing : (rest : List ℕ) → front_of false (line_feed ∷ rest) ≡ Ok (nothing 0 false)
unfolding front_of
feed_is_nothing rest = refl
