use Rattle.std.proofs.Common.{◌≡◌, ◌∙◌, ℕ, ◌+◌, ◌<◌, ◌≤◌, List, [], ◌∷◌, ◌++◌, length, Bool, true, false, cond, Result}
use Rattle.std.proofs.Common.{Ok, Err, refl, sym, ap, inl, inr, subst, arith, length-append}
use Rattle.std.specs.Prelude.{nat_lt}
use Rattle.std.proofs.lemmas.List.{append-nil}
use Rattle.std.proofs.lemmas.Bool.{cond-true, cond_both, lt-ltb}
use Rattle.dns_name.specs.Name.{Labels}
use Rattle.zone_token.specs.Entries.{beginning, after, ends_entry, entries_from, entries_of, ended_from, ended_of}
use Rattle.zone_text.specs.Zone.{most_bytes, bytes_of, entry_within, Break, BreaksSoFar, ZoneBreaks}
use Rattle.zone_text.specs.Reading.{Read, unread, read_after, on_line, step, run, rest_from, rest_of, ◌>>=◌}
use Rattle.zone_token.specs.declared.spot.Spot.{Spot}
use Rattle.zone_token.specs.declared.fault.TextWhy.{TextWhy}
use Rattle.zone_token.specs.declared.fault.TextWhy.TheVariants.{TooLarge}
use Rattle.zone_text.specs.declared.fault.TextFault.{TextFault}
use Rattle.zone_text.proofs.RunLemmas.{run-append, run-done, run-break, break-run, break-more}

-- what a byte leaves, by whether it ends an entry
split-at : (t : Bool) (entry : List ℕ) (ended going some more : List (List ℕ)) (first second : List ℕ × Spot)
    (later : List ℕ → Spot → List (List ℕ)) → ended ≡ some ++ later first.0 first.1
    → going ≡ more ++ later second.0 second.1
    → cond t (entry ∷ ended) going ≡ cond t (entry ∷ some) more ++ later (cond t first second).0 (cond t first second).1
split-at true entry ended going some more first second later e g = ap (λ es. entry ∷ es) e
split-at false entry ended going some more first second later e g = g

rest-at : (t : Bool) (ended going : List ℕ × Spot) (first second : List ℕ × Spot)
    (later : List ℕ → Spot → List ℕ × Spot) → ended ≡ later first.0 first.1 → going ≡ later second.0 second.1
    → cond t ended going ≡ later (cond t first second).0 (cond t first second).1
rest-at true ended going first second later e g = e
rest-at false ended going first second later e g = g

-- the entries of a text and more are those that ended in it, and those of what is left with the more
pub entries-split : (begun : List ℕ) (spot : Spot) (text more : List ℕ)
    → entries_from begun spot (text ++ more) ≡ ended_from begun spot text
    ++ entries_from (rest_from begun spot text).0 (rest_from begun spot text).1 more
entries-split begun spot [] more = refl
entries-split begun spot (byte ∷ text) more =
    split-at (ends_entry spot byte) (begun ++ byte ∷ []) _ _ _ _ (rest_from [] beginning text)
    (rest_from (begun ++ byte ∷ []) (after spot byte) text) (λ b s. entries_from b s more)
    (entries-split [] beginning text more) (entries-split (begun ++ byte ∷ []) (after spot byte) text more)

pub ended-split : (begun : List ℕ) (spot : Spot) (text more : List ℕ)
    → ended_from begun spot (text ++ more) ≡ ended_from begun spot text
    ++ ended_from (rest_from begun spot text).0 (rest_from begun spot text).1 more
ended-split begun spot [] more = refl
ended-split begun spot (byte ∷ text) more =
    split-at (ends_entry spot byte) (begun ++ byte ∷ []) _ _ _ _ (rest_from [] beginning text)
    (rest_from (begun ++ byte ∷ []) (after spot byte) text) (λ b s. ended_from b s more)
    (ended-split [] beginning text more) (ended-split (begun ++ byte ∷ []) (after spot byte) text more)

pub rest-split : (begun : List ℕ) (spot : Spot) (text more : List ℕ)
    → rest_from begun spot (text ++ more) ≡ rest_from (rest_from begun spot text).0 (rest_from begun spot text).1 more
rest-split begun spot [] more = refl
rest-split begun spot (byte ∷ text) more =
    rest-at (ends_entry spot byte) _ _ (rest_from [] beginning text) (rest_from (begun ++ byte ∷ []) (after spot byte) text) (λ b s. rest_from b s more)
    (rest-split [] beginning text more) (rest-split (begun ++ byte ∷ []) (after spot byte) text more)

-- a fault of size
abbrev pub too_large : ℕ → Result Read TextFault
too_large line = Err (record { line = line; why = TooLarge })

-- an entry that goes past the last byte
step-over : (read : Read) (entry : List ℕ) → most_bytes < read.size + length entry → step read entry ≡ too_large read.line
step-over read entry over =
    let test : nat_lt most_bytes (read.size + length entry) ≡ true = lt-ltb most_bytes (read.size + length entry) over in
    let within : entry_within (read.size + length entry) (length read.said) read.standing entry ≡ Err TooLarge = cond-true _ _ _ test in
    ap (λ o. on_line read.line o (λ m. Ok (read_after read entry m))) within

over-first : (read : Read) (entry : List ℕ) (entries : List (List ℕ)) → most_bytes < read.size + length entry → run read (entry ∷ entries) ≡ too_large read.line
over-first read entry entries over = ap (λ (o : Result Read TextFault). o >>= λ n. run n entries) (step-over read entry over)

-- what is left goes past the last byte, whatever follows
pub run-over : (read : Read) (begun : List ℕ) (spot : Spot) (more : List ℕ) → 0 < length begun
    → most_bytes < read.size + length begun → run read (entries_from begun spot more) ≡ too_large read.line
run-over read [] spot [] some over = absurd (omega arith)
run-over read (b ∷ bs) spot [] some over = over-first read (b ∷ bs) [] over
run-over read begun spot (byte ∷ more) some over =
    let longer = length-append begun (byte ∷ []) in
    let P : List (List ℕ) → Type 0 = λ es. run read es ≡ too_large read.line in
    cond_both (ends_entry spot byte) _ _ P
    (λ _. over-first read (begun ++ byte ∷ []) (entries_from [] beginning more) (omega (arith, longer)))
    (λ _. run-over read (begun ++ byte ∷ []) (after spot byte) more (omega (arith, longer)) (omega (arith, longer)))

kept-at : (t : Bool) (entry : List ℕ) (ended going : List (List ℕ)) (first second : List ℕ × Spot) (n m : ℕ)
    → length (bytes_of ended) + length first.0 ≡ m → length entry + m ≡ n
    → length (bytes_of going) + length second.0 ≡ n
    → length (bytes_of (cond t (entry ∷ ended) going)) + length (cond t first second).0 ≡ n
kept-at true entry ended going first second n m e all g = omega (arith, length-append entry (bytes_of ended))
kept-at false entry ended going first second n m e all g = g

-- no byte is lost: those of the entries that ended and those that are left are those of the text
pub kept : (begun : List ℕ) (spot : Spot) (text : List ℕ)
    → length (bytes_of (ended_from begun spot text)) + length (rest_from begun spot text).0 ≡ length begun + length text
kept begun spot [] = omega arith
kept begun spot (byte ∷ text) =
    let longer = length-append begun (byte ∷ []) in
    let going : length (bytes_of (ended_from (begun ++ byte ∷ []) (after spot byte) text)) + length
    (rest_from (begun ++ byte ∷ []) (after spot byte) text).0 ≡ length begun + length (byte ∷ text) =
    omega (arith, kept (begun ++ byte ∷ []) (after spot byte) text, longer) in
    kept-at (ends_entry spot byte) (begun ++ byte ∷ []) (ended_from [] beginning text)
    (ended_from (begun ++ byte ∷ []) (after spot byte) text) (rest_from [] beginning text)
    (rest_from (begun ++ byte ∷ []) (after spot byte) text)
    (length begun + length (byte ∷ text)) (0 + length text) (kept [] beginning text) (omega (arith, longer)) going

-- what entries are that go on after those that ended
abbrev going_on : Result Read TextFault → List (List ℕ) → Result Read TextFault
going_on r more = r >>= λ next. run next more

stays-at : (origin : Labels) (text more : List ℕ) (fault : TextFault) (r : Result Read TextFault)
    → run (unread origin) (ended_of text) ≡ r → most_bytes + 1 ≤ length text
    → going_on r (entries_from (rest_of text).0 (rest_of text).1 []) ≡ Err fault
    → going_on r (entries_from (rest_of text).0 (rest_of text).1 more) ≡ Err fault
stays-at origin text more fault (Err other) is over stops = stops
stays-at origin text more fault (Ok read) is over stops =
    let d = run-done (unread origin) read (ended_of text) is in
    let all = kept [] beginning text in
    let small : read.size ≤ most_bytes = d.small (omega arith) in
    let some : 0 < length (rest_of text).0 = omega (arith, d.size, all) in
    let past : most_bytes < read.size + length (rest_of text).0 = omega (arith, d.size, all) in
    let now : run read (entries_from (rest_of text).0 (rest_of text).1 []) ≡ too_large read.line =
    run-over read (rest_of text).0 (rest_of text).1 [] some past in
    run-over read (rest_of text).0 (rest_of text).1 more some past ∙ sym now ∙ stops

-- the entries of a text and more, after those that ended in the text
run-split : (origin : Labels) (text more : List ℕ)
    → run (unread origin) (entries_of (text ++ more))
    ≡ going_on (run (unread origin) (ended_of text)) (entries_from (rest_of text).0 (rest_of text).1 more)
run-split origin text more =
    ap (run (unread origin)) (entries-split [] beginning text more)
    ∙ run-append (unread origin) (ended_of text) (entries_from (rest_of text).0 (rest_of text).1 more)

-- what is broken so far stays broken, whatever follows
pub stays_broken : (text more : List ℕ) (origin : Labels) (line : ℕ) (why : TextWhy) → BreaksSoFar text origin line why
    → ZoneBreaks (text ++ more) origin line why
stays_broken text more origin line why (inl b) =
    let P : List (List ℕ) → Type 0 = λ es. Break origin es line why in
    subst P (sym (entries-split [] beginning text more)) (break-more origin (ended_of text) (entries_from (rest_of text).0 (rest_of text).1 more) line why b)
stays_broken text more origin line why (inr b) =
    let fault : TextFault = record { line = line; why = why } in
    let stops : going_on (run (unread origin) (ended_of text)) (entries_from (rest_of text).0 (rest_of text).1 []) ≡ Err fault =
    sym (run-split origin text []) ∙ ap (λ t. run (unread origin) (entries_of t)) (append-nil text) ∙ break-run origin (entries_of text) line why b.1 in
    run-break origin (entries_of (text ++ more)) fault
    (run-split origin text more ∙ stays-at origin text more fault (run (unread origin) (ended_of text)) refl b.0 stops)

-- no byte is lost: the entries of a text have as many as it
entries_kept : (begun : List ℕ) (spot : Spot) (text : List ℕ) → length (bytes_of (entries_from begun spot text)) ≡ length begun + length text
entries_kept [] spot [] = refl
entries_kept (b ∷ begun) spot [] = omega (arith, length-append (b ∷ begun) [])
entries_kept begun spot (byte ∷ text) =
    let longer = length-append begun (byte ∷ []) in
    let P : List (List ℕ) → Type 0 = λ es. length (bytes_of es) ≡ length begun + length (byte ∷ text) in
    cond_both (ends_entry spot byte) _ _ P
    (λ _. omega (arith, entries_kept [] beginning text, length-append (begun ++ byte ∷ []) (bytes_of (entries_from [] beginning text)), longer))
    (λ _. omega (arith, entries_kept (begun ++ byte ∷ []) (after spot byte) text, longer))

pub entries-bytes : (text : List ℕ) → length (bytes_of (entries_of text)) ≡ length text
entries-bytes text = omega (arith, entries_kept [] beginning text)
