use Rattle.std.proofs.Common.{◌≡◌, ◌∙◌, ◌⊎◌, ℕ, ◌+◌, ◌≤◌, List, [], ◌∷◌, ◌++◌, length, Bool, true, false, cond, Result}
use Rattle.std.proofs.Common.{Ok, Err, refl, sym, ap, inl, inr, subst, arith, append_assoc, length-append}
use Rattle.std.specs.Prelude.{nat_lt, ◌==◌}
use Rattle.std.proofs.lemmas.List.{append-nil}
use Rattle.std.proofs.lemmas.Bool.{cond-false, eqb-false, ltb-false, ne_eqb, le-ltb}
use Rattle.std.proofs.lemmas.List.Sums.{sum_by-append}
use Rattle.zone_token.specs.Bytes.{line_feed}
use Rattle.dns_name.specs.Name.{Labels}
use Rattle.zone_token.specs.Tokens.{◌>>=◌ as ◌then◌}
use Rattle.zone_text.specs.Meaning.{entry_of}
use Rattle.zone_text.specs.Zone.{most_bytes, most_records, beginning_with, advanced, standing_after, Mean, said_in}
use Rattle.zone_text.specs.Zone.{statements_of, bytes_of, lines_in, unless_full, entry_within, Say, Break}
use Rattle.zone_text.specs.Reading.{Read, unread, read_after, on_line, step, run, ◌>>=◌}
use Rattle.zone_text.specs.declared.meaning.Standing.{Standing}
use Rattle.zone_text.specs.declared.meaning.Statement.{Statement}
use Rattle.zone_text.specs.declared.meaning.Meaning.{Meaning}
use Rattle.zone_text.specs.declared.meaning.Meaning.TheVariants.{Nothing, Origin, DefaultTtl, Record}
use Rattle.zone_token.specs.declared.fault.TextWhy.{TextWhy}
use Rattle.zone_token.specs.declared.fault.TextWhy.TheVariants.{TooMany, TooLarge}
use Rattle.zone_text.specs.declared.fault.TextFault.{TextFault}

bind-next : (r : Result Read TextFault) (f g : Read → Result Read TextFault) (k : Read → Result Read TextFault)
    → ((next : Read) → f next ≡ (g next >>= k)) → (r >>= f) ≡ ((r >>= g) >>= k)
bind-next (Ok next) f g k h = h next
bind-next (Err fault) f g k h = refl

-- entries that follow others
pub run-append : (read : Read) (some more : List (List ℕ)) → run read (some ++ more) ≡ (run read some >>= λ next. run next more)
run-append read [] more = refl
run-append read (entry ∷ some) more =
    bind-next (step read entry) (λ next. run next (some ++ more)) (λ next. run next some) (λ next. run next more) (λ next. run-append next some more)

-- what an entry that is read means, and that there was room
pub record Stepped (read next : Read) (entry : List ℕ) : Type 0 where
  pub meaning : Meaning
  pub means : entry_of read.standing entry ≡ Ok meaning
  pub small : read.size + length entry ≤ most_bytes
  pub few : length read.said ≤ most_records → length (read.said ++ said_in meaning) ≤ most_records
  pub after : next ≡ read_after read entry meaning

full-record : (number : ℕ) (said : Statement) (meaning : Meaning) (t : Bool) → (number == most_records) ≡ t
    → cond t (Err TooMany) (Ok (Record said)) ≡ Ok meaning
    → (meaning ≡ Record said) × (number ≤ most_records → number + 1 ≤ most_records)
full-record number said meaning true test is = cc
full-record number said meaning false test is =
    let other : number ≡ most_records → ⊥ = eqb-false number most_records test in
    let e : Record said ≡ meaning = cc in
    (sym e, λ below. omega (arith, other))

full-ok : (number : ℕ) (first meaning : Meaning) → unless_full number first ≡ Ok meaning
    → (meaning ≡ first) × (number ≤ most_records → number + length (said_in first) ≤ most_records)
full-ok number Nothing meaning is = let e : Nothing ≡ meaning = cc in (sym e, λ below. omega arith)
full-ok number (Origin name) meaning is = let e : Origin name ≡ meaning = cc in (sym e, λ below. omega arith)
full-ok number (DefaultTtl ttl) meaning is = let e : DefaultTtl ttl ≡ meaning = cc in (sym e, λ below. omega arith)
full-ok number (Record said) meaning is = full-record number said meaning (number == most_records) refl is

step-met : (read next : Read) (entry : List ℕ) (first : Meaning) → entry_of read.standing entry ≡ Ok first
    → read.size + length entry ≤ most_bytes → (room : Result Meaning TextWhy)
    → unless_full (length read.said) first ≡ room
    → on_line read.line room (λ m. Ok (read_after read entry m)) ≡ Ok next → Stepped read next entry
step-met read next entry first means small (Err why) met is = cc
step-met read next entry first means small (Ok meaning) met is =
    let full = full-ok (length read.said) first meaning met in
    let same : meaning ≡ first = full.0 in
    let e : read_after read entry meaning ≡ next = cc in
    record {
      meaning = first;
      means = means;
      small = small;
      few = λ below. omega (arith, full.1 below, length-append read.said (said_in first));
      after = sym e ∙ ap (read_after read entry) same;
    }

step-within : (read next : Read) (entry : List ℕ) (r : Result Meaning TextWhy) → entry_of read.standing entry ≡ r
    → read.size + length entry ≤ most_bytes
    → on_line read.line (r then unless_full (length read.said)) (λ m. Ok (read_after read entry m)) ≡ Ok next
    → Stepped read next entry
step-within read next entry (Err why) means small is = cc
step-within read next entry (Ok first) means small is = step-met read next entry first means small (unless_full (length read.said) first) refl is

step-sized : (read next : Read) (entry : List ℕ) (t : Bool) → nat_lt most_bytes (read.size + length entry) ≡ t
    → on_line read.line (cond t (Err TooLarge) (entry_of read.standing entry then unless_full (length read.said)))
    (λ m. Ok (read_after read entry m)) ≡ Ok next → Stepped read next entry
step-sized read next entry true test is = cc
step-sized read next entry false test is =
    step-within read next entry (entry_of read.standing entry) refl
    (ltb-false most_bytes (read.size + length entry) test) is

step-ok : (read next : Read) (entry : List ℕ) → step read entry ≡ Ok next → Stepped read next entry
step-ok read next entry is = step-sized read next entry (nat_lt most_bytes (read.size + length entry)) refl is

-- what entries mean that were read, and what stands after them
pub record Done (read end : Read) (entries : List (List ℕ)) : Type 0 where
  pub meanings : List Meaning
  pub mean : Mean read.standing entries meanings
  pub standing : end.standing ≡ standing_after read.standing meanings
  pub line : end.line ≡ read.line + lines_in (bytes_of entries)
  pub size : end.size ≡ read.size + length (bytes_of entries)
  pub said : end.said ≡ read.said ++ statements_of meanings
  pub small : read.size ≤ most_bytes → end.size ≤ most_bytes
  pub few : length read.said ≤ most_records → length end.said ≤ most_records

lines-append : (some more : List ℕ) → lines_in (some ++ more) ≡ lines_in some + lines_in more
lines-append some more = sum_by-append (λ byte. cond (byte == line_feed) 1 0) some more

done-more : (read next end : Read) (entry : List ℕ) (entries : List (List ℕ)) → Stepped read next entry
    → Done next end entries → Done read end (entry ∷ entries)
done-more read next end entry entries s d =
    let line : next.line ≡ read.line + lines_in entry = ap (λ (r : Read). r.line) s.after in
    let size : next.size ≡ read.size + length entry = ap (λ (r : Read). r.size) s.after in
    let said : next.said ≡ read.said ++ said_in s.meaning = ap (λ (r : Read). r.said) s.after in
    let standing : next.standing ≡ advanced read.standing s.meaning = ap (λ (r : Read). r.standing) s.after in
    let P : Standing → Type 0 = λ st. Mean st entries d.meanings in
    record {
      meanings = s.meaning ∷ d.meanings;
      mean = (s.means, subst P standing d.mean);
      standing = d.standing ∙ ap (λ st. standing_after st d.meanings) standing;
      line = omega (arith, d.line, line, lines-append entry (bytes_of entries));
      size = omega (arith, d.size, size, length-append entry (bytes_of entries));
      said = d.said ∙ ap (λ x. x ++ statements_of d.meanings) said ∙ append_assoc read.said (said_in s.meaning) (statements_of d.meanings);
      small = λ below. d.small (omega (arith, size, s.small));
      few = λ below. d.few (omega (arith, ap length said, s.few below));
    }

done-step : (read end : Read) (entry : List ℕ) (entries : List (List ℕ)) (r : Result Read TextFault)
    → step read entry ≡ r → (r >>= λ next. run next entries) ≡ Ok end
    → ((next : Read) → run next entries ≡ Ok end → Done next end entries) → Done read end (entry ∷ entries)
done-step read end entry entries (Err fault) met is later = cc
done-step read end entry entries (Ok next) met is later = done-more read next end entry entries (step-ok read next entry met) (later next is)

-- what is read has meanings
pub run-done : (read end : Read) (entries : List (List ℕ)) → run read entries ≡ Ok end → Done read end entries
run-done read end [] is =
    let e : read ≡ end = cc in
    record {
      meanings = [];
      mean = tt;
      standing = ap (λ (r : Read). r.standing) (sym e);
      line = omega (arith, ap (λ (r : Read). r.line) e);
      size = omega (arith, ap (λ (r : Read). r.size) e);
      said = ap (λ (r : Read). r.said) (sym e) ∙ sym (append-nil read.said);
      small = λ below. omega (arith, ap (λ (r : Read). r.size) e);
      few = λ below. omega (arith, ap (λ (r : Read). length r.said) e);
    }
run-done read end (entry ∷ entries) is =
    done-step read end entry entries (step read entry) refl is (λ next more. run-done next end entries more)

-- a fault of an entry that is read
line-fault : (read : Read) (entry : List ℕ) (r : Result Meaning TextWhy) (fault : TextFault)
    → on_line read.line r (λ m. Ok (read_after read entry m)) ≡ Err fault
    → (r ≡ Err fault.why) × (fault.line ≡ read.line)
line-fault read entry (Ok meaning) fault is = cc
line-fault read entry (Err why) fault is =
    let at : TextFault = record { line = read.line; why = why } in
    let e : at ≡ fault = cc in
    let wrapped : TextFault → Result Meaning TextWhy = λ f. Err f.why in
    (ap wrapped e, ap (λ (f : TextFault). f.line) (sym e))

-- the first broken entry of some, after what was read
pub record Broken (read : Read) (entries : List (List ℕ)) (fault : TextFault) : Type 0 where
  pub front : List (List ℕ)
  pub entry : List ℕ
  pub back : List (List ℕ)
  pub middle : Read
  pub before : run read front ≡ Ok middle
  pub parts : entries ≡ front ++ entry ∷ back
  pub begins : fault.line ≡ middle.line
  pub broken : entry_within (middle.size + length entry) (length middle.said) middle.standing entry ≡ Err fault.why

broken-step : (read : Read) (entry : List ℕ) (entries : List (List ℕ)) (fault : TextFault) (r : Result Read TextFault)
    → step read entry ≡ r → (r >>= λ next. run next entries) ≡ Err fault
    → ((next : Read) → run next entries ≡ Err fault → Broken next entries fault) → Broken read (entry ∷ entries) fault
broken-step read entry entries fault (Err other) met is later =
    let e : other ≡ fault = cc in
    let found = line-fault read entry (entry_within (read.size + length entry) (length read.said) read.standing entry) fault (met ∙ ap Err e) in
    record { front = []; entry = entry; back = entries; middle = read; before = refl; parts = refl; begins = found.1; broken = found.0 }
broken-step read entry entries fault (Ok next) met is later =
    let b = later next is in
    record {
      front = entry ∷ b.front;
      entry = b.entry;
      back = b.back;
      middle = b.middle;
      before = ap (λ (o : Result Read TextFault). o >>= λ n. run n b.front) met ∙ b.before;
      parts = ap (λ es. entry ∷ es) b.parts;
      begins = b.begins;
      broken = b.broken;
    }

pub run-broken : (read : Read) (entries : List (List ℕ)) (fault : TextFault) → run read entries ≡ Err fault → Broken read entries fault
run-broken read [] fault is = cc
run-broken read (entry ∷ entries) fault is =
    broken-step read entry entries fault (step read entry) refl is (λ next more. run-broken next entries fault more)

-- there is room for one record more
full-room : (number : ℕ) (said : Statement) → number + 1 ≤ most_records → unless_full number (Record said) ≡ Ok (Record said)
full-room number said room =
    let other : number ≡ most_records → ⊥ = λ h. absurd (omega arith) in
    cond-false (number == most_records) _ _ (ne_eqb number most_records other)

full-says : (number : ℕ) (meaning : Meaning) → number + length (said_in meaning) ≤ most_records → unless_full number meaning ≡ Ok meaning
full-says number Nothing room = refl
full-says number (Origin name) room = refl
full-says number (DefaultTtl ttl) room = refl
full-says number (Record said) room = full-room number said room

-- an entry that means something is read where there is room
step-says : (read : Read) (entry : List ℕ) (meaning : Meaning) → entry_of read.standing entry ≡ Ok meaning
    → read.size + length entry ≤ most_bytes → length read.said + length (said_in meaning) ≤ most_records
    → step read entry ≡ Ok (read_after read entry meaning)
step-says read entry meaning means small few =
    let sized : nat_lt most_bytes (read.size + length entry) ≡ false = le-ltb most_bytes (read.size + length entry) small in
    let within : entry_within (read.size + length entry) (length read.said) read.standing entry ≡ Ok meaning =
    cond-false _ _ _ sized ∙ ap (λ o. o then unless_full (length read.said)) means ∙ full-says (length read.said) meaning few in
    ap (λ o. on_line read.line o (λ m. Ok (read_after read entry m))) within

-- what has meanings is read where there is room
says-run : (read : Read) (entries : List (List ℕ)) (meanings : List Meaning) → Mean read.standing entries meanings
    → read.size + length (bytes_of entries) ≤ most_bytes
    → length read.said + length (statements_of meanings) ≤ most_records → (end : Read) × (run read entries ≡ Ok end)
says-run read [] [] mean small few = (read, refl)
says-run read [] (meaning ∷ meanings) mean small few = absurd mean
says-run read (entry ∷ entries) [] mean small few = absurd mean
says-run read (entry ∷ entries) (meaning ∷ meanings) mean small few =
    let bytes = length-append entry (bytes_of entries) in
    let number = length-append (said_in meaning) (statements_of meanings) in
    let first : step read entry ≡ Ok (read_after read entry meaning) = step-says read entry meaning mean.0 (omega (arith, bytes)) (omega (arith, number)) in
    let later = says-run (read_after read entry meaning) entries meanings mean.1 (omega (arith, bytes))
    (omega (arith, number, length-append read.said (said_in meaning))) in
    (later.0, ap (λ (o : Result Read TextFault). o >>= λ n. run n entries) first ∙ later.1)

-- entries have one list of meanings
pub mean-one : (standing : Standing) (entries : List (List ℕ)) (some others : List Meaning)
    → Mean standing entries some → Mean standing entries others → some ≡ others
mean-one standing [] [] [] m n = refl
mean-one standing [] [] (other ∷ others) m n = absurd n
mean-one standing [] (one ∷ some) others m n = absurd m
mean-one standing (entry ∷ entries) [] others m n = absurd m
mean-one standing (entry ∷ entries) (one ∷ some) [] m n = absurd n
mean-one standing (entry ∷ entries) (one ∷ some) (other ∷ others) m n =
    let first : one ≡ other = cc (m.0, n.0) in
    let P : Meaning → Type 0 = λ x. Mean (advanced standing x) entries others in
    let rest = mean-one (advanced standing one) entries some others m.1 (subst P (sym first) n.1) in
    ap (λ x. x ∷ some) first ∙ ap (λ xs. other ∷ xs) rest

-- entries say what they are read as
pub run-say : (origin : Labels) (entries : List (List ℕ)) (end : Read) → run (unread origin) entries ≡ Ok end → Say origin entries end.said
run-say origin entries end is =
    let d = run-done (unread origin) end entries is in
    record {
      meanings = d.meanings;
      mean = d.mean;
      stated = d.said;
      size = omega (arith, d.size, d.small (omega arith));
      number = d.few (omega arith);
    }

pub say-run : (origin : Labels) (entries : List (List ℕ)) (statements : List Statement) → Say origin entries statements
    → (end : Read) × (run (unread origin) entries ≡ Ok end)
say-run origin entries statements say =
    says-run (unread origin) entries say.meanings say.mean (omega (arith, say.size)) (omega (arith, ap length say.stated, say.number))

entry-same : (size other number count : ℕ) (standing last : Standing) (entry : List ℕ) (why : TextWhy) → size ≡ other
    → number ≡ count → standing ≡ last → entry_within (size + length entry) number standing entry ≡ Err why
    → entry_within (other + length entry) count last entry ≡ Err why
entry-same size other number count standing last entry why s n l is =
    let P : ℕ → Type 0 = λ x. entry_within (x + length entry) count last entry ≡ Err why in
    let Q : ℕ → Type 0 = λ x. entry_within (size + length entry) x last entry ≡ Err why in
    let R : Standing → Type 0 = λ x. entry_within (size + length entry) number x entry ≡ Err why in
    subst P s (subst Q n (subst R l is))

-- entries break where reading them stops
pub run-break : (origin : Labels) (entries : List (List ℕ)) (fault : TextFault)
    → run (unread origin) entries ≡ Err fault → Break origin entries fault.line fault.why
run-break origin entries fault is =
    let b = run-broken (unread origin) entries fault is in
    let d = run-done (unread origin) b.middle b.front b.before in
    record {
      front = b.front;
      entry = b.entry;
      back = b.back;
      meanings = d.meanings;
      parts = b.parts;
      mean = d.mean;
      size = omega (arith, d.size, d.small (omega arith));
      number = omega (arith, ap length d.said, d.few (omega arith));
      begins = b.begins ∙ d.line;
      broken = entry-same b.middle.size (length (bytes_of b.front)) (length b.middle.said)
          (length (statements_of d.meanings)) b.middle.standing
          (standing_after (beginning_with origin) d.meanings) b.entry fault.why (omega (arith, d.size))
          (ap length d.said) d.standing b.broken;
    }

pub break-run : (origin : Labels) (entries : List (List ℕ)) (line : ℕ) (why : TextWhy) → Break origin entries line why
    → run (unread origin) entries ≡ Err (record { line = line; why = why })
break-run origin entries line why b =
    let before = says-run (unread origin) b.front b.meanings b.mean (omega (arith, b.size)) (omega (arith, b.number)) in
    let middle = before.0 in
    let d = run-done (unread origin) middle b.front before.1 in
    let same : b.meanings ≡ d.meanings = mean-one (beginning_with origin) b.front b.meanings d.meanings b.mean d.mean in
    let standing : standing_after (beginning_with origin) b.meanings ≡ middle.standing = ap (standing_after (beginning_with origin)) same ∙ sym d.standing in
    let number : length (statements_of b.meanings) ≡ length middle.said = ap (λ ms. length (statements_of ms)) same ∙ ap length (sym d.said) in
    let broken : entry_within (middle.size + length b.entry) (length middle.said) middle.standing b.entry ≡ Err why =
    entry-same (length (bytes_of b.front)) middle.size (length (statements_of b.meanings)) (length middle.said)
    (standing_after (beginning_with origin) b.meanings) middle.standing b.entry why
    (omega (arith, d.size)) number standing b.broken in
    let begins : line ≡ middle.line = b.begins ∙ sym d.line in
    let told : ℕ → Result Read TextFault = λ n. Err (record { line = n; why = why }) in
    let stop : step middle b.entry ≡ told line = ap (λ o. on_line middle.line o (λ m. Ok (read_after middle b.entry m))) broken ∙ ap told (sym begins) in
    ap (run (unread origin)) b.parts ∙ run-append (unread origin) b.front (b.entry ∷ b.back)
    ∙ ap (λ (o : Result Read TextFault). o >>= λ n. run n (b.entry ∷ b.back)) before.1
    ∙ ap (λ (o : Result Read TextFault). o >>= λ n. run n b.back) stop

-- entries that say statements do not break
pub say_break : (origin : Labels) (entries : List (List ℕ)) (statements : List Statement) (line : ℕ) (why : TextWhy)
    → Say origin entries statements → Break origin entries line why → ⊥
say_break origin entries statements line why say b =
    let read = say-run origin entries statements say in
    let end : Read = read.0 in
    let a : run (unread origin) entries ≡ Ok end = read.1 in
    let c = break-run origin entries line why b in
    cc

-- entries break at one line for one reason
pub one_break : (origin : Labels) (entries : List (List ℕ)) (line other : ℕ) (why reason : TextWhy)
    → Break origin entries line why → Break origin entries other reason → (line ≡ other) × (why ≡ reason)
one_break origin entries line other why reason b d =
    let first : TextFault = record { line = line; why = why } in
    let second : TextFault = record { line = other; why = reason } in
    let x : run (unread origin) entries ≡ Err first = break-run origin entries line why b in
    let y : run (unread origin) entries ≡ Err second = break-run origin entries other reason d in
    let e : first ≡ second = cc in
    (ap (λ (f : TextFault). f.line) e, ap (λ (f : TextFault). f.why) e)

-- entries that break and then others break as they do
pub break-more : (origin : Labels) (some more : List (List ℕ)) (line : ℕ) (why : TextWhy) → Break origin some line why → Break origin (some ++ more) line why
break-more origin some more line why b = record {
  front = b.front;
  entry = b.entry;
  back = b.back ++ more;
  meanings = b.meanings;
  parts = ap (λ es. es ++ more) b.parts ∙ append_assoc b.front (b.entry ∷ b.back) more;
  mean = b.mean;
  size = b.size;
  number = b.number;
  begins = b.begins;
  broken = b.broken;
}

-- entries say statements or break
pub say_or_break : (origin : Labels) (entries : List (List ℕ))
    → ((statements : List Statement) × Say origin entries statements)
    ⊎ ((line : ℕ) × (why : TextWhy) × Break origin entries line why)
say_or_break origin entries = either (run (unread origin) entries) refl
  where
    either : (r : Result Read TextFault) → run (unread origin) entries ≡ r
        → ((statements : List Statement) × Say origin entries statements)
        ⊎ ((line : ℕ) × (why : TextWhy) × Break origin entries line why)
    either (Ok end) is = inl (end.said, run-say origin entries end is)
    either (Err fault) is = inr (fault.line, fault.why, run-break origin entries fault is)
