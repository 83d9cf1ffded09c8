use Rattle.std.proofs.Common.{◌≡◌, ◌∙◌, ℕ, ◌+◌, ◌-◌, ◌<◌, ◌≤◌, List, [], ◌∷◌, ◌++◌, length, take, drop, map, true}
use Rattle.std.proofs.Common.{Option, None, Result, Ok, Err, refl, sym, ap, inl, inr, subst, arith, append_assoc}
use Rattle.std.proofs.Common.{length-append}
use Rattle.std.specs.Prelude.{◌==◌, ◌&&◌, min}
use Rattle.std.specs.List.{list_all}
use Rattle.std.proofs.lemmas.List.{append-nil, length-take, length-drop, take_all, take-append-drop}
use Rattle.std.proofs.lemmas.List.Concat.{flat_map-append}
use Rattle.std.proofs.Math.Seq.{drop-append_seam, take-append_seam}
use Rattle.std.proofs.lemmas.Bool.{and_parts, eqb-true}
use Rattle.dns_name.specs.Name.{Labels}
use Rattle.dns_wire.specs.Kinds.{internet, is_whole, kind_of}
use Rattle.dns_wire.specs.declared.record.Record as wire
use Rattle.zone_token.specs.Entries.{beginning, entries_from, entries_of, ended_from, ended_of, last_entry}
use Rattle.zone_text.specs.Zone.{most_bytes, Break, BreaksSoFar, ZoneSays, ZoneBreaks, Are}
use Rattle.zone_text.specs.Reading.{Read, unread, step, run, rest_from, rest_of, said_of, is_plain, ◌>>=◌}
use Rattle.zone_text.specs.Fed.{Fed, fed_text}
use Rattle.zone_text.specs.Read.{seen, IsReading}
use Rattle.zone_text.specs.declared.progress.Progress.{Progress}
use Rattle.zone_token.specs.declared.spot.Spot.{Spot}
use Rattle.zone_token.specs.declared.fault.TextWhy.{TextWhy}
use Rattle.zone_token.specs.declared.fault.TextWhy.TheVariants.{TooLarge}
use Rattle.zone_text.specs.declared.fault.TextFault.{TextFault}
use Rattle.zone_text.proofs.RunLemmas.{run-append, run-done, run-say, run-break, break-run, break-more}
use Rattle.zone_text.proofs.EntryLemmas.{entries-split, ended-split, rest-split, kept, too_large, run-over}

-- the entries that end in more text are those that ended before and those of what was left
ended-more : (text piece left : List ℕ) (spot : Spot) → rest_of text ≡ (left, spot) → ended_of (text ++ piece) ≡ ended_of text ++ ended_from left spot piece
ended-more text piece left spot rest =
    ended-split [] beginning text piece ∙ ap (λ (r : List ℕ × Spot). ended_of text ++ ended_from r.0 r.1 piece) rest

rest-more : (text piece left : List ℕ) (spot : Spot) → rest_of text ≡ (left, spot) → rest_of (text ++ piece) ≡ rest_from left spot piece
rest-more text piece left spot rest =
    rest-split [] beginning text piece ∙ ap (λ (r : List ℕ × Spot). rest_from r.0 r.1 piece) rest

entries-more : (text piece left : List ℕ) (spot : Spot) → rest_of text ≡ (left, spot)
    → entries_of (text ++ piece) ≡ ended_of text ++ entries_from left spot piece
entries-more text piece left spot rest =
    entries-split [] beginning text piece ∙ ap (λ (r : List ℕ × Spot). ended_of text ++ entries_from r.0 r.1 piece) rest

-- entries after those that were read
run-after : (origin : Labels) (read : Read) (some more : List (List ℕ)) → run (unread origin) some ≡ Ok read
    → run (unread origin) (some ++ more) ≡ run read more
run-after origin read some more is = run-append (unread origin) some more ∙ ap (λ (o : Result Read TextFault). o >>= λ n. run n more) is

-- what was read and what is left have the bytes of the text
read-size : (origin : Labels) (text left : List ℕ) (read : Read) (spot : Spot)
    → run (unread origin) (ended_of text) ≡ Ok read → rest_of text ≡ (left, spot)
    → read.size + length left ≡ length text
read-size origin text left read spot ended rest =
    let d = run-done (unread origin) read (ended_of text) ended in
    let all = kept [] beginning text in
    let same : length (rest_of text).0 ≡ length left = ap (λ (r : List ℕ × Spot). length r.0) rest in
    omega (arith, d.size, all, same)

-- the entries of a text and a piece that ended are read
pieces-read : (origin : Labels) (text piece begun : List ℕ) (old new : Progress) (spot : Spot)
    → IsReading origin text old begun spot → run (seen old) (ended_from begun spot piece) ≡ Ok (seen new)
    → run (unread origin) (ended_of (text ++ piece)) ≡ Ok (seen new)
pieces-read origin text piece begun old new spot reading ended =
    ap (run (unread origin)) (ended-more text piece begun spot reading.rest)
    ∙ run-after origin (seen old) (ended_of text) (ended_from begun spot piece) reading.ended ∙ ended

-- one piece more is read
pub piece_read : (begun piece left : List ℕ) (old new : Progress) (spot last : Spot)
    → run (seen old) (ended_from begun spot piece) ≡ Ok (seen new) → rest_from begun spot piece ≡ (left, last)
    → new.size + length left ≤ most_bytes → (origin : Labels) (text : List ℕ) → IsReading origin text old begun spot
    → IsReading origin (text ++ piece) new left last
piece_read begun piece left old new spot last ended rest small origin text reading =
    let read = pieces-read origin text piece begun old new spot reading ended in
    let kept = rest-more text piece begun spot reading.rest ∙ rest in
    let size = read-size origin (text ++ piece) left (seen new) last read kept in
    record { ended = read; rest = kept; small = omega (arith, size) }

-- an entry that ended in a piece is broken, whatever follows
pub piece_broken : (begun piece : List ℕ) (old : Progress) (spot : Spot) (fault : TextFault)
    → run (seen old) (ended_from begun spot piece) ≡ Err fault → (origin : Labels) (text more : List ℕ)
    → IsReading origin text old begun spot → BreaksSoFar (text ++ (piece ++ more)) origin fault.line fault.why
piece_broken begun piece old spot fault ended origin text more reading =
    let broken : run (unread origin) (ended_of (text ++ piece)) ≡ Err fault =
    ap (run (unread origin)) (ended-more text piece begun spot reading.rest)
    ∙ run-after origin (seen old) (ended_of text) (ended_from begun spot piece) reading.ended ∙ ended in
    let rest = rest_of (text ++ piece) in
    let P : List (List ℕ) → Type 0 = λ es. Break origin es fault.line fault.why in
    inl (subst P
    (sym (ap ended_of (sym (append_assoc text piece more)) ∙ ended-split [] beginning (text ++ piece) more))
    (break-more origin (ended_of (text ++ piece)) (ended_from rest.0 rest.1 more) fault.line fault.why
    (run-break origin (ended_of (text ++ piece)) fault broken)))

-- a piece goes past the last byte, whatever follows
pub piece_over : (begun piece left : List ℕ) (old new : Progress) (spot last : Spot)
    → run (seen old) (ended_from begun spot piece) ≡ Ok (seen new) → rest_from begun spot piece ≡ (left, last)
    → new.size ≤ most_bytes → most_bytes < new.size + length left → (origin : Labels) (text more : List ℕ)
    → IsReading origin text old begun spot → BreaksSoFar (text ++ (piece ++ more)) origin new.line TooLarge
piece_over begun piece left old new spot last ended rest within over origin text more reading =
    let whole = text ++ piece in
    let read = pieces-read origin text piece begun old new spot reading ended in
    let kept : rest_of whole ≡ (left, last) = rest-more text piece begun spot reading.rest ∙ rest in
    let size = read-size origin whole left (seen new) last read kept in
    let broken : run (unread origin) (entries_of (whole ++ more)) ≡ too_large new.line =
    ap (run (unread origin)) (entries-more whole more left last kept) ∙ run-after origin (seen new) (ended_of whole) (entries_from left last more) read
    ∙ run-over (seen new) left last more (omega arith) (omega arith) in
    let same : whole ++ more ≡ text ++ (piece ++ more) = append_assoc text piece more in
    let P : List ℕ → Type 0 = λ t. Break origin (entries_of t) new.line TooLarge in
    inr (
      omega (arith, ap length (sym same), size, length-append whole more),
      subst P same (run-break origin (entries_of (whole ++ more))
          (record { line = new.line; why = TooLarge }) broken),
    )

-- the same, over the bytes that a reader holds, of which those from a place on came last
pub advance_broken : (left slice : List ℕ) (at : ℕ) (old : Progress) (spot : Spot) (fault : TextFault) → slice ≡ left
    → run (seen old) (ended_from (take at slice) spot (drop at slice)) ≡ Err fault
    → (origin : Labels) (text more : List ℕ) → IsReading origin text old (take at left) spot
    → BreaksSoFar (text ++ (drop at left ++ more)) origin fault.line fault.why
advance_broken left slice at old spot fault is ended =
    let P : List ℕ → Type 0 = λ t. run (seen old) (ended_from (take at t) spot (drop at t)) ≡ Err fault in
    piece_broken (take at left) (drop at left) old spot fault (subst P is ended)

pub advance_over : (left slice : List ℕ) (at from : ℕ) (old new : Progress) (spot last : Spot) → slice ≡ left
    → run (seen old) (ended_from (take at slice) spot (drop at slice)) ≡ Ok (seen new)
    → rest_from (take at slice) spot (drop at slice) ≡ (drop from slice, last) → new.size ≤ most_bytes
    → most_bytes - new.size < length left - from → (origin : Labels) (text more : List ℕ)
    → IsReading origin text old (take at left) spot
    → BreaksSoFar (text ++ (drop at left ++ more)) origin new.line TooLarge
advance_over left slice at from old new spot last is ended rest within over =
    let P : List ℕ → Type 0 = λ t. run (seen old) (ended_from (take at t) spot (drop at t)) ≡ Ok (seen new) in
    let Q : List ℕ → Type 0 = λ t. rest_from (take at t) spot (drop at t) ≡ (drop from t, last) in
    piece_over (take at left) (drop at left) (drop from left) old new spot last (subst P is ended)
    (subst Q is rest) within (omega (arith, over, length-drop from left))

pub advance_read : (left slice rest_now : List ℕ) (at from : ℕ) (old new : Progress) (spot last : Spot) → slice ≡ left
    → run (seen old) (ended_from (take at slice) spot (drop at slice)) ≡ Ok (seen new)
    → rest_from (take at slice) spot (drop at slice) ≡ (drop from slice, last) → new.size ≤ most_bytes
    → length left - from ≤ most_bytes - new.size → rest_now ≡ drop from left → (origin : Labels) (text : List ℕ)
    → IsReading origin text old (take at left) spot → IsReading origin (text ++ drop at left) new rest_now last
advance_read left slice rest_now at from old new spot last is ended rest within small dropped origin text reading =
    let P : List ℕ → Type 0 = λ t. run (seen old) (ended_from (take at t) spot (drop at t)) ≡ Ok (seen new) in
    let Q : List ℕ → Type 0 = λ t. rest_from (take at t) spot (drop at t) ≡ (drop from t, last) in
    let R : List ℕ → Type 0 = λ l. IsReading origin (text ++ drop at left) new l last in
    subst R (sym dropped)
    (piece_read (take at left) (drop at left) (drop from left) old new spot last (subst P is ended) (subst Q is rest)
    (omega (arith, small, length-drop from left)) origin text reading)

-- a text that is being read is not broken so far
pub not_broken : (origin : Labels) (text left : List ℕ) (progress : Progress) (spot : Spot) (line : ℕ) (why : TextWhy)
    → IsReading origin text progress left spot → BreaksSoFar text origin line why → ⊥
not_broken origin text left progress spot line why reading (inl b) =
    let c = break-run origin (ended_of text) line why b in
    let d : run (unread origin) (ended_of text) ≡ Ok (seen progress) = reading.ended in
    cc
not_broken origin text left progress spot line why reading (inr b) = omega (arith, reading.small, b.0)

-- what is left at the end is the last entry
pub entries-whole : (origin : Labels) (text left : List ℕ) (progress : Progress) (spot : Spot)
    → IsReading origin text progress left spot
    → run (unread origin) (entries_of text) ≡ run (seen progress) (last_entry left)
entries-whole origin text left progress spot reading =
    ap (λ t. run (unread origin) (entries_of t)) (sym (append-nil text)) ∙ ap (run (unread origin)) (entries-more text [] left spot reading.rest)
    ∙ run-after origin (seen progress) (ended_of text) (last_entry left) reading.ended

pub last-none : (read : Read) (left : List ℕ) → length left ≡ 0 → run read (last_entry left) ≡ Ok read
last-none read [] none = refl
last-none read (byte ∷ left) none = absurd (omega arith)

pub last-some : (read : Read) (left : List ℕ) (r : Result Read TextFault) → 0 < length left → step read left ≡ r → run read (last_entry left) ≡ r
last-some read [] r some is = absurd (omega arith)
last-some read (byte ∷ left) (Ok next) some is = ap (λ (o : Result Read TextFault). o >>= λ n. run n []) is
last-some read (byte ∷ left) (Err fault) some is = ap (λ (o : Result Read TextFault). o >>= λ n. run n []) is

-- plain records are what they state
pub are-said : (records : List wire.Record) → list_all is_plain records ≡ true → Are records (map said_of records)
are-said [] plain = tt
are-said (one ∷ records) plain =
    let parts = and_parts (is_plain one) (list_all is_plain records) plain in
    let both = and_parts (one.kind == kind_of one.content && one.class == internet) (is_whole one.content) parts.0 in
    let first = and_parts (one.kind == kind_of one.content) (one.class == internet) both.0 in (
      record {
        owner = refl;
        kind = eqb-true one.kind (kind_of one.content) first.0;
        class = eqb-true one.class internet first.1;
        ttl = refl;
        content = refl;
        whole = both.1;
      },
      are-said records parts.1,
    )

-- a text that was read says its records
pub text_said : (text : List ℕ) (origin : Labels) (progress : Progress)
    → run (unread origin) (entries_of text) ≡ Ok (seen progress) → list_all is_plain progress.records ≡ true
    → ZoneSays text origin progress.records
text_said text origin progress is plain = record {
  statements = map said_of progress.records;
  say = run-say origin (entries_of text) (seen progress) is;
  records_are = are-said progress.records plain;
}

-- the end of a text
pub finish_none : (progress : Progress) (left : List ℕ) → length left ≡ 0
    → (origin : Labels) (text : List ℕ) (spot : Spot) → IsReading origin text progress left spot
    → run (unread origin) (entries_of text) ≡ Ok (seen progress)
finish_none progress left none origin text spot reading = entries-whole origin text left progress spot reading ∙ last-none (seen progress) left none

pub finish_some : (progress : Progress) (left : List ℕ) (r : Result Read TextFault) → 0 < length left
    → step (seen progress) left ≡ r → (origin : Labels) (text : List ℕ) (spot : Spot)
    → IsReading origin text progress left spot → run (unread origin) (entries_of text) ≡ r
finish_some progress left r some read origin text spot reading =
    entries-whole origin text left progress spot reading ∙ last-some (seen progress) left r some read

-- what the reader's fields tell of what it was fed
abbrev pub fed_of : Labels → List (List ℕ × ℕ) → Option TextFault → Fed
fed_of origin pieces fault = record { origin = origin; text = fed_text pieces; fault = fault }

-- a reader that was fed nothing
pub nothing_fed : (origin : Labels) (pieces : List (List ℕ × ℕ)) (left : List ℕ) (progress : Progress) (spot : Spot)
    → pieces ≡ [] → left ≡ [] → seen progress ≡ unread origin → spot ≡ beginning
    → IsReading origin (fed_text pieces) progress left spot
nothing_fed origin pieces left progress spot none empty fresh first =
    let P : List (List ℕ × ℕ) → Type 0 = λ ps. IsReading origin (fed_text ps) progress left spot in
    subst P (sym none) (record {
      ended = ap Ok (sym fresh);
      rest = λ i. (sym empty i, sym first i);
      small = omega arith;
    })

pub end_breaks : (fed : Fed) (origin : Labels) (pieces : List (List ℕ × ℕ)) (left slice : List ℕ)
    (told : Option TextFault) (progress : Progress) (spot : Spot) (fault : TextFault) → fed_of origin pieces told ≡ fed
    → fed.fault ≡ None → slice ≡ left → (told ≡ None → IsReading origin (fed_text pieces) progress left spot)
    → ((o : Labels) (t : List ℕ) (s : Spot) → IsReading o t progress slice s
    → run (unread o) (entries_of t) ≡ Err fault) → ZoneBreaks fed.text fed.origin fault.line fault.why
end_breaks fed origin pieces left slice told progress spot fault view none is reading stops =
    let here : told ≡ None = ap (λ (f : Fed). f.fault) view ∙ none in
    let P : List ℕ → Type 0 = λ l. IsReading origin (fed_text pieces) progress l spot in
    let broken = run-break origin (entries_of (fed_text pieces)) fault (stops origin (fed_text pieces) spot (subst P (sym is) (reading here))) in
    let R : Fed → Type 0 = λ f. ZoneBreaks f.text f.origin fault.line fault.why in
    subst R view broken

pub end_says : (fed : Fed) (origin : Labels) (pieces : List (List ℕ × ℕ)) (left slice : List ℕ)
    (told : Option TextFault) (progress new : Progress) (spot : Spot) → fed_of origin pieces told ≡ fed → told ≡ None
    → slice ≡ left → (told ≡ None → IsReading origin (fed_text pieces) progress left spot)
    → ((o : Labels) (t : List ℕ) (s : Spot) → IsReading o t progress slice s
    → run (unread o) (entries_of t) ≡ Ok (seen new)) → list_all is_plain new.records ≡ true
    → ZoneSays fed.text fed.origin new.records
end_says fed origin pieces left slice told progress new spot view none is reading reads plain =
    let P : List ℕ → Type 0 = λ l. IsReading origin (fed_text pieces) progress l spot in
    let says = text_said (fed_text pieces) origin new (reads origin (fed_text pieces) spot (subst P (sym is) (reading none))) plain in
    let R : Fed → Type 0 = λ f. ZoneSays f.text f.origin new.records in
    subst R view says

-- a piece that fits was not cut
uncut : (text piece : List ℕ) (size : ℕ) → size ≡ min (length piece) 67_108_865
    → length (text ++ take size piece) ≤ most_bytes → text ++ take size piece ≡ text ++ piece
uncut text piece size cut small =
    let whole : size ≡ length piece = omega (arith, length-append text (take size piece), length-take size piece) in
    ap (λ t. text ++ t) (ap (λ n. take n piece) whole ∙ take_all (length piece) piece (omega arith))

-- what a feed holds: the entry that has not ended and then the piece, as far as it was taken
pub record Held (pieces now : List (List ℕ × ℕ)) (left held piece : List ℕ) (at size : ℕ) : Type 0 where
  pub held_is : held ≡ left ++ take size piece
  pub at_is : at ≡ length left
  pub now_is : now ≡ pieces ++ (held, at) ∷ []
  pub size_is : size ≡ min (length piece) 67_108_865

held-left : (left held more : List ℕ) (at : ℕ) → held ≡ left ++ more → at ≡ length left → take at held ≡ left
held-left left held more at is place = ap (λ n. take n held) place ∙ ap (take {A = ℕ} (length left)) is ∙ take-append_seam left more

held-piece : (left held more : List ℕ) (at : ℕ) → held ≡ left ++ more → at ≡ length left → drop at held ≡ more
held-piece left held more at is place = ap (λ n. drop n held) place ∙ ap (drop {A = ℕ} (length left)) is ∙ drop-append_seam left more

-- the text that was fed is longer by it
fed-more : (pieces now : List (List ℕ × ℕ)) (left held piece : List ℕ) (at size : ℕ)
    → Held pieces now left held piece at size → fed_text now ≡ fed_text pieces ++ take size piece
fed-more pieces now left held piece at size h =
    ap fed_text h.now_is ∙ flat_map-append (λ (p : List ℕ × ℕ). drop p.1 p.0) pieces ((held, at) ∷ [])
    ∙ ap (λ t. fed_text pieces ++ t) (append-nil (drop at held) ∙ held-piece left held (take size piece) at h.held_is h.at_is)

-- what is read after a feed
feed-reads : (origin : Labels) (pieces now : List (List ℕ × ℕ)) (left held new piece : List ℕ) (at size : ℕ)
    (told : Option TextFault) (old progress : Progress) (spot last : Spot) → Held pieces now left held piece at size
    → told ≡ None → (told ≡ None → IsReading origin (fed_text pieces) old left spot)
    → ((o : Labels) (t : List ℕ) → IsReading o t old (take at held) spot
    → IsReading o (t ++ drop at held) progress new last)
    → IsReading origin (fed_text pieces ++ take size piece) progress new last
feed-reads origin pieces now left held new piece at size told old progress spot last h none reading reads =
    let P : List ℕ → Type 0 = λ l. IsReading origin (fed_text pieces) old l spot in
    let Q : List ℕ → Type 0 = λ l. IsReading origin (fed_text pieces ++ l) progress new last in
    subst Q (held-piece left held (take size piece) at h.held_is h.at_is)
    (reads origin (fed_text pieces) (subst P (sym (held-left left held (take size piece) at h.held_is h.at_is)) (reading none)))

pub feed_reading : (origin : Labels) (pieces now : List (List ℕ × ℕ)) (left held new piece : List ℕ) (at size : ℕ)
    (told : Option TextFault) (old progress : Progress) (spot last : Spot) → Held pieces now left held piece at size
    → told ≡ None → (told ≡ None → IsReading origin (fed_text pieces) old left spot)
    → ((o : Labels) (t : List ℕ) → IsReading o t old (take at held) spot
    → IsReading o (t ++ drop at held) progress new last) → IsReading origin (fed_text now) progress new last
feed_reading origin pieces now left held new piece at size told old progress spot last h none reading reads =
    let P : List ℕ → Type 0 = λ t. IsReading origin t progress new last in
    subst P (sym (fed-more pieces now left held piece at size h))
    (feed-reads origin pieces now left held new piece at size told old progress spot last h none reading reads)

pub feed_fed : (fed : Fed) (origin : Labels) (pieces now : List (List ℕ × ℕ)) (left held new piece : List ℕ)
    (at size : ℕ) (told : Option TextFault) (old progress : Progress) (spot last : Spot)
    → fed_of origin pieces told ≡ fed → Held pieces now left held piece at size → told ≡ None
    → (told ≡ None → IsReading origin (fed_text pieces) old left spot)
    → ((o : Labels) (t : List ℕ) → IsReading o t old (take at held) spot
    → IsReading o (t ++ drop at held) progress new last)
    → fed_of origin now told ≡ record fed { text = fed.text ++ piece }
feed_fed fed origin pieces now left held new piece at size told old progress spot last view h none reading reads =
    let whole = feed-reads origin pieces now left held new piece at size told old progress spot last h none reading reads in
    let same = uncut (fed_text pieces) piece size h.size_is whole.small in
    let made : List ℕ → Fed = λ t. record { origin = origin; text = t; fault = told } in
    ap made (fed-more pieces now left held piece at size h ∙ same) ∙ ap (λ (f : Fed). record f { text = f.text ++ piece }) view

pub feed_sound : (fed : Fed) (origin : Labels) (pieces now : List (List ℕ × ℕ)) (left held new piece : List ℕ)
    (at size : ℕ) (told : Option TextFault) (old progress : Progress) (spot last : Spot)
    → fed_of origin pieces told ≡ fed → Held pieces now left held piece at size → told ≡ None
    → (told ≡ None → IsReading origin (fed_text pieces) old left spot)
    → ((o : Labels) (t : List ℕ) → IsReading o t old (take at held) spot
    → IsReading o (t ++ drop at held) progress new last) → (line : ℕ) (why : TextWhy)
    → BreaksSoFar (fed.text ++ piece) fed.origin line why → ⊥
feed_sound fed origin pieces now left held new piece at size told old progress spot last view h none reading reads line why breaks =
    let whole = feed-reads origin pieces now left held new piece at size told old progress spot last h none reading reads in
    let same = uncut (fed_text pieces) piece size h.size_is whole.small in
    let P : List ℕ → Type 0 = λ t. BreaksSoFar t origin line why in
    let R : Fed → Type 0 = λ f. BreaksSoFar (f.text ++ piece) f.origin line why in
    not_broken origin (fed_text pieces ++ take size piece) new progress last line why whole (subst P (sym same) (subst R (sym view) breaks))

pub feed_within : (origin : Labels) (pieces now : List (List ℕ × ℕ)) (left held new piece : List ℕ) (at size : ℕ)
    (told : Option TextFault) (old progress : Progress) (spot last : Spot) → Held pieces now left held piece at size
    → told ≡ None → (told ≡ None → IsReading origin (fed_text pieces) old left spot)
    → ((o : Labels) (t : List ℕ) → IsReading o t old (take at held) spot
    → IsReading o (t ++ drop at held) progress new last) → length (fed_text now) ≤ most_bytes
feed_within origin pieces now left held new piece at size told old progress spot last h none reading reads =
    let now_reads = feed_reading origin pieces now left held new piece at size told old progress spot last h none reading reads in
    now_reads.small

pub feed_broken : (fed : Fed) (origin : Labels) (pieces : List (List ℕ × ℕ)) (left held piece : List ℕ) (at size : ℕ)
    (told : Option TextFault) (old : Progress) (spot : Spot) (fault : TextFault) → fed_of origin pieces told ≡ fed
    → fed.fault ≡ None → held ≡ left ++ take size piece → at ≡ length left
    → (told ≡ None → IsReading origin (fed_text pieces) old left spot)
    → ((o : Labels) (t more : List ℕ) → IsReading o t old (take at held) spot
    → BreaksSoFar (t ++ (drop at held ++ more)) o fault.line fault.why)
    → BreaksSoFar (fed.text ++ piece) fed.origin fault.line fault.why
feed_broken fed origin pieces left held piece at size told old spot fault view none is place reading breaks =
    let here : told ≡ None = ap (λ (f : Fed). f.fault) view ∙ none in
    let I : List ℕ → Type 0 = λ l. IsReading origin (fed_text pieces) old l spot in
    let P : List ℕ → Type 0 = λ t. BreaksSoFar (fed_text pieces ++ t) origin fault.line fault.why in
    let R : Fed → Type 0 = λ f. BreaksSoFar (f.text ++ piece) f.origin fault.line fault.why in
    subst R view (subst P (ap (λ t. t ++ drop size piece) (held-piece left held (take size piece) at is place) ∙ take-append-drop size piece)
    (breaks origin (fed_text pieces) (drop size piece) (subst I (sym (held-left left held (take size piece) at is place)) (reading here))))
