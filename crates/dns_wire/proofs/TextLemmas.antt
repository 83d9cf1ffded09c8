-- Character-strings one after another.
use Rattle.std.proofs.Common.{◌≡◌, ℕ, ◌+◌, ◌<◌, ◌≤◌, List, [], ◌∷◌, ◌++◌, length, Result, Ok, Err, refl, sym, ◌∙◌, ap, subst, inl, inr, arith, length-append}
use Rattle.std.specs.Result.{IsErrAnd}
use Rattle.dns_name.specs.Wire.{StandsAt}
use Rattle.rdata_field.specs.Strings.{string_wire}
use Rattle.rdata_field.specs.Fields.{StandsWithin, TextIsCut, TextIn}
use Rattle.rdata_field.specs.declared.in_fault.InFault.{InFault}
use Rattle.rdata_field.specs.declared.in_fault.InFault.TheVariants.{Shape}
use Rattle.dns_wire.specs.Contents.{TextsStand, TextsIn}
use Rattle.dns_wire.specs.DecodeFaults.{of_rdata}
use Rattle.dns_wire.specs.Outcome.{ToldAs, OrMemory}
use Rattle.dns_wire.specs.declared.decode_fault.DecodeFault.{DecodeFault}

-- a character-string that is read
pub record IsTextAt (message : List ℕ) (to at : ℕ) (text : List ℕ) (next : ℕ) : Type 0 where
  pub short : length text ≤ 255
  pub there : StandsWithin message at to (string_wire text)
  pub after : next ≡ at + (length text + 1)

pub text_read : (message : List ℕ) (to at : ℕ) (text : List ℕ) (next : ℕ) → TextIn message to at (Ok (text, next)) → IsTextAt message to at text next
text_read message to at text next (inl (own, short, there, is)) =
    let both : ◌≡◌ {A = List ℕ × ℕ} (text, next) (own, at + (length own + 1)) = cc in
    let same : text ≡ own = ap (λ (x : List ℕ × ℕ). x.0) both in
    let place : next ≡ at + (length own + 1) = ap (λ (x : List ℕ × ℕ). x.1) both in
    record {
      short = subst (λ (x : List ℕ). length x ≤ 255) (sym same) short;
      there = subst (λ x. StandsWithin message at to (string_wire x)) (sym same) there;
      after = place ∙ ap (λ (x : List ℕ). at + (length x + 1)) (sym same);
    }
text_read message to at text next (inr (none, is)) = absurd cc

pub text_cut : (message : List ℕ) (to at : ℕ) (fault : InFault) → TextIn message to at (Err fault) → TextIsCut message to at × (fault ≡ Shape at)
text_cut message to at fault (inl (own, short, there, is)) = absurd cc
text_cut message to at fault (inr (none, is)) = (none, cc)

stand-more : (message : List ℕ) (at : ℕ) (texts : List (List ℕ)) (here : ℕ) (text : List ℕ)
    → TextsStand message at texts here → length text ≤ 255 → StandsAt message here (string_wire text)
    → TextsStand message at (texts ++ text ∷ []) (here + (length text + 1))
stand-more message at [] here text is short there =
    (short, subst (λ n. StandsAt message n (string_wire text)) (sym is) there, ap (λ n. n + (length text + 1)) is)
stand-more message at (first ∷ texts) here text (small, stands, rest) short there =
    (small, stands, stand-more message (at + (length first + 1)) texts here text rest short there)

-- as far as the character-strings of RDATA are read: there is one at least, and they do not pass its end
pub record IsReadingTexts (message : List ℕ) (from to : ℕ) (texts : List (List ℕ)) (at : ℕ) : Type 0 where
  pub stand : TextsStand message from texts at
  pub some : 0 < length texts
  pub low : at ≤ to

pub texts-first : (message : List ℕ) (from to : ℕ) (text : List ℕ) (next : ℕ) → TextIn message to from (Ok (text, next))
    → next ≤ to → IsReadingTexts message from to (text ∷ []) next
texts-first message from to text next h low =
    let t = text_read message to from text next h in
    record { stand = (t.short, t.there.0, sym t.after); some = omega arith; low = low }

pub texts-more : (message : List ℕ) (from to : ℕ) (texts : List (List ℕ)) (at : ℕ) (text : List ℕ) (next : ℕ)
    → IsReadingTexts message from to texts at → TextIn message to at (Ok (text, next)) → next ≤ to
    → IsReadingTexts message from to (texts ++ text ∷ []) next
texts-more message from to texts at text next r h low =
    let t = text_read message to at text next h in
    record {
      stand = subst (λ n. TextsStand message from (texts ++ text ∷ []) n) (sym t.after) (stand-more message from texts at text r.stand t.short t.there.0);
      some = omega (arith, length-append texts (text ∷ []));
      low = low;
    }

-- the faults and the end
told : (message : List ℕ) (from to : ℕ) (fault : InFault) (result : Result (List (List ℕ)) DecodeFault)
    → TextsIn message from to (Err fault) → IsErrAnd result (λ told. told ≡ of_rdata fault)
    → OrMemory (ToldAs of_rdata (TextsIn message from to)) result
told message from to fault (Ok texts) h is = absurd is
told message from to fault (Err other) h is = inl (inr (fault, h, ap Err is))

pub texts-none : (message : List ℕ) (from to : ℕ) (fault : InFault) (result : Result (List (List ℕ)) DecodeFault)
    → TextIn message to from (Err fault) → IsErrAnd result (λ told. told ≡ of_rdata fault)
    → OrMemory (ToldAs of_rdata (TextsIn message from to)) result
texts-none message from to fault result h is =
    let cut = text_cut message to from fault h in
    told message from to fault result (inr ([], from, refl, inr refl, cut.0, ap Err cut.1)) is

pub texts-cut : (message : List ℕ) (from to : ℕ) (texts : List (List ℕ)) (at : ℕ) (fault : InFault) (result : Result (List (List ℕ)) DecodeFault)
    → IsReadingTexts message from to texts at → at < to → TextIn message to at (Err fault)
    → IsErrAnd result (λ told. told ≡ of_rdata fault) → OrMemory (ToldAs of_rdata (TextsIn message from to)) result
texts-cut message from to texts at fault result r low h is =
    let cut = text_cut message to at fault h in
    told message from to fault result (inr (texts, at, r.stand, inl low, cut.0, ap Err cut.1)) is

pub texts-end : (message : List ℕ) (from to : ℕ) (texts : List (List ℕ)) (at : ℕ)
    → IsReadingTexts message from to texts at → to ≤ at → OrMemory (ToldAs of_rdata (TextsIn message from to)) (Ok texts)
texts-end message from to texts at r high =
    let low = r.low in
    let end : at ≡ to = omega arith in
    inl (inl (texts, inl (texts, subst (λ n. TextsStand message from texts n) end r.stand, r.some, refl), refl))
