use Rattle.std.proofs.Common.{◌≡◌, ◌∙◌, ℕ, zero, suc, subst, ◌+◌, ◌-◌, ◌<◌, ◌≤◌, List, [], ◌∷◌, ◌++◌, length, get_or}
use Rattle.std.proofs.Common.{take, drop, true, false, Result, Ok, refl, sym, ap, arith}
use Rattle.std.proofs.lemmas.List.{drop_more, take_more, take_all, get_or-drop, length-drop}
use Rattle.std.proofs.lemmas.Bool.{cond-true, cond-false}
use Rattle.zone_token.specs.Entries.{beginning, after, ends_entry, ended_from, still_size}
use Rattle.zone_token.proofs.SpotLemmas.{Stays, stays}
use Rattle.zone_text.specs.Reading.{Read, run, step, rest_from, ◌>>=◌}
use Rattle.zone_token.specs.declared.spot.Spot.{Spot}
use Rattle.zone_text.specs.declared.fault.TextFault.{TextFault}

-- the bytes of a text from a place to another
abbrev pub between : List ℕ → ℕ → ℕ → List ℕ
between text from to = take (to - from) (drop from text)

-- a scan from a beginning has come to a place, and the entry at hand begins at another: what is left gives what everything gave
pub record Scanned (text : List ℕ) (read : Read) (begun : List ℕ) (spot : Spot) (left : List ℕ) (now : Read) (from : ℕ) (last : Spot) (at : ℕ) : Type 0 where
  pub ended : run now (ended_from (between text from at) last (drop at text)) ≡ run read (ended_from begun spot left)
  pub rest : rest_from (between text from at) last (drop at text) ≡ rest_from begun spot left
  pub within : from ≤ at
  pub inside : at ≤ length text

-- one byte more of a text
between-more : (text : List ℕ) (from at : ℕ) → from ≤ at → at < length text → between text from (at + 1) ≡ between text from at ++ get_or text at 0 ∷ []
between-more text from at below inside =
    let longer : at + 1 - from ≡ at - from + 1 = omega arith in
    let place : from + (at - from) ≡ at = omega arith in
    let within : at - from < length (drop {A = ℕ} from text) = omega (arith, length-drop from text) in
    ap (λ n. take n (drop {A = ℕ} from text)) longer ∙ take_more (drop {A = ℕ} from text) (at - from) 0 within
    ∙ ap (λ b. take (at - from) (drop {A = ℕ} from text) ++ b ∷ []) (get_or-drop from text (at - from) 0 ∙ ap (λ n. get_or text n 0) place)

between-none : (text : List ℕ) (from at : ℕ) → from ≡ at → between text from at ≡ []
between-none text from at is = ap (λ n. take n (drop {A = ℕ} from text)) (let e : at - from ≡ 0 = omega arith in e)

-- what is left, by its first byte
ended-goes : (begun : List ℕ) (spot : Spot) (byte : ℕ) (rest : List ℕ) → ends_entry spot byte ≡ false
    → ended_from begun spot (byte ∷ rest) ≡ ended_from (begun ++ byte ∷ []) (after spot byte) rest
ended-goes begun spot byte rest test = cond-false _ _ _ test

ended-ends : (begun : List ℕ) (spot : Spot) (byte : ℕ) (rest : List ℕ) → ends_entry spot byte ≡ true
    → ended_from begun spot (byte ∷ rest) ≡ (begun ++ byte ∷ []) ∷ ended_from [] beginning rest
ended-ends begun spot byte rest test = cond-true _ _ _ test

rest-goes : (begun : List ℕ) (spot : Spot) (byte : ℕ) (rest : List ℕ) → ends_entry spot byte ≡ false
    → rest_from begun spot (byte ∷ rest) ≡ rest_from (begun ++ byte ∷ []) (after spot byte) rest
rest-goes begun spot byte rest test = cond-false _ _ _ test

rest-ends : (begun : List ℕ) (spot : Spot) (byte : ℕ) (rest : List ℕ) → ends_entry spot byte ≡ true
    → rest_from begun spot (byte ∷ rest) ≡ rest_from [] beginning rest
rest-ends begun spot byte rest test = cond-true _ _ _ test

-- the scan goes on after a byte that ends no entry
pub scan_goes_on : (text : List ℕ) (read : Read) (begun : List ℕ) (spot : Spot) (left : List ℕ) (now : Read) (from : ℕ)
    (last : Spot) (at : ℕ) → Scanned text read begun spot left now from last at → at < length text
    → ends_entry last (get_or text at 0) ≡ false
    → Scanned text read begun spot left now from (after last (get_or text at 0)) (at + 1)
scan_goes_on text read begun spot left now from last at s below test =
    let byte = get_or text at 0 in
    let here : drop at text ≡ byte ∷ drop (at + 1) text = drop_more text at 0 below in
    let more : between text from (at + 1) ≡ between text from at ++ byte ∷ [] = between-more text from at s.within below in
    record {
      ended =
          ap (λ b. run now (ended_from b (after last byte) (drop (at + 1) text))) more
          ∙ ap (run now) (sym (ended-goes (between text from at) last byte (drop (at + 1) text) test))
          ∙ ap (λ t. run now (ended_from (between text from at) last t)) (sym here) ∙ s.ended;
      rest =
          ap (λ b. rest_from b (after last byte) (drop (at + 1) text)) more
          ∙ sym (rest-goes (between text from at) last byte (drop (at + 1) text) test)
          ∙ ap (λ t. rest_from (between text from at) last t) (sym here) ∙ s.rest;
      within = omega (arith, s.within);
      inside = omega arith;
    }

-- the scan goes on after an entry
pub scan_ends : (text : List ℕ) (read : Read) (begun : List ℕ) (spot : Spot) (left : List ℕ) (now next : Read)
    (from : ℕ) (last : Spot) (at : ℕ) → Scanned text read begun spot left now from last at → at < length text
    → ends_entry last (get_or text at 0) ≡ true → step now (between text from at ++ get_or text at 0 ∷ []) ≡ Ok next
    → Scanned text read begun spot left next (at + 1) beginning (at + 1)
scan_ends text read begun spot left now next from last at s below test ok =
    let byte = get_or text at 0 in
    let here : drop at text ≡ byte ∷ drop (at + 1) text = drop_more text at 0 below in
    let begun_now = between text from at in
    let none : between text (at + 1) (at + 1) ≡ [] = between-none text (at + 1) (at + 1) (omega arith) in
    let later = ended_from [] beginning (drop (at + 1) text) in
    record {
      ended =
          ap (λ b. run next (ended_from b beginning (drop (at + 1) text))) none
          ∙ sym (ap (λ (r : Result Read TextFault). r >>= λ n. run n later) ok)
          ∙ ap (run now) (sym (ended-ends begun_now last byte (drop (at + 1) text) test))
          ∙ ap (λ t. run now (ended_from begun_now last t)) (sym here) ∙ s.ended;
      rest =
          ap (λ b. rest_from b beginning (drop (at + 1) text)) none
          ∙ sym (rest-ends begun_now last byte (drop (at + 1) text) test)
          ∙ ap (λ t. rest_from begun_now last t) (sym here) ∙ s.rest;
      within = omega arith;
      inside = omega arith;
    }

-- the scan goes on after bytes that leave the spot as it is
pub scan_skips : (text : List ℕ) (read : Read) (begun : List ℕ) (spot : Spot) (left : List ℕ) (now : Read) (from : ℕ)
    (last : Spot) (n at : ℕ) → Scanned text read begun spot left now from last at → at + n ≤ length text
    → ((k : ℕ) → k < n → Stays last (get_or text (at + k) 0)) → Scanned text read begun spot left now from last (at + n)
scan_skips text read begun spot left now from last zero at s inside each =
    let none : at ≡ at + 0 = omega arith in
    subst (Scanned text read begun spot left now from last) none s
scan_skips text read begun spot left now from last (suc n) at s inside each =
    let none : at + 0 ≡ at = omega arith in
    let sum : at + 1 + n ≡ at + suc n = omega arith in
    let shift : (k : ℕ) → at + suc k ≡ at + 1 + k = λ k. omega arith in
    let stay : Stays last (get_or text at 0) = subst (λ k. Stays last (get_or text k 0)) none (each 0 (omega arith)) in
    let on = scan_goes_on text read begun spot left now from last at s (omega arith) stay.goes in
    let same = subst (λ spot_now. Scanned text read begun spot left now from spot_now (at + 1)) stay.same on in
    subst (Scanned text read begun spot left now from last) sum
    (scan_skips text read begun spot left now from last n (at + 1) same (omega arith)
    (λ k below. subst (λ i. Stays last (get_or text i 0)) (shift k) (each (suc k) (omega arith))))

-- the scan comes to the next byte that may change the spot
pub scan_turns : (text : List ℕ) (read : Read) (begun : List ℕ) (spot : Spot) (left : List ℕ) (now : Read) (from : ℕ)
    (last : Spot) (at next : ℕ) → Scanned text read begun spot left now from last at
    → next ≡ at + still_size last (drop at text) → next ≤ length text
    → Scanned text read begun spot left now from last next
scan_turns text read begun spot left now from last at next s is inside =
    let n = still_size last (drop at text) in
    subst (Scanned text read begun spot left now from last) (sym is)
    (scan_skips text read begun spot left now from last n at s (omega (arith, is))
    (λ k below. subst (Stays last) (get_or-drop at text k 0) (stays last (drop at text) k below)))

-- a scan begins at a place, where the entry at hand begins with the text
pub scan_begins : (text : List ℕ) (read : Read) (at : ℕ) (spot : Spot) → at ≤ length text → Scanned text read (take at text) spot (drop at text) read 0 spot at
scan_begins text read at spot inside =
    let whole : between text 0 at ≡ take at text = ap (λ n. take n (drop {A = ℕ} 0 text)) (let e : at - 0 ≡ at = omega arith in e) in
    record {
      ended = ap (λ b. run read (ended_from b spot (drop at text))) whole;
      rest = ap (λ b. rest_from b spot (drop at text)) whole;
      within = omega arith;
      inside = inside;
    }

-- a scan that has come to the end
pub scan_done : (text : List ℕ) (read : Read) (begun : List ℕ) (spot : Spot) (left : List ℕ) (now : Read) (from : ℕ)
    (last : Spot) (at : ℕ) → Scanned text read begun spot left now from last at → length text ≤ at
    → (run read (ended_from begun spot left) ≡ Ok now) × (rest_from begun spot left ≡ (drop from text, last))
scan_done text read begun spot left now from last at s past =
    let none : drop at text ≡ [] = length-zero (drop at text) (omega (arith, length-drop at text)) in
    let all : between text from at ≡ drop from text = take_all (at - from) (drop from text) (omega (arith, length-drop from text)) in (
      sym s.ended ∙ ap (λ t. run now (ended_from (between text from at) last t)) none,
      sym s.rest ∙ ap (λ t. rest_from (between text from at) last t) none ∙ ap (λ b. (b, last)) all,
    )
  where
    length-zero : (xs : List ℕ) → length xs ≡ 0 → xs ≡ []
    length-zero [] none = refl
    length-zero (x ∷ xs) none = absurd (omega arith)
