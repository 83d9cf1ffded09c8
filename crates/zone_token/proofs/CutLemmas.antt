use Rattle.std.proofs.Common.{◌≡◌, ℕ, ◌+◌, ◌-◌, List, length, take, drop, Some, None, option_map, eqb, position, ap}
use Rattle.std.proofs.lemmas.List.{take_rest}
use Rattle.zone_token.specs.Addresses.{cut, double_from, cut_double}

pub cut-at : (byte : ℕ) (text : List ℕ) (at : ℕ) → position (λ b. eqb b byte) text ≡ Some at
    → cut byte text ≡ Some (take at text, take (length text - (at + 1)) (drop (at + 1) text))
unfolding cut
cut-at byte text at h =
    let cutter : ℕ → List ℕ × List ℕ = λ i. (take i text, drop (i + 1) text) in
    let rest : take (length text - (at + 1)) (drop (at + 1) text) ≡ drop (at + 1) text = take_rest text (at + 1) in
    rw rest (ap (option_map cutter) h)

pub cut-nowhere : (byte : ℕ) (text : List ℕ) → position (λ b. eqb b byte) text ≡ None → cut byte text ≡ None
unfolding cut
cut-nowhere byte text h =
    let cutter : ℕ → List ℕ × List ℕ = λ i. (take i text, drop (i + 1) text) in
    ap (option_map cutter) h

pub double-at : (text : List ℕ) (at : ℕ) → double_from 0 text ≡ Some at
    → cut_double text ≡ Some (take at text, take (length text - (at + 2)) (drop (at + 2) text))
unfolding cut_double
double-at text at h =
    let cutter : ℕ → List ℕ × List ℕ = λ i. (take i text, drop (i + 2) text) in
    let rest : take (length text - (at + 2)) (drop (at + 2) text) ≡ drop (at + 2) text = take_rest text (at + 2) in
    rw rest (ap (option_map cutter) h)

pub double-nowhere : (text : List ℕ) → double_from 0 text ≡ None → cut_double text ≡ None
unfolding cut_double
double-nowhere text h =
    let cutter : ℕ → List ℕ × List ℕ = λ i. (take i text, drop (i + 2) text) in
    ap (option_map cutter) h
