use Rattle.std.proofs.Common.{◌≡◌, ◌≢◌, ◌⊎◌, ℕ, zero, suc, ◌+◌, ◌-◌, ◌*◌, ◌<◌, ◌≤◌, List, [], ◌∷◌, ◌++◌, length, take}
use Rattle.std.proofs.Common.{drop, get_or, Bool, true, false, cond, bytes_eq, Option, Some, Ok, Err, refl, sym, ◌∙◌}
use Rattle.std.proofs.Common.{ap, inl, inr, arith, append_assoc, length-append}
use Rattle.std.proofs.lemmas.List.{drop-drop, drop_more, drop_all, take_rest, flat_map_more, take_more, append-nil}
use Rattle.std.proofs.lemmas.Bool.{cond_both, cond-true, eq-eqb, ne_eqb, false≢true}
use Rattle.std.specs.List.{flat_map}
use Rattle.dns_name.specs.Name.{IsName, label_wire, wire_of, labels_of, IsWire}
use Rattle.dns_name.proofs.NameLemmas.{labels_of-wire_of}
use Rattle.dns_name.specs.Text.{byte_text, label_text, text_of, is_special, is_visible, dot}
use Rattle.dns_name.specs.Reading.{first_piece, more_of, pieces_after, pieces, reading_from, reading_of, with_label}
use Rattle.dns_name.specs.declared.piece.Piece.{Piece}
use Rattle.dns_name.specs.declared.piece.Piece.TheVariants.{Dot, Byte, Broken}
use Rattle.dns_name.specs.declared.fault.NameFault.TheVariants.{EmptyLabel, LabelTooLong, BadEscape}

-- a byte is written as at most four
pub byte_text-short : (byte : ℕ) → length (byte_text byte) ≤ 4
byte_text-short byte =
    let P : List ℕ → Type 0 = λ t. length t ≤ 4 in
    cond_both (is_special byte) _ _ P (λ _. omega arith) (λ _. cond_both (is_visible byte) _ _ P (λ _. omega arith) (λ _. omega arith))

pub bytes_text-short : (label : List ℕ) → length (flat_map byte_text label) ≤ 4 * length label
bytes_text-short [] = omega arith
bytes_text-short (b ∷ bs) = omega (arith, byte_text-short b, bytes_text-short bs, length-append (byte_text b) (flat_map byte_text bs))

-- one byte more of a label
pub written_more : (old now : List ℕ) (label : List ℕ) (i : ℕ) → i < length label
    → now ≡ (old ++ flat_map byte_text (take i label)) ++ byte_text (get_or label i 0)
    → now ≡ old ++ flat_map byte_text (take (i + 1) label)
written_more old now label i below is =
    is ∙ flat_map_more byte_text old (take i label) (get_or label i 0) ∙ ap (λ x. old ++ flat_map byte_text x) (sym (take_more label i 0 below))

-- the pieces after some skipped bytes are those of what is left
pieces_after-drop : (skipped : ℕ) (text : List ℕ) → pieces_after skipped text ≡ pieces (drop skipped text)
unfolding pieces_after
pieces_after-drop zero text = refl
pieces_after-drop (suc skipped) [] = refl
pieces_after-drop (suc skipped) (x ∷ rest) = pieces_after-drop skipped rest

pub pieces-cons : (x : ℕ) (rest : List ℕ) → pieces (x ∷ rest) ≡ first_piece (x ∷ rest) ∷ pieces (drop (more_of (first_piece (x ∷ rest))) rest)
unfolding pieces_after
pieces-cons x rest = ap (λ ps. first_piece (x ∷ rest) ∷ ps) (pieces_after-drop (more_of (first_piece (x ∷ rest))) rest)

-- the first piece of what is left of a text, and the others
pub pieces-step : (text : List ℕ) (at : ℕ) (piece : Piece) → at < length text → piece ≡ first_piece (drop at text)
    → pieces (drop at text) ≡ piece ∷ pieces (drop (at + (more_of piece + 1)) text)
pieces-step text at piece below is =
    let x = get_or text at 0 in
    let rest = drop (at + 1) text in
    let here : drop at text ≡ x ∷ rest = drop_more text at 0 below in
    let first : first_piece (x ∷ rest) ≡ piece = ap first_piece (sym here) ∙ sym is in
    let place : at + 1 + more_of piece ≡ at + (more_of piece + 1) = omega arith in
    ap pieces here ∙ pieces-cons x rest ∙ ap (λ p. p ∷ pieces (drop (more_of p) rest)) first
    ∙ ap (λ t. piece ∷ pieces t) (drop-drop (more_of piece) (at + 1) text ∙ ap (λ n. drop n text) place)

-- what is read from a place on, by the piece that stands there
pub read-broken : (labels : Option (List (List ℕ))) (start : ℕ) (label : List ℕ) (at : ℕ) (text : List ℕ)
    → at < length text → Broken ≡ first_piece (drop at text)
    → reading_from labels start label at (pieces (drop at text)) ≡ Err (BadEscape at)
unfolding reading_from
read-broken labels start label at text below is = ap (reading_from labels start label at) (pieces-step text at Broken below is)

pub read-empty : (labels : Option (List (List ℕ))) (start : ℕ) (label : List ℕ) (at : ℕ) (text : List ℕ)
    → at < length text → Dot ≡ first_piece (drop at text) → label ≡ []
    → reading_from labels start label at (pieces (drop at text)) ≡ Err (EmptyLabel start)
unfolding reading_from
read-empty labels start label at text below is none =
    ap (reading_from labels start label at) (pieces-step text at Dot below is)
    ∙ ap (λ l. reading_from labels start l at (Dot ∷ pieces (drop (at + 1) text))) none

pub read-dot_cons : (labels : Option (List (List ℕ))) (start : ℕ) (label : List ℕ) (at : ℕ) (rest : List Piece)
    → 0 < length label
    → reading_from labels start label at (Dot ∷ rest) ≡ reading_from (with_label labels label) (at + 1) [] (at + 1) rest
unfolding reading_from
read-dot_cons labels start [] at rest some = absurd (omega arith)
read-dot_cons labels start (b ∷ bs) at rest some = refl

pub read-dot : (labels : Option (List (List ℕ))) (start : ℕ) (label : List ℕ) (at : ℕ) (text : List ℕ)
    → at < length text → Dot ≡ first_piece (drop at text) → 0 < length label
    → reading_from labels start label at (pieces (drop at text)) ≡ reading_from (with_label labels label) (at + 1) [] (at + 1) (pieces (drop (at + 1) text))
read-dot labels start label at text below is some =
    ap (reading_from labels start label at) (pieces-step text at Dot below is) ∙ read-dot_cons labels start label at (pieces (drop (at + 1) text)) some

pub read-full : (labels : Option (List (List ℕ))) (start : ℕ) (label : List ℕ) (at : ℕ) (text : List ℕ) (value more : ℕ)
    → at < length text → Byte value more ≡ first_piece (drop at text) → length label ≡ 63
    → reading_from labels start label at (pieces (drop at text)) ≡ Err (LabelTooLong start)
unfolding reading_from
read-full labels start label at text value more below is full =
    ap (reading_from labels start label at) (pieces-step text at (Byte value more) below is)
    ∙ cond-true _ (Err (LabelTooLong start)) _ (eq-eqb (length label) 63 full)

pub read-byte : (labels : Option (List (List ℕ))) (start : ℕ) (label : List ℕ) (at : ℕ) (text : List ℕ) (value more : ℕ)
    → at < length text → Byte value more ≡ first_piece (drop at text) → (length label ≡ 63 → ⊥)
    → reading_from labels start label at (pieces (drop at text))
    ≡ reading_from labels start (label ++ value ∷ []) (at + (more + 1)) (pieces (drop (at + (more + 1)) text))
unfolding reading_from
read-byte labels start label at text value more below is room =
    ap (reading_from labels start label at) (pieces-step text at (Byte value more) below is)
    ∙ ap (λ t. cond t (Err (LabelTooLong start))
    (reading_from labels start (label ++ value ∷ []) (at + (more + 1)) (pieces (drop (at + (more + 1)) text))))
    (ne_eqb (length label) 63 room)

-- what is read at the end of a text
pub read-last : (labels : Option (List (List ℕ))) (start : ℕ) (label : List ℕ) (at : ℕ) (text : List ℕ)
    → length text ≤ at → 0 < length label
    → reading_from labels start label at (pieces (drop at text)) ≡ Ok (with_label labels label, false)
unfolding reading_from pieces_after
read-last labels start [] at text past some = absurd (omega arith)
read-last labels start (b ∷ bs) at text past some = ap (λ t. reading_from labels start (b ∷ bs) at (pieces t)) (drop_all at text past)

pub read-none : (labels : Option (List (List ℕ))) (start : ℕ) (label : List ℕ) (at : ℕ) (text : List ℕ)
    → length text ≤ at → label ≡ [] → start ≡ 0
    → reading_from labels start label at (pieces (drop at text)) ≡ Err (EmptyLabel 0)
unfolding reading_from pieces_after
read-none labels start label at text past none first =
    ap (λ t. reading_from labels start label at (pieces t)) (drop_all at text past)
    ∙ ap (λ l. reading_from labels start l at []) none
    ∙ ap (λ s. reading_from labels s [] at []) first

pub read-whole : (labels : Option (List (List ℕ))) (start : ℕ) (label : List ℕ) (at : ℕ) (text : List ℕ)
    → length text ≤ at → label ≡ [] → (start ≡ 0 → ⊥)
    → reading_from labels start label at (pieces (drop at text)) ≡ Ok (labels, true)
unfolding reading_from pieces_after
read-whole labels start label at text past none later =
    ap (λ t. reading_from labels start label at (pieces t)) (drop_all at text past)
    ∙ ap (λ l. reading_from labels start l at []) none
    ∙ ap (λ t. cond t (Err (EmptyLabel start)) (Ok (labels, true))) (ne_eqb start 0 later)

pub reading_of-root : (text : List ℕ) → bytes_eq text (dot ∷ []) ≡ true → reading_of text ≡ Ok (Some [], true)
unfolding reading_of
reading_of-root text is = cond-true _ (Ok (Some [], true)) _ is

pub reading_of-other : (text : List ℕ) → bytes_eq text (dot ∷ []) ≡ false → reading_of text ≡ reading_from (Some []) 0 [] 0 (pieces text)
unfolding reading_of
reading_of-other text other = ap (λ t. cond t (Ok (Some [], true)) (reading_from (Some []) 0 [] 0 (pieces text))) other

-- the reading of a text that is not the root's
pub from_start : (text other : List ℕ) (r : Bool) → r ≡ bytes_eq text other → other ≡ dot ∷ [] → r ≡ false
    → reading_of text ≡ reading_from (Some []) 0 [] 0 (pieces text)
from_start text other r is lone fails = reading_of-other text (ap (bytes_eq text) (sym lone) ∙ sym is ∙ fails)

-- the piece that the code met
pub piece_met : (text : List ℕ) (at : ℕ) (result piece : Piece) → at < length text
    → result ≡ first_piece (get_or text at 0 ∷ take (length text - (at + 1)) (drop (at + 1) text)) → result ≡ piece
    → piece ≡ first_piece (drop at text)
piece_met text at result piece below value is =
    sym is ∙ value ∙ ap (λ rest. first_piece (get_or text at 0 ∷ rest)) (take_rest text (at + 1))
    ∙ ap first_piece (sym (drop_more text at 0 below))

-- a test that failed
pub unless_true : {P : Type 0} (r : Bool) → (P → r ≡ true) → r ≡ false → P → ⊥
unless_true r test fails p = false≢true (sym fails ∙ test p)

pub some_unless : (label : List ℕ) (r : Bool) → (label ≡ [] → r ≡ true) → r ≡ false → 0 < length label
some_unless [] r test fails = absurd (unless_true r test fails refl)
some_unless (b ∷ bs) r test fails = omega arith

-- a label is more than the root's byte on the wire
longer_than_root : (label : List ℕ) (labels : List (List ℕ)) → 1 < length (wire_of (label ∷ labels))
longer_than_root label labels = omega (arith, length-append (label ++ flat_map label_wire labels) (0 ∷ []))

-- what is written before the first label
text_begins : (labels : List (List ℕ)) (text : List ℕ) (size : ℕ) → size ≡ length (wire_of labels)
    → ((size ≡ 1) × (text ≡ dot ∷ [])) ⊎ ((size ≢ 1) × (text ≡ []))
    → text ++ flat_map label_text labels ≡ text_of labels
text_begins [] text size is (inl h) = ap (λ t. t ++ []) h.1
text_begins [] text size is (inr h) = absurd (h.0 is)
text_begins (label ∷ labels) text size is (inl h) = let long = longer_than_root label labels in let one = h.0 in absurd (omega arith)
text_begins (label ∷ labels) text size is (inr h) = ap (λ t. t ++ flat_map label_text (label ∷ labels)) h.1

pub text_begin : (labels : List (List ℕ)) (wire text : List ℕ) → wire ≡ wire_of labels → IsName labels
    → ((length wire ≡ 1) × (text ≡ dot ∷ [])) ⊎ ((length wire ≢ 1) × (text ≡ []))
    → text ++ flat_map label_text (labels_of wire) ≡ text_of labels
text_begin labels wire text is h start =
    ap (λ l. text ++ flat_map label_text l) (ap labels_of is ∙ labels_of-wire_of labels h.each) ∙ text_begins labels text (length wire) (ap length is) start

pub text_room : (wire text : List ℕ) → length wire ≤ 255
    → ((length wire ≡ 1) × (text ≡ dot ∷ [])) ⊎ ((length wire ≢ 1) × (text ≡ [])) → length text + 4 * length wire ≤ 1024
text_room wire text most (inl h) = omega (arith, ap length h.1, h.0)
text_room wire text most (inr h) = omega (arith, ap length h.1)

-- one label more is written
pub text_more : (text now whole : List ℕ) (wire label rest : List ℕ) → labels_of wire ≡ label ∷ labels_of rest
    → text ++ flat_map label_text (labels_of wire) ≡ whole → now ≡ text ++ label_text label
    → now ++ flat_map label_text (labels_of rest) ≡ whole
text_more text now whole wire label rest cut before is =
    ap (λ t. t ++ flat_map label_text (labels_of rest)) is
    ∙ append_assoc text (label_text label) (flat_map label_text (labels_of rest))
    ∙ ap (λ l. text ++ flat_map label_text l) (sym cut)
    ∙ before

pub text_fits : (text now label : List ℕ) (wire rest : ℕ) → length text + 4 * wire ≤ 1024
    → length label + rest + 1 ≡ wire → now ≡ text ++ label_text label → length now + 4 * rest ≤ 1024
text_fits text now label wire rest room sum is =
    omega (arith, ap length is, length-append text (label_text label), length-append (flat_map byte_text label) (dot ∷ []), bytes_text-short label)

-- no label is left
no_labels : (labels : List (List ℕ)) (wire : List ℕ) → labels_of wire ≡ labels → IsWire wire → length wire ≤ 1 → labels ≡ []
no_labels [] wire is h short = refl
no_labels (label ∷ labels) wire is h short =
    let size : length (wire_of (label ∷ labels)) ≡ length wire = ap (λ l. length (wire_of l)) (sym is) ∙ ap length h.wire in
    let long = longer_than_root label labels in
    absurd (omega arith)

pub text_end : (text whole wire : List ℕ) → IsWire wire → length wire ≤ 1 → text ++ flat_map label_text (labels_of wire) ≡ whole → text ≡ whole
text_end text whole wire h short is =
    sym (append-nil text) ∙ ap (λ l. text ++ flat_map label_text l) (sym (no_labels (labels_of wire) wire refl h short)) ∙ is
