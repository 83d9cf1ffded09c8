-- Names that are the same as the key of a number.
use Rattle.std.proofs.Common.{◌≡◌, ℕ, ◌≤◌, true, nat_le, List, [], ◌∷◌, ◌++◌, map, reverse, Option, Some, None, IfSome}
use Rattle.std.proofs.Common.{refl, sym, ap, subst, ◌∙◌, append_assoc, arith}
use Rattle.std.proofs.lemmas.Bool.{and_parts, leb-true}
use Rattle.std.proofs.lemmas.List.{append-nil, append_cancel_right, map-append, reverse-append}
use Rattle.std.proofs.lemmas.List.Elements.{All-head, All-tail}
use Rattle.std.proofs.lemmas.Str.Ascii.{lowercase_is}
use Rattle.std.specs.Char.{is_ascii_digit}
use Rattle.std.specs.List.{AllByRecursion, AllPass}
use Rattle.enum_base.specs.Folding.{folded_byte}
use Rattle.dns_name.specs.Name.{AreSame, IsLabel, IsName, folded_labels, labels_of, wire_of}
use Rattle.dns_name.proofs.NameLemmas.{labels_of-wire_of, wire_of-append}
use Rattle.enum_app.specs.Digits.{AreDigits}
use Rattle.enum_app.specs.Number.{key_labels, labels_wire}

-- the first digit of a number is the label before the apex
key-cons : (d : ℕ) (ds : List ℕ) (apex : List (List ℕ)) → key_labels (d ∷ ds) apex ≡ key_labels ds ((d ∷ []) ∷ apex)
key-cons d ds apex =
    let single : ℕ → List ℕ = λ x. x ∷ [] in
    ap (λ r. map single r ++ apex) (reverse-append (d ∷ []) ds)
    ∙ ap (λ l. l ++ apex) (map-append single (reverse ds) (d ∷ []))
    ∙ append_assoc (map single (reverse ds)) ((d ∷ []) ∷ []) apex

digit_below : (d : ℕ) → is_ascii_digit d ≡ true → d ≤ 57
digit_below d digit = leb-true d 57 (and_parts (nat_le 48 d) (nat_le d 57) digit).1

digit_label : (d : ℕ) → is_ascii_digit d ≡ true → IsLabel (d ∷ [])
digit_label d digit = record {
  some = omega arith;
  most = omega arith;
  bytes = (omega (arith, digit_below d digit), tt);
}

-- the labels of a key are labels
key_each : (ds : List ℕ) (apex : List (List ℕ)) → AllPass is_ascii_digit ds → AllByRecursion IsLabel apex → AllByRecursion IsLabel (key_labels ds apex)
key_each [] apex digits each = each
key_each (d ∷ ds) apex digits each =
    let digit : is_ascii_digit d ≡ true = All-head (λ b. is_ascii_digit b ≡ true) d ds digits in
    let rest : AllPass is_ascii_digit ds = All-tail (λ b. is_ascii_digit b ≡ true) d ds digits in
    subst (AllByRecursion IsLabel) (sym (key-cons d ds apex)) (key_each ds ((d ∷ []) ∷ apex) rest (digit_label d digit, each))

-- digits have no case
folded_key : (ds : List ℕ) (apex : List (List ℕ)) → AllPass is_ascii_digit ds → folded_labels (key_labels ds apex) ≡ key_labels ds (folded_labels apex)
folded_key [] apex digits = refl
folded_key (d ∷ ds) apex digits =
    let digit : is_ascii_digit d ≡ true = All-head (λ b. is_ascii_digit b ≡ true) d ds digits in
    let rest : AllPass is_ascii_digit ds = All-tail (λ b. is_ascii_digit b ≡ true) d ds digits in
    let same : folded_byte d ≡ d = (lowercase_is d).1 (omega (arith, digit_below d digit)) in
    ap folded_labels (key-cons d ds apex)
    ∙ folded_key ds ((d ∷ []) ∷ apex) rest
    ∙ ap (λ x. key_labels ds ((x ∷ []) ∷ folded_labels apex)) same
    ∙ sym (key-cons d ds (folded_labels apex))

-- the wire form of a key
wire_parts : (ds : List ℕ) (apex : List (List ℕ)) → wire_of (key_labels ds apex) ≡ labels_wire ds ++ wire_of apex
wire_parts ds apex =
    ap (λ l. wire_of (l ++ apex)) (sym (append-nil (map (λ x. x ∷ []) (reverse ds)))) ∙ sym (wire_of-append (key_labels ds []) apex)

-- the wire form of a folded name
pub record IsFolded (name : List (List ℕ)) (wire : List ℕ) : Type 0 where
  pub wire_is : wire ≡ wire_of (folded_labels name)
  pub each : AllByRecursion IsLabel (folded_labels name)

pub folded_wire : (name shown : List (List ℕ)) (wire : List ℕ) → shown ≡ folded_labels name → wire ≡ wire_of shown → IsName shown → IsFolded name wire
folded_wire name shown wire is spelt h = record { wire_is = spelt ∙ ap wire_of is; each = subst (AllByRecursion IsLabel) is h.each }

-- what stands before the apex are the digits of a number: the name is its key
pub key_of_wire : (name apex : List (List ℕ)) (wire top labels number : List ℕ) → IsFolded name wire
    → IsFolded apex top → wire ≡ labels ++ top → AreDigits number → labels ≡ labels_wire number
    → AreSame name (key_labels number apex)
key_of_wire name apex wire top labels number n a parts digits is =
    let whole : wire_of (folded_labels name) ≡ wire_of (key_labels number (folded_labels apex)) =
    sym n.wire_is ∙ parts ∙ ap (λ l. l ++ top) is ∙ ap (λ t. labels_wire number ++ t) a.wire_is ∙ sym (wire_parts number (folded_labels apex)) in
    sym (labels_of-wire_of (folded_labels name) n.each)
    ∙ ap labels_of whole
    ∙ labels_of-wire_of (key_labels number (folded_labels apex)) (key_each number (folded_labels apex) digits.each a.each)
    ∙ sym (folded_key number apex digits.each)

-- the wire form of a name that is the key of digits
pub wire_of_key : (name apex : List (List ℕ)) (wire top digits : List ℕ) → IsFolded name wire → IsFolded apex top
    → AreDigits digits → AreSame name (key_labels digits apex) → wire ≡ labels_wire digits ++ top
wire_of_key name apex wire top digits n a are same =
    n.wire_is ∙ ap wire_of (same ∙ folded_key digits apex are.each)
    ∙ wire_parts digits (folded_labels apex) ∙ ap (λ t. labels_wire digits ++ t) (sym a.wire_is)

pub labels_of_key : (name apex : List (List ℕ)) (wire top labels digits : List ℕ) → IsFolded name wire
    → IsFolded apex top → wire ≡ labels ++ top → AreDigits digits → AreSame name (key_labels digits apex)
    → labels ≡ labels_wire digits
labels_of_key name apex wire top labels digits n a parts are same =
    append_cancel_right labels (labels_wire digits) top (sym parts ∙ wire_of_key name apex wire top digits n a are same)

-- a number that was found is one with that key
pub found_key : (name apex : List (List ℕ)) (wire top labels : List ℕ) (found : Option (List ℕ)) → IsFolded name wire
    → IsFolded apex top → wire ≡ labels ++ top → IfSome found AreDigits
    → IfSome found (λ number. labels ≡ labels_wire number)
    → IfSome found (λ number. AreSame name (key_labels number apex))
found_key name apex wire top labels None n a parts digits is = tt
found_key name apex wire top labels (Some number) n a parts digits is = key_of_wire name apex wire top labels number n a parts digits is
