-- Keys, digit by digit.
use Rattle.std.proofs.Common.{◌≡◌, ◌≢◌, ◌⊎◌, inl, inr, ℕ, ◌+◌, ◌*◌, ◌<◌, ◌≤◌, true, List, [], ◌∷◌, ◌++◌, length, take}
use Rattle.std.proofs.Common.{map, reverse, Some, None, Result, Ok, refl, sym, ap, subst, ◌∙◌, arith, get_or}
use Rattle.std.specs.Prelude.{codes, IfOk, IfErr, OnOk}
use Rattle.std.specs.Char.{is_ascii_digit}
use Rattle.std.proofs.lemmas.Grind.{common_steps}
use Rattle.std.proofs.lemmas.List.{reverse-append, length-reverse, take_all, take_more}
use Rattle.dns_name.specs.Name.{wire_of, name_within, IsName}
use Rattle.dns_name.specs.Reading.{name_of, finished, fitting}
use Rattle.dns_name.specs.Text.{IsRelative, dot, backslash}
use Rattle.dns_name.specs.declared.fault.NameFault.{NameFault}
use Rattle.dns_name.specs.declared.fault.NameFault.TheVariants.{NameTooLong}
use Rattle.dns_name.proofs.NameLemmas.{name_within-fits, name_within-long}
use Rattle.dns_name.proofs.SpellLemmas.{reading_of-relative, name_of-text_of}
use Rattle.enum_app.specs.Number.{key_labels, e164_arpa}

no_dot : (d : ℕ) → is_ascii_digit d ≡ true → d ≢ dot
no_dot d digit e = absurd (cc (sym digit ∙ ap is_ascii_digit e))

no_backslash : (d : ℕ) → is_ascii_digit d ≡ true → d ≢ backslash
no_backslash d digit e = absurd (cc (sym digit ∙ ap is_ascii_digit e))

-- a digit alone is a relative text of one label
one_label : (d : ℕ) → is_ascii_digit d ≡ true → d < 256 → IsRelative (d ∷ []) ((d ∷ []) ∷ [])
one_label d digit byte = (
  [],
  d ∷ [],
  [],
  d ∷ [],
  refl,
  refl,
  refl,
  (d ∷ [], [], refl, inl (refl, no_dot d digit, no_backslash d digit), refl),
  record { some = omega arith; most = omega arith; bytes = (byte, tt) },
)

pub digit_name : (d : ℕ) (origin : List (List ℕ)) → is_ascii_digit d ≡ true → d < 256
    → name_of (d ∷ []) (Some origin) ≡ fitting (name_within ((d ∷ []) ∷ origin))
digit_name d origin digit byte =
    ap (λ r. finished r (Some origin)) (reading_of-relative ((d ∷ []) ∷ []) (d ∷ []) (one_label d digit byte))

within_or_not : (n : ℕ) → (n ≤ 255) ⊎ (255 < n)
within_or_not n = grind arith

pub fitting_ok : (labels : List (List ℕ)) (r : Result (List (List ℕ)) NameFault) → r ≡ fitting (name_within labels) → IfOk r (λ l. l ≡ labels)
fitting_ok labels r is =
    elim (within_or_not (length (wire_of labels))) [
      | inl short ↦ subst (λ x. IfOk x (λ l. l ≡ labels)) (ap fitting (name_within-fits labels short) ∙ sym is) refl
      | inr long ↦ subst (λ x. IfOk x (λ l. l ≡ labels)) (ap fitting (name_within-long labels long) ∙ sym is) tt
    ]

pub fitting_fits : (labels : List (List ℕ)) (r : Result (List (List ℕ)) NameFault) → r ≡ fitting (name_within labels) → OnOk r (length (wire_of labels) ≤ 255)
fitting_fits labels r is =
    elim (within_or_not (length (wire_of labels))) [
      | inl short ↦ subst (λ x. OnOk x (length (wire_of labels) ≤ 255)) (ap fitting (name_within-fits labels short) ∙ sym is) short
      | inr long ↦ subst (λ x. OnOk x (length (wire_of labels) ≤ 255)) (ap fitting (name_within-long labels long) ∙ sym is) tt
    ]

pub fitting_err : (labels : List (List ℕ)) (r : Result (List (List ℕ)) NameFault) → r ≡ fitting (name_within labels)
    → IfErr r (λ f. (f ≡ NameTooLong) × (255 < length (wire_of labels)))
fitting_err labels r is =
    elim (within_or_not (length (wire_of labels))) [
      | inl short ↦ subst (λ x. IfErr x (λ f. (f ≡ NameTooLong) × (255 < length (wire_of labels)))) (ap fitting (name_within-fits labels short) ∙ sym is) tt
      | inr long ↦ subst (λ x. IfErr x (λ f. (f ≡ NameTooLong) × (255 < length (wire_of labels))))
          (ap fitting (name_within-long labels long) ∙ sym is) (refl, long)
    ]

-- the apex of telephone numbers is read of its text
apex_name : IsName e164_arpa
apex_name = record {
  each = (
    record {
      some = omega arith;
      most = omega arith;
      bytes = (omega arith, (omega arith, (omega arith, (omega arith, tt))));
    },
    (
      record {
        some = omega arith;
        most = omega arith;
        bytes = (omega arith, (omega arith, (omega arith, (omega arith, tt))));
      },
      tt,
    ),
  );
  short = omega arith;
}

pub apex_read : name_of (codes "e164.arpa.") None ≡ Ok e164_arpa
apex_read = name_of-text_of e164_arpa None apex_name

-- how long a key is on the wire
wire_digits : (ds : List ℕ) (apex : List (List ℕ)) → length (wire_of (map (λ d. d ∷ []) ds ++ apex)) ≡ 2 * length ds + length (wire_of apex)
wire_digits [] apex = omega arith
wire_digits (d ∷ ds) apex = let rest = wire_digits ds apex in omega arith

wire_key : (ds : List ℕ) (apex : List (List ℕ)) → length (wire_of (key_labels ds apex)) ≡ 2 * length ds + length (wire_of apex)
wire_key ds apex = wire_digits (reverse ds) apex ∙ ap (λ n. 2 * n + length (wire_of apex)) (length-reverse ds)

-- one digit more is one label more in front
pub key_labels-push : (ds : List ℕ) (d : ℕ) (apex : List (List ℕ)) → key_labels (ds ++ d ∷ []) apex ≡ (d ∷ []) ∷ key_labels ds apex
key_labels-push ds d apex = ap (λ r. map (λ x. x ∷ []) r ++ apex) (reverse-append ds (d ∷ []))

pub key_next : (ds : List ℕ) (i d : ℕ) (apex name longer : List (List ℕ)) → i < length ds → d ≡ get_or ds i 0
    → name ≡ key_labels (take i ds) apex → longer ≡ (d ∷ []) ∷ name → longer ≡ key_labels (take (i + 1) ds) apex
key_next ds i d apex name longer within is before more =
    more
    ∙ ap (λ n. (d ∷ []) ∷ n) before
    ∙ sym (key_labels-push (take i ds) d apex)
    ∙ ap (λ t. key_labels t apex) (sym (take_more ds i 0 within ∙ ap (λ x. take i ds ++ x ∷ []) (sym is)))

-- a key that is too long part of the way is too long
pub key_too_long : (ds : List ℕ) (i d : ℕ) (apex name : List (List ℕ)) → i < length ds → d ≡ get_or ds i 0
    → name ≡ key_labels (take i ds) apex → 255 < length (wire_of ((d ∷ []) ∷ name))
    → 255 < length (wire_of (key_labels ds apex))
key_too_long ds i d apex name within is before long =
    let part : (d ∷ []) ∷ name ≡ key_labels (take (i + 1) ds) apex = key_next ds i d apex name ((d ∷ []) ∷ name) within is before refl in
    let size : length (wire_of ((d ∷ []) ∷ name)) ≡ 2 * length (take (i + 1) ds) + length (wire_of apex) =
    ap (λ n. length (wire_of n)) part ∙ wire_key (take (i + 1) ds) apex in
    let whole = wire_key ds apex in
    let fewer : length (take (i + 1) ds) ≤ length ds = grind (arith, common_steps) in
    omega arith

-- a key of which some digits were put in front of the apex, and all fit
pub record IsBegun (ds : List ℕ) (at : ℕ) (apex name : List (List ℕ)) : Type 0 where
  pub is : name ≡ key_labels (take at ds) apex
  pub fits : 0 < at → length (wire_of name) ≤ 255

pub begun_next : (ds : List ℕ) (i d : ℕ) (apex name longer : List (List ℕ)) → i < length ds → d ≡ get_or ds i 0
    → IsBegun ds i apex name → longer ≡ (d ∷ []) ∷ name → length (wire_of ((d ∷ []) ∷ name)) ≤ 255
    → IsBegun ds (i + 1) apex longer
begun_next ds i d apex name longer within digit begun is fits = record {
  is = key_next ds i d apex name longer within digit begun.is is;
  fits = λ some. subst (λ l. length (wire_of l) ≤ 255) (sym is) fits;
}

-- the whole key fits
pub key_whole : (ds shown : List ℕ) (at : ℕ) (apex name : List (List ℕ)) → ds ≡ shown → 0 < length shown
    → length ds ≤ at → IsBegun ds at apex name
    → (name ≡ key_labels shown apex) × (length (wire_of (key_labels shown apex)) ≤ 255)
key_whole ds shown at apex name same some end begun =
    let is : name ≡ key_labels shown apex = begun.is ∙ ap (λ t. key_labels t apex) (take_all at ds end ∙ same) in
    (is, subst (λ l. length (wire_of l) ≤ 255) is (begun.fits (omega (arith, some, end, ap length same))))
