-- Digits read of the labels of a key, from its end.
use Rattle.std.proofs.Common.{◌≡◌, ◌≢◌, ℕ, ◌+◌, ◌-◌, ◌*◌, ◌<◌, ◌≤◌, true, List, [], ◌∷◌, ◌++◌, length, take, drop}
use Rattle.std.proofs.Common.{get_or, map, set, reverse, replicate, refl, sym, ap, subst, ◌∙◌, append_assoc, add-one}
use Rattle.std.proofs.Common.{length-append, arith}
use Rattle.std.proofs.Math.Seq.{drop-cons}
use Rattle.std.proofs.lemmas.Grind.{flat_map-append}
use Rattle.std.proofs.lemmas.List.{append-nil, drop_all, map-append, reverse-append, take-append-drop}
use Rattle.std.proofs.lemmas.List.Elements.{All-append, All-head, All-nil, All-tail}
use Rattle.std.specs.Char.{is_ascii_digit}
use Rattle.std.specs.List.{All, AllPass, flat_map}
use Rattle.enum_base.specs.Padding.{padded}
use Rattle.dns_name.specs.Name.{label_wire}
use Rattle.enum_app.specs.Digits.{AreDigits, IsDigits}
use Rattle.enum_app.specs.Number.{key_labels, labels_wire}
use Rattle.enum_app.proofs.KeyLemmas.{key_labels-push}
use Rattle.enum_app.proofs.NumberLemmas.{all_one, IsDigits-row, padded-push}

-- a row has the digits that stand after what is left of the labels
pub record IsTaken (labels rest row : List ℕ) (len : ℕ) : Type 0 where
  pub digits : List ℕ
  pub each : AllPass is_ascii_digit digits
  pub most : length digits ≤ 15
  pub cells : row ≡ padded 15 digits
  pub count : len ≡ length digits
  pub parts : labels ≡ rest ++ labels_wire digits

-- one digit more after is one label more in front
wire-push : (ds : List ℕ) (d : ℕ) → labels_wire (ds ++ d ∷ []) ≡ 1 ∷ d ∷ labels_wire ds
wire-push ds d = ap (flat_map label_wire) (key_labels-push ds d [])

-- one digit more in front is one label more after
wire-cons : (d : ℕ) (ds : List ℕ) → labels_wire (d ∷ ds) ≡ labels_wire ds ++ 1 ∷ d ∷ []
wire-cons d ds =
    let single : ℕ → List ℕ = λ x. x ∷ [] in
    let plain : (xs : List ℕ) → flat_map label_wire (key_labels xs []) ≡ flat_map label_wire (map single (reverse xs)) =
    λ xs. ap (flat_map label_wire) (append-nil (map single (reverse xs))) in
    plain (d ∷ ds)
    ∙ ap (λ r. flat_map label_wire (map single r)) (reverse-append (d ∷ []) ds)
    ∙ ap (flat_map label_wire) (map-append single (reverse ds) (d ∷ []))
    ∙ flat_map-append label_wire (map single (reverse ds)) ((d ∷ []) ∷ [])
    ∙ ap (λ w. w ++ 1 ∷ d ∷ []) (sym (plain ds))

wire_size : (ds : List ℕ) → length (labels_wire ds) ≡ 2 * length ds
wire_size [] = refl
wire_size (d ∷ ds) = omega (arith, ap length (wire-cons d ds), length-append (labels_wire ds) (1 ∷ d ∷ []), wire_size ds)

pub taken_none : (labels : List ℕ) → IsTaken labels labels (replicate 15 0) 0
taken_none labels = record {
  digits = [];
  each = All-nil (λ b. is_ascii_digit b ≡ true);
  most = omega arith;
  cells = refl;
  count = refl;
  parts = sym (append-nil labels);
}

pub taken_more : (labels rest row more : List ℕ) (len d : ℕ) → IsTaken labels rest row len → rest ≡ more ++ 1 ∷ d ∷ []
    → is_ascii_digit d ≡ true → len < 15 → IsTaken labels more (set row len d) (len + 1)
taken_more labels rest row more len d taken is digit room =
    let ds : List ℕ = taken.digits in
    let size : length (ds ++ d ∷ []) ≡ length ds + 1 = length-append ds (d ∷ []) in
    record {
      digits = ds ++ d ∷ [];
      each = All-append (λ b. is_ascii_digit b ≡ true) ds (d ∷ []) taken.each (all_one (λ b. is_ascii_digit b ≡ true) d digit);
      most = omega (arith, size, room, taken.count);
      cells =
          ap (λ r. set r len d) taken.cells ∙ ap (λ n. set (padded 15 ds) n d) taken.count
          ∙ padded-push 15 ds d (omega (arith, room, taken.count));
      count = ap (λ n. n + 1) taken.count ∙ sym size;
      parts =
          taken.parts ∙ ap (λ r. r ++ labels_wire ds) is ∙ append_assoc more (1 ∷ d ∷ []) (labels_wire ds)
          ∙ ap (λ w. more ++ w) (sym (wire-push ds d));
    }

-- the last two bytes of a list
pub last_two : (xs : List ℕ) → 2 ≤ length xs → xs ≡ take (length xs - 2) xs ++ get_or xs (length xs - 2) 0 ∷ get_or xs (length xs - 1) 0 ∷ []
last_two xs two =
    let n : ℕ = length xs - 2 in
    let next : n + 1 ≡ length xs - 1 = omega (arith, two) in
    let back : drop n xs ≡ get_or xs n 0 ∷ get_or xs (length xs - 1) 0 ∷ [] =
    drop-cons xs n 0 (omega (arith, two))
    ∙ ap (λ k. get_or xs n 0 ∷ drop k xs) (sym (add-one n) ∙ next)
    ∙ ap (λ t. get_or xs n 0 ∷ t) (drop-cons xs (length xs - 1) 0 (omega (arith, two)))
    ∙ ap (λ t. get_or xs n 0 ∷ get_or xs (length xs - 1) 0 ∷ t)
    (ap (λ k. drop k xs) (sym (add-one (length xs - 1))) ∙ drop_all (length xs - 1 + 1) xs (omega (arith, two))) in
    sym (take-append-drop n xs) ∙ ap (λ t. take n xs ++ t) back

same_ends_at : (xs ys : List ℕ) (a b c d : ℕ) → length xs ≡ length ys → xs ++ a ∷ b ∷ [] ≡ ys ++ c ∷ d ∷ [] → (xs ≡ ys) × (a ≡ c) × (b ≡ d)
same_ends_at [] [] a b c d size is = (refl, cc, cc)
same_ends_at [] (y ∷ ys) a b c d size is = absurd (omega (arith, size))
same_ends_at (x ∷ xs) [] a b c d size is = absurd (omega (arith, size))
same_ends_at (x ∷ xs) (y ∷ ys) a b c d size is =
    let head : x ≡ y = cc in
    let tail : xs ++ a ∷ b ∷ [] ≡ ys ++ c ∷ d ∷ [] = cc in
    let rest = same_ends_at xs ys a b c d (omega (arith, size)) tail in
    (ap (λ z. z ∷ xs) head ∙ ap (λ t. y ∷ t) rest.0, rest.1, rest.2)

same_ends : (xs ys : List ℕ) (a b c d : ℕ) → xs ++ a ∷ b ∷ [] ≡ ys ++ c ∷ d ∷ [] → (xs ≡ ys) × (a ≡ c) × (b ≡ d)
same_ends xs ys a b c d is =
    same_ends_at xs ys a b c d (omega (arith, ap length is, length-append xs (a ∷ b ∷ []), length-append ys (c ∷ d ∷ []))) is

-- digits whose wire form ends in that of others begin with them
digits_after : (read digits rest : List ℕ) → rest ++ labels_wire read ≡ labels_wire digits
    → (tail : List ℕ) × (digits ≡ read ++ tail) × (rest ≡ labels_wire tail)
digits_after [] digits rest is = (digits, refl, sym (append-nil rest) ∙ is)
digits_after (d ∷ ds) [] rest is = absurd (omega (arith, ap length is, length-append rest (labels_wire (d ∷ ds)), wire_size (d ∷ ds)))
digits_after (d ∷ ds) (e ∷ es) rest is =
    let apart : (rest ++ labels_wire ds) ++ 1 ∷ d ∷ [] ≡ labels_wire es ++ 1 ∷ e ∷ [] =
    append_assoc rest (labels_wire ds) (1 ∷ d ∷ []) ∙ ap (λ w. rest ++ w) (sym (wire-cons d ds)) ∙ is ∙ wire-cons e es in
    let same = same_ends (rest ++ labels_wire ds) (labels_wire es) 1 d 1 e apart in
    let more = digits_after ds es rest same.0 in
    (more.0, ap (λ x. x ∷ es) (sym same.2) ∙ ap (λ t. d ∷ t) more.1, more.2)

-- the digits that are still to be read
record AreLeft (digits read rest : List ℕ) : Type 0 where
  tail : List ℕ
  whole : digits ≡ read ++ tail
  is : rest ≡ labels_wire tail

left : (labels rest row digits : List ℕ) (len : ℕ) (taken : IsTaken labels rest row len) → labels ≡ labels_wire digits → AreLeft digits taken.digits rest
left labels rest row digits len taken is =
    let b = digits_after taken.digits digits rest (sym taken.parts ∙ is) in record { tail = b.0; whole = b.1; is = b.2 }

-- all digits are read where nothing is left
tail_none : (digits read rest : List ℕ) → AreLeft digits read rest → length rest ≡ 0 → digits ≡ read
tail_none digits read rest l none =
    let size : length l.tail ≡ 0 = omega (arith, none, ap length l.is, wire_size l.tail) in
    l.whole ∙ ap (λ t. read ++ t) (empty l.tail size) ∙ append-nil read
  where
    empty : (xs : List ℕ) → length xs ≡ 0 → xs ≡ []
    empty [] is = refl
    empty (x ∷ xs) is = absurd (omega (arith, is))

pub read_all : (labels rest row digits : List ℕ) (len : ℕ) (taken : IsTaken labels rest row len) → length rest ≡ 0
    → labels ≡ labels_wire digits → digits ≡ taken.digits
read_all labels rest row digits len taken none is = tail_none digits taken.digits rest (left labels rest row digits len taken is) none

-- what is left of digits is no single byte
pub left_even : (labels rest row digits : List ℕ) (len : ℕ) → IsTaken labels rest row len → labels ≡ labels_wire digits → length rest ≢ 1
left_even labels rest row digits len taken is one =
    let l = left labels rest row digits len taken is in absurd (omega (arith, one, ap length l.is, wire_size l.tail))

all_after : (P : ℕ → Type 0) (xs ys : List ℕ) (y : ℕ) → All P (xs ++ y ∷ ys) → P y
all_after P [] ys y each = All-head P y ys each
all_after P (x ∷ xs) ys y each = all_after P xs ys y (All-tail P x (xs ++ y ∷ ys) each)

goes_on_by : (read rest more tail digits : List ℕ) (s d : ℕ) → AreDigits digits → digits ≡ read ++ tail
    → rest ≡ labels_wire tail → rest ≡ more ++ s ∷ d ∷ [] → (s ≡ 1) × (is_ascii_digit d ≡ true) × (length read < 15)
goes_on_by read rest more [] digits s d are whole is last =
    absurd (omega (arith, ap length is, ap length last, length-append more (s ∷ d ∷ [])))
goes_on_by read rest more (e ∷ es) digits s d are whole is last =
    let same = same_ends more (labels_wire es) s d 1 e (sym last ∙ is ∙ wire-cons e es) in
    let digit : is_ascii_digit e ≡ true = all_after (λ b. is_ascii_digit b ≡ true) read es e (subst (AllPass is_ascii_digit) whole are.each) in
    (same.1, ap is_ascii_digit same.2 ∙ digit, omega (arith, ap length whole, length-append read (e ∷ es), are.most))

-- while bytes are left, the last two are the label of a digit, and fewer than fifteen are read
pub goes_on : (labels rest row more digits : List ℕ) (len s d : ℕ) → IsTaken labels rest row len
    → rest ≡ more ++ s ∷ d ∷ [] → AreDigits digits → labels ≡ labels_wire digits
    → (s ≡ 1) × (is_ascii_digit d ≡ true) × (len < 15)
goes_on labels rest row more digits len s d taken last are is =
    let l = left labels rest row digits len taken is in
    let g = goes_on_by taken.digits rest more l.tail digits s d are l.whole l.is last in
    (g.0, g.1, omega (arith, g.2, taken.count))

-- the number of what was read
pub taken_number : (labels rest row : List ℕ) (len : ℕ) (taken : IsTaken labels rest row len) → length rest ≡ 0
    → 0 < len → (take len row ≡ taken.digits) × IsDigits len row × AreDigits taken.digits
    × (labels ≡ labels_wire taken.digits)
taken_number labels rest row len taken none some =
    let are : AreDigits taken.digits = record { each = taken.each; some = omega (arith, some, taken.count); most = taken.most } in
    let held = IsDigits-row row taken.digits len taken.cells taken.count are in
    (held.0, held.1, are, taken.parts ∙ ap (λ r. r ++ labels_wire taken.digits) (empty rest none))
  where
    empty : (xs : List ℕ) → length xs ≡ 0 → xs ≡ []
    empty [] is = refl
    empty (x ∷ xs) is = absurd (omega (arith, is))
