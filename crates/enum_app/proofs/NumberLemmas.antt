-- Numbers read from left to right.
use Rattle.std.proofs.Common.{◌≡◌, ℕ, zero, suc, ◌+◌, ◌-◌, ◌<◌, ◌≤◌, Bool, true, false, cond, ◌||◌, List, [], ◌∷◌, ◌++◌}
use Rattle.std.proofs.Common.{length, take, set, get_or, replicate, refl, sym, ap, subst, ◌∙◌, append_assoc, add-one}
use Rattle.std.proofs.Common.{arith, length-append}
use Rattle.std.proofs.Math.Seq.{set-append_seam, take-append_seam}
use Rattle.std.proofs.lemmas.List.{append-nil, take_more}
use Rattle.std.proofs.lemmas.List.Elements.{All-append, filter-append}
use Rattle.std.proofs.lemmas.Grind.{common_steps}
use Rattle.std.specs.List.{All, AllPass, filter}
use Rattle.std.specs.Char.{is_ascii_digit}
use Rattle.enum_base.specs.Padding.{padded}
use Rattle.enum_app.specs.Digits.{AreDigits, IsDigits}
use Rattle.enum_app.specs.Number.{IsSpelled, digits_of, is_number_byte, is_separator}

-- the front of a text up to a place is spelled, and a row has its digits
pub record IsRead (text row : List ℕ) (at len : ℕ) : Type 0 where
  pub spelled : IsSpelled (take at text)
  pub digits : row ≡ padded 15 (digits_of (take at text))
  pub count : len ≡ length (digits_of (take at text))

pub all_one : (P : ℕ → Type 0) (b : ℕ) → P b → All P (b ∷ [])
all_one P b h zero d l = h
all_one P b h (suc k) d l = absurd (omega arith)

digits_of-digit : (front : List ℕ) (b : ℕ) → is_ascii_digit b ≡ true → digits_of (front ++ b ∷ []) ≡ digits_of front ++ b ∷ []
digits_of-digit front b h =
    filter-append is_ascii_digit front (b ∷ []) ∙ ap (λ t. digits_of front ++ cond t (b ∷ []) []) h

digits_of-other : (front : List ℕ) (b : ℕ) → is_ascii_digit b ≡ false → digits_of (front ++ b ∷ []) ≡ digits_of front
digits_of-other front b h =
    filter-append is_ascii_digit front (b ∷ []) ∙ ap (λ t. digits_of front ++ cond t (b ∷ []) []) h ∙ append-nil (digits_of front)

-- a spelled text goes on with one more byte of a number
spelled_more : (front : List ℕ) (b : ℕ) → 0 < length front → IsSpelled front → is_number_byte b ≡ true
    → length (digits_of (front ++ b ∷ [])) ≤ 15 → IsSpelled (front ++ b ∷ [])
spelled_more [] b some s h most = absurd (omega arith)
spelled_more (c ∷ cs) b some s h most = record {
  sign = s.sign;
  bytes = All-append (λ x. is_number_byte x ≡ true) cs (b ∷ []) s.bytes (all_one (λ x. is_number_byte x ≡ true) b h);
  most = most;
}

zeros_less : (k m : ℕ) → k ≡ m + 1 → replicate {A = ℕ} k 0 ≡ 0 ∷ replicate {A = ℕ} m 0
zeros_less k m e = ap (λ n. replicate {A = ℕ} n 0) (e ∙ add-one m)

-- one more byte in a row
pub padded-push : (size : ℕ) (bytes : List ℕ) (b : ℕ) → length bytes < size → set (padded size bytes) (length bytes) b ≡ padded size (bytes ++ b ∷ [])
padded-push size bytes b room =
    let left : size - length bytes ≡ size - (length bytes + 1) + 1 = omega arith in
    let count : size - (length bytes + 1) ≡ size - length (bytes ++ b ∷ []) = ap (λ n. size - n) (sym (length-append bytes (b ∷ []))) in
    ap (λ z. set (bytes ++ z) (length bytes) b) (zeros_less _ _ left)
    ∙ set-append_seam bytes 0 (replicate (size - (length bytes + 1)) 0) b
    ∙ ap (λ n. bytes ++ b ∷ replicate n 0) count
    ∙ sym (append_assoc bytes (b ∷ []) (replicate (size - length (bytes ++ b ∷ [])) 0))

-- the next byte is a digit, and there is room
read_digit : (text row front : List ℕ) (at len b : ℕ) → take (at + 1) text ≡ front ++ b ∷ [] → 0 < length front
    → IsSpelled front → row ≡ padded 15 (digits_of front) → len ≡ length (digits_of front) → is_ascii_digit b ≡ true
    → len < 15 → IsRead text (set row len b) (at + 1) (len + 1)
read_digit text row front at len b taken some spelled digits count digit room =
    let more : digits_of (take (at + 1) text) ≡ digits_of front ++ b ∷ [] = ap digits_of taken ∙ digits_of-digit front b digit in
    let size : length (digits_of (take (at + 1) text)) ≡ len + 1 = ap length more ∙ length-append (digits_of front) (b ∷ []) ∙ ap (λ n. n + 1) (sym count) in
    let within : length (digits_of front) < 15 = omega arith in
    let short : length (digits_of (front ++ b ∷ [])) ≤ 15 = omega (arith, ap (λ t. length (digits_of t)) taken) in
    record {
      spelled = subst IsSpelled (sym taken) (spelled_more front b some spelled (ap (λ t. t || is_separator b) digit) short);
      digits = ap (λ r. set r len b) digits ∙ ap (λ n. set (padded 15 (digits_of front)) n b) count
          ∙ padded-push 15 (digits_of front) b within ∙ ap (padded 15) (sym more);
      count = sym size;
    }

-- the next byte is a separator
read_separator : (text row front : List ℕ) (at len b : ℕ) → take (at + 1) text ≡ front ++ b ∷ [] → 0 < length front
    → IsSpelled front → row ≡ padded 15 (digits_of front) → len ≡ length (digits_of front) → is_ascii_digit b ≡ false
    → is_separator b ≡ true → IsRead text row (at + 1) len
read_separator text row front at len b taken some spelled digits count other separator =
    let same : digits_of (take (at + 1) text) ≡ digits_of front = ap digits_of taken ∙ digits_of-other front b other in
    let short : length (digits_of (front ++ b ∷ [])) ≤ 15 = subst (λ ds. length ds ≤ 15) (sym (digits_of-other front b other)) spelled.most in
    record {
      spelled = subst IsSpelled (sym taken) (spelled_more front b some spelled (ap (λ t. t || is_separator b) other ∙ separator) short);
      digits = digits ∙ ap (padded 15) (sym same);
      count = count ∙ ap length (sym same);
    }

taken_more : (text : List ℕ) (at : ℕ) → 1 ≤ at → at < length text → 0 < length (take at text)
taken_more text at some within = grind (arith, common_steps)

pub IsRead-digit : (text row : List ℕ) (at len : ℕ) → 1 ≤ at → at < length text → IsRead text row at len
    → is_ascii_digit (get_or text at 0) ≡ true → len < 15
    → IsRead text (set row len (get_or text at 0)) (at + 1) (len + 1)
IsRead-digit text row at len some within read digit room =
    read_digit text row (take at text) at len (get_or text at 0) (take_more text at 0 within)
    (taken_more text at some within) read.spelled read.digits read.count digit room

pub IsRead-separator : (text row : List ℕ) (at len : ℕ) → 1 ≤ at → at < length text → IsRead text row at len
    → is_ascii_digit (get_or text at 0) ≡ false → is_separator (get_or text at 0) ≡ true → IsRead text row (at + 1) len
IsRead-separator text row at len some within read other separator =
    read_separator text row (take at text) at len (get_or text at 0) (take_more text at 0 within)
    (taken_more text at some within) read.spelled read.digits read.count other separator

all_cons : {X : Type 0} (P : X → Type 0) (x : X) (xs : List X) → P x → All P xs → All P (x ∷ xs)
all_cons P x xs h all zero d l = h
all_cons P x xs h all (suc k) d l = all k d (omega arith)

-- what a filter leaves passes its test
passes : (p : ℕ → Bool) (xs : List ℕ) → AllPass p (filter p xs)
passes p [] = λ k d h. absurd (omega arith)
passes p (x ∷ xs) =
    elim (p x) as (λ b. p x ≡ b → AllPass p (cond b (x ∷ filter p xs) (filter p xs))) [
      | true ↦ λ e. all_cons (λ y. p y ≡ true) x (filter p xs) e (passes p xs)
      | false ↦ λ e. passes p xs
    ] refl

-- a row with the digits of a number
pub IsDigits-row : (row digits : List ℕ) (len : ℕ) → row ≡ padded 15 digits → len ≡ length digits → AreDigits digits
    → (take len row ≡ digits) × IsDigits len row
IsDigits-row row digits len cells count are =
    let taken : take len row ≡ digits =
    ap (take len) cells ∙ ap (λ n. take n (padded 15 digits)) count ∙ take-append_seam digits (replicate (15 - length digits) 0) in (
      taken,
      record {
        padding = record { front = ap length taken ∙ sym count; rest = ap (padded 15) taken ∙ sym cells };
        digits = subst AreDigits (sym taken) are;
      },
    )

-- what was read is a row of digits
pub IsDigits-read : (text row : List ℕ) (at len : ℕ) → IsRead text row at len → 0 < len → IsDigits len row
IsDigits-read text row at len read some =
    (IsDigits-row row (digits_of (take at text)) len read.digits read.count (record {
      each = passes is_ascii_digit (take at text);
      some = omega (arith, some, read.count);
      most = read.spelled.most;
    })).1
