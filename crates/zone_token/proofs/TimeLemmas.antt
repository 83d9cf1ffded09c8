use Rattle.std.proofs.Common.{◌≡◌, ◌∙◌, ℕ, zero, suc, ◌+◌, ◌*◌, ◌<◌, ◌≤◌, List, [], ◌∷◌, length, get_or, Option, Some, None, refl, sym, ap, arith}
use Rattle.std.specs.Prelude.{◌==◌}
use Rattle.std.specs.Option.{IfSome, ForSome, unwrap_or, option_and_then}
use Rattle.std.specs.Char.{is_ascii_digit}
use Rattle.std.proofs.lemmas.Bool.{cond_both}
use Rattle.std.proofs.lemmas.Bool.Decides.{nat_tests}
use Rattle.enum_base.specs.Folding.{folded_byte}
use Rattle.zone_token.specs.Texts.{◌>>=◌}
use Rattle.zone_token.specs.Times.{most_seconds, with_digit, seconds_of_small, seconds_of_unit, seconds_after, united_from, if_time}

-- a unit has at least one second
unit_some : (unit : ℕ) → IfSome (seconds_of_small unit) (λ seconds. 1 ≤ seconds)
unit_some unit =
    let P : Option ℕ → Type 0 = λ o. IfSome o (λ seconds. 1 ≤ seconds) in
    cond_both (unit == 119) _ _ P (λ _. omega arith)
    (λ _. cond_both (unit == 100) _ _ P (λ _. omega arith)
    (λ _. cond_both (unit == 104) _ _ P (λ _. omega arith)
    (λ _. cond_both (unit == 109) _ _ P (λ _. omega arith)
    (λ _. cond_both (unit == 115) _ _ P (λ _. omega arith) (λ _. tt)))))

-- a number of units is at least the number
pub times_some : (n unit : ℕ) → 1 ≤ unit → n ≤ n * unit
times_some n zero some = absurd (omega arith)
times_some n (suc unit) some = grind arith

weaker : (o : Option ℕ) (less more : ℕ) → less ≤ more → IfSome o (λ whole. more ≤ whole) → IfSome o (λ whole. less ≤ whole)
weaker None less more below h = tt
weaker (Some whole) less more below h = omega arith

-- the number ends at a unit
abbrev ended : ℕ → ℕ → ℕ → Option (ℕ × Option ℕ)
ended seconds n each = Some (seconds + n * each, None)

-- what follows seconds and a number
abbrev going : Option (ℕ × Option ℕ) → List ℕ → Option ℕ
going after rest = after >>= λ b. united_from b.0 b.1 rest

grows_by : (seconds n : ℕ) (unit : Option ℕ) (rest : List ℕ) → IfSome unit (λ each. 1 ≤ each)
    → ((now : ℕ) → IfSome (united_from now None rest) (λ whole. now + 0 ≤ whole))
    → IfSome (going (unit >>= ended seconds n) rest) (λ whole. seconds + n ≤ whole)
grows_by seconds n None rest some later = tt
grows_by seconds n (Some each) rest some later =
    let more : n ≤ n * each = times_some n each some in
    weaker (united_from (seconds + n * each) None rest) (seconds + n) (seconds + n * each + 0) (omega arith) (later (seconds + n * each))

grows_at : (seconds : ℕ) (number : Option ℕ) (byte : ℕ) (rest : List ℕ)
    → ((now : ℕ) → IfSome (united_from now None rest) (λ whole. now + 0 ≤ whole))
    → IfSome (going (number >>= λ n. seconds_of_unit byte >>= ended seconds n) rest)
    (λ whole. seconds + unwrap_or number 0 ≤ whole)
grows_at seconds None byte rest later = tt
grows_at seconds (Some n) byte rest later = grows_by seconds n (seconds_of_unit byte) rest (unit_some (folded_byte byte)) later

-- what stands before is not more than the whole
grows : (seconds : ℕ) (number : Option ℕ) (text : List ℕ) → IfSome (united_from seconds number text) (λ whole. seconds + unwrap_or number 0 ≤ whole)
grows seconds None [] = omega arith
grows seconds (Some n) [] = tt
grows seconds number (byte ∷ rest) =
    let P : Option (ℕ × Option ℕ) → Type 0 = λ o. IfSome (o >>= λ after. united_from after.0 after.1 rest) (λ whole. seconds + unwrap_or number 0 ≤ whole) in
    let longer : seconds + unwrap_or number 0 ≤ seconds + with_digit (unwrap_or number 0) byte = omega arith in
    cond_both (is_ascii_digit byte) _ _ P
    (λ _. weaker (united_from seconds (Some (with_digit (unwrap_or number 0) byte)) rest)
    (seconds + unwrap_or number 0) (seconds + with_digit (unwrap_or number 0) byte) longer
    (grows seconds (Some (with_digit (unwrap_or number 0) byte)) rest))
    (λ _. grows_at seconds number byte rest (λ now. grows now None rest))

-- what is too great is no time
not_time : (o : Option ℕ) (low : ℕ) → most_seconds < low → IfSome o (λ whole. low ≤ whole) → option_and_then if_time o ≡ None
not_time None low great h = refl
not_time (Some whole) low great h =
    let over : most_seconds < whole = omega arith in grind (arith, nat_tests, over)

stops : (after : Option (ℕ × Option ℕ)) (rest : List ℕ) → ForSome after (λ b. most_seconds < b.0 + unwrap_or b.1 0)
    → option_and_then if_time (after >>= λ b. united_from b.0 b.1 rest) ≡ None
stops None rest great = refl
stops (Some b) rest great = not_time (united_from b.0 b.1 rest) (b.0 + unwrap_or b.1 0) (great b refl) (grows b.0 b.1 rest)

-- the loop stops where the seconds or the number are too great
pub loop_stops : (seconds : ℕ) (number : Option ℕ) (left text : List ℕ)
    → united_from seconds number left ≡ united_from 0 None text → 0 < length left
    → ForSome (seconds_after seconds number (get_or left 0 0)) (λ b. most_seconds < b.0 + unwrap_or b.1 0)
    → option_and_then if_time (united_from 0 None text) ≡ None
loop_stops seconds number [] text same some great = absurd (omega arith)
loop_stops seconds number (byte ∷ rest) text same some great =
    ap (option_and_then if_time) (sym same) ∙ stops (seconds_after seconds number byte) rest great
