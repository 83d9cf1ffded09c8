use Rattle.std.proofs.Common.{◌≡◌, ℕ, ◌+◌, ◌-◌, ◌*◌, ◌<◌, min, List, length, take, get_or, arith, ap, sym, ◌∙◌}
use Rattle.std.proofs.lemmas.List.Sums.{fold_more}
use Rattle.enum_base.specs.Decimal.{decimal_value}

-- a value that is cut off at each digit is cut off at the end
capped_once : (value digit most : ℕ) → min (10 * min value most + digit) most ≡ min (10 * value + digit) most
capped_once value digit most = omega arith

-- one digit more
pub capped_more : (digits : List ℕ) (i most value : ℕ) → i < length digits
    → value ≡ min (decimal_value (take i digits)) most
    → min (10 * value + (get_or digits i 0 - 48)) most ≡ min (decimal_value (take (i + 1) digits)) most
capped_more digits i most value below is =
    ap (λ v. min (10 * v + (get_or digits i 0 - 48)) most) is
    ∙ capped_once (decimal_value (take i digits)) (get_or digits i 0 - 48) most
    ∙ ap (λ v. min v most) (sym (fold_more (λ v d. 10 * v + (d - 48)) 0 digits i 0 below))
