-- How far a file is read.
use Rattle.std.proofs.Common.{◌≡◌, ℕ, ◌+◌, ◌≤◌, List, ◌++◌, length, Option, Some, None, option_map, refl, sym, ap, ◌∙◌}
use Rattle.std.proofs.Math.Seq.{drop-append_seam}
use Rattle.enum_base.specs.Outside.{after}
use Rattle.enum_base.proofs.OutsideLemmas.{after-twice}

-- these bytes were read, and the shelf has the rest left
pub record IsLoaded (most : ℕ) (left left' : Option (List ℕ)) (faults faults' : ℕ) (bytes : List ℕ) : Type 0 where
  pub parts : left ≡ option_map (λ rest. bytes ++ rest) left'
  pub count : faults' ≡ faults
  pub few : length bytes ≤ most

-- what was read first is taken first
after-front : (bytes : List ℕ) (left : Option (List ℕ)) → after (length bytes) (option_map (λ rest. bytes ++ rest) left) ≡ left
after-front bytes None = refl
after-front bytes (Some rest) = ap Some (drop-append_seam bytes rest)

-- what was read before and now is taken from what was left at first
pub taken_after : (bytes : List ℕ) (n : ℕ) (left left' now : Option (List ℕ))
    → left ≡ option_map (λ rest. bytes ++ rest) left' → now ≡ after n left' → now ≡ after (length bytes + n) left
taken_after bytes n left left' now parts then =
    then ∙ ap (after n) (sym (ap (after (length bytes)) parts ∙ after-front bytes left')) ∙ after-twice (length bytes) n left
