use Rattle.std.proofs.Common.{◌≡◌, ℕ, Bool, true, false, cond, nat_lt, List, [], length, refl, sym, ap, subst, ltb-true}
use Rattle.std.proofs.Common.{ltb-false, Option, Some, None, IsSome, ◌↔◌, unwrap_or, option_map, slice_get, position}
use Rattle.std.proofs.Common.{bytes_eq, get_or}
use Rattle.std.proofs.lemmas.List.Folds.{find_at}
use Rattle.std.proofs.lemmas.Option.{slice_get_past, slice_get-get_or}
use Rattle.std.specs.List.{position_or_len}
use Rattle.enum_base.specs.Outside.{File, file_of}
use Rattle.enum_base.specs.Memory.{chosen_bytes, IsPlace}

-- the file of that name is the one at the first place of the name
file_at : (files : List File) (name : List ℕ)
    → file_of files name ≡ option_map (λ file. file.1)
    (slice_get files (position_or_len (λ file. bytes_eq file.0 name) files))
file_at files name = ap (λ o. option_map (λ file. file.1) o) (find_at (λ file. bytes_eq file.0 name) files)

-- no file stands past the last
past_end : (files : List File) (k : ℕ) → nat_lt k (length files) ≡ false → slice_get files k ≡ None
past_end files k above = slice_get_past files k (ltb-false k (length files) above)

-- a file stands at each place before the end
within_end : (files : List File) (k : ℕ) → nat_lt k (length files) ≡ true → slice_get files k ≡ Some (get_or files k ([], []))
within_end files k below = slice_get-get_or files k ([], []) (ltb-true k (length files) below)

-- what the first place of a name says of the file of that name
pub record IsPlaceOf (files : List File) (place : Option ℕ) (file : Option (List ℕ)) : Type 0 where
  pub standing : IsPlace files place
  pub found : IsSome place ↔ IsSome file
  pub bytes : chosen_bytes files place ≡ unwrap_or file []

place_at : (files : List File) (k : ℕ) (b : Bool) → nat_lt k (length files) ≡ b
    → IsPlaceOf files (cond b (Some k) None) (option_map (λ file. file.1) (slice_get files k))
place_at files k true is = record {
  standing = ltb-true k (length files) is;
  found = (λ _. let P : Option File → Type 0 = λ o. IsSome (option_map (λ file. file.1) o) in subst P (sym (within_end files k is)) refl, λ _. refl);
  bytes = refl;
}
place_at files k false is = record {
  standing = tt;
  found = (λ h. cc, λ h. let P : Option File → Type 0 = λ o. IsSome (option_map (λ file. file.1) o) in subst P (past_end files k is) h);
  bytes = sym (ap (λ o. unwrap_or (option_map (λ file. file.1) o) []) (past_end files k is));
}

-- the first place of a name is the place of the file of that name
pub first_place : (files : List File) (name : List ℕ) → IsPlaceOf files (position (λ file. bytes_eq file.0 name) files) (file_of files name)
first_place files name =
    let k = position_or_len (λ file. bytes_eq file.0 name) files in
    let P : Option (List ℕ) → Type 0 = λ o. IsPlaceOf files (cond (nat_lt k (length files)) (Some k) None) o in
    subst P (sym (file_at files name)) (place_at files k (nat_lt k (length files)) refl)

pub place_of_name : (files : List File) (name : List ℕ) (place : Option ℕ)
    → place ≡ position (λ file. bytes_eq file.0 name) files → IsPlaceOf files place (file_of files name)
place_of_name files name place is =
    let P : Option ℕ → Type 0 = λ o. IsPlaceOf files o (file_of files name) in
    subst P (sym is) (first_place files name)
