use Rattle.std.proofs.Common.{◌≡◌, ℕ, zero, suc, ◌<◌, ◌≤◌, true, false, List, [], ◌∷◌, length, Option, Some, None}
use Rattle.std.proofs.Common.{option_map, slice_get, refl, sym, ap, ◌∙◌, arith}
use Rattle.std.proofs.lemmas.List.{length-map}
use Rattle.std.proofs.lemmas.Option.{slice_get-map}
use Rattle.service_field.specs.Tags.{Item, first_tag, items_of, tags_of}
use Rattle.service_field.specs.Services.{plus}
use Rattle.service_field.proofs.SplitLemmas.{cut}

get_some : (xs : List (List ℕ)) (k : ℕ) (x : List ℕ) → Some x ≡ slice_get xs k → k < length xs
get_some [] k x is = absurd (cc)
get_some (y ∷ ys) zero x is = omega arith
get_some (y ∷ ys) (suc k) x is = omega (arith, get_some ys k x is)

get_none : (xs : List (List ℕ)) (k : ℕ) → ◌≡◌ {A = Option (List ℕ)} None (slice_get xs k) → length xs ≤ k
get_none [] k is = omega arith
get_none (y ∷ ys) zero is = absurd (cc)
get_none (y ∷ ys) (suc k) is = omega (arith, get_none ys k is)

type_of : (text : List ℕ) (k : ℕ) (o : Option (List ℕ)) → o ≡ slice_get (cut plus text) k
    → option_map first_tag (slice_get (items_of plus text) k) ≡ option_map first_tag (option_map tags_of o)
type_of text k o is = ap (option_map first_tag) (slice_get-map tags_of (cut plus text) k ∙ ap (option_map tags_of) (sym is))

pub some_type : (text : List ℕ) (k : ℕ) (items : List Item) (part tag : List ℕ) → items_of plus text ≡ items
    → Some part ≡ slice_get (cut plus text) k → tag ≡ first_tag (tags_of part)
    → Some tag ≡ option_map first_tag (slice_get items k)
some_type text k items part tag view is first =
    ap Some first ∙ sym (type_of text k (Some part) is) ∙ ap (λ l. option_map first_tag (slice_get l k)) view

pub no_type : (text : List ℕ) (k : ℕ) (items : List Item) → items_of plus text ≡ items
    → None ≡ slice_get (cut plus text) k → ◌≡◌ {A = Option (List ℕ)} None (option_map first_tag (slice_get items k))
no_type text k items view is = sym (type_of text k None is) ∙ ap (λ l. option_map first_tag (slice_get l k)) view

length_view : (text : List ℕ) (items : List Item) → items_of plus text ≡ items → length items ≡ length (cut plus text)
length_view text items view = sym (ap length view) ∙ length-map (cut plus text) tags_of

pub within_items : (text : List ℕ) (k : ℕ) (items : List Item) (part : List ℕ) → items_of plus text ≡ items
    → Some part ≡ slice_get (cut plus text) k → (true ≡ false → length items ≤ k) × (length items ≤ k → true ≡ false)
within_items text k items part view is =
    (λ e. absurd (cc), λ past. absurd (omega (arith, past, get_some (cut plus text) k part is, length_view text items view)))

pub past_items : (text : List ℕ) (k : ℕ) (items : List Item) → items_of plus text ≡ items
    → None ≡ slice_get (cut plus text) k → (false ≡ false → length items ≤ k) × (length items ≤ k → false ≡ false)
past_items text k items view is =
    (λ e. omega (arith, get_none (cut plus text) k is, length_view text items view), λ past. refl)
