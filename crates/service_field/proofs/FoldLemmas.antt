-- Case is ignored.
use Rattle.std.proofs.Common.{◌≡◌, ℕ, ◌+◌, ◌<◌, ◌≤◌, Bool, true, false, not, ◌&&◌, ◌||◌, ◌==◌, cond, nat_le, nat_lt}
use Rattle.std.proofs.Common.{List, [], ◌∷◌, length, take, drop, map, bytes_eq, Option, Some, None, option_map, refl}
use Rattle.std.proofs.Common.{sym, ap, ◌∙◌, inl, inr, lit<, arith}
use Rattle.std.proofs.lemmas.Bool.{cases_lt, le-leb, or_left, or_right, and_from}
use Rattle.std.proofs.lemmas.List.{drop-map, length-map, take-map}
use Rattle.std.proofs.lemmas.Str.Ascii.{lowercase-lowercase, lowercase_is}
use Rattle.std.specs.Char.{is_ascii_alphabetic, is_ascii_alphanumeric}
use Rattle.std.specs.Int.{is_in_range}
use Rattle.std.specs.List.{list_all, list_any, onto_first, prefix_len, slice_split}
use Rattle.std.specs.Option.{option_or}
use Rattle.enum_base.specs.Folding.{folded, folded_byte}
use Rattle.service_field.specs.Tags.{Item, begins_tag, colon, first_tag, is_first_byte, is_tag_byte, items_of, other_tags, tags_of}
use Rattle.service_field.specs.Services.{comma, plus, e2u, services_items, wanted_items}
use Rattle.service_field.specs.Faults.{ends_part, fault_after_e2u, fault_by_run, form_fault, parts_fault, run_of, services_fault, snaptr_fault, tag_fault}
use Rattle.service_field.specs.Fitting.{begins, is_item, is_pair, is_tag, items_serve, offers, same_tag, snaptr_serves, some_served}
use Rattle.service_field.specs.declared.alphabet.Alphabet.{Alphabet}
use Rattle.service_field.specs.declared.alphabet.Alphabet.TheVariants.{Enum, Snaptr}
use Rattle.service_field.specs.declared.form.Form.TheVariants.{EnumItems}
use Rattle.service_field.specs.declared.fault.ServiceFault.{ServiceFault}
use Rattle.service_field.specs.declared.fault.ServiceFault.TheVariants.{BadTag, Empty, NoE2u, Trailing}
use Rattle.service_field.proofs.BeginLemmas.{folded_is}

-- folded twice is folded once
pub folded-folded : (text : List ℕ) → folded (folded text) ≡ folded text
folded-folded [] = refl
folded-folded (b ∷ text) = ap (λ c. c ∷ folded (folded text)) (lowercase-lowercase b) ∙ ap (λ t. folded_byte b ∷ t) (folded-folded text)

in_range : (low high b : ℕ) → low ≤ b → b ≤ high → is_in_range low high b ≡ true
in_range low high b above below = and_from (nat_le low b) (nat_le b high) (le-leb low b above) (le-leb b high below)

-- a test that does not see case
abbrev pub Ignores : (ℕ → Bool) → Type 0
Ignores p = (b : ℕ) → p (folded_byte b) ≡ p b

-- a letter is a letter in either case

letter_either : (b : ℕ) → 65 ≤ b → b < 91 → is_ascii_alphabetic b ≡ true
letter_either b above below = or_left (is_in_range 65 90 b) (is_in_range 97 122 b) (in_range 65 90 b above (omega (arith, below)))

small_either : (b : ℕ) → 97 ≤ b → b < 123 → is_ascii_alphabetic b ≡ true
small_either b above below = or_right (is_in_range 65 90 b) (is_in_range 97 122 b) (in_range 97 122 b above (omega (arith, below)))

alphanumeric_of : (x y z : Bool) → (y || z) ≡ true → (x || y || z) ≡ true
alphanumeric_of true y z is = refl
alphanumeric_of false y z is = is

alphanumeric : (b : ℕ) → is_ascii_alphabetic b ≡ true → is_ascii_alphanumeric b ≡ true
alphanumeric b letter = alphanumeric_of (is_in_range 48 57 b) (is_in_range 65 90 b) (is_in_range 97 122 b) letter

-- a test that all letters pass does not see case
ignores_case : (p : ℕ → Bool) → ((b : ℕ) → is_ascii_alphabetic b ≡ true → p b ≡ true) → Ignores p
ignores_case p letters b =
    elim (cases_lt b 65) [
      | inl less ↦ ap p ((lowercase_is b).1 less)
      | inr more ↦ elim (cases_lt b 91) [
        | inl letter ↦
            let small : folded_byte b ≡ b + 32 = (lowercase_is b).0 (more, omega (arith, letter)) in
            letters (folded_byte b) (small_either (folded_byte b) (omega (arith, small, more)) (omega (arith, small, letter)))
            ∙ sym (letters b (letter_either b more letter))
        | inr other ↦ ap p ((lowercase_is b).2 (omega (arith, other)))
      ]
    ]

or_more : (x y : Bool) → x ≡ true → (x || y) ≡ true
or_more x y is = or_left x y is

letter_of_tag : (alphabet : Alphabet) (b : ℕ) → is_ascii_alphabetic b ≡ true → is_tag_byte alphabet b ≡ true
letter_of_tag Enum b letter = or_more (is_ascii_alphanumeric b) (b == 45) (alphanumeric b letter)
letter_of_tag Snaptr b letter =
    or_more (is_ascii_alphanumeric b || b == 43 || b == 45) (b == 46)
    (or_more (is_ascii_alphanumeric b || b == 43) (b == 45) (or_more (is_ascii_alphanumeric b) (b == 43) (alphanumeric b letter)))

tag_byte_folds : (alphabet : Alphabet) → Ignores (is_tag_byte alphabet)
tag_byte_folds alphabet = ignores_case (is_tag_byte alphabet) (letter_of_tag alphabet)

first_byte_folds : (alphabet : Alphabet) → Ignores (is_first_byte alphabet)
first_byte_folds Enum = tag_byte_folds Enum
first_byte_folds Snaptr = ignores_case is_ascii_alphabetic (λ b letter. letter)

begins_tag_folds : (alphabet : Alphabet) (text : List ℕ) → begins_tag alphabet (folded text) ≡ begins_tag alphabet text
begins_tag_folds alphabet [] = refl
begins_tag_folds alphabet (b ∷ text) = first_byte_folds alphabet b

onto_first_folds : (b : ℕ) (parts : List (List ℕ)) → onto_first (folded_byte b) (map folded parts) ≡ map folded (onto_first b parts)
onto_first_folds b [] = refl
onto_first_folds b (part ∷ parts) = refl

split_folds_at : (p : ℕ → Bool) (b : ℕ) (parts : List (List ℕ)) (x : Bool)
    → cond x ([] ∷ map folded parts) (onto_first (folded_byte b) (map folded parts))
    ≡ map folded (cond x ([] ∷ parts) (onto_first b parts))
split_folds_at p b parts true = refl
split_folds_at p b parts false = onto_first_folds b parts

split_folds : (p : ℕ → Bool) → Ignores p → (text : List ℕ) → slice_split p (folded text) ≡ map folded (slice_split p text)
split_folds p same [] = refl
split_folds p same (b ∷ text) =
    ap (λ x. cond x ([] ∷ slice_split p (folded text)) (onto_first (folded_byte b) (slice_split p (folded text)))) (same b)
    ∙ ap (λ parts. cond (p b) ([] ∷ parts) (onto_first (folded_byte b) parts)) (split_folds p same text)
    ∙ split_folds_at p b (slice_split p text) (p b)

is_folds : (c : ℕ) → c < 65 → Ignores (λ b. b == c)
is_folds c small b = folded_is c small b

tags_fold : (texts : List (List ℕ)) → map tags_of (map folded texts) ≡ map (map folded) (map tags_of texts)
tags_fold [] = refl
tags_fold (t ∷ ts) =
    ap (λ x. x ∷ map tags_of (map folded ts)) (split_folds (λ b. b == colon) (is_folds colon (lit< tt)) t)
    ∙ ap (λ xs. map folded (tags_of t) ∷ xs) (tags_fold ts)

-- the items of a folded text are the folded items
pub items_fold : (separator : ℕ) → separator < 65 → (text : List ℕ) → items_of separator (folded text) ≡ map (map folded) (items_of separator text)
items_fold separator small text =
    ap (map tags_of) (split_folds (λ b. b == separator) (is_folds separator small) text) ∙ tags_fold (slice_split (λ b. b == separator) text)

prefix_folds : (p : ℕ → Bool) → Ignores p → (text : List ℕ) → prefix_len p (folded text) ≡ prefix_len p text
prefix_folds p same [] = refl
prefix_folds p same (b ∷ text) =
    ap (λ x. cond x (1 + prefix_len p (folded text)) 0) (same b) ∙ ap (λ n. cond (p b) (1 + n) 0) (prefix_folds p same text)

tag_fault_folds : (alphabet : Alphabet) (at : ℕ) (part : List ℕ) → tag_fault alphabet at (folded part) ≡ tag_fault alphabet at part
tag_fault_folds alphabet at part =
    ap (λ x. cond (not x) (Some (BadTag at)) (fault_by_run at (length (folded part)) (run_of alphabet (folded part)))) (begins_tag_folds alphabet part)
    ∙ ap (λ n. cond (not (begins_tag alphabet part)) (Some (BadTag at)) (fault_by_run at n (run_of alphabet (folded part)))) (length-map part folded_byte)
    ∙ ap (λ n. cond (not (begins_tag alphabet part)) (Some (BadTag at)) (fault_by_run at (length part) n))
    (prefix_folds (λ b. not (not (is_tag_byte alphabet b)))
    (λ b. ap (λ x. not (not x)) (tag_byte_folds alphabet b)) part)

parts_fold : (fault : ℕ → List ℕ → Option ServiceFault)
    → ((at : ℕ) (part : List ℕ) → fault at (folded part) ≡ fault at part) → (at : ℕ) (parts : List (List ℕ))
    → parts_fault fault at (map folded parts) ≡ parts_fault fault at parts
parts_fold fault same at [] = refl
parts_fold fault same at (part ∷ parts) =
    ap (λ o. option_or o (parts_fault fault (at + (length (folded part) + 1)) (map folded parts))) (same at part)
    ∙ ap (λ n. option_or (fault at part) (parts_fault fault (at + (n + 1)) (map folded parts))) (length-map part folded_byte)
    ∙ ap (option_or (fault at part)) (parts_fold fault same (at + (length part + 1)) parts)

plus_folds : Ignores (ends_part EnumItems)
plus_folds b = ap (λ x. x || folded_byte b == plus) (folded_is colon (lit< tt) b) ∙ ap (λ x. b == colon || x) (folded_is plus (lit< tt) b)

services_parts_fold : (at : ℕ) (text : List ℕ) → form_fault EnumItems at (folded text) ≡ form_fault EnumItems at text
services_parts_fold at text =
    ap (parts_fault (tag_fault Enum) at) (split_folds (ends_part EnumItems) plus_folds text)
    ∙ parts_fold (tag_fault Enum) (tag_fault_folds Enum) at (slice_split (ends_part EnumItems) text)

after_folds : (text : List ℕ) → fault_after_e2u (folded text) ≡ fault_after_e2u text
after_folds [] = refl
after_folds (b ∷ rest) =
    ap (λ x. cond x (form_fault EnumItems 4 (folded rest)) (Some (Trailing 3))) (folded_is plus (lit< tt) b)
    ∙ ap (λ o. cond (b == plus) o (Some (Trailing 3))) (services_parts_fold 4 rest)

-- the first fault of services does not depend on case
pub services_fault_folds : (text : List ℕ) → services_fault (folded text) ≡ services_fault text
services_fault_folds text =
    ap (λ n. cond (n == 0) (Some Empty)
    (cond (not (bytes_eq (folded (take 3 (folded text))) e2u)) (Some NoE2u)
    (fault_after_e2u (drop 3 (folded text))))) (length-map text folded_byte)
    ∙ ap (λ t. cond (length text == 0) (Some Empty)
    (cond (not (bytes_eq t e2u)) (Some NoE2u) (fault_after_e2u (drop 3 (folded text)))))
    (ap folded (take-map folded_byte 3 text) ∙ folded-folded (take 3 text))
    ∙ ap (λ o. cond (length text == 0) (Some Empty) (cond (not (bytes_eq (folded (take 3 text)) e2u)) (Some NoE2u) o))
    (ap fault_after_e2u (drop-map folded_byte 3 text) ∙ after_folds (drop 3 text))

pub tags_of_folds : (text : List ℕ) → tags_of (folded text) ≡ map folded (tags_of text)
tags_of_folds text = split_folds (λ b. b == colon) (is_folds colon (lit< tt)) text

-- nor does that of services of S-NAPTR
pub snaptr_fault_folds : (text : List ℕ) → snaptr_fault (folded text) ≡ snaptr_fault text
snaptr_fault_folds text =
    ap (λ n. cond (n == 0) (Some Empty) (parts_fault (tag_fault Snaptr) 0 (tags_of (folded text)))) (length-map text folded_byte)
    ∙ ap (λ l. cond (length text == 0) (Some Empty) (parts_fault (tag_fault Snaptr) 0 l)) (tags_of_folds text)
    ∙ ap (λ o. cond (length text == 0) (Some Empty) o) (parts_fold (tag_fault Snaptr) (tag_fault_folds Snaptr) 0 (tags_of text))

-- the items of folded services
pub services_items_fold : (text : List ℕ) → services_items (folded text) ≡ map (map folded) (services_items text)
services_items_fold text = ap (items_of plus) (drop-map folded_byte 4 text) ∙ items_fold plus (lit< tt) (drop 4 text)

begins_folds_item : (wanted item : Item) → begins wanted (map folded item) ≡ begins wanted item
begins_folds_item [] item = refl
begins_folds_item (w ∷ ws) [] = refl
begins_folds_item (w ∷ ws) (i ∷ is) =
    ap (λ t. bytes_eq (folded w) t && begins ws (map folded is)) (folded-folded i) ∙ ap (λ x. same_tag w i && x) (begins_folds_item ws is)

begins_folds_wanted : (wanted item : Item) → begins (map folded wanted) item ≡ begins wanted item
begins_folds_wanted [] item = refl
begins_folds_wanted (w ∷ ws) [] = refl
begins_folds_wanted (w ∷ ws) (i ∷ is) =
    ap (λ t. bytes_eq t (folded i) && begins (map folded ws) is) (folded-folded w) ∙ ap (λ x. same_tag w i && x) (begins_folds_wanted ws is)

all_fold : {X : Type 0} (p : X → Bool) (f : X → X) → ((x : X) → p (f x) ≡ p x) → (xs : List X) → list_all p (map f xs) ≡ list_all p xs
all_fold p f same [] = refl
all_fold p f same (x ∷ xs) = ap (λ b. b && list_all p (map f xs)) (same x) ∙ ap (λ b. p x && b) (all_fold p f same xs)

any_fold : {X : Type 0} (p q : X → Bool) (f : X → X) → ((x : X) → p (f x) ≡ q x) → (xs : List X) → list_any p (map f xs) ≡ list_any q xs
any_fold p q f same [] = refl
any_fold p q f same (x ∷ xs) = ap (λ b. b || list_any p (map f xs)) (same x) ∙ ap (λ b. q x || b) (any_fold p q f same xs)

tag_folds : (alphabet : Alphabet) (tag : List ℕ) → is_tag alphabet (folded tag) ≡ is_tag alphabet tag
tag_folds alphabet tag =
    ap (λ b. b && (nat_le (length (folded tag)) 32 && list_all (is_tag_byte alphabet) (folded tag))) (begins_tag_folds alphabet tag)
    ∙ ap (λ n. begins_tag alphabet tag && (nat_le n 32 && list_all (is_tag_byte alphabet) (folded tag))) (length-map tag folded_byte)
    ∙ ap (λ b. begins_tag alphabet tag && (nat_le (length tag) 32 && b)) (all_fold (is_tag_byte alphabet) folded_byte (tag_byte_folds alphabet) tag)

item_folds : (alphabet : Alphabet) (item : Item) → is_item alphabet (map folded item) ≡ is_item alphabet item
item_folds alphabet item =
    ap (λ n. nat_lt 0 n && list_all (is_tag alphabet) (map folded item)) (length-map item folded)
    ∙ ap (λ b. nat_lt 0 (length item) && b) (all_fold (is_tag alphabet) folded (tag_folds alphabet) item)

pair_folds : (item : Item) → is_pair (map folded item) ≡ is_pair item
pair_folds item =
    ap (λ n. is_item Snaptr (map folded item) && nat_le n 2) (length-map item folded) ∙ ap (λ b. b && nat_le (length item) 2) (item_folds Snaptr item)

any_same : {X : Type 0} (p q : X → Bool) → ((x : X) → p x ≡ q x) → (xs : List X) → list_any p xs ≡ list_any q xs
any_same p q same [] = refl
any_same p q same (x ∷ xs) = ap (λ b. b || list_any p xs) (same x) ∙ ap (λ b. q x || b) (any_same p q same xs)

all_same : {X : Type 0} (p q : X → Bool) → ((x : X) → p x ≡ q x) → (xs : List X) → list_all p xs ≡ list_all q xs
all_same p q same [] = refl
all_same p q same (x ∷ xs) = ap (λ b. b && list_all p xs) (same x) ∙ ap (λ b. q x && b) (all_same p q same xs)

-- the same items are served by what serves the same
served_same : (is_one serves also : Item → Bool) → ((x : Item) → serves x ≡ also x) → (wanted : Option (List ℕ))
    → some_served is_one serves wanted ≡ some_served is_one also wanted
served_same is_one serves also same None = refl
served_same is_one serves also same (Some text) =
    any_same (λ w. is_one w && serves w) (λ w. is_one w && also w) (λ w. ap (λ b. is_one w && b) (same w)) (wanted_items text)

-- .. and a folded list by what does not see case
served_folds : (is_one serves : Item → Bool) → ((x : Item) → is_one (map folded x) ≡ is_one x)
    → ((x : Item) → serves (map folded x) ≡ serves x) → (wanted : Option (List ℕ))
    → some_served is_one serves (option_map folded wanted) ≡ some_served is_one serves wanted
served_folds is_one serves same also None = refl
served_folds is_one serves same also (Some text) =
    ap (list_any (λ w. is_one w && serves w)) (items_fold comma (lit< tt) text)
    ∙ any_fold (λ w. is_one w && serves w) (λ w. is_one w && serves w) (map folded)
    (λ w. ap (λ b. b && serves (map folded w)) (same w) ∙ ap (λ b. is_one w && b) (also w))
    (wanted_items text)

-- folded items serve what the items serve
pub serve_folded_items : (wanted : Option (List ℕ)) (items : List Item) → items_serve wanted (map (map folded) items) ≡ items_serve wanted items
serve_folded_items wanted items =
    served_same (is_item Enum) (λ one. list_any (begins one) (map (map folded) items)) (λ one. list_any (begins one) items)
    (λ w. any_fold (begins w) (begins w) (map folded) (begins_folds_item w) items) wanted

-- and serve what is wanted by a folded list
pub serve_folded_wanted : (wanted : Option (List ℕ)) (items : List Item) → items_serve (option_map folded wanted) items ≡ items_serve wanted items
serve_folded_wanted wanted items =
    served_folds (is_item Enum) (λ one. list_any (begins one) items) (item_folds Enum)
    (λ w. any_same (begins (map folded w)) (begins w) (begins_folds_wanted w) items) wanted

pub serve_folded_services : (wanted : Option (List ℕ)) (services : List ℕ)
    → items_serve wanted (services_items (folded services)) ≡ items_serve wanted (services_items services)
serve_folded_services wanted services = ap (items_serve wanted) (services_items_fold services) ∙ serve_folded_items wanted (services_items services)

-- services of S-NAPTR offer the same

same_tag_left : (one other : List ℕ) → same_tag (folded one) other ≡ same_tag one other
same_tag_left one other = ap (λ t. bytes_eq t (folded other)) (folded-folded one)

same_tag_right : (one other : List ℕ) → same_tag one (folded other) ≡ same_tag one other
same_tag_right one other = ap (λ t. bytes_eq (folded one) t) (folded-folded other)

first_folds : (item : Item) → first_tag (map folded item) ≡ folded (first_tag item)
first_folds [] = refl
first_folds (tag ∷ tags) = refl

others_fold : (item : Item) → other_tags (map folded item) ≡ map folded (other_tags item)
others_fold [] = refl
others_fold (tag ∷ tags) = refl

offers_folds_field : (wanted field : Item) → offers wanted (map folded field) ≡ offers wanted field
offers_folds_field wanted field =
    ap (λ t. same_tag (first_tag wanted) t && list_all (λ tag. list_any (same_tag tag) (other_tags (map folded field))) (other_tags wanted)) (first_folds field)
    ∙ ap (λ b. b && list_all (λ tag. list_any (same_tag tag) (other_tags (map folded field))) (other_tags wanted))
    (same_tag_right (first_tag wanted) (first_tag field))
    ∙ ap (λ l. same_tag (first_tag wanted) (first_tag field) && list_all (λ tag. list_any (same_tag tag) l) (other_tags wanted)) (others_fold field)
    ∙ ap (λ b. same_tag (first_tag wanted) (first_tag field) && b)
    (all_same (λ tag. list_any (same_tag tag) (map folded (other_tags field))) (λ tag. list_any (same_tag tag) (other_tags field))
    (λ tag. any_fold (same_tag tag) (same_tag tag) folded (same_tag_right tag) (other_tags field)) (other_tags wanted))

offers_folds_wanted : (field wanted : Item) → offers (map folded wanted) field ≡ offers wanted field
offers_folds_wanted field wanted =
    ap (λ t. same_tag t (first_tag field) && list_all (λ tag. list_any (same_tag tag) (other_tags field)) (other_tags (map folded wanted))) (first_folds wanted)
    ∙ ap (λ b. b && list_all (λ tag. list_any (same_tag tag) (other_tags field)) (other_tags (map folded wanted)))
    (same_tag_left (first_tag wanted) (first_tag field))
    ∙ ap (λ l. same_tag (first_tag wanted) (first_tag field) && list_all (λ tag. list_any (same_tag tag) (other_tags field)) l) (others_fold wanted)
    ∙ ap (λ b. same_tag (first_tag wanted) (first_tag field) && b)
    (all_fold (λ tag. list_any (same_tag tag) (other_tags field)) folded
    (λ tag. any_same (same_tag (folded tag)) (same_tag tag) (same_tag_left tag) (other_tags field)) (other_tags wanted))

pub snaptr_folded_wanted : (wanted : Option (List ℕ)) (field : Item) → snaptr_serves (option_map folded wanted) field ≡ snaptr_serves wanted field
snaptr_folded_wanted wanted field = served_folds is_pair (λ one. offers one field) pair_folds (offers_folds_wanted field) wanted

pub snaptr_folded_services : (wanted : Option (List ℕ)) (services : List ℕ)
    → snaptr_serves wanted (tags_of (folded services)) ≡ snaptr_serves wanted (tags_of services)
snaptr_folded_services wanted services =
    ap (snaptr_serves wanted) (tags_of_folds services)
    ∙ served_same is_pair (λ one. offers one (map folded (tags_of services))) (λ one. offers one (tags_of services))
    (λ one. offers_folds_field one (tags_of services)) wanted
