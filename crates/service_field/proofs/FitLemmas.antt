-- The tests tell what they are to tell.
use Rattle.std.proofs.Common.{◌≡◌, ℕ, Bool, true, false, ◌&&◌, leb, ltb, List, [], ◌∷◌, ◌++◌, length, map, get_or}
use Rattle.std.proofs.Common.{Contains, Option, Some, None, IsTrue, ◌↔◌, is_none, is_some, not, refl, sym, ap, ◌∙◌}
use Rattle.std.proofs.lemmas.Bool.{and_parts, and_from, le-leb, leb-true}
use Rattle.std.proofs.lemmas.Bool.Decides.{Decides-and, Decides-by_and, Decides-by_or, Decides-like, Decides-ltb}
use Rattle.std.proofs.lemmas.List.Elements.{at_read, Contains-get_or}
use Rattle.std.proofs.lemmas.Slice.Eq.{bytes_eq-Decides}
use Rattle.std.specs.Bool.{Decides}
use Rattle.std.specs.List.{All, list_all, list_any}
use Rattle.enum_base.specs.Folding.{folded}
use Rattle.service_field.specs.Tags.{IsItem, IsPair, IsTag, Item, begins_tag, first_tag, is_tag_byte, other_tags, tags_of}
use Rattle.service_field.specs.Services.{wanted_items}
use Rattle.service_field.specs.Faults.{pair_fault, tag_fault}
use Rattle.service_field.specs.Fitting.{Begins, Fits, IsAmong, Offers, SnaptrFits, SomeServed, begins, is_item, is_pair}
use Rattle.service_field.specs.Fitting.{is_tag, items_serve, offers, same_tag, snaptr_serves, some_served}
use Rattle.service_field.specs.declared.alphabet.Alphabet.{Alphabet}
use Rattle.service_field.specs.declared.alphabet.Alphabet.TheVariants.{Enum, Snaptr}
use Rattle.service_field.specs.declared.fault.ServiceFault.{ServiceFault}
use Rattle.service_field.proofs.PartLemmas.{pair_of_part, part_of_pair, part_of_tag, tag_of_part}

all_decides : {X : Type 0} (p : X → Bool) (P : X → Type 0) → ((x : X) → Decides (p x) (P x)) → (xs : List X) → Decides (list_all p xs) (All P xs)
all_decides p P each xs = Decides-by_and p P (list_all p) each refl (λ _ _. refl) xs

equal_decides : (b : Bool) → Decides b (b ≡ true)
equal_decides b = (λ e. e, λ e. e)

pub tag_decides : (alphabet : Alphabet) (tag : List ℕ) → Decides (is_tag alphabet tag) (IsTag alphabet tag)
tag_decides alphabet tag =
    let size : ℕ = length tag in
    Decides-like (is_tag alphabet tag)
    (λ t. record { first = t.0; bytes = t.1.1; short = t.1.0 })
    (λ (t : IsTag alphabet tag). (t.first, (t.short, t.bytes)))
    (Decides-and (begins_tag alphabet tag) (leb size 32 && list_all (is_tag_byte alphabet) tag) (equal_decides (begins_tag alphabet tag))
    (Decides-and (leb size 32) (list_all (is_tag_byte alphabet) tag) (leb-true size 32, le-leb size 32)
    (all_decides (is_tag_byte alphabet) (λ b. is_tag_byte alphabet b ≡ true) (λ b. equal_decides (is_tag_byte alphabet b)) tag)))

pub item_decides : (alphabet : Alphabet) (item : Item) → Decides (is_item alphabet item) (IsItem alphabet item)
item_decides alphabet item =
    Decides-like (is_item alphabet item)
    (λ t. record { tags = t.1; some = t.0 })
    (λ (t : IsItem alphabet item). (t.some, t.tags))
    (Decides-and (ltb 0 (length item)) (list_all (is_tag alphabet) item) (Decides-ltb 0 (length item))
    (all_decides (is_tag alphabet) (IsTag alphabet) (tag_decides alphabet) item))

pub pair_decides : (item : Item) → Decides (is_pair item) (IsPair item)
pair_decides item =
    Decides-like (is_pair item)
    (λ t. record { is = t.0; most = t.1 })
    (λ (t : IsPair item). (t.is, t.most))
    (Decides-and (is_item Snaptr item) (leb (length item) 2) (item_decides Snaptr item) (leb-true (length item) 2, le-leb (length item) 2))

-- two tests of one fact agree
agree : {P : Type 0} (x y : Bool) → Decides x P → Decides y P → x ≡ y
agree true true is also = refl
agree true false is also = sym (also.1 (is.0 refl))
agree false true is also = is.1 (also.0 refl)
agree false false is also = refl

none_decides : (o : Option ServiceFault) (P : Type 0) → (o ≡ None → P) → (P → o ≡ None) → Decides (is_none o) P
none_decides None P is also = (λ e. is refl, λ p. refl)
none_decides (Some f) P is also = (λ e. absurd (cc), λ p. let e : ◌≡◌ {A = Option ServiceFault} (Some f) None = also p in absurd (cc))

pub none_result : (r : Bool) (o : Option ServiceFault) → is_some o ≡ not r → r ≡ is_none o
none_result true o is = sym (ap not is)
none_result false o is = sym (ap not is)

-- a text is a tag, or a pair, exactly where it has no fault as one

pub tag_test : (alphabet : Alphabet) (text : List ℕ) → is_none (tag_fault alphabet 0 text) ≡ is_tag alphabet text
tag_test alphabet text =
    agree (is_none (tag_fault alphabet 0 text)) (is_tag alphabet text)
    (none_decides (tag_fault alphabet 0 text) (IsTag alphabet text) (tag_of_part alphabet 0 text)
    (part_of_tag alphabet 0 text)) (tag_decides alphabet text)

pub pair_test : (text : List ℕ) → is_none (pair_fault 0 text) ≡ is_pair (tags_of text)
pair_test text =
    agree (is_none (pair_fault 0 text)) (is_pair (tags_of text))
    (none_decides (pair_fault 0 text) (IsPair (tags_of text)) (pair_of_part 0 text) (part_of_pair 0 text))
    (pair_decides (tags_of text))

begins_tells : (wanted item : Item) → begins wanted item ≡ true → Begins wanted item
begins_tells [] item is = (map folded item, refl)
begins_tells (w ∷ ws) [] is = absurd (cc)
begins_tells (w ∷ ws) (i ∷ is) yes' =
    let both = and_parts (same_tag w i) (begins ws is) yes' in
    let rest = begins_tells ws is both.1 in
    let same : folded w ≡ folded i = (bytes_eq-Decides (folded w) (folded i)).0 both.0 in
    (rest.0, ap (λ t. t ∷ map folded is) (sym same) ∙ ap (λ l. folded w ∷ l) rest.1)

begins_told : (wanted item : Item) → Begins wanted item → begins wanted item ≡ true
begins_told [] item is = refl
begins_told (w ∷ ws) [] (left, is) = absurd (cc)
begins_told (w ∷ ws) (i ∷ is) (left, same) =
    let head : folded w ≡ folded i = cc in
    let rest : map folded is ≡ map folded ws ++ left = cc in
    and_from (same_tag w i) (begins ws is) ((bytes_eq-Decides (folded w) (folded i)).1 head) (begins_told ws is (left, rest))

-- some member of a list
abbrev Some' : {X : Type 0} → List X → (X → Type 0) → Type 0
Some' {X} xs P = (x : X) × Contains xs x × P x

some_decides : {X : Type 0} (d : X) (p : X → Bool) (P : X → Type 0) → ((x : X) → Decides (p x) (P x)) → (xs : List X) → Decides (list_any p xs) (Some' xs P)
some_decides d p P each xs =
    Decides-like (list_any p xs)
    (λ (k, below, holds). (get_or xs k d, Contains-get_or xs k d below, holds d))
    (λ (x, (k, below, is), fact). (k, below, at_read xs P k x below (sym is) fact))
    (Decides-by_or p P (list_any p) each refl (λ _ _. refl) xs)

-- the test of a list tells whether some item of it is served
served_decides : (is_one serves : Item → Bool) (IsOne Serves : Item → Type 0)
    → ((x : Item) → Decides (is_one x) (IsOne x)) → ((x : Item) → Decides (serves x) (Serves x))
    → (wanted : Option (List ℕ)) → Decides (some_served is_one serves wanted) (SomeServed IsOne Serves wanted)
served_decides is_one serves IsOne Serves each also None = (λ _. tt, λ _. refl)
served_decides is_one serves IsOne Serves each also (Some text) =
    Decides-like (list_any (λ w. is_one w && serves w) (wanted_items text))
    (λ (w, inside, (well, served)). (w, inside, well, served))
    (λ (w, inside, well, served). (w, inside, (well, served)))
    (some_decides [] (λ w. is_one w && serves w) (λ w. IsOne w × Serves w) (λ w. Decides-and (is_one w) (serves w) (each w) (also w)) (wanted_items text))

-- the test of what is wanted tells whether it is served
pub serve_decides : (wanted : Option (List ℕ)) (items : List Item) → Decides (items_serve wanted items) (Fits wanted items)
serve_decides wanted items =
    served_decides (is_item Enum) (λ one. list_any (begins one) items) (IsItem Enum) (λ one. Some' items (Begins one)) (item_decides Enum)
    (λ one. some_decides [] (begins one) (Begins one) (λ item. (begins_tells one item, begins_told one item)) items) wanted

pub serve_fits : (wanted : Option (List ℕ)) (items : List Item) (r : Bool) → r ≡ items_serve wanted items → IsTrue r ↔ Fits wanted items
serve_fits wanted items r is =
    let d = serve_decides wanted items in
    (λ true'. d.0 (sym is ∙ true'), λ fits. is ∙ d.1 fits)

-- the same of services of S-NAPTR

among_decides : (tags : List (List ℕ)) (tag : List ℕ) → Decides (list_any (same_tag tag) tags) (IsAmong tag tags)
among_decides tags tag = some_decides [] (same_tag tag) (λ other. folded tag ≡ folded other) (λ other. bytes_eq-Decides (folded tag) (folded other)) tags

pub offers_decides : (wanted field : Item) → Decides (offers wanted field) (Offers wanted field)
offers_decides wanted field =
    Decides-like (offers wanted field)
    (λ t. record { service = t.0; protocol = t.1 })
    (λ (t : Offers wanted field). (t.service, t.protocol))
    (Decides-and (same_tag (first_tag wanted) (first_tag field))
    (list_all (λ tag. list_any (same_tag tag) (other_tags field)) (other_tags wanted))
    (bytes_eq-Decides (folded (first_tag wanted)) (folded (first_tag field)))
    (all_decides (λ tag. list_any (same_tag tag) (other_tags field)) (λ tag. IsAmong tag (other_tags field))
    (among_decides (other_tags field)) (other_tags wanted)))

pub snaptr_decides : (wanted : Option (List ℕ)) (field : Item) → Decides (snaptr_serves wanted field) (SnaptrFits wanted field)
snaptr_decides wanted field =
    served_decides is_pair (λ one. offers one field) IsPair (λ one. Offers one field) pair_decides (λ one. offers_decides one field) wanted

pub snaptr_serve_fits : (wanted : Option (List ℕ)) (field : Item) (r : Bool) → r ≡ snaptr_serves wanted field → IsTrue r ↔ SnaptrFits wanted field
snaptr_serve_fits wanted field r is =
    let d = snaptr_decides wanted field in
    (λ true'. d.0 (sym is ∙ true'), λ fits. is ∙ d.1 fits)

pub offered : (service : List ℕ) (item field : Item) (t r : Bool) → service ≡ first_tag item
    → t ≡ same_tag service (first_tag field) → t ≡ true
    → r ≡ list_all (λ tag. list_any (same_tag tag) (other_tags field)) (other_tags item) → r ≡ offers item field
offered service item field t r first test holds is =
    is ∙ sym (ap (λ b. b && list_all (λ tag. list_any (same_tag tag) (other_tags field)) (other_tags item))
    (sym (test ∙ ap (λ s. same_tag s (first_tag field)) first) ∙ holds))
