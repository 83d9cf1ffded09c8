-- Texts without a fault spell their items, and texts that spell items have no fault.
use Rattle.std.proofs.Common.{◌≡◌, ℕ, ◌<◌, Bool, true, false, not, ◌==◌, cond, List, [], ◌∷◌, ◌++◌, length, take, drop}
use Rattle.std.proofs.Common.{map, bytes_eq, Option, Some, None, refl, sym, ap, ◌∙◌, subst, arith}
use Rattle.std.proofs.lemmas.Bool.{eqb-true, ne_eqb, cond-false}
use Rattle.std.proofs.lemmas.List.{append-nil, drop-drop, length-append, length-map}
use Rattle.std.proofs.lemmas.Slice.Eq.{bytes_eq-Decides}
use Rattle.std.proofs.lemmas.List.Elements.{All-cons, All-head, All-map, All-nil, All-tail, All-weaker}
use Rattle.std.proofs.lemmas.List.Splits.{join_with_byte-slice_split}
use Rattle.std.specs.List.{All, flat_map, join_with_byte}
use Rattle.enum_base.specs.Folding.{folded}
use Rattle.service_field.specs.Tags.{AreItems, IsItem, IsPair, IsTag, Item, colon, is_tag_byte, item_text, items_of, tags_of}
use Rattle.service_field.specs.Services.{SpellsServices, SpellsSnaptr, SpellsSnaptrWanted, SpellsWanted, comma, plus, e2u, services_items, wanted_items}
use Rattle.service_field.specs.Faults.{fault_after_e2u, form_fault, pair_fault, services_fault, snaptr_fault, snaptr_wanted_fault, wanted_fault, whole_fault}
use Rattle.service_field.specs.declared.alphabet.Alphabet.{Alphabet}
use Rattle.service_field.specs.declared.alphabet.Alphabet.TheVariants.{Enum, Snaptr}
use Rattle.service_field.specs.declared.form.Form.{Form}
use Rattle.service_field.specs.declared.form.Form.TheVariants.{EnumItems, EnumList, SnaptrTags, SnaptrList}
use Rattle.service_field.specs.declared.fault.ServiceFault.{ServiceFault}
use Rattle.service_field.specs.declared.fault.ServiceFault.TheVariants.{Empty, NoE2u, Trailing}
use Rattle.service_field.proofs.SplitLemmas.{Lacks, cut, cut-join, join_lacks, some_part}
use Rattle.service_field.proofs.PartLemmas.{all_of_none, items_without_fault, no_fault_of_items, none_of_all}
use Rattle.service_field.proofs.PartLemmas.{pair_of_part, part_of_pair, parts_of_tags, tag_lacks, tag_some}
use Rattle.service_field.proofs.PartLemmas.{tags_of_parts}

-- the text of items

text_of_tags : (texts : List (List ℕ)) → map item_text (map tags_of texts) ≡ texts
text_of_tags [] = refl
text_of_tags (t ∷ ts) = ap (λ x. x ∷ map item_text (map tags_of ts)) (join_with_byte-slice_split colon t) ∙ ap (λ xs. t ∷ xs) (text_of_tags ts)

pub text_of_items : (separator : ℕ) (text : List ℕ) → join_with_byte separator (map item_text (items_of separator text)) ≡ text
text_of_items separator text = ap (join_with_byte separator) (text_of_tags (cut separator text)) ∙ join_with_byte-slice_split separator text

item_lacks : (alphabet : Alphabet) (byte : ℕ) → is_tag_byte alphabet byte ≡ false → (colon == byte) ≡ false
    → (item : Item) → IsItem alphabet item → Lacks byte (item_text item)
item_lacks alphabet byte outside other item is =
    join_lacks byte colon item other (All-weaker (IsTag alphabet) (Lacks byte) (tag_lacks alphabet byte outside) item is.tags)

-- a tag of neither alphabet has a colon
no_colon : (alphabet : Alphabet) → is_tag_byte alphabet colon ≡ false
no_colon Enum = refl
no_colon Snaptr = refl

-- an item is read again from its text
pub item_again : (alphabet : Alphabet) (item : Item) → IsItem alphabet item → tags_of (item_text item) ≡ item
item_again alphabet item is =
    cut-join colon item is.some (All-weaker (IsTag alphabet) (Lacks colon) (tag_lacks alphabet colon (no_colon alphabet)) item is.tags)

tags_again : (alphabet : Alphabet) (items : List Item) → All (IsItem alphabet) items → map tags_of (map item_text items) ≡ items
tags_again alphabet [] each = refl
tags_again alphabet (item ∷ items) each =
    ap (λ x. x ∷ map tags_of (map item_text items)) (item_again alphabet item (All-head (IsItem alphabet) item items each))
    ∙ ap (λ xs. item ∷ xs) (tags_again alphabet items (All-tail (IsItem alphabet) item items each))

-- items are read again from their text
pub items_again : (alphabet : Alphabet) (separator : ℕ) → is_tag_byte alphabet separator ≡ false
    → (colon == separator) ≡ false → (items : List Item) → All (IsItem alphabet) items → 0 < length items
    → items_of separator (join_with_byte separator (map item_text items)) ≡ items
items_again alphabet separator outside other items each some =
    ap (map tags_of) (cut-join separator (map item_text items) (rw length-map some)
    (All-map (Lacks separator) item_text items
    (All-weaker (IsItem alphabet) (λ item. Lacks separator (item_text item))
    (item_lacks alphabet separator outside other) items each)))
    ∙ tags_again alphabet items each

-- a + before each item is a + before their join
pub signs_before : (items : List Item) → 0 < length items → flat_map (λ item. plus ∷ item_text item) items ≡ plus ∷ join_with_byte plus (map item_text items)
signs_before [] some = absurd (omega (arith, some))
signs_before (i ∷ []) some = ap (λ t. plus ∷ t) (append-nil (item_text i))
signs_before (i ∷ j ∷ js) some = ap (λ t. plus ∷ (item_text i ++ t)) (signs_before (j ∷ js) (omega arith))

-- a text has an item
some_item : (separator : ℕ) (text : List ℕ) → 0 < length (items_of separator text)
some_item separator text = rw length-map (some_part (λ b. b == separator) text)

-- services without a fault spell their items

by_head : (text : List ℕ) (x y : Bool) → bytes_eq (folded (take 3 text)) e2u ≡ y
    → ◌≡◌ {A = Option ServiceFault}
    (cond x (Some Empty) (cond (not y) (Some NoE2u) (fault_after_e2u (drop 3 text)))) None
    → (folded (take 3 text) ≡ e2u) × (fault_after_e2u (drop 3 text) ≡ None)
by_head text true y is none = absurd (cc)
by_head text false false is none = absurd (cc)
by_head text false true is none = ((bytes_eq-Decides (folded (take 3 text)) e2u).0 is, none)

by_sign : (b : ℕ) (rest : List ℕ) (x : Bool) → (b == plus) ≡ x
    → ◌≡◌ {A = Option ServiceFault} (cond x (form_fault EnumItems 4 rest) (Some (Trailing 3))) None
    → (b ∷ rest ≡ plus ∷ rest) × (form_fault EnumItems 4 rest ≡ None)
by_sign b rest true is none = (ap (λ c. c ∷ rest) (eqb-true b plus is), none)
by_sign b rest false is none = absurd (cc)

after_sign : (text : List ℕ) → fault_after_e2u text ≡ None → (text ≡ plus ∷ drop 1 text) × (form_fault EnumItems 4 (drop 1 text) ≡ None)
after_sign [] none = absurd (cc)
after_sign (b ∷ rest) none = by_sign b rest (b == plus) refl none

pub services_spelled : (text : List ℕ) → services_fault text ≡ None → SpellsServices text (services_items text)
services_spelled text none =
    let head = by_head text (length text == 0) (bytes_eq (folded (take 3 text)) e2u) refl none in
    let after = after_sign (drop 3 text) head.1 in
    let later : drop 1 (drop 3 text) ≡ drop 4 text = drop-drop 1 3 text in
    record {
      head = head.0;
      rest =
          after.0 ∙ ap (λ t. plus ∷ t) (later ∙ sym (text_of_items plus (drop 4 text)))
          ∙ sym (signs_before (services_items text) (some_item plus (drop 4 text)));
      are = record {
        each = items_without_fault Enum plus 4 (drop 4 text) (ap (form_fault EnumItems 4) (sym later) ∙ after.1);
        some = some_item plus (drop 4 text);
      };
    }

not_empty : (text rest : List ℕ) (b : ℕ) → drop 3 text ≡ b ∷ rest → (length text == 0) ≡ false
not_empty [] rest b is = absurd (cc)
not_empty (x ∷ xs) rest b is = ne_eqb (length (x ∷ xs)) 0 (λ e. omega (arith, e))

-- a text that spells items has no fault, and these are its items
pub services_read : (text : List ℕ) (items : List Item) → SpellsServices text items → (services_fault text ≡ None) × (items ≡ services_items text)
services_read text items spelled =
    let joined : List ℕ = join_with_byte plus (map item_text items) in
    let after : drop 3 text ≡ plus ∷ joined = spelled.rest ∙ signs_before items spelled.are.some in
    let later : drop 4 text ≡ joined = sym (drop-drop 1 3 text) ∙ ap (drop 1) after in
    let again : items_of plus joined ≡ items = items_again Enum plus refl refl items spelled.are.each spelled.are.some in (
      cond-false (length text == 0) (Some Empty) _ (not_empty text joined plus after)
          ∙ ap (λ b. cond (not b) (Some NoE2u) (fault_after_e2u (drop 3 text))) ((bytes_eq-Decides (folded (take 3 text)) e2u).1 spelled.head)
          ∙ ap fault_after_e2u after
          ∙ no_fault_of_items Enum plus 4 joined (subst (All (IsItem Enum)) (sym again) spelled.are.each),
      sym again ∙ ap (items_of plus) (sym later),
    )

-- the same of texts that are all parts

by_size : (form : Form) (text : List ℕ) (x : Bool)
    → ◌≡◌ {A = Option ServiceFault} (cond x (Some Empty) (form_fault form 0 text)) None → form_fault form 0 text ≡ None
by_size form text true none = absurd (cc)
by_size form text false none = none

parts_none : (form : Form) (text : List ℕ) → whole_fault form text ≡ None → form_fault form 0 text ≡ None
parts_none form text none = by_size form text (length text == 0) none

whole_none : (form : Form) (text : List ℕ) → 0 < length text → form_fault form 0 text ≡ None → whole_fault form text ≡ None
whole_none form text some none =
    cond-false (length text == 0) (Some Empty) _ (ne_eqb (length text) 0 (λ e. omega (arith, e, some))) ∙ none

-- a join whose parts have bytes has bytes
some_byte : (separator : ℕ) (parts : List (List ℕ)) → All (λ part. 0 < length part) parts → 0 < length parts → 0 < length (join_with_byte separator parts)
some_byte separator [] each some = absurd (omega (arith, some))
some_byte separator (x ∷ []) each some = All-head (λ part. 0 < length part) x [] each
some_byte separator (x ∷ y ∷ xs) each some = omega (arith, length-append x (separator ∷ join_with_byte separator (y ∷ xs)))

item_some : (alphabet : Alphabet) (item : Item) → IsItem alphabet item → 0 < length (item_text item)
item_some alphabet item is = some_byte colon item (All-weaker (IsTag alphabet) (λ part. 0 < length part) (tag_some alphabet) item is.tags) is.some

list_some : (alphabet : Alphabet) (items : List Item) → All (IsItem alphabet) items → 0 < length items → 0 < length (join_with_byte comma (map item_text items))
list_some alphabet items each some =
    some_byte comma (map item_text items)
    (All-map (λ part. 0 < length part) item_text items
    (All-weaker (IsItem alphabet) (λ item. 0 < length (item_text item)) (item_some alphabet) items each))
    (rw length-map some)

-- .. wanted lists of ENUM

pub wanted_spelled : (text : List ℕ) → wanted_fault text ≡ None → SpellsWanted text (wanted_items text)
wanted_spelled text none = record {
  whole = sym (text_of_items comma text);
  are = record { each = items_without_fault Enum comma 0 text (parts_none EnumList text none); some = some_item comma text };
}

pub wanted_read : (text : List ℕ) (items : List Item) → SpellsWanted text items → (wanted_fault text ≡ None) × (items ≡ wanted_items text)
wanted_read text items spelled =
    let joined : List ℕ = join_with_byte comma (map item_text items) in
    let again : items_of comma joined ≡ items = items_again Enum comma refl refl items spelled.are.each spelled.are.some in
    let none : wanted_fault joined ≡ None =
    whole_none EnumList joined (list_some Enum items spelled.are.each spelled.are.some)
    (no_fault_of_items Enum comma 0 joined (subst (All (IsItem Enum)) (sym again) spelled.are.each)) in
    (ap wanted_fault spelled.whole ∙ none, sym again ∙ ap (items_of comma) (sym spelled.whole))

-- .. services of S-NAPTR

pub snaptr_item : (text : List ℕ) → snaptr_fault text ≡ None → IsItem Snaptr (tags_of text)
snaptr_item text none = record {
  tags = tags_of_parts Snaptr 0 (tags_of text) (parts_none SnaptrTags text none);
  some = some_part (λ b. b == colon) text;
}

pub snaptr_spelled : (text : List ℕ) → snaptr_fault text ≡ None → SpellsSnaptr text (tags_of text)
snaptr_spelled text none = record { whole = sym (join_with_byte-slice_split colon text); is = snaptr_item text none }

pub snaptr_read : (text : List ℕ) (item : Item) → SpellsSnaptr text item → (snaptr_fault text ≡ None) × (item ≡ tags_of text)
snaptr_read text item spelled =
    let again : tags_of (item_text item) ≡ item = item_again Snaptr item spelled.is in
    let none : snaptr_fault (item_text item) ≡ None =
    whole_none SnaptrTags (item_text item) (item_some Snaptr item spelled.is)
    (parts_of_tags Snaptr 0 (tags_of (item_text item)) (subst (All (IsTag Snaptr)) (sym again) spelled.is.tags)) in
    (ap snaptr_fault spelled.whole ∙ none, sym again ∙ ap tags_of (sym spelled.whole))

-- .. wanted lists of S-NAPTR

pairs_of_all : (texts : List (List ℕ)) → All (λ text. IsPair (tags_of text)) texts → All IsPair (map tags_of texts)
pairs_of_all texts all = All-map IsPair tags_of texts all

all_of_pairs : (texts : List (List ℕ)) → All IsPair (map tags_of texts) → All (λ text. IsPair (tags_of text)) texts
all_of_pairs [] all = All-nil (λ text. IsPair (tags_of text))
all_of_pairs (t ∷ ts) all =
    All-cons (λ text. IsPair (tags_of text)) t ts (All-head IsPair (tags_of t) (map tags_of ts) all)
    (all_of_pairs ts (All-tail IsPair (tags_of t) (map tags_of ts) all))

pub snaptr_wanted_spelled : (text : List ℕ) → snaptr_wanted_fault text ≡ None → SpellsSnaptrWanted text (wanted_items text)
snaptr_wanted_spelled text none = record {
  whole = sym (text_of_items comma text);
  are = record {
    each = pairs_of_all (cut comma text)
        (all_of_none pair_fault (λ part. IsPair (tags_of part)) pair_of_part 0 (cut comma text)
        (parts_none SnaptrList text none));
    some = some_item comma text;
  };
}

pub snaptr_wanted_read : (text : List ℕ) (items : List Item) → SpellsSnaptrWanted text items → (snaptr_wanted_fault text ≡ None) × (items ≡ wanted_items text)
snaptr_wanted_read text items spelled =
    let joined : List ℕ = join_with_byte comma (map item_text items) in
    let each : All (IsItem Snaptr) items = All-weaker IsPair (IsItem Snaptr) (λ item (pair : IsPair item). pair.is) items spelled.are.each in
    let again : items_of comma joined ≡ items = items_again Snaptr comma refl refl items each spelled.are.some in
    let none : snaptr_wanted_fault joined ≡ None =
    whole_none SnaptrList joined (list_some Snaptr items each spelled.are.some)
    (none_of_all pair_fault (λ part. IsPair (tags_of part)) part_of_pair 0 (cut comma joined)
    (all_of_pairs (cut comma joined) (subst (All IsPair) (sym again) spelled.are.each))) in
    (ap snaptr_wanted_fault spelled.whole ∙ none, sym again ∙ ap (items_of comma) (sym spelled.whole))

-- what the readers of services answer

pub faulty_spells_nothing : {R : Type 0} (text : List ℕ) (items : List Item) (fault : ServiceFault)
    → services_fault text ≡ Some fault → SpellsServices text items → R
faulty_spells_nothing text items fault is spelled =
    let e : ◌≡◌ {A = Option ServiceFault} (Some fault) None = sym is ∙ (services_read text items spelled).0 in cc

pub spelled_after : (text after : List ℕ) → after ≡ drop 4 text → services_fault text ≡ None → SpellsServices text (items_of plus after)
spelled_after text after is none = subst (λ t. SpellsServices text (items_of plus t)) (sym is) (services_spelled text none)

pub items_after : (text after : List ℕ) → after ≡ drop 4 text → services_fault text ≡ None → AreItems (IsItem Enum) (items_of plus after)
items_after text after is none = (spelled_after text after is none).are

pub read_after : (text after : List ℕ) (items : List Item) → after ≡ drop 4 text → SpellsServices text items → items_of plus after ≡ items
read_after text after items is spelled = ap (items_of plus) is ∙ sym (services_read text items spelled).1

-- what a reader of a text that is all parts answers, which has no fault exactly where the text spells some value

none_is : (o : Option ServiceFault) (fault : ServiceFault) → o ≡ Some fault → o ≡ None → {R : Type 0} → R
none_is o fault is none = let e : ◌≡◌ {A = Option ServiceFault} (Some fault) None = sym is ∙ none in absurd (cc)

pub faulty_spells_no_service : {R : Type 0} (text : List ℕ) (item : Item) (fault : ServiceFault) → snaptr_fault text ≡ Some fault → SpellsSnaptr text item → R
faulty_spells_no_service text item fault is spelled = none_is (snaptr_fault text) fault is (snaptr_read text item spelled).0

pub faulty_spells_no_list : {R : Type 0} (text : List ℕ) (items : List Item) (fault : ServiceFault)
    → wanted_fault text ≡ Some fault → SpellsWanted text items → R
faulty_spells_no_list text items fault is spelled = none_is (wanted_fault text) fault is (wanted_read text items spelled).0

pub faulty_spells_no_pairs : {R : Type 0} (text : List ℕ) (items : List Item) (fault : ServiceFault)
    → snaptr_wanted_fault text ≡ Some fault → SpellsSnaptrWanted text items → R
faulty_spells_no_pairs text items fault is spelled = none_is (snaptr_wanted_fault text) fault is (snaptr_wanted_read text items spelled).0

-- a text spells one list at most

pub one_list_of_services : (text : List ℕ) (items others : List Item) → SpellsServices text items → SpellsServices text others → items ≡ others
one_list_of_services text items others is also = (services_read text items is).1 ∙ sym (services_read text others also).1

pub one_service : (text : List ℕ) (item other : Item) → SpellsSnaptr text item → SpellsSnaptr text other → item ≡ other
one_service text item other is also = (snaptr_read text item is).1 ∙ sym (snaptr_read text other also).1

pub one_wanted_list : (text : List ℕ) (items others : List Item) → SpellsWanted text items → SpellsWanted text others → items ≡ others
one_wanted_list text items others is also = (wanted_read text items is).1 ∙ sym (wanted_read text others also).1

pub one_snaptr_list : (text : List ℕ) (items others : List Item) → SpellsSnaptrWanted text items → SpellsSnaptrWanted text others → items ≡ others
one_snaptr_list text items others is also = (snaptr_wanted_read text items is).1 ∙ sym (snaptr_wanted_read text others also).1
