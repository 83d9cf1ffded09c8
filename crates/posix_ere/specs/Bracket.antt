-- Bracket expressions (IEEE 1003.1, Base Definitions, 9.3.5), in ASCII, with no collating symbol and no equivalence
-- class.
use Rattle.std.specs.Prelude.{ℕ, zero, suc, ◌≡◌, Bool, true, false, not, ◌&&◌, ◌||◌, ◌==◌, nat_le, nat_lt, List, [], ◌∷◌, ◌++◌, codes, filter}
use Rattle.std.specs.List.{list_any}
use Rattle.posix_ere.specs.Ascii.{is_printable, is_digit, is_upper, is_lower, is_alpha, is_alnum}
use Rattle.posix_ere.specs.declared.class.Class.{Class}
use Rattle.posix_ere.specs.declared.class.Class.TheVariants.{Alnum, Alpha, Blank, Cntrl, Digit, Graph, Lower, Print, Punct, Space, Upper, Xdigit}

-- the name of a class
abbrev pub name_of : Class → List ℕ
name_of Alnum = codes "alnum"
name_of Alpha = codes "alpha"
name_of Blank = codes "blank"
name_of Cntrl = codes "cntrl"
name_of Digit = codes "digit"
name_of Graph = codes "graph"
name_of Lower = codes "lower"
name_of Print = codes "print"
name_of Punct = codes "punct"
name_of Space = codes "space"
name_of Upper = codes "upper"
name_of Xdigit = codes "xdigit"

-- the members of a class in ASCII
abbrev pub is_member : Class → ℕ → Bool
is_member Alnum b = is_alnum b
is_member Alpha b = is_alpha b
is_member Blank b = b == 32 || b == 9
is_member Cntrl b = nat_lt b 32 || b == 127
is_member Digit b = is_digit b
is_member Graph b = nat_lt 32 b && nat_lt b 127
is_member Lower b = is_lower b
is_member Print b = is_printable b
is_member Punct b = nat_lt 32 b && nat_lt b 127 && not (is_alnum b)
is_member Space b = b == 32 || (nat_le 9 b && nat_le b 13)
is_member Upper b = is_upper b
is_member Xdigit b = is_digit b || (nat_le 65 b && nat_le b 70) || (nat_le 97 b && nat_le b 102)

-- an item of a bracket: one element, a range, or the members of a class
pub data Item : Type 0 where
  single : ℕ → Item
  range : ℕ → ℕ → Item
  members : Class → Item

-- the text of an item
abbrev pub spelled : Item → List ℕ
spelled (single e) = e ∷ []
spelled (range e f) = e ∷ 45 ∷ f ∷ []
spelled (members c) = 91 ∷ 58 ∷ (name_of c ++ 58 ∷ 93 ∷ [])

-- whether an item lists a byte
abbrev pub has : Item → ℕ → Bool
has (single e) b = b == e
has (range e f) b = nat_le e b && nat_le b f
has (members c) b = is_member c b

-- the n numbers from b on
abbrev pub counted_from : ℕ → ℕ → List ℕ
counted_from b zero = []
counted_from b (suc n) = b ∷ counted_from (suc b) n

-- the bytes of ASCII, rising
unfoldable pub ascii : List ℕ
ascii = counted_from 0 128

-- the bytes that the items list, rising
abbrev pub listed : List Item → List ℕ
listed is = filter (λ b. list_any (λ i. has i b) is) ascii

-- whether a text begins with a byte that passes the test
abbrev pub begins : (ℕ → Bool) → List ℕ → Bool
begins test [] = false
begins test (b ∷ bs) = test b

-- whether a text begins with `-` and a byte other than `]`
abbrev pub goes_on_as_range : List ℕ → Bool
goes_on_as_range [] = false
goes_on_as_range (b ∷ []) = false
goes_on_as_range (b ∷ c ∷ bs) = b == 45 && not (c == 93)

-- whether a byte may stand as an element before the rest: a `]` only in the first item, a `[` only before no `.`, `=`,
-- `:`
abbrev pub is_element : Bool → ℕ → List ℕ → Bool
is_element first e rest =
    is_printable e && (first || not (e == 93)) && not (e == 91 && begins (λ b. b == 46 || b == 61 || b == 58) rest)

-- whether an item may stand before the rest: a `-` begins a range only in the first item, and stands alone only first
-- or last
abbrev pub is_item : Bool → Item → List ℕ → Bool
is_item first (single e) rest =
    is_element first e rest && not (goes_on_as_range rest) && (first || not (e == 45) || begins (λ b. b == 93) rest)
is_item first (range e f) rest =
    is_element first e (45 ∷ []) && (first || not (e == 45)) && is_element false f rest && nat_le e f
is_item first (members c) rest = true

-- the text of items
abbrev pub body : List Item → List ℕ
body [] = []
body (i ∷ is) = spelled i ++ body is

-- whether items may stand one after another before the rest
abbrev pub are_items : Bool → List Item → List ℕ → Bool
are_items first [] rest = true
are_items first (i ∷ is) rest = is_item first i (body is ++ rest) && are_items false is rest

-- the `^` that negates a bracket
abbrev pub sign : Bool → List ℕ
sign true = 94 ∷ []
sign false = []

-- the items after `[` or `[^`: an item that begins with `^` is not directly after the `[`
abbrev pub opens : Bool → List Item → List ℕ → Bool
opens negated is rest = are_items true is rest && (negated || not (begins (λ b. b == 94) (body is)))

-- the text of a bracket with one or more items
pub record IsBracket (w : List ℕ) (negated : Bool) (is : List Item) : Type 0 where
  pub text : w ≡ 91 ∷ (sign negated ++ (body is ++ 93 ∷ []))
  pub items : opens negated is (93 ∷ []) ≡ true
  pub some : is ≡ [] → ⊥
