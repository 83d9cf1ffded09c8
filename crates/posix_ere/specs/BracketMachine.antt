-- A bracket read a byte at a time.
use Rattle.std.specs.Prelude.{ℕ, ◌+◌, ◌==◌, replicate, nat_lt, nat_eq, Bool, true, false, not, ◌||◌, ◌&&◌}
use Rattle.std.specs.Prelude.{if◌then◌else◌, List, [], ◌∷◌, length, map, take, Option, Some, None, Result, Ok, Err}
use Rattle.std.specs.Prelude.{slice_index_or}
use Rattle.std.specs.Cmp.Lexicographic.{pointwise}
use Rattle.std.specs.List.{find, range_with_len}
use Rattle.posix_ere.specs.Ascii.{is_printable}
use Rattle.posix_ere.specs.Bracket.{Item, name_of, has}
use Rattle.posix_ere.specs.Bracket.Item.{single, range, members}
use Rattle.posix_ere.specs.declared.class.Class.{Class}
use Rattle.posix_ere.specs.declared.class.Class.TheVariants.{Alnum, Alpha, Blank, Cntrl, Digit, Graph, Lower, Print, Punct, Space, Upper, Xdigit}
use Rattle.posix_ere.specs.declared.bracket.Bracket.{Bracket}
use Rattle.posix_ere.specs.declared.bracket.Phase.{Phase}
use Rattle.posix_ere.specs.declared.bracket.Phase.TheVariants.{Start, First, Next, Element, Dash, Inner, RangeInner, Last, ClassName, ClassEnd}
use Rattle.posix_ere.specs.declared.bracket.Progress.{Progress}
use Rattle.posix_ere.specs.declared.bracket.Progress.TheVariants.{Open, Closed}
use Rattle.posix_ere.specs.declared.why.Why.{Why}
use Rattle.posix_ere.specs.declared.why.Why.TheVariants.{BadRange, BadClass, Collating, NotAscii}

-- the classes, in the order of their names
abbrev pub classes : List Class
classes = Alnum ∷ Alpha ∷ Blank ∷ Cntrl ∷ Digit ∷ Graph ∷ Lower ∷ Print ∷ Punct ∷ Space ∷ Upper ∷ Xdigit ∷ []

-- whether a class's name begins with the first n letters of another's and then this letter
abbrev pub goes_on : Class → ℕ → ℕ → Class → Bool
goes_on c n b d =
    nat_lt n (length (name_of d)) && slice_index_or (name_of d) n 0 == b
    && pointwise nat_eq (take n (name_of d)) (take n (name_of c))

-- the first class whose name begins so
abbrev pub next_class : Class → ℕ → ℕ → Option Class
next_class c n b = find (goes_on c n b) classes

-- the marks with those of one more item
unfoldable pub marked : Item → List Bool → List Bool
marked i marks = map (λ b. slice_index_or marks b false || has i b) (range_with_len 0 128)

-- this reason at a byte, or that the byte is not printable
abbrev pub reason_at : ℕ → Why → Why
reason_at b why = if is_printable b then why else NotAscii

-- a bracket after one more byte: it is open, or closed with its marks, or broken
pub data Listing : Type 0 where
  More : Bracket → Listing
  Done : Bool → List Bool → Listing
  Broken : Why → Listing

-- what was answered at a byte, with the bracket as it stands after it
abbrev pub answer : Result Progress Why → Bracket → Listing
answer (Ok Open) k = More k
answer (Ok Closed) k = Done k.negated k.marks
answer (Err why) k = Broken why

abbrev pub at_phase : Bool → List Bool → Phase → Listing
at_phase negated marks phase = More (record { negated = negated; marks = marks; phase = phase })

-- a byte where an item may begin
abbrev pub begin_item : Bool → Bool → List Bool → ℕ → Listing
begin_item first negated marks b =
    if b == 93 then (if first then at_phase negated marks (Element b) else Done negated marks)
    else (if b == 91 then at_phase negated marks Inner
    else (if b == 45 && not first then at_phase negated marks Last
    else (if is_printable b then at_phase negated marks (Element b) else Broken NotAscii)))

abbrev pub start_step : Bool → List Bool → ℕ → Listing
start_step negated marks b = if b == 94 then at_phase true marks First else begin_item true negated marks b

abbrev pub element_step : ℕ → Bool → List Bool → ℕ → Listing
element_step e negated marks b =
    if b == 45 then at_phase negated marks (Dash e)
    else begin_item false negated (marked (single e) marks) b

-- the end of a range
abbrev pub dash_step : ℕ → Bool → List Bool → ℕ → Listing
dash_step e negated marks b =
    if b == 93 then Done negated (marked (single 45) (marked (single e) marks))
    else (if not (is_printable b) then Broken NotAscii
    else (if nat_lt b e then Broken BadRange
    else (if b == 91 then at_phase negated marks (RangeInner e)
    else at_phase negated (marked (range e b) marks) Next)))

-- after a `[` that begins an item
abbrev pub inner_step : Bool → List Bool → ℕ → Listing
inner_step negated marks b =
    if b == 46 || b == 61 then Broken Collating
    else (if b == 58 then at_phase negated marks (ClassName Alnum 0)
    else element_step 91 negated marks b)

-- after a `[` that ends a range
abbrev pub range_inner_step : ℕ → Bool → List Bool → ℕ → Listing
range_inner_step e negated marks b =
    if b == 46 || b == 61 then Broken Collating
    else (if b == 58 then Broken BadRange
    else begin_item false negated (marked (range e 91) marks) b)

-- after a `-` that may only be last
abbrev pub last_step : Bool → List Bool → ℕ → Listing
last_step negated marks b =
    if b == 93 then Done negated (marked (single 45) marks)
    else Broken (reason_at b BadRange)

abbrev pub named : Bool → List Bool → ℕ → ℕ → Option Class → Listing
named negated marks n b (Some c) = at_phase negated marks (ClassName c n)
named negated marks n b None = Broken (reason_at b BadClass)

abbrev pub class_step : Class → ℕ → Bool → List Bool → ℕ → Listing
class_step c n negated marks b =
    if b == 58 && n == length (name_of c) then at_phase negated marks (ClassEnd c)
    else named negated marks (n + 1) b (next_class c n b)

abbrev pub class_end_step : Class → Bool → List Bool → ℕ → Listing
class_end_step c negated marks b =
    if b == 93 then at_phase negated (marked (members c) marks) Next else Broken (reason_at b BadClass)

abbrev pub phase_step : Bool → List Bool → Phase → ℕ → Listing
phase_step negated marks Start b = start_step negated marks b
phase_step negated marks First b = begin_item true negated marks b
phase_step negated marks Next b = begin_item false negated marks b
phase_step negated marks (Element e) b = element_step e negated marks b
phase_step negated marks (Dash e) b = dash_step e negated marks b
phase_step negated marks Inner b = inner_step negated marks b
phase_step negated marks (RangeInner e) b = range_inner_step e negated marks b
phase_step negated marks Last b = last_step negated marks b
phase_step negated marks (ClassName c n) b = class_step c n negated marks b
phase_step negated marks (ClassEnd c) b = class_end_step c negated marks b

-- a bracket after one more byte
abbrev pub list_step : Bracket → ℕ → Listing
list_step s b = phase_step s.negated s.marks s.phase b

-- a bracket after its `[`
abbrev pub begun : Bracket
begun = record { negated = false; marks = replicate 128 false; phase = Start }
