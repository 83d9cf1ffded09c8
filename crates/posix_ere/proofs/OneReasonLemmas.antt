-- A text breaks in one way: the mode of the machine before the place, the last byte there and the byte at the place tell the reason.
use Rattle.std.proofs.Common.{ℕ, suc, ◌≡◌, ◌<◌, Bool, true, false, ◌&&◌, ◌||◌, ◌==◌, List, [], ◌∷◌, ◌++◌, take, refl}
use Rattle.std.proofs.Common.{sym, ◌∙◌, ap, subst, arith, ◌⊎◌, inl, inr, Result, Ok, Err, Option, Some, None}
use Rattle.std.proofs.Common.{append_assoc}
use Rattle.std.specs.Prelude.{if◌then◌else◌, min}
use Rattle.std.specs.List.{list_all, slice_get}
use Rattle.std.proofs.lemmas.Bool.Decides.{nat_tests}
use Rattle.posix_ere.specs.Parts.{weight}
use Rattle.posix_ere.specs.Ascii.{is_printable, is_lower}
use Rattle.posix_ere.specs.Bracket.{name_of}
use Rattle.posix_ere.specs.Places.{IsBrokenPlace}
use Rattle.posix_ere.specs.Reasons.{IsReason, Between, AfterNothing, InInterval, InEscape, InBracket, EndOrPrintable}
use Rattle.posix_ere.specs.Answers.{HasOneReason, HasOneFault}
use Rattle.posix_ere.specs.Machine.{State, start, run}
use Rattle.posix_ere.specs.declared.class.Class.{Class}
use Rattle.posix_ere.specs.declared.class.Class.TheVariants as class
use Rattle.posix_ere.specs.declared.why.Why.{Why}
use Rattle.posix_ere.specs.declared.why.Why.TheVariants as w
use Rattle.posix_ere.specs.declared.why.EreFault.TheVariants.{Broken, TooHeavy, Memory}
use Rattle.posix_ere.specs.declared.frame.Mode.{Mode}
use Rattle.posix_ere.specs.declared.frame.Mode.TheVariants as mode
use Rattle.posix_ere.proofs.ContextsLemmas.{last_of, last_from, last_all, front_all, is_counting, between_mode}
use Rattle.posix_ere.proofs.ContextsLemmas.{nothing_mode, escape_mode, Counts, interval_mode, Brackets, bracket_mode}
use Rattle.posix_ere.proofs.ContextsLemmas.{last_part}
use Rattle.posix_ere.proofs.ReadingLemmas.{one_tree}

-- what is open before a place
data Context : Type 0 where
  groups_alone : Context
  escape : Context
  interval : Context
  bracket : Context

abbrev context_of : Mode → Context
context_of mode.Plain = groups_alone
context_of mode.Escape = escape
context_of (mode.Interval i) = interval
context_of (mode.Bracket k) = bracket

abbrev context_after : ℕ → Result State Why → Context
context_after c (Ok s) = context_of s.mode
context_after c (Err why) = if is_counting c then interval else bracket

unfoldable context : List ℕ → Context
context p = context_after (last_of p) (run start p)

context_ok : (p : List ℕ) (s : State) (m : Mode) → run start p ≡ Ok s → s.mode ≡ m → context p ≡ context_of m
unfolding context
context_ok p s m e h = ap (context_after (last_of p)) e ∙ ap context_of h

context_between : (p : List ℕ) → Between p → context p ≡ groups_alone
context_between p h = let r = between_mode p h in context_ok p r.0 mode.Plain r.1 r.2

context_nothing : (p : List ℕ) → AfterNothing p → context p ≡ groups_alone
context_nothing p h = let r = nothing_mode p h in context_ok p r.0 mode.Plain r.1 r.2

context_escape : (p : List ℕ) → InEscape p → context p ≡ escape
context_escape p h = let r = escape_mode p h in context_ok p r.0 mode.Escape r.1 r.2

context_interval : (p : List ℕ) → InInterval p → context p ≡ interval
unfolding context
context_interval p h = let x = interval_mode p h in go (run start p) x.0 x.1
  where
    go : (r : Result State Why) → Counts r → is_counting (last_of p) ≡ true → context_after (last_of p) r ≡ interval
    go (Ok s) (i, m) c = ap context_of m
    go (Err why) x c = rw c refl

context_bracket : (p y : List ℕ) → InBracket p y → context p ≡ bracket
unfolding context
context_bracket p y h = go (run start p) (bracket_mode p y h)
  where
    go : (r : Result State Why) → Brackets (last_of p) r → context_after (last_of p) r ≡ bracket
    go (Ok s) (k, m) = ap context_of m
    go (Err why) c = rw c refl

-- the reason that a context, the last byte before the place and the byte there tell
abbrev at_byte : Context → ℕ → ℕ → Why
at_byte groups_alone c b = if b == 41 then w.StrayClose else w.NothingToRepeat
at_byte escape c b = w.BadEscape
at_byte interval c b = w.BadInterval
at_byte bracket c b = if c == 91 && (b == 46 || b == 61) then w.Collating else (if c == 45 || c == 91 then w.BadRange else w.BadClass)

abbrev at_end : Context → Why
at_end groups_alone = w.OpenGroup
at_end escape = w.BadEscape
at_end interval = w.BadInterval
at_end bracket = w.OpenBracket

abbrev told : Context → ℕ → Option ℕ → Why
told x c None = at_end x
told x c (Some b) = if is_printable b then at_byte x c b else w.NotAscii

told_printable : (x : Context) (c b : ℕ) → is_printable b ≡ true → told x c (Some b) ≡ at_byte x c b
told_printable x c b h = rw h refl

told_outside : (x : Context) (c b : ℕ) → is_printable b ≡ false → told x c (Some b) ≡ w.NotAscii
told_outside x c b h = rw h refl

-- inside a bracket
module _ (p y : List ℕ) (t : ℕ) (ts : List ℕ) (h : InBracket p y) (e : y ≡ t ∷ ts) (b : ℕ) (v : is_printable b ≡ true) where
  told_bracket : (c : ℕ) → last_from t ts ≡ c → told (context p) (last_of p) (Some b) ≡ at_byte bracket c b
  told_bracket c f =
      ap (λ x. told x (last_of p) (Some b)) (context_bracket p y h)
      ∙ (ap (λ k. told bracket k (Some b)) (last_part p y t ts h e ∙ f) ∙ told_printable bracket c b v)

abbrev is_naming : ℕ → Bool
is_naming b = b == 58 || is_lower b

class_naming : (c : Class) → list_all is_naming (name_of c ++ 58 ∷ []) ≡ true
class_naming class.Alnum = refl
class_naming class.Alpha = refl
class_naming class.Blank = refl
class_naming class.Cntrl = refl
class_naming class.Digit = refl
class_naming class.Graph = refl
class_naming class.Lower = refl
class_naming class.Print = refl
class_naming class.Punct = refl
class_naming class.Space = refl
class_naming class.Upper = refl
class_naming class.Xdigit = refl

naming : (c b : ℕ) → is_naming c ≡ true → at_byte bracket c b ≡ w.BadClass
naming c b h =
    let x : (c == 91) ≡ false = grind (arith, nat_tests) in
    let y : (c == 45) ≡ false = grind (arith, nat_tests) in
    rw (x, y) refl

told_either : (x : Context) (c : ℕ) (next : Option ℕ) (why : Why) → EndOrPrintable next → at_end x ≡ why → ((b : ℕ) → at_byte x c b ≡ why) → told x c next ≡ why
told_either x c None why h e f = e
told_either x c (Some b) why h e f = told_printable x c b h ∙ f b

not_close : (b : ℕ) → (b == 42 || b == 43 || b == 63 || b == 123) ≡ true → at_byte groups_alone 0 b ≡ w.NothingToRepeat
not_close b h = let x : (b == 41) ≡ false = grind (arith, nat_tests) in rw x refl

-- each row is the one that is told
row : (p : List ℕ) (next : Option ℕ) (why : Why) → IsReason p next why → told (context p) (last_of p) next ≡ why
row p next w.NotAscii (b, e, h) = ap (told (context p) (last_of p)) e ∙ told_outside (context p) (last_of p) b h
row p next w.BadInterval (x, h) =
    ap (λ k. told k (last_of p) next) (context_interval p h) ∙ told_either interval (last_of p) next w.BadInterval x refl (λ b. refl)
row p next w.BadEscape (x, h) =
    ap (λ k. told k (last_of p) next) (context_escape p h) ∙ told_either escape (last_of p) next w.BadEscape x refl (λ b. refl)
row p (Some b) w.Collating (v, (m, inl h)) = told_bracket p (91 ∷ []) 91 [] h refl b v 91 refl ∙ rw m refl
row p (Some b) w.Collating (v, (m, inr (e, h))) = told_bracket p (e ∷ 45 ∷ 91 ∷ []) e (45 ∷ 91 ∷ []) h refl b v 91 refl ∙ rw m refl
row p None w.Collating h = absurd h
row p (Some b) w.BadClass (v, (c, x, r, f, n, h)) =
    told_bracket p (91 ∷ 58 ∷ x) 91 (58 ∷ x) h refl b v (last_from 58 x) refl
    ∙ naming (last_from 58 x) b
    (last_all is_naming 58 x refl (front_all is_naming (name_of c ++ 58 ∷ []) 93 x r (append_assoc (name_of c) (58 ∷ []) (93 ∷ []) ∙ f) n (class_naming c)))
row p None w.BadClass h = absurd h
row p (Some b) w.BadRange (v, (n, inl (e, l, h))) = told_bracket p (e ∷ 45 ∷ []) e (45 ∷ []) h refl b v 45 refl
row p (Some b) w.BadRange (v, (n, inr (inl (e, q, h)))) =
    told_bracket p (e ∷ 45 ∷ 91 ∷ []) e (45 ∷ 91 ∷ []) h refl b v 91 refl ∙ ap (at_byte bracket 91) q
row p (Some b) w.BadRange (v, (n, inr (inr (q, z, e, g, (h, k))))) = told_bracket p (45 ∷ []) 45 [] (q, z, e, g, h) refl b v 45 refl
row p None w.BadRange h = absurd h
row p next w.OpenBracket (e, (y, h)) = ap (told (context p) (last_of p)) e ∙ ap at_end (context_bracket p y h)
row p next w.OpenGroup (e, (d, k, h)) = ap (told (context p) (last_of p)) e ∙ ap at_end (context_between p (suc d, k, h))
row p next w.StrayClose (e, (k, h)) =
    ap (told (context p) (last_of p)) e ∙ ap (λ x. told x (last_of p) (Some 41)) (context_between p (0, k, h))
row p (Some b) w.NothingToRepeat (v, (m, h)) =
    ap (λ x. told x (last_of p) (Some b)) (context_nothing p h) ∙ (told_printable groups_alone (last_of p) b v ∙ not_close b m)
row p None w.NothingToRepeat h = absurd h

pub one_reason : HasOneReason
one_reason p next w v h k = sym (row p next w h) ∙ row p next v k

-- two places
above_or_not : (a b : ℕ) → (a ≡ b) ⊎ ((a < b) ⊎ (b < a))
above_or_not a b = grind arith

one_place : (text : List ℕ) (a b : ℕ) → IsBrokenPlace text a → IsBrokenPlace text b → a ≡ b
one_place text a b h k = elim (above_or_not a b) [
  | inl e ↦ e
  | inr (inl l) ↦ absurd (h.longest b l k.within k.closes)
  | inr (inr l) ↦ absurd (k.longest a l h.within h.closes)
]

pub one_fault : HasOneFault
one_fault text (Broken a w) (Broken b v) n m (x, h, r) (y, k, q) =
    let e = one_place text a b h k in
    let s : IsReason (take b text) (slice_get text b) w = subst (λ i. IsReason (take i text) (slice_get text i) w) e r in
    ap (λ i. Broken i w) e ∙ ap (Broken b) (one_reason (take b text) (slice_get text b) w v s q)
one_fault text (Broken a w) (TooHeavy k) n m (x, h, r) (t, y, l, e) = absurd (x t y)
one_fault text (TooHeavy j) (Broken b v) n m (t, y, l, e) (x, h, r) = absurd (x t y)
one_fault text (TooHeavy j) (TooHeavy k) n m (t, x, l, e) (u, y, o, f) =
    ap TooHeavy (e ∙ (ap (λ i. min (weight i) 1_000_000) (one_tree text t u x y) ∙ sym f))
one_fault text Memory f n m h k = absurd (n refl)
one_fault text (Broken a w) Memory n m h k = absurd (m refl)
one_fault text (TooHeavy j) Memory n m h k = absurd (m refl)
