-- An expression read a byte at a time: a stack of trees, and a frame for each open group.
use Rattle.std.specs.Prelude.{ℕ, ◌+◌, ◌*◌, ◌≡◌, ◌<◌, ◌≤◌, ◌==◌, Bool, true, false, if◌then◌else◌, List, [], ◌∷◌, length}
use Rattle.std.specs.Prelude.{reverse, min, replicate, Option, Some, None, Result, Ok, Err}
use Rattle.std.specs.Result.{IsOkAnd}
use Rattle.posix_ere.specs.Tree.{Tree}
use Rattle.posix_ere.specs.Tree.Tree.{branch}
use Rattle.posix_ere.specs.Tree.Trees.{none}
use Rattle.posix_ere.specs.Parts.{weight}
use Rattle.posix_ere.specs.Ascii.{is_printable, is_special}
use Rattle.posix_ere.specs.IntervalMachine.{count_step}
use Rattle.posix_ere.specs.BracketMachine.{Listing, list_step, begun, reason_at}
use Rattle.posix_ere.specs.BracketMachine.{Listing as listing}
use Rattle.posix_ere.specs.Cells.{put, stack_of}
use Rattle.posix_ere.specs.declared.reader.Reader.{Reader}
use Rattle.posix_ere.specs.declared.node.Node.{Node}
use Rattle.posix_ere.specs.declared.node.Node.TheVariants as n
use Rattle.posix_ere.specs.declared.why.Why.{Why}
use Rattle.posix_ere.specs.declared.why.Why.TheVariants as w
use Rattle.posix_ere.specs.declared.why.EreFault.{EreFault}
use Rattle.posix_ere.specs.declared.why.EreFault.TheVariants as fault
use Rattle.posix_ere.specs.declared.sign.Sign.{Sign}
use Rattle.posix_ere.specs.declared.sign.Sign.TheVariants as sign
use Rattle.posix_ere.specs.declared.interval.Interval.TheVariants as interval
use Rattle.posix_ere.specs.declared.interval.Counting.{Counting}
use Rattle.posix_ere.specs.declared.interval.Counting.TheVariants as counting
use Rattle.posix_ere.specs.declared.frame.Frame.{Frame}
use Rattle.posix_ere.specs.declared.frame.Mode.{Mode}
use Rattle.posix_ere.specs.declared.frame.Mode.TheVariants as mode

-- what a byte outside brackets, intervals and escapes is
abbrev pub sign_of : ℕ → Sign
sign_of b =
    if b == 40 then sign.Open else (if b == 41 then sign.Close else (if b == 124 then sign.Bar
    else (if b == 42 then sign.Star else (if b == 43 then sign.Plus else (if b == 63 then sign.Question
    else (if b == 123 then sign.Brace else (if b == 91 then sign.Bracket else (if b == 92 then sign.Escape
    else (if b == 46 then sign.Dot else (if b == 94 then sign.Circumflex else (if b == 36 then sign.Dollar
    else (if is_printable b then sign.Ordinary else sign.Outside))))))))))))

-- the trees so far, the last first; the frames around the innermost; the innermost; how many groups were opened; how
-- many nodes were made
pub record State : Type 0 where
  pub stack : List Tree
  pub frames : List Frame
  pub top : Frame
  pub opened : ℕ
  pub nodes : ℕ
  pub mode : Mode

-- the state of a reader
abbrev pub state_of : {A : Type 0} → Reader A → State
state_of r =
    record {
      stack = stack_of r.cells;
      frames = reverse r.frames.items;
      top = r.top;
      opened = r.opened;
      nodes = length r.cells;
      mode = r.mode;
    }

abbrev pub no_marks : List Bool
no_marks = replicate 128 false

abbrev pub new_frame : ℕ → Frame
new_frame number = record { number = number; branches = 0; pieces = 0; repeatable = false }

abbrev pub start : State
start = record { stack = []; frames = []; top = new_frame 0; opened = 0; nodes = 0; mode = mode.Plain }

abbrev pub at_mode : Mode → State → State
at_mode m s = record s { mode = m }

-- one more piece, a leaf
abbrev pub with_leaf : Node → List Bool → Bool → State → State
with_leaf node marks repeatable s =
    record s {
      stack = put node marks 0 s.stack;
      nodes = s.nodes + 1;
      mode = mode.Plain;
      top = record s.top { pieces = s.top.pieces + 1; repeatable = repeatable };
    }

-- the last piece repeated
abbrev pub with_repeat : ℕ → Option ℕ → State → State
with_repeat low high s =
    record s { stack = put (n.Rep low high) no_marks 1 s.stack; nodes = s.nodes + 1; mode = mode.Plain }

-- one more group
abbrev pub with_group : State → State
with_group s = record s { frames = s.top ∷ s.frames; top = new_frame (s.opened + 1); opened = s.opened + 1 }

-- what is around the innermost group
abbrev pub with_frame : Frame → State → State
with_frame f s = record s { frames = f ∷ s.frames }

-- one more branch
abbrev pub with_branch : State → State
with_branch s =
    record s {
      stack = put n.Branch no_marks s.top.pieces s.stack;
      nodes = s.nodes + 1;
      top = record s.top { branches = s.top.branches + 1; pieces = 0; repeatable = false };
    }

-- the stack when the innermost alternatives end
abbrev pub ended : State → List Tree
ended s = put n.Alt no_marks (s.top.branches + 1) (put n.Branch no_marks s.top.pieces s.stack)

-- the end of the innermost alternatives
abbrev pub with_end : State → State
with_end s = record s { stack = ended s; nodes = s.nodes + 2 }

abbrev pub closed : State → List Frame → Result State Why
closed s [] = Err w.StrayClose
closed s (f ∷ fs) = Ok (record s {
  stack = put (n.Group s.top.number) no_marks 1 (ended s);
  nodes = s.nodes + 3;
  frames = fs;
  top = record f { pieces = f.pieces + 1; repeatable = true };
})

abbrev pub if_repeatable : State → State → Result State Why
if_repeatable s next = if s.top.repeatable then Ok next else Err w.NothingToRepeat

abbrev pub plain_step : State → ℕ → Sign → Result State Why
plain_step s b sign.Open = Ok (with_group s)
plain_step s b sign.Close = closed s s.frames
plain_step s b sign.Bar = Ok (with_branch s)
plain_step s b sign.Star = if_repeatable s (with_repeat 0 None s)
plain_step s b sign.Plus = if_repeatable s (with_repeat 1 None s)
plain_step s b sign.Question = if_repeatable s (with_repeat 0 (Some 1) s)
plain_step s b sign.Brace = if_repeatable s (at_mode (mode.Interval interval.Start) s)
plain_step s b sign.Bracket = Ok (at_mode (mode.Bracket begun) s)
plain_step s b sign.Escape = Ok (at_mode mode.Escape s)
plain_step s b sign.Dot = Ok (with_leaf n.Any no_marks true s)
plain_step s b sign.Circumflex = Ok (with_leaf n.Start no_marks false s)
plain_step s b sign.Dollar = Ok (with_leaf n.End no_marks false s)
plain_step s b sign.Ordinary = Ok (with_leaf (n.Byte b) no_marks true s)
plain_step s b sign.Outside = Err w.NotAscii

abbrev pub escape_step : State → ℕ → Result State Why
escape_step s b =
    if is_special b then Ok (with_leaf (n.Byte b) no_marks true s) else Err (reason_at b w.BadEscape)

abbrev pub interval_step : State → ℕ → Counting → Result State Why
interval_step s b (counting.More i) = Ok (at_mode (mode.Interval i) s)
interval_step s b (counting.Done low high) = Ok (with_repeat low high s)
interval_step s b counting.Broken = Err (reason_at b w.BadInterval)

abbrev pub bracket_step : State → Listing → Result State Why
bracket_step s (listing.More k) = Ok (at_mode (mode.Bracket k) s)
bracket_step s (listing.Done negated marks) = Ok (with_leaf (n.Set negated) marks true s)
bracket_step s (listing.Broken why) = Err why

abbrev pub mode_step : Mode → State → ℕ → Result State Why
mode_step mode.Plain s b = plain_step s b (sign_of b)
mode_step mode.Escape s b = escape_step s b
mode_step (mode.Interval i) s b = interval_step s b (count_step i b)
mode_step (mode.Bracket k) s b = bracket_step s (list_step k b)

-- the state after one more byte, or why there is none
unfoldable pub step : State → ℕ → Result State Why
step s b = mode_step s.mode s b

-- the stack at the end of the text, or why there is none
abbrev pub finish_plain : State → List Frame → Result (List Tree) Why
finish_plain s [] = Ok (ended s)
finish_plain s (f ∷ fs) = Err w.OpenGroup

abbrev pub finish_at : Mode → State → Result (List Tree) Why
finish_at mode.Plain s = finish_plain s s.frames
finish_at mode.Escape s = Err w.BadEscape
finish_at (mode.Interval i) s = Err w.BadInterval
finish_at (mode.Bracket k) s = Err w.OpenBracket

unfoldable pub finish : State → Result (List Tree) Why
finish s = finish_at s.mode s

-- how many trees the frames hold
abbrev pub held : List Frame → ℕ
held [] = 0
held (f ∷ fs) = f.pieces + f.branches + held fs

abbrev pub FairMode : Mode → Bool → Type 0
FairMode mode.Plain repeatable = Unit {0}
FairMode mode.Escape repeatable = Unit {0}
FairMode (mode.Interval i) repeatable = repeatable ≡ true
FairMode (mode.Bracket k) repeatable = Unit {0}

-- what holds of a state after n bytes
pub record Fair (n : ℕ) (s : State) : Type 0 where
  pub enough : s.top.pieces + s.top.branches + held s.frames ≤ length s.stack
  pub stack : length s.stack ≤ n
  pub opened : s.opened ≤ n
  pub nodes : s.nodes ≤ 3 * n
  pub repeats : s.top.repeatable ≡ true → 1 ≤ s.top.pieces
  pub mode : FairMode s.mode s.top.repeatable

-- how a fault at this place stands to what the machine answers: being out of memory is free
abbrev pub Stops : {X : Type 0} → ℕ → EreFault → Result X Why → Type 0
Stops at (fault.Broken place why) r = (place ≡ at) × (r ≡ Err why)
Stops at (fault.TooHeavy weight) r = ⊥
Stops at fault.Memory r = Unit {0}

abbrev pub after : Result State Why → (State → Result State Why) → Result State Why
after (Err why) f = Err why
after (Ok s) f = f s

-- the state after more bytes, or why there is none
abbrev pub run : State → List ℕ → Result State Why
run s [] = Ok s
run s (b ∷ bs) = after (step s b) (λ t. run t bs)

-- the first tree of a stack
abbrev pub top_of : List Tree → Tree
top_of [] = branch none
top_of (t ∷ ts) = t

-- how a fault at the end of the text stands to what the machine answers
abbrev pub Ends : ℕ → EreFault → Result (List Tree) Why → Type 0
Ends at (fault.Broken place why) r = (place ≡ at) × (r ≡ Err why)
Ends at (fault.TooHeavy told) r =
    IsOkAnd r (λ stack. (512 < weight (top_of stack)) × (told ≡ min (weight (top_of stack)) 1_000_000))
Ends at fault.Memory r = Unit {0}

-- how what is left open stands to what the machine answers at the end of the text
abbrev pub LeavesOpen : Option Why → State → Type 0
LeavesOpen None s = finish s ≡ Ok (ended s)
LeavesOpen (Some why) s = finish s ≡ Err why
