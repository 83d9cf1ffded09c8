-- How far a write has come.
use Rattle.std.proofs.Common.{◌≡◌, ℕ, ◌+◌, ◌-◌, ◌≤◌, min, List, ◌++◌, length, take, drop, Option, sym, ap, subst, ◌∙◌, arith}
use Rattle.std.proofs.Math.Seq.{take-add, take-append-add}
use Rattle.std.proofs.lemmas.List.{take_rest, take-append-le, take_min}
use Rattle.enum_base.specs.Causes.{Rose}
use Rattle.enum_base.specs.Outside.{SinkState, with_more}
use Rattle.enum_base.proofs.OutsideLemmas.{with_more-twice}
use Rattle.enum_base.specs.Writing.{Gains, Takes}

pub record IsWritten (old new : SinkState) (n : ℕ) (bytes : List ℕ) : Type 0 where
  pub within : n ≤ length bytes
  pub taken : Gains old new (take n bytes)
  pub count : new.faults ≡ old.faults

-- the next piece of the bytes comes after those written before
pub next_piece : (held before after : Option (List ℕ)) (bytes : List ℕ) (n m : ℕ)
    → before ≡ with_more held (take n bytes)
    → after ≡ with_more before (take m (take (length bytes - n) (drop n bytes)))
    → after ≡ with_more held (take (n + m) bytes)
next_piece held before after bytes n m e f =
    f ∙ ap (λ h. with_more h (take m (take (length bytes - n) (drop n bytes)))) e
    ∙ with_more-twice held (take n bytes) (take m (take (length bytes - n) (drop n bytes)))
    ∙ ap (λ rest. with_more held (take n bytes ++ take m rest)) (take_rest bytes n)
    ∙ ap (with_more held) (sym (take-add n m bytes))

-- a front of one piece is a front of it and what comes after
front-append : (n : ℕ) (one other : List ℕ) → take (min n (length one)) (one ++ other) ≡ take n one
front-append n one other =
    take-append-le (min n (length one)) one other (omega arith) ∙ take_min n one

-- what failed in the first piece took a front of both
pub Takes-first : (old new : SinkState) (one other : List ℕ) → Takes old new one → Rose old.faults new.faults → Takes old new (one ++ other)
Takes-first old new one other t rose = record {
  front = (min t.front.0 (length one), t.front.1 ∙ ap (with_more old.held) (sym (front-append t.front.0 one other)));
  whole = λ calm. absurd (calm rose);
}

-- the first piece was taken whole, and then a front of the second
pub Takes-second : (old between new : SinkState) (one other : List ℕ) → Gains old between one
    → between.faults ≡ old.faults → Takes between new other → Takes old new (one ++ other)
Takes-second old between new one other whole count t = record {
  front = (
    length one + t.front.0,
    t.front.1 ∙ ap (λ h. with_more h (take t.front.0 other)) whole
        ∙ with_more-twice old.held one (take t.front.0 other)
        ∙ ap (with_more old.held) (sym (take-append-add one other t.front.0)),
  );
  whole = λ calm.
      t.whole (λ rose. calm (subst (λ n. Rose n new.faults) count rose)) ∙ ap (λ h. with_more h other) whole ∙ with_more-twice old.held one other;
}

-- bytes are taken by what they are
pub Takes-same : (old new : SinkState) (bytes other : List ℕ) → bytes ≡ other → Takes old new bytes → Takes old new other
Takes-same old new bytes other same t = subst (Takes old new) same t
