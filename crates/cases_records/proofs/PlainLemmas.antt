-- The records that a zone text says are plain.
use Rattle.std.proofs.Common.{◌≡◌, ◌⊎◌, inl, inr, ℕ, zero, suc, List, [], ◌∷◌, sym, subst, arith}
use Rattle.std.specs.Prelude.{Contains, IfOk, Result, Ok, Err}
use Rattle.dns_name.specs.Name.{Labels}
use Rattle.dns_wire.specs.declared.record.Record.{Record}
use Rattle.zone_build.specs.Zone.{IsPlain}
use Rattle.zone_text.specs.Zone.{Are, ZoneSays}
use Rattle.zone_text.specs.declared.meaning.Statement.{Statement}

-- an item of a longer list is its head or after it
head_or_after : (x : Record) (xs : List Record) (y : Record) → Contains (x ∷ xs) y → (y ≡ x) ⊎ Contains xs y
head_or_after x xs y (zero, l, e) = inl (sym e)
head_or_after x xs y (suc k, l, e) = inr (k, omega arith, e)

none : (y : Record) → Contains [] y → ⊥
none y (k, l, e) = absurd (omega arith)

-- the records of statements are plain
each_plain : (records : List Record) (statements : List Statement) → Are records statements → (one : Record) → Contains records one → IsPlain one
each_plain [] statements are one holds = absurd (none one holds)
each_plain (first ∷ records) [] are one holds = absurd are
each_plain (first ∷ records) (said ∷ statements) are one holds =
    elim (head_or_after first records one holds) [
      | inl is ↦ subst IsPlain (sym is) (record { class = are.0.class; whole = are.0.whole })
      | inr later ↦ each_plain records statements are.1 one later
    ]

pub plain : (text : List ℕ) (origin : Labels) (records : List Record) → ZoneSays text origin records → (one : Record) → Contains records one → IsPlain one
plain text origin records says one holds = each_plain records says.statements says.records_are one holds

-- so are those of a text that ended well
pub ended : {E : Type 0} (text : List ℕ) (origin : Labels) (result : Result (List Record) E) → IfOk result (ZoneSays text origin)
    → IfOk result (λ records. (one : Record) → Contains records one → IsPlain one)
ended text origin (Ok records) says = plain text origin records says
ended text origin (Err fault) says = tt
