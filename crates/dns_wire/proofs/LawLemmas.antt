-- The laws of messages, and the clauses of their reading.
use Rattle.std.proofs.Common.{◌≡◌, ◌≢◌, ◌⊎◌, ℕ, List, Result, Ok, Err, subst, inl, inr}
use Rattle.std.specs.List.{AllByRecursion}
use Rattle.dns_name.specs.Name.{IsByte}
use Rattle.dns_wire.specs.Message.{MessageIs, Spells, Breaks}
use Rattle.dns_wire.specs.Outcome.{OrMemory}
use Rattle.dns_wire.specs.declared.message.Message.{Message}
use Rattle.dns_wire.specs.declared.decode_fault.DecodeFault.{DecodeFault}
use Rattle.dns_wire.specs.declared.decode_fault.DecodeFault.TheVariants.{Memory}
use Rattle.dns_wire.proofs.ReadingLemmas.{IsSingle-message, IsTotal-message}

pub one_message : (bytes : List ℕ) (one other : Message) → Spells bytes one → Spells bytes other → one ≡ other
one_message bytes one other h k = cc ((IsSingle-message bytes).same (Ok one) (Ok other) h k)

-- where the bytes are those that spell it too
pub one_read : (bytes wire : List ℕ) (one other : Message) → bytes ≡ wire → Spells bytes one → Spells wire other → one ≡ other
one_read bytes wire one other same h k = one_message wire one other (subst (λ b. Spells b one) same h) k

pub one_break : (bytes : List ℕ) (one other : DecodeFault) → Breaks bytes one → Breaks bytes other → one ≡ other
one_break bytes one other h k = cc ((IsSingle-message bytes).same (Err one) (Err other) h k)

pub not_both : (bytes : List ℕ) (message : Message) (fault : DecodeFault) → Spells bytes message → ¬ Breaks bytes fault
not_both bytes message fault h k = absurd (cc ((IsSingle-message bytes).same (Ok message) (Err fault) h k))

pub message_or_break : (bytes : List ℕ) → AllByRecursion IsByte bytes
    → ((message : Message) × Spells bytes message) ⊎ ((fault : DecodeFault) × Breaks bytes fault)
message_or_break bytes all = let some = IsTotal-message bytes all in by_result some.result some.comes
  where
    by_result : (r : Result Message DecodeFault) → MessageIs bytes r → ((message : Message) × Spells bytes message)
        ⊎ ((fault : DecodeFault) × Breaks bytes fault)
    by_result (Ok message) h = inl (message, h)
    by_result (Err fault) h = inr (fault, h)

-- the clauses of the reading
pub read_message : (bytes : List ℕ) (result : Result Message DecodeFault) → OrMemory (MessageIs bytes) result
    → (message : Message) → result ≡ Ok message → Spells bytes message
read_message bytes result (inl h) message is = subst (MessageIs bytes) is h
read_message bytes result (inr none) message is = absurd cc

pub read_fault : (bytes : List ℕ) (result : Result Message DecodeFault) → OrMemory (MessageIs bytes) result
    → (fault : DecodeFault) → result ≡ Err fault → fault ≢ Memory → Breaks bytes fault
read_fault bytes result (inl h) fault is other = subst (MessageIs bytes) is h
read_fault bytes result (inr none) fault is other = let same : fault ≡ Memory = cc in absurd (other same)

pub read_as : (bytes : List ℕ) (result wanted : Result Message DecodeFault) → OrMemory (MessageIs bytes) result
    → MessageIs bytes wanted → (result ≡ wanted) ⊎ (result ≡ Err Memory)
read_as bytes result wanted (inl h) k = inl ((IsSingle-message bytes).same result wanted h k)
read_as bytes result wanted (inr none) k = inr none
