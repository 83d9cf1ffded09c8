-- What bytes spell never wants memory.
use Rattle.std.proofs.Common.{◌≡◌, ℕ, zero, suc, List, Result, Ok, Err, subst, inl, inr}
use Rattle.enum_base.specs.Stages.{Then}
use Rattle.enum_base.specs.Stages.Then.{goes, stops}
use Rattle.dns_name.specs.declared.wire_fault.WireFault.{WireFault}
use Rattle.dns_name.specs.declared.wire_fault.WireFault.TheVariants as wire
use Rattle.rdata_field.specs.declared.in_fault.InFault.{InFault}
use Rattle.rdata_field.specs.declared.in_fault.InFault.TheVariants as rdata
use Rattle.dns_wire.specs.Contents.{ContentIn}
use Rattle.dns_wire.specs.Forms.{form_of}
use Rattle.dns_wire.specs.DecodeFaults.{of_name, of_rdata}
use Rattle.dns_wire.specs.Message.{U16At, U32At, NameRead, QuestionAt, LengthAt, RecordAt, ItemsAt, HeaderAt, MessageIs}
use Rattle.dns_wire.specs.Outcome.{ToldAs}
use Rattle.dns_wire.specs.declared.decode_fault.DecodeFault.{DecodeFault}
use Rattle.dns_wire.specs.declared.decode_fault.DecodeFault.TheVariants.{Memory}

-- a reading that never wants memory
record IsFree {A : Type 0} (One : Result A DecodeFault → Type 0) : Type 0 where
  lacks : ¬ One (Err Memory)

free-then : {A B : Type 0} (One : Result A DecodeFault → Type 0) (Next : A → Result B DecodeFault → Type 0) → IsFree One
    → ((value : A) → IsFree (Next value)) → IsFree (Then One Next)
free-then {A} {B} One Next one next = record { lacks = lacks }
  where
    lacks : ¬ Then One Next (Err Memory)
    lacks (goes value h k) = (next value).lacks k
    lacks (stops fault h is) = let same : fault ≡ Memory = cc in one.lacks (subst (λ f. One (Err f)) same h)

free-ok : {A : Type 0} (value : A) → IsFree (λ result. result ≡ Ok value)
free-ok value = record { lacks = λ is. absurd cc }

free-number : (message : List ℕ) (at : ℕ) → IsFree (U16At message at)
free-number message at = record { lacks = lacks }
  where
    lacks : ¬ U16At message at (Err Memory)
    lacks (inl (value, small, there, is)) = absurd cc
    lacks (inr (short, is)) = absurd cc

free-long : (message : List ℕ) (at : ℕ) → IsFree (U32At message at)
free-long message at = record { lacks = lacks }
  where
    lacks : ¬ U32At message at (Err Memory)
    lacks (inl (value, small, there, is)) = absurd cc
    lacks (inr (short, is)) = absurd cc

no_name : (fault : WireFault) → ¬ (Memory ≡ of_name fault)
no_name (wire.Short at) is = absurd cc
no_name (wire.BadLabelType at) is = absurd cc
no_name (wire.ForwardPointer at) is = absurd cc
no_name (wire.NameTooLong at) is = absurd cc

no_rdata : (fault : InFault) → ¬ (Memory ≡ of_rdata fault)
no_rdata (rdata.Shape at) is = absurd cc
no_rdata (rdata.Name fault) is = no_name fault is

free-name : (message : List ℕ) (at : ℕ) → IsFree (NameRead message at)
free-name message at = record { lacks = lacks }
  where
    lacks : ¬ NameRead message at (Err Memory)
    lacks (inl (labels, next, name, is)) = absurd cc
    lacks (inr (fault, breaks, is)) = let same : Memory ≡ of_name fault = cc in no_name fault same

free-told : {A : Type 0} (One : Result A InFault → Type 0) → IsFree (ToldAs of_rdata One)
free-told {A} One = record { lacks = lacks }
  where
    lacks : ¬ ToldAs of_rdata One (Err Memory)
    lacks (inl (value, h, is)) = absurd cc
    lacks (inr (fault, h, is)) = let same : Memory ≡ of_rdata fault = cc in no_rdata fault same

free-question : (message : List ℕ) (at : ℕ) → IsFree (QuestionAt message at)
free-question message at =
    free-then _ _ (free-name message at)
    (λ name. free-then _ _ (free-number message name.1)
    (λ kind. free-then _ _ (free-number message kind.1) (λ class. free-ok _)))

free-length : (message : List ℕ) (at : ℕ) → IsFree (LengthAt message at)
free-length message at = record { lacks = lacks }
  where
    lacks : ¬ LengthAt message at (Err Memory)
    lacks (goes size h (inl (room, is))) = absurd cc
    lacks (goes size h (inr (past, is))) = absurd cc
    lacks (stops fault h is) = let same : fault ≡ Memory = cc in (free-number message at).lacks (subst (λ f. U16At message at (Err f)) same h)

free-record : (message : List ℕ) (at : ℕ) → IsFree (RecordAt message at)
free-record message at =
    free-then _ _ (free-name message at) (λ owner.
    free-then _ _ (free-number message owner.1) (λ kind.
    free-then _ _ (free-number message kind.1) (λ class.
    free-then _ _ (free-long message class.1) (λ ttl.
    free-then _ _ (free-length message ttl.1) (λ rdata.
    free-then _ _ (free-told (ContentIn (form_of kind.0 class.0) message rdata.1 rdata.0)) (λ what. record { lacks = λ h. let is = h.1 in absurd cc }))))))

free-items : {A : Type 0} (one : ℕ → Result (A × ℕ) DecodeFault → Type 0) → ((at : ℕ) → IsFree (one at)) → (n at : ℕ) → IsFree (ItemsAt one n at)
free-items one each zero at = free-ok _
free-items one each (suc n) at = free-then _ _ (each at) (λ first. free-then _ _ (free-items one each n first.1) (λ rest. free-ok _))

free-header : (message : List ℕ) → IsFree (HeaderAt message)
free-header message = record { lacks = lacks }
  where
    lacks : ¬ HeaderAt message (Err Memory)
    lacks (inl (room, h)) =
        (free-then _ _ (free-number message 0) (λ id.
        free-then _ _ (free-number message id.1) (λ bits.
        free-then _ _ (free-number message bits.1) (λ questions.
        free-then _ _ (free-number message questions.1) (λ answers.
        free-then _ _ (free-number message answers.1) (λ authority.
        free-then _ _ (free-number message authority.1) (λ additional. free-ok _))))))).lacks h
    lacks (inr (short, is)) = absurd cc

free-message : (bytes : List ℕ) → IsFree (MessageIs bytes)
free-message bytes =
    free-then _ _ (free-header bytes) (λ header.
    free-then _ _ (free-items (QuestionAt bytes) (free-question bytes) header.1.questions 12) (λ questions.
    free-then _ _ (free-items (RecordAt bytes) (free-record bytes) header.1.answers questions.1) (λ answers.
    free-then _ _ (free-items (RecordAt bytes) (free-record bytes) header.1.authority answers.1) (λ authority.
    free-then _ _ (free-items (RecordAt bytes) (free-record bytes) header.1.additional authority.1) (λ additional.
    record {
      lacks = λ h. elim h [
        | inl (end, fits, is) ↦ absurd cc
        | inr (more, is) ↦ absurd cc
      ];
    })))))

pub no_memory : (bytes : List ℕ) → ¬ MessageIs bytes (Err Memory)
no_memory bytes = (free-message bytes).lacks
