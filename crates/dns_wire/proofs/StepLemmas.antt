-- Steps of calls that may want memory.
use Rattle.std.proofs.Common.{◌≡◌, Result, Ok, Err, refl, ap, subst, ◌∙◌, inl, inr}
use Rattle.std.specs.Result.{IsErrAnd}
use Rattle.enum_base.specs.Stages.{Then}
use Rattle.enum_base.specs.Stages.Then.{goes, stops}
use Rattle.dns_wire.specs.Outcome.{ToldAs, OrMemory}
use Rattle.dns_wire.specs.declared.decode_fault.DecodeFault.{DecodeFault}
use Rattle.dns_wire.specs.declared.decode_fault.DecodeFault.TheVariants.{Memory}

-- what is read is read
pub sure : {A : Type 0} (One : Result A DecodeFault → Type 0) (value : A) → OrMemory One (Ok value) → One (Ok value)
sure One value (inl h) = h
sure One value (inr none) = absurd cc

-- one stage stops, and its fault is handed on
pub stop : {A B F : Type 0} (One : Result A F → Type 0) (Next : A → Result B F → Type 0) (fault : F) (result : Result B F)
    → One (Err fault) → IsErrAnd result (λ told. told ≡ fault) → Then One Next result
stop One Next fault (Ok value) h is = absurd is
stop One Next fault (Err told) h is = stops fault h (ap Err is)

-- out of memory is handed on
pub no_memory : {A : Type 0} (One : Result A DecodeFault → Type 0) (result : Result A DecodeFault)
    → IsErrAnd result (λ told. told ≡ Memory) → OrMemory One result
no_memory One (Ok value) is = absurd is
no_memory One (Err told) is = inr (ap Err is)

-- a reading that is told with other faults
pub told_ok : {A F : Type 0} (turn : F → DecodeFault) (One : Result A F → Type 0) (value : A) → One (Ok value) → OrMemory (ToldAs turn One) (Ok value)
told_ok turn One value h = inl (inl (value, h, refl))

pub told_err : {A F : Type 0} (turn : F → DecodeFault) (One : Result A F → Type 0) (fault : F) (result : Result A DecodeFault)
    → One (Err fault) → IsErrAnd result (λ told. told ≡ turn fault) → OrMemory (ToldAs turn One) result
told_err turn One fault (Ok value) h is = absurd is
told_err turn One fault (Err told) h is = inl (inr (fault, h, ap Err is))

-- what a told reading that wanted no memory read
pub told_value : {A F : Type 0} (turn : F → DecodeFault) (One : Result A F → Type 0) (value : A) → OrMemory (ToldAs turn One) (Ok value) → One (Ok value)
told_value turn One value (inl (inl (own, h, is))) = subst (λ x. One (Ok x)) (let same : own ≡ value = cc in same) h
told_value turn One value (inl (inr (fault, h, is))) = absurd cc
told_value turn One value (inr none) = absurd cc

-- a value that is made of what is read
abbrev pub Made : {A B F : Type 0} → (A → B) → (Result A F → Type 0) → Result B F → Type 0
Made make One = Then One (λ value all. all ≡ Ok (make value))

pub made_ok : {A B F : Type 0} (turn : F → DecodeFault) (make : A → B) (One : Result A F → Type 0) (value : A)
    → One (Ok value) → OrMemory (ToldAs turn (Made make One)) (Ok (make value))
made_ok turn make One value h = inl (inl (make value, goes value h refl, refl))

pub made_err : {A B F : Type 0} (turn : F → DecodeFault) (make : A → B) (One : Result A F → Type 0) (fault : F) (result : Result B DecodeFault)
    → One (Err fault) → IsErrAnd result (λ told. told ≡ turn fault) → OrMemory (ToldAs turn (Made make One)) result
made_err turn make One fault (Ok value) h is = absurd is
made_err turn make One fault (Err told) h is = inl (inr (fault, stops fault h refl, ap Err is))

-- the same of what is told already
pub remade_ok : {A B F : Type 0} (turn : F → DecodeFault) (make : A → B) (One : Result A F → Type 0) (value : A)
    → OrMemory (ToldAs turn One) (Ok value) → OrMemory (ToldAs turn (Made make One)) (Ok (make value))
remade_ok turn make One value h = made_ok turn make One value (told_value turn One value h)

pub remade_err : {A B F : Type 0} (turn : F → DecodeFault) (make : A → B) (One : Result A F → Type 0) (fault : DecodeFault) (result : Result B DecodeFault)
    → OrMemory (ToldAs turn One) (Err fault) → IsErrAnd result (λ told. told ≡ fault)
    → OrMemory (ToldAs turn (Made make One)) result
remade_err turn make One fault (Ok value) h is = absurd is
remade_err turn make One fault (Err told) (inl (inl (own, h, no_fault))) is = absurd cc
remade_err turn make One fault (Err told) (inl (inr (own, h, same))) is =
    let first : fault ≡ turn own = cc in inl (inr (own, stops own h refl, ap Err (is ∙ first)))
remade_err turn make One fault (Err told) (inr none) is = let first : fault ≡ Memory = cc in inr (ap Err (is ∙ first))

-- what stages read
pub then_value : {A B F : Type 0} (One : Result A F → Type 0) (Next : A → Result B F → Type 0) (value : B)
    → Then One Next (Ok value) → (first : A) × One (Ok first) × Next first (Ok value)
then_value One Next value (goes first h k) = (first, h, k)
then_value One Next value (stops fault h is) = absurd cc

pub made_value : {A B F : Type 0} (make : A → B) (One : Result A F → Type 0) (value : B) → Made make One (Ok value)
    → (first : A) × One (Ok first) × (make first ≡ value)
made_value make One value (goes first h is) = (first, h, cc)
made_value make One value (stops fault h is) = absurd cc
