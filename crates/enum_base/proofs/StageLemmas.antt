-- Stages that come to one thing.
use Rattle.std.proofs.Common.{◌≡◌, Result, Ok, Err, refl, sym, ap, subst, ◌∙◌}
use Rattle.enum_base.specs.Stages.{Then}
use Rattle.enum_base.specs.Stages.Then.{goes, stops}

-- a stage comes to one thing at most
pub record IsSingle {A F : Type 0} (One : Result A F → Type 0) : Type 0 where
  pub same : (one other : Result A F) → One one → One other → one ≡ other

-- a stage comes to something
pub record IsTotal {A F : Type 0} (One : Result A F → Type 0) : Type 0 where
  pub result : Result A F
  pub comes : One result

-- a stage that is computed
pub IsSingle-is : {A F : Type 0} (wanted : Result A F) → IsSingle (λ result. result ≡ wanted)
IsSingle-is wanted = record { same = λ one other h k. h ∙ sym k }

pub IsTotal-is : {A F : Type 0} (wanted : Result A F) → IsTotal (λ result. result ≡ wanted)
IsTotal-is wanted = record { result = wanted; comes = refl }

-- one stage and then the next
pub IsSingle-then : {A B F : Type 0} (One : Result A F → Type 0) (Next : A → Result B F → Type 0) → IsSingle One
    → ((value : A) → IsSingle (Next value)) → IsSingle (Then One Next)
IsSingle-then {A} {B} {F} One Next one next = record { same = same }
  where
    same : (r s : Result B F) → Then One Next r → Then One Next s → r ≡ s
    same r s (goes v h k) (goes w h' k') =
        let is : v ≡ w = cc (one.same (Ok v) (Ok w) h h') in
        (next w).same r s (subst (λ (x : A). Next x r) is k) k'
    same r s (goes v h k) (stops fault h' is) = absurd (cc (one.same (Ok v) (Err fault) h h'))
    same r s (stops fault h is) (goes v h' k) = absurd (cc (one.same (Err fault) (Ok v) h h'))
    same r s (stops c h is) (stops d h' is') =
        let faults : c ≡ d = cc (one.same (Err c) (Err d) h h') in is ∙ ap Err faults ∙ sym is'

pub IsTotal-then : {A B F : Type 0} (One : Result A F → Type 0) (Next : A → Result B F → Type 0) → IsTotal One
    → ((value : A) → One (Ok value) → IsTotal (Next value)) → IsTotal (Then One Next)
IsTotal-then {A} {B} {F} One Next one next = from one.result one.comes
  where
    from : (r : Result A F) → One r → IsTotal (Then One Next)
    from (Ok value) h = let rest = next value h in record { result = rest.result; comes = goes value h rest.comes }
    from (Err fault) h = record { result = Err fault; comes = stops fault h refl }
