-- Services of an application serve where they have no fault and what they spell serves.
use Rattle.std.proofs.Common.{◌≡◌, Bool, true, false, ◌&&◌, is_none, Option, Some, None, IsSome, IsTrue, ◌↔◌, refl, sym, ap, ◌∙◌}
use Rattle.std.proofs.lemmas.Bool.{and_parts}
use Rattle.std.specs.Bool.{Decides}
use Rattle.service_field.specs.declared.fault.ServiceFault.{ServiceFault}

-- a fault decides
pub faulty : (o : Option ServiceFault) (b : Bool) → IsSome o → (is_none o && b) ≡ false
faulty None b some = absurd (cc)
faulty (Some f) b some = refl

none_of : (o : Option ServiceFault) → is_none o ≡ true → o ≡ None
none_of None is = refl
none_of (Some f) is = absurd (cc)

-- where services spell a value, it decides
pub serves_as_read : {X : Type 0} (fault : Option ServiceFault) (value x : X) (test : X → Bool) (r : Bool)
    → (fault ≡ None) × (x ≡ value) → r ≡ test x → r ≡ (is_none fault && test value)
serves_as_read fault value x test r read is = is ∙ ap test read.1 ∙ sym (ap (λ o. is_none o && test value) read.0)

-- services serve exactly where they spell a value that fits
pub serves_where : {X : Type 0} (fault : Option ServiceFault) (value : X) (Spells Fits : X → Type 0) (test : X → Bool)
    → (fault ≡ None → Spells value) → ((x : X) → Spells x → (fault ≡ None) × (x ≡ value))
    → ((x : X) → Decides (test x) (Fits x)) → IsTrue (is_none fault && test value) ↔ ((x : X) × Spells x × Fits x)
serves_where fault value Spells Fits test spelled read decides = (
  λ serves.
      let both = and_parts (is_none fault) (test value) serves in
      (value, spelled (none_of fault both.0), (decides value).0 both.1),
  λ (x, spells, fits). sym (serves_as_read fault value x test (test x) (read x spells) refl) ∙ (decides x).1 fits,
)
