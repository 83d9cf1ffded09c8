-- An input comes to the text of a message, or to a cause.
use Rattle.std.proofs.Common.{◌≡◌, inl, inr, ◌⊎◌, ℕ, suc, List, [], ◌∷◌, Option, Some, None, Result, Ok, Err, refl, sym, subst, ◌∙◌}
use Rattle.std.specs.List.{AllByRecursion}
use Rattle.dns_name.specs.Name.{IsByte}
use Rattle.dns_wire.specs.Laws.{MessageOrBreak}
use Rattle.dns_wire.specs.Message.{Breaks, Spells}
use Rattle.dns_wire.specs.declared.decode_fault.DecodeFault.{DecodeFault}
use Rattle.dns_wire.specs.declared.message.Message as wire
use Rattle.enum_base.proofs.StageLemmas.{IsTotal, IsTotal-is, IsTotal-then}
use Rattle.hex.specs.Hex.{IsBytes, decode_of}
use Rattle.hex.specs.declared.error.FromHexError.{FromHexError}
use Rattle.enum_top.specs.Inputs.{Inputs, fitting_input}
use Rattle.enum_top.specs.Showing.{Digits, Messages, Shows, digits_in, shown_as}
use Rattle.enum_top.specs.declared.cause.Cause.TheVariants as cause
use Rattle.enum_top.proofs.HexLemmas.{hex_decodes, hex_of_decoded}

IsTotal-inputs : (input : Option (List ℕ)) → IsTotal (Inputs input)
IsTotal-inputs (Some bytes) = IsTotal-is (fitting_input bytes)
IsTotal-inputs None = record { result = fitting_input []; comes = ([], refl) }

IsTotal-digits : (digits : List ℕ) → IsTotal (Digits digits)
IsTotal-digits digits = by (decode_of digits) refl
  where
    by : (r : Result (List ℕ) FromHexError) → decode_of digits ≡ r → IsTotal (Digits digits)
    by (Ok bytes) e = record { result = Ok bytes; comes = inl (bytes, hex_of_decoded digits bytes e, refl) }
    by (Err fault) e = record {
      result = Err cause.Hex;
      comes = inr ((λ some. let found = hex_decodes digits some.0 some.1 in cc (sym e ∙ found.1)), refl);
    }

IsTotal-messages : MessageOrBreak → (bytes : List ℕ) → AllByRecursion IsByte bytes → IsTotal (Messages bytes)
IsTotal-messages law bytes each = by (law bytes each)
  where
    by : ((message : wire.Message) × Spells bytes message) ⊎ ((fault : DecodeFault) × Breaks bytes fault) → IsTotal (Messages bytes)
    by (inl (message, spells)) = record { result = Ok message; comes = inl (message, spells, refl) }
    by (inr (fault, breaks)) = record { result = Err (cause.Message fault); comes = inr (fault, breaks, refl) }

each_byte : (bytes : List ℕ) → IsBytes bytes → AllByRecursion IsByte bytes
each_byte [] h = tt
each_byte (b ∷ bytes) h = (h 0, each_byte bytes (λ i. h (suc i)))

-- what digits are are bytes
bytes_of : (digits bytes : List ℕ) → Digits digits (Ok bytes) → AllByRecursion IsByte bytes
bytes_of digits bytes (inl (found, hex, is)) =
    let same : found ≡ bytes = cc (sym is) in subst (AllByRecursion IsByte) same (each_byte found hex.in_range)
bytes_of digits bytes (inr (none, is)) = absurd (cc is)

pub IsTotal-shows : MessageOrBreak → (input : Option (List ℕ)) → IsTotal (Shows input)
IsTotal-shows law input =
    IsTotal-then _ _ (IsTotal-inputs input) (λ text read.
    IsTotal-then _ _ (IsTotal-digits (digits_in text)) (λ bytes hex.
    IsTotal-then _ _ (IsTotal-messages law bytes (bytes_of (digits_in text) bytes hex)) (λ message spelt.
    IsTotal-is (Ok (shown_as message)))))
