-- What `show` comes to: the digits of the input are the bytes of a message in hexadecimal (this project's own), and the
-- message (RFC 1035, section 4) is printed.
use Rattle.std.specs.Prelude.{◌≡◌, ◌⊎◌, ℕ, ◌==◌, ◌||◌, not, Bool, List, filter, Option, Result, Ok, Err}
use Rattle.dns_wire.specs.Message.{Breaks, Spells}
use Rattle.dns_wire.specs.declared.decode_fault.DecodeFault.{DecodeFault}
use Rattle.dns_wire.specs.declared.message.Message.{Message}
use Rattle.enum_base.specs.Folding.{folded}
use Rattle.enum_base.specs.Stages.{Then}
use Rattle.hex.specs.Hex.{IsBytes, encode_lower}
use Rattle.message_text.specs.Shown.{shown}
use Rattle.enum_top.specs.Inputs.{Inputs}
use Rattle.enum_top.specs.Verdicts.{AtOnce, Work}
use Rattle.enum_top.specs.declared.cause.Cause.{Cause}
use Rattle.enum_top.specs.declared.cause.Cause.TheVariants as cause
use Rattle.enum_top.specs.declared.objects.Object.TheVariants.{Input}
use Rattle.enum_top.specs.declared.status.Ending.TheVariants as ending
use Rattle.enum_top.specs.declared.status.Printed.{Printed}

-- a tab, a line feed, a carriage return or a space
abbrev pub is_blank : ℕ → Bool
is_blank byte = byte == 9 || byte == 10 || byte == 13 || byte == 32

-- a text without its blanks
abbrev pub digits_in : List ℕ → List ℕ
digits_in text = filter (λ byte. not (is_blank byte)) text

-- digits are bytes in hexadecimal, in either case: two digits a byte, the high four bits first
pub record IsHex (digits bytes : List ℕ) : Type 0 where
  pub in_range : IsBytes bytes
  pub spelled : folded digits ≡ encode_lower bytes

-- the bytes that digits are
abbrev pub Digits : List ℕ → Result (List ℕ) Cause → Type 0
Digits digits result =
    ((bytes : List ℕ) × IsHex digits bytes × (result ≡ Ok bytes))
    ⊎ ((¬ ((bytes : List ℕ) × IsHex digits bytes)) × (result ≡ Err cause.Hex))

-- .. of a text
abbrev pub Hexes : List ℕ → Result (List ℕ) Cause → Type 0
Hexes text = Digits (digits_in text)

-- the message that bytes spell, or where they break
abbrev pub Messages : List ℕ → Result Message Cause → Type 0
Messages bytes result =
    ((message : Message) × Spells bytes message × (result ≡ Ok message))
    ⊎ ((fault : DecodeFault) × Breaks bytes fault × (result ≡ Err (cause.Message fault)))

-- the text of a message
abbrev pub shown_as : Message → Printed
shown_as message = record { ending = ending.Done; text = shown message }

-- the input, then its digits, then their message, which is printed
abbrev pub Shows : Option (List ℕ) → Result Printed Cause → Type 0
Shows input =
    Then (Inputs input) (λ text. Then (Hexes text) (λ bytes. Then (Messages bytes) (λ message result. result ≡ Ok (shown_as message))))

-- the work of `show`
abbrev pub show_work : Work
show_work = record {
  answers = λ told. AtOnce (Shows told.input);
  breaks = λ cause. ⊥;
  uses = λ object. object ≡ Input;
  fronts = λ told front. ⊥;
}
