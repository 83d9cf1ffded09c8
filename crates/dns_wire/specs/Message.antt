-- What a message spells (RFC 1035, section 4.1). A reading tells what stands at a place: a value and the place after it, or what
-- breaks it there. The places of faults are this project's own.
use Rattle.std.specs.Prelude.{◌≡◌, ◌⊎◌, ℕ, zero, suc, ◌+◌, ◌<◌, ◌≤◌, List, [], ◌∷◌, length, IsTrue, Result, Ok, Err}
use Rattle.enum_base.specs.Stages.{Then}
use Rattle.dns_name.specs.Wire.{NameAt, NameBreaks}
use Rattle.dns_name.specs.declared.wire_fault.WireFault.{WireFault}
use Rattle.dns_wire.specs.Kinds.{belongs}
use Rattle.dns_wire.specs.Counts.{are_counted}
use Rattle.dns_wire.specs.DecodeFaults.{of_name, of_rdata}
use Rattle.dns_wire.specs.Forms.{form_of}
use Rattle.rdata_field.specs.Fields.{U16By, U32By}
use Rattle.dns_wire.specs.Contents.{ContentIn}
use Rattle.dns_wire.specs.Outcome.{ToldAs}
use Rattle.dns_wire.specs.declared.question.Question.{Question}
use Rattle.dns_wire.specs.declared.record.Record.{Record}
use Rattle.dns_wire.specs.declared.message.Header.{Header}
use Rattle.dns_wire.specs.declared.message.Counts.{Counts}
use Rattle.dns_wire.specs.declared.message.Message.{Message}
use Rattle.dns_wire.specs.declared.decode_fault.DecodeFault.{DecodeFault}
use Rattle.dns_wire.specs.declared.decode_fault.DecodeFault.TheVariants.{Short, RdataLength, Trailing}

-- a number of 16 bits, and one of 32; or its bytes do not lie in the message
abbrev pub U16At : List ℕ → ℕ → Result (ℕ × ℕ) DecodeFault → Type 0
U16At message at = U16By Short message (length message) at

abbrev pub U32At : List ℕ → ℕ → Result (ℕ × ℕ) DecodeFault → Type 0
U32At message at = U32By Short message (length message) at

-- a name, or what breaks it (RFC 1035, 4.1.4)
abbrev pub NameRead : List ℕ → ℕ → Result (List (List ℕ) × ℕ) DecodeFault → Type 0
NameRead message at result =
    ((labels : List (List ℕ)) × (next : ℕ) × NameAt message at labels next × (result ≡ Ok (labels, next)))
    ⊎ ((fault : WireFault) × NameBreaks message at fault × (result ≡ Err (of_name fault)))

-- a question: a name, a type and a class (RFC 1035, 4.1.2)
abbrev pub QuestionAt : List ℕ → ℕ → Result (Question × ℕ) DecodeFault → Type 0
QuestionAt message at =
    Then (NameRead message at) (λ name.
    Then (U16At message name.1) (λ kind.
    Then (U16At message kind.1) (λ class all.
    all ≡ Ok (record { name = name.0; kind = kind.0; class = class.0 }, class.1))))

-- an RDLENGTH: the place where the RDATA ends, and the place after the number, where it begins; or it leads past the end of the
-- message (RFC 1035, 4.1.3)
abbrev pub LengthAt : List ℕ → ℕ → Result (ℕ × ℕ) DecodeFault → Type 0
LengthAt message at =
    Then (U16At message at) (λ size all.
    ((size.1 + size.0 ≤ length message) × (all ≡ Ok (size.1 + size.0, size.1)))
    ⊎ ((length message < size.1 + size.0) × (all ≡ Err (RdataLength at))))

-- a record: an owner, a type, a class, a TTL, an RDLENGTH and RDATA (RFC 1035, 4.1.3)
abbrev pub RecordAt : List ℕ → ℕ → Result (Record × ℕ) DecodeFault → Type 0
RecordAt message at =
    Then (NameRead message at) (λ owner.
    Then (U16At message owner.1) (λ kind.
    Then (U16At message kind.1) (λ class.
    Then (U32At message class.1) (λ ttl.
    Then (LengthAt message ttl.1) (λ rdata.
    Then (ToldAs of_rdata (ContentIn (form_of kind.0 class.0) message rdata.1 rdata.0)) (λ content all.
    (fits : IsTrue (belongs kind.0 class.0 content))
    × (all ≡ Ok (
      record {
        owner = owner.0;
        kind = kind.0;
        class = class.0;
        ttl = ttl.0;
        content = content;
        belongs = fits;
      },
      rdata.0,
    ))))))))

-- that many items, one after another
abbrev pub ItemsAt : {A F : Type 0} → (ℕ → Result (A × ℕ) F → Type 0) → ℕ → ℕ → Result (List A × ℕ) F → Type 0
ItemsAt one zero at = λ all. all ≡ Ok ([], at)
ItemsAt one (suc more) at =
    Then (one at) (λ first. Then (ItemsAt one more first.1) (λ rest all. all ≡ Ok (first.0 ∷ rest.0, rest.1)))

-- six numbers of 16 bits (RFC 1035, 4.1.1)
abbrev pub HeaderNumbers : List ℕ → Result (Header × Counts) DecodeFault → Type 0
HeaderNumbers message =
    Then (U16At message 0) (λ id.
    Then (U16At message id.1) (λ bits.
    Then (U16At message bits.1) (λ questions.
    Then (U16At message questions.1) (λ answers.
    Then (U16At message answers.1) (λ authority.
    Then (U16At message authority.1) (λ additional all.
    all ≡ Ok (
      record { id = id.0; bits = bits.0 },
      record {
        questions = questions.0;
        answers = answers.0;
        authority = authority.0;
        additional = additional.0;
      },
    )))))))

-- a header; or the message has fewer bytes
abbrev pub HeaderAt : List ℕ → Result (Header × Counts) DecodeFault → Type 0
HeaderAt message result = ((12 ≤ length message) × HeaderNumbers message result) ⊎ ((length message < 12) × (result ≡ Err (Short 0)))

-- a message: a header, and as many questions and records of three sections as it counts, up to the end (RFC 1035, 4.1)
abbrev pub MessageIs : List ℕ → Result Message DecodeFault → Type 0
MessageIs bytes =
    Then (HeaderAt bytes) (λ header.
    Then (ItemsAt (QuestionAt bytes) header.1.questions 12) (λ questions.
    Then (ItemsAt (RecordAt bytes) header.1.answers questions.1) (λ answers.
    Then (ItemsAt (RecordAt bytes) header.1.authority answers.1) (λ authority.
    Then (ItemsAt (RecordAt bytes) header.1.additional authority.1) (λ additional all.
    ((additional.1 ≡ length bytes)
    × (fits : IsTrue (are_counted questions.0 answers.0 authority.0 additional.0))
    × (all ≡ Ok (record {
      header = header.0;
      questions = questions.0;
      answers = answers.0;
      authority = authority.0;
      additional = additional.0;
      counted = fits;
    })))
    ⊎ ((additional.1 < length bytes) × (all ≡ Err (Trailing additional.1))))))))

-- the bytes are a message
abbrev pub Spells : List ℕ → Message → Type 0
Spells bytes message = MessageIs bytes (Ok message)

-- the bytes are no message: all fields before a place can be read, and the one there cannot, or nothing should stand there
abbrev pub Breaks : List ℕ → DecodeFault → Type 0
Breaks bytes fault = MessageIs bytes (Err fault)
