-- Messages, stage by stage.
use Rattle.std.proofs.Common.{◌≡◌, ℕ, ◌+◌, ◌<◌, ◌≤◌, ◌&&◌, Bool, true, false, IsTrue, List, length, Result, Ok, Err, refl, sym, ◌∙◌, ap, subst, inl, inr, arith}
use Rattle.std.proofs.lemmas.Bool.{le-leb}
use Rattle.std.specs.Result.{IsErrAnd}
use Rattle.enum_base.specs.Stages.Then.{goes, stops}
use Rattle.dns_wire.specs.Counts.{is_counted, are_counted}
use Rattle.dns_wire.specs.Message.{U16At, HeaderAt, ItemsAt, QuestionAt, RecordAt, MessageIs}
use Rattle.dns_wire.specs.Outcome.{OrMemory}
use Rattle.dns_wire.specs.declared.question.Question.{Question}
use Rattle.dns_wire.specs.declared.record.Record.{Record}
use Rattle.dns_wire.specs.declared.message.Header.{Header}
use Rattle.dns_wire.specs.declared.message.Counts.{Counts}
use Rattle.dns_wire.specs.declared.message.Message.{Message}
use Rattle.dns_wire.specs.declared.decode_fault.DecodeFault.{DecodeFault}
use Rattle.dns_wire.specs.declared.decode_fault.DecodeFault.TheVariants.{Trailing, Memory}
use Rattle.dns_wire.proofs.ItemLemmas.{items_count}
use Rattle.dns_wire.proofs.StepLemmas.{sure}

-- the questions and records that are read of a message
abbrev pub Questions : List ℕ → Header × Counts → Result (List Question × ℕ) DecodeFault → Type 0
Questions bytes header = ItemsAt (QuestionAt bytes) header.1.questions 12

abbrev pub AnswersAt : List ℕ → Header × Counts → ℕ → Result (List Record × ℕ) DecodeFault → Type 0
AnswersAt bytes header at = ItemsAt (RecordAt bytes) header.1.answers at

abbrev pub Authority : List ℕ → Header × Counts → ℕ → Result (List Record × ℕ) DecodeFault → Type 0
Authority bytes header at = ItemsAt (RecordAt bytes) header.1.authority at

abbrev pub Additional : List ℕ → Header × Counts → ℕ → Result (List Record × ℕ) DecodeFault → Type 0
Additional bytes header at = ItemsAt (RecordAt bytes) header.1.additional at

-- what breaks a section breaks the message
pub header_stops : (bytes : List ℕ) (fault : DecodeFault) (result : Result Message DecodeFault)
    → HeaderAt bytes (Err fault) → IsErrAnd result (λ told. told ≡ fault) → OrMemory (MessageIs bytes) result
header_stops bytes fault (Ok value) h is = absurd is
header_stops bytes fault (Err told) h is = inl (stops fault h (ap Err is))

pub questions_stop : (bytes : List ℕ) (header : Header × Counts) (fault : DecodeFault) (result : Result Message DecodeFault)
    → HeaderAt bytes (Ok header) → OrMemory (Questions bytes header) (Err fault)
    → IsErrAnd result (λ told. told ≡ fault) → OrMemory (MessageIs bytes) result
questions_stop bytes header fault (Ok value) h k is = absurd is
questions_stop bytes header fault (Err told) h (inl k) is = inl (goes header h (stops fault k (ap Err is)))
questions_stop bytes header fault (Err told) h (inr none) is = let first : fault ≡ Memory = cc in inr (ap Err (is ∙ first))

pub answers_stop : (bytes : List ℕ) (header : Header × Counts) (questions : List Question × ℕ) (fault : DecodeFault) (result : Result Message DecodeFault)
    → HeaderAt bytes (Ok header) → OrMemory (Questions bytes header) (Ok questions)
    → OrMemory (AnswersAt bytes header questions.1) (Err fault) → IsErrAnd result (λ told. told ≡ fault)
    → OrMemory (MessageIs bytes) result
answers_stop bytes header questions fault (Ok value) h k l is = absurd is
answers_stop bytes header questions fault (Err told) h k (inl l) is =
    inl (goes header h (goes questions (sure (Questions bytes header) questions k) (stops fault l (ap Err is))))
answers_stop bytes header questions fault (Err told) h k (inr none) is = let first : fault ≡ Memory = cc in inr (ap Err (is ∙ first))

pub authority_stops : (bytes : List ℕ) (header : Header × Counts) (questions : List Question × ℕ)
    (answers : List Record × ℕ) (fault : DecodeFault) (result : Result Message DecodeFault)
    → HeaderAt bytes (Ok header) → OrMemory (Questions bytes header) (Ok questions)
    → OrMemory (AnswersAt bytes header questions.1) (Ok answers) → OrMemory (Authority bytes header answers.1) (Err fault)
    → IsErrAnd result (λ told. told ≡ fault) → OrMemory (MessageIs bytes) result
authority_stops bytes header questions answers fault (Ok value) h k l m is = absurd is
authority_stops bytes header questions answers fault (Err told) h k l (inl m) is =
    inl (goes header h (goes questions (sure (Questions bytes header) questions k)
    (goes answers (sure (AnswersAt bytes header questions.1) answers l) (stops fault m (ap Err is)))))
authority_stops bytes header questions answers fault (Err told) h k l (inr none) is = let first : fault ≡ Memory = cc in inr (ap Err (is ∙ first))

-- what is read of a message as far as its last section
pub record Sections (bytes : List ℕ) (header : Header × Counts) (questions : List Question × ℕ) (answers authority : List Record × ℕ) : Type 0 where
  pub header_read : HeaderAt bytes (Ok header)
  pub questions_read : OrMemory (Questions bytes header) (Ok questions)
  pub answers_read : OrMemory (AnswersAt bytes header questions.1) (Ok answers)
  pub authority_read : OrMemory (Authority bytes header answers.1) (Ok authority)

pub additional_stops : (bytes : List ℕ) (header : Header × Counts) (questions : List Question × ℕ)
    (answers authority : List Record × ℕ) (fault : DecodeFault) (result : Result Message DecodeFault)
    → Sections bytes header questions answers authority → OrMemory (Additional bytes header authority.1) (Err fault)
    → IsErrAnd result (λ told. told ≡ fault) → OrMemory (MessageIs bytes) result
additional_stops bytes header questions answers authority fault (Ok value) s m is = absurd is
additional_stops bytes header questions answers authority fault (Err told) s (inl m) is =
    inl (goes header s.header_read
    (goes questions (sure (Questions bytes header) questions s.questions_read)
    (goes answers (sure (AnswersAt bytes header questions.1) answers s.answers_read)
    (goes authority (sure (Authority bytes header answers.1) authority s.authority_read)
    (stops fault m (ap Err is))))))
additional_stops bytes header questions answers authority fault (Err told) s (inr none) is = let first : fault ≡ Memory = cc in inr (ap Err (is ∙ first))

pub trails : (bytes : List ℕ) (header : Header × Counts) (questions : List Question × ℕ) (answers authority additional : List Record × ℕ)
    → Sections bytes header questions answers authority → OrMemory (Additional bytes header authority.1) (Ok additional)
    → additional.1 < length bytes → OrMemory (MessageIs bytes) (Err (Trailing additional.1))
trails bytes header questions answers authority additional s m more =
    inl (goes header s.header_read
    (goes questions (sure (Questions bytes header) questions s.questions_read)
    (goes answers (sure (AnswersAt bytes header questions.1) answers s.answers_read)
    (goes authority (sure (Authority bytes header answers.1) authority s.authority_read)
    (goes additional (sure (Additional bytes header authority.1) additional m) (inr (more, refl)))))))

pub spells : (bytes : List ℕ) (header : Header × Counts) (questions : List Question × ℕ)
    (answers authority additional : List Record × ℕ)
    (fits : IsTrue (are_counted questions.0 answers.0 authority.0 additional.0))
    → Sections bytes header questions answers authority → OrMemory (Additional bytes header authority.1) (Ok additional)
    → additional.1 ≤ length bytes → length bytes ≤ additional.1
    → OrMemory (MessageIs bytes)
    (Ok (record {
      header = header.0;
      questions = questions.0;
      answers = answers.0;
      authority = authority.0;
      additional = additional.0;
      counted = fits;
    }))
spells bytes header questions answers authority additional fits s m low high =
    inl (goes header s.header_read
    (goes questions (sure (Questions bytes header) questions s.questions_read)
    (goes answers (sure (AnswersAt bytes header questions.1) answers s.answers_read)
    (goes authority (sure (Authority bytes header answers.1) authority s.authority_read)
    (goes additional (sure (Additional bytes header authority.1) additional m) (inl (omega arith, fits, refl)))))))

-- the counts of a header are numbers of 16 bits
pub number_small : (message : List ℕ) (at : ℕ) (read : ℕ × ℕ) → U16At message at (Ok read) → read.0 ≤ 65535
number_small message at read (inl (value, small, there, is)) =
    let pair : ◌≡◌ {A = ℕ × ℕ} read (value, at + 2) = cc in
    let same = ap (λ (x : ℕ × ℕ). x.0) pair in omega arith
number_small message at read (inr (short, is)) = absurd cc

pub record AreSmall (counts : Counts) : Type 0 where
  pub questions : counts.questions ≤ 65535
  pub answers : counts.answers ≤ 65535
  pub authority : counts.authority ≤ 65535
  pub additional : counts.additional ≤ 65535

pub header_small : (message : List ℕ) (read : Header × Counts) → HeaderAt message (Ok read) → AreSmall read.1
header_small message read (inr (short, is)) = absurd cc
header_small message read (inl (room, goes id h1 (goes bits h2 (goes questions h3 (goes answers h4 (goes authority h5 (goes additional h6 is))))))) =
    let pair : ◌≡◌ {A = Header × Counts} read (
      record { id = id.0; bits = bits.0 },
      record {
        questions = questions.0;
        answers = answers.0;
        authority = authority.0;
        additional = additional.0;
      },
    ) = cc in
    subst AreSmall (sym (ap (λ (x : Header × Counts). x.1) pair)) (record {
      questions = number_small message bits.1 questions h3;
      answers = number_small message questions.1 answers h4;
      authority = number_small message answers.1 authority h5;
      additional = number_small message authority.1 additional h6;
    })
header_small message read (inl (room, goes id h1 (goes bits h2 (goes questions h3 (goes answers h4 (goes authority h5 (stops fault h6 is))))))) = absurd cc
header_small message read (inl (room, goes id h1 (goes bits h2 (goes questions h3 (goes answers h4 (stops fault h5 is)))))) = absurd cc
header_small message read (inl (room, goes id h1 (goes bits h2 (goes questions h3 (stops fault h4 is))))) = absurd cc
header_small message read (inl (room, goes id h1 (goes bits h2 (stops fault h3 is)))) = absurd cc
header_small message read (inl (room, goes id h1 (stops fault h2 is))) = absurd cc
header_small message read (inl (room, stops fault h1 is)) = absurd cc

all_four : (a b c d : Bool) → IsTrue a → IsTrue b → IsTrue c → IsTrue d → IsTrue (a && b && c && d)
all_four true true true true h k l m = refl
all_four false b c d h k l m = absurd cc
all_four true false c d h k l m = absurd cc
all_four true true false d h k l m = absurd cc
all_four true true true false h k l m = absurd cc

counted : {A : Type 0} (items : List A) (n : ℕ) → length items ≡ n → n ≤ 65535 → IsTrue (is_counted items)
counted items n is few = le-leb (length items) 65535 (omega arith)

-- the lists of a message that is read can be counted
pub are_few : (bytes : List ℕ) (header : Header × Counts) (questions : List Question × ℕ) (answers authority additional : List Record × ℕ)
    → HeaderAt bytes (Ok header) → Questions bytes header (Ok questions) → AnswersAt bytes header questions.1 (Ok answers)
    → Authority bytes header answers.1 (Ok authority) → Additional bytes header authority.1 (Ok additional)
    → IsTrue (are_counted questions.0 answers.0 authority.0 additional.0)
are_few bytes header questions answers authority additional h k l m n =
    let small = header_small bytes header h in
    all_four (is_counted questions.0) (is_counted answers.0) (is_counted authority.0) (is_counted additional.0)
    (counted questions.0 header.1.questions (items_count (QuestionAt bytes) header.1.questions 12 questions k) small.questions)
    (counted answers.0 header.1.answers (items_count (RecordAt bytes) header.1.answers questions.1 answers l) small.answers)
    (counted authority.0 header.1.authority (items_count (RecordAt bytes) header.1.authority answers.1 authority m) small.authority)
    (counted additional.0 header.1.additional (items_count (RecordAt bytes) header.1.additional authority.1 additional n) small.additional)

pub few_read : (bytes : List ℕ) (header : Header × Counts) (questions : List Question × ℕ) (answers authority additional : List Record × ℕ)
    → Sections bytes header questions answers authority → OrMemory (Additional bytes header authority.1) (Ok additional)
    → IsTrue (are_counted questions.0 answers.0 authority.0 additional.0)
few_read bytes header questions answers authority additional s m =
    are_few bytes header questions answers authority additional s.header_read
    (sure (Questions bytes header) questions s.questions_read)
    (sure (AnswersAt bytes header questions.1) answers s.answers_read)
    (sure (Authority bytes header answers.1) authority s.authority_read)
    (sure (Additional bytes header authority.1) additional m)
