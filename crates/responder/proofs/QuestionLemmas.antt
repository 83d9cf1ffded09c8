-- The questions that a message spells, and what is planned for them.
use Rattle.std.proofs.Common.{◌≡◌, ℕ, zero, suc, ◌≤◌, List, [], ◌∷◌, inl, inr, sym, subst, arith, Result, Ok, Err}
use Rattle.std.specs.Prelude.{Bool, true, false, not, ◌==◌, if◌then◌else◌, Option, Some, None}
use Rattle.std.specs.List.{AllByRecursion}
use Rattle.dns_name.specs.Name.{IsLabel, IsName}
use Rattle.dns_name.specs.Wire.{NameAt}
use Rattle.dns_name.proofs.CodeLemmas.{leads-each}
use Rattle.naptr_data.specs.Zones.{Labels}
use Rattle.dns_wire.specs.Message.{ItemsAt, NameRead, QuestionAt, Spells}
use Rattle.dns_wire.specs.Ranges.{IsQuestion}
use Rattle.dns_wire.specs.declared.message.Message.{Message}
use Rattle.dns_wire.specs.declared.question.Question.{Question}
use Rattle.dns_wire.specs.declared.record.Record.{Record}
use Rattle.dns_wire.proofs.MessageLemmas.{number_small}
use Rattle.dns_wire.proofs.StepLemmas.{then_value}
use Rattle.zone_db.specs.Bits.{opcode_of}
use Rattle.zone_db.specs.Replies.{Plan, says, looks_up, bare, is_refused, options_of, plan_of, plan_of_one, plan_of_questions, strays, version_of}
use Rattle.zone_db.specs.declared.draft.Draft.{Draft}

ok_is : {A F : Type 0} (one other : A) → ◌≡◌ {A = Result A F} (Ok one) (Ok other) → one ≡ other
ok_is one other is = cc

not_stopped : {A F : Type 0} (one : A) (fault : F) → ◌≡◌ {A = Result A F} (Ok one) (Err fault) → ⊥
not_stopped one fault is = absurd cc

-- what is read as a name is one
read_name : (bytes : List ℕ) (at : ℕ) (labels : Labels) (next : ℕ) → NameAt bytes at labels next → IsName labels
read_name bytes at labels next read = record {
  each = subst (λ (l : Labels). AllByRecursion IsLabel l) (sym read.spelt) (leads-each bytes at at read.fields read.start read.root read.leads);
  short = read.short;
}

name_ranged : (bytes : List ℕ) (at : ℕ) (read : Labels × ℕ) → NameRead bytes at (Ok read) → IsName read.0
name_ranged bytes at read (inl (labels, next, name, is)) =
    subst (λ (x : Labels × ℕ). IsName x.0) (sym (ok_is read (labels, next) is)) (read_name bytes at labels next name)
name_ranged bytes at read (inr (fault, breaks, is)) = absurd cc

-- so the values of a question are in their ranges
question_ranged : (bytes : List ℕ) (at : ℕ) (read : Question × ℕ) → QuestionAt bytes at (Ok read) → IsQuestion read.0
question_ranged bytes at read spelt =
    let (name, is_name, more) = then_value _ _ read spelt in
    let (kind, is_kind, more') = then_value _ _ read more in
    let (class, is_class, is) = then_value _ _ read more' in
    let question : Question = record { name = name.0; kind = kind.0; class = class.0 } in
    let ranged : IsQuestion question = record {
      name = name_ranged bytes at name is_name;
      kind = omega (arith, number_small bytes name.1 kind is_kind);
      class = omega (arith, number_small bytes kind.1 class is_class);
    } in
    subst (λ (x : Question × ℕ). IsQuestion x.0) (sym (ok_is read (question, class.1) is)) ranged

questions_ranged : (bytes : List ℕ) (n start : ℕ) (read : List Question × ℕ) → ItemsAt (QuestionAt bytes) n start (Ok read)
    → AllByRecursion IsQuestion read.0
questions_ranged bytes zero start read is = subst (λ (x : List Question × ℕ). AllByRecursion IsQuestion x.0) (sym (ok_is read ([], start) is)) tt
questions_ranged bytes (suc n) start read spelt =
    let (first, is_first, more) = then_value _ _ read spelt in
    let (rest, is_rest, is) = then_value _ _ read more in
    subst (λ (x : List Question × ℕ). AllByRecursion IsQuestion x.0) (sym (ok_is read (first.0 ∷ rest.0, rest.1) is))
    (question_ranged bytes start first is_first, questions_ranged bytes n first.1 rest is_rest)

pub spelt_questions : (bytes : List ℕ) (message : Message) → Spells bytes message → AllByRecursion IsQuestion message.questions
spelt_questions bytes message spelt =
    let (header, is_header, after_header) = then_value _ _ message spelt in
    let (questions, is_questions, after_questions) = then_value _ _ message after_header in
    let (answers, is_answers, after_answers) = then_value _ _ message after_questions in
    let (authority, is_authority, after_authority) = then_value _ _ message after_answers in
    let (additional, is_additional, end) = then_value _ _ message after_authority in
    elim end [
      | inl whole ↦ subst (λ (x : Message). AllByRecursion IsQuestion x.questions) (sym (ok_is message _ whole.2))
          (questions_ranged bytes header.1.questions 12 questions is_questions)
      | inr rest ↦ absurd (not_stopped message _ rest.1)
    ]

-- what is said at once has a property, and what is looked up is in its ranges
abbrev pub IsPlanOf : (Draft → Type 0) → Plan → Type 0
IsPlanOf P (says draft) = P draft
IsPlanOf P (looks_up question) = IsQuestion question

-- .. which a code has, alone or with a question
pub record IsOfCodes (P : Draft → Type 0) : Type 0 where
  pub alone : (code : ℕ) → code ≤ 16 → P (bare code None)
  pub asked : (code : ℕ) (question : Question) → code ≤ 16 → IsQuestion question → P (bare code (Some question))

either : (P : Draft → Type 0) (test : Bool) (one other : Plan) → IsPlanOf P one → IsPlanOf P other → IsPlanOf P (if test then one else other)
either P true one other p q = p
either P false one other p q = q

one_planned : (P : Draft → Type 0) → IsOfCodes P → (options : Option Record) (question : Question) → IsQuestion question
    → IsPlanOf P (plan_of_one options question)
one_planned P codes options question ranged =
    either P (not (version_of options == 0)) (says (bare 16 (Some question))) _ (codes.asked 16 question (omega arith) ranged)
    (either P (is_refused question) (says (bare 5 (Some question))) (looks_up question) (codes.asked 5 question (omega arith) ranged) ranged)

questions_planned : (P : Draft → Type 0) → IsOfCodes P → (options : Option Record) (questions : List Question) → AllByRecursion IsQuestion questions
    → IsPlanOf P (plan_of_questions options questions)
questions_planned P codes options [] ranged = codes.alone 1 (omega arith)
questions_planned P codes options (question ∷ []) ranged = one_planned P codes options question ranged.0
questions_planned P codes options (question ∷ another ∷ rest) ranged = codes.alone 1 (omega arith)

pub query_planned : (P : Draft → Type 0) → IsOfCodes P → (query : Message) → AllByRecursion IsQuestion query.questions → IsPlanOf P (plan_of query)
query_planned P codes query ranged =
    either P (strays query) (says (bare 1 None)) _ (codes.alone 1 (omega arith))
    (either P (not (opcode_of query.header.bits == 0)) (says (bare 4 None)) _ (codes.alone 4 (omega arith))
    (questions_planned P codes (options_of query) query.questions ranged))
