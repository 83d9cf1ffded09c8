-- Questions, records and messages come to one thing, and in a list of bytes to something.
use Rattle.std.proofs.Common.{◌≡◌, ◌⊎◌, ℕ, zero, suc, ◌+◌, ◌<◌, ◌≤◌, IsTrue, List, [], ◌∷◌, length, Result, Ok, Err, refl, sym, ◌∙◌, ap, subst, inl, inr, arith}
use Rattle.std.proofs.Math.Bool.{Bool-set}
use Rattle.std.specs.List.{AllByRecursion}
use Rattle.enum_base.specs.Stages.Then.{goes, stops}
use Rattle.enum_base.proofs.StageLemmas.{IsSingle, IsTotal, IsSingle-is, IsTotal-is, IsSingle-then, IsTotal-then}
use Rattle.dns_name.specs.Name.{IsByte}
use Rattle.dns_name.proofs.FoundLemmas.{Found, name_or_fault}
use Rattle.dns_name.proofs.ReadLemmas.{one_name, one_fault, not_both}
use Rattle.rdata_field.proofs.PlaceLemmas.{by_size}
use Rattle.rdata_field.proofs.NumberLemmas.{IsSingle-u16, IsTotal-u16, IsSingle-u32, IsTotal-u32}
use Rattle.dns_wire.specs.Counts.{are_counted}
use Rattle.dns_wire.specs.Kinds.{belongs}
use Rattle.dns_wire.specs.Forms.{form_of}
use Rattle.dns_wire.specs.Contents.{ContentIn}
use Rattle.dns_wire.specs.DecodeFaults.{of_name, of_rdata}
use Rattle.dns_wire.specs.Message.{U16At, NameRead, QuestionAt, LengthAt, RecordAt, ItemsAt, HeaderNumbers, HeaderAt, MessageIs}
use Rattle.dns_wire.specs.Outcome.{ToldAs}
use Rattle.dns_wire.specs.declared.content.Content.{Content}
use Rattle.dns_wire.specs.declared.form.Form.{Form}
use Rattle.dns_wire.specs.declared.question.Question.{Question}
use Rattle.dns_wire.specs.declared.record.Record.{Record}
use Rattle.dns_wire.specs.declared.message.Header.{Header}
use Rattle.dns_wire.specs.declared.message.Counts.{Counts}
use Rattle.dns_wire.specs.declared.message.Message.{Message}
use Rattle.dns_wire.specs.declared.decode_fault.DecodeFault.{DecodeFault}
use Rattle.dns_wire.specs.declared.decode_fault.DecodeFault.TheVariants.{Short, RdataLength, Trailing}
use Rattle.dns_wire.proofs.ContentLemmas.{IsSingle-content, IsTotal-content}
use Rattle.dns_wire.proofs.MessageLemmas.{are_few}
use Rattle.dns_wire.proofs.RecordLemmas.{form_fits, belongs_of, length_span}
use Rattle.dns_wire.proofs.StepLemmas.{then_value}

-- a told reading
IsSingle-told : {A F : Type 0} (turn : F → DecodeFault) (One : Result A F → Type 0) → IsSingle One → IsSingle (ToldAs turn One)
IsSingle-told {A} {F} turn One one = record { same = same }
  where
    same : (r s : Result A DecodeFault) → ToldAs turn One r → ToldAs turn One s → r ≡ s
    same r s (inl (v, h, is)) (inl (w, k, is')) = let e : v ≡ w = cc (one.same (Ok v) (Ok w) h k) in is ∙ ap Ok e ∙ sym is'
    same r s (inl (v, h, is)) (inr (f, k, is')) = absurd (cc (one.same (Ok v) (Err f) h k))
    same r s (inr (f, h, is)) (inl (v, k, is')) = absurd (cc (one.same (Err f) (Ok v) h k))
    same r s (inr (f, h, is)) (inr (g, k, is')) = let e : f ≡ g = cc (one.same (Err f) (Err g) h k) in is ∙ ap (λ x. Err (turn x)) e ∙ sym is'

IsTotal-told : {A F : Type 0} (turn : F → DecodeFault) (One : Result A F → Type 0) → IsTotal One → IsTotal (ToldAs turn One)
IsTotal-told {A} {F} turn One one = from one.result one.comes
  where
    from : (r : Result A F) → One r → IsTotal (ToldAs turn One)
    from (Ok value) h = record { result = Ok value; comes = inl (value, h, refl) }
    from (Err fault) h = record { result = Err (turn fault); comes = inr (fault, h, refl) }

-- names
IsSingle-name : (message : List ℕ) (at : ℕ) → IsSingle (NameRead message at)
IsSingle-name message at = record { same = same }
  where
    same : (r s : Result (List (List ℕ) × ℕ) DecodeFault) → NameRead message at r → NameRead message at s → r ≡ s
    same r s (inl (one, next, name, is)) (inl (two, next', name', is')) =
        let both = one_name message at one two next next' name name' in
        is ∙ ap (λ (x : List (List ℕ)). Ok (x, next)) both.0 ∙ ap (λ (x : ℕ). Ok (two, x)) both.1 ∙ sym is'
    same r s (inl (one, next, name, is)) (inr (fault, breaks, is')) = absurd (not_both message at one next fault name breaks)
    same r s (inr (fault, breaks, is)) (inl (one, next, name, is')) = absurd (not_both message at one next fault name breaks)
    same r s (inr (fault, breaks, is)) (inr (fault', breaks', is')) =
        is ∙ ap (λ f. Err (of_name f)) (one_fault message at fault fault' breaks breaks') ∙ sym is'

IsTotal-name : (message : List ℕ) (at : ℕ) → AllByRecursion IsByte message → IsTotal (NameRead message at)
IsTotal-name message at all = by_found (name_or_fault message at all)
  where
    by_found : Found message at → IsTotal (NameRead message at)
    by_found (inl (labels, next, name)) = record { result = Ok (labels, next); comes = inl (labels, next, name, refl) }
    by_found (inr (fault, breaks)) = record { result = Err (of_name fault); comes = inr (fault, breaks, refl) }

-- questions
IsSingle-question : (message : List ℕ) (at : ℕ) → IsSingle (QuestionAt message at)
IsSingle-question message at =
    IsSingle-then _ _ (IsSingle-name message at) (λ name.
    IsSingle-then _ _ (IsSingle-u16 Short message (length message) name.1) (λ kind.
    IsSingle-then _ _ (IsSingle-u16 Short message (length message) kind.1) (λ class. IsSingle-is _)))

IsTotal-question : (message : List ℕ) (at : ℕ) → AllByRecursion IsByte message → IsTotal (QuestionAt message at)
IsTotal-question message at all =
    IsTotal-then _ _ (IsTotal-name message at all) (λ name h1.
    IsTotal-then _ _ (IsTotal-u16 Short message (length message) name.1 all (omega arith)) (λ kind h2.
    IsTotal-then _ _ (IsTotal-u16 Short message (length message) kind.1 all (omega arith)) (λ class h3. IsTotal-is _)))

number-within : (message : List ℕ) (at : ℕ) (read : ℕ × ℕ) → U16At message at (Ok read) → read.1 ≤ length message
number-within message at read (inl (value, small, (there, low), is)) =
    let both : ◌≡◌ {A = ℕ × ℕ} read (value, at + 2) = cc in
    let end = ap (λ (x : ℕ × ℕ). x.1) both in
    let room : at + 2 ≤ length message = low in omega arith
number-within message at read (inr (short, is)) = absurd cc

question-within : (message : List ℕ) (at : ℕ) (read : Question × ℕ) → QuestionAt message at (Ok read) → read.1 ≤ length message
question-within message at read h =
    let a = then_value _ _ read h in
    let b = then_value _ _ read a.2 in
    let c = then_value _ _ read b.2 in
    last _ c.0.1 c.2 (number-within message b.0.1 c.0 c.1)
  where
    last : (question : Question) (end : ℕ) → ◌≡◌ {A = Result (Question × ℕ) DecodeFault} (Ok read) (Ok (question, end))
        → end ≤ length message → read.1 ≤ length message
    last question end is low =
        let both : ◌≡◌ {A = Question × ℕ} read (question, end) = cc in
        subst (λ n. n ≤ length message) (sym (ap (λ (x : Question × ℕ). x.1) both)) low

-- the length of RDATA
IsSingle-length : (message : List ℕ) (at : ℕ) → IsSingle (LengthAt message at)
IsSingle-length message at = IsSingle-then _ _ (IsSingle-u16 Short message (length message) at) (λ size. record { same = same size })
  where
    Ends : ℕ × ℕ → Result (ℕ × ℕ) DecodeFault → Type 0
    Ends size all =
        ((size.1 + size.0 ≤ length message) × (all ≡ Ok (size.1 + size.0, size.1)))
        ⊎ ((length message < size.1 + size.0) × (all ≡ Err (RdataLength at)))

    same : (size : ℕ × ℕ) (r s : Result (ℕ × ℕ) DecodeFault) → Ends size r → Ends size s → r ≡ s
    same size r s (inl (room, is)) (inl (room', is')) = is ∙ sym is'
    same size r s (inl (room, is)) (inr (past, is')) = absurd (omega arith)
    same size r s (inr (past, is)) (inl (room, is')) = absurd (omega arith)
    same size r s (inr (past, is)) (inr (past', is')) = is ∙ sym is'

IsTotal-length : (message : List ℕ) (at : ℕ) → AllByRecursion IsByte message → IsTotal (LengthAt message at)
IsTotal-length message at all =
    IsTotal-then _ _ (IsTotal-u16 Short message (length message) at all (omega arith)) (λ size h. by_room size (by_size (size.1 + size.0) (length message)))
  where
    Ends : ℕ × ℕ → Result (ℕ × ℕ) DecodeFault → Type 0
    Ends size all =
        ((size.1 + size.0 ≤ length message) × (all ≡ Ok (size.1 + size.0, size.1)))
        ⊎ ((length message < size.1 + size.0) × (all ≡ Err (RdataLength at)))

    by_room : (size : ℕ × ℕ) → (size.1 + size.0 ≤ length message) ⊎ (length message < size.1 + size.0) → IsTotal (Ends size)
    by_room size (inl room) = record { result = Ok (size.1 + size.0, size.1); comes = inl (room, refl) }
    by_room size (inr past) = record { result = Err (RdataLength at); comes = inr (past, refl) }

-- records
made : (owner : List (List ℕ)) (kind class ttl : ℕ) (what : Content) (to : ℕ) → IsTrue (belongs kind class what) → Result (Record × ℕ) DecodeFault
made owner kind class ttl what to fits = Ok (record { owner = owner; kind = kind; class = class; ttl = ttl; content = what; belongs = fits }, to)

IsSingle-made : (owner : List (List ℕ)) (kind class ttl : ℕ) (what : Content) (to : ℕ)
    → IsSingle (λ (all : Result (Record × ℕ) DecodeFault). (fits : IsTrue (belongs kind class what))
    × (all ≡ Ok (
      record { owner = owner; kind = kind; class = class; ttl = ttl; content = what; belongs = fits },
      to,
    )))
unfolding made
IsSingle-made owner kind class ttl what to = record { same = λ r s h k. h.1 ∙ ap (made owner kind class ttl what to) (Bool-set _ _ h.0 k.0) ∙ sym k.1 }

pub IsSingle-record : (message : List ℕ) (at : ℕ) → IsSingle (RecordAt message at)
IsSingle-record message at =
    IsSingle-then _ _ (IsSingle-name message at) (λ owner.
    IsSingle-then _ _ (IsSingle-u16 Short message (length message) owner.1) (λ kind.
    IsSingle-then _ _ (IsSingle-u16 Short message (length message) kind.1) (λ class.
    IsSingle-then _ _ (IsSingle-u32 Short message (length message) class.1) (λ ttl.
    IsSingle-then _ _ (IsSingle-length message ttl.1) (λ rdata.
    IsSingle-then _ _ (IsSingle-told of_rdata (ContentIn (form_of kind.0 class.0) message rdata.1 rdata.0)
    (IsSingle-content (form_of kind.0 class.0) message rdata.1 rdata.0)) (λ what.
    IsSingle-made owner.0 kind.0 class.0 ttl.0 what rdata.0))))))

told_content : (of : Form) (message : List ℕ) (from to : ℕ) (what : Content)
    → ToldAs of_rdata (ContentIn of message from to) (Ok what) → ContentIn of message from to (Ok what)
told_content of message from to what (inl (own, h, is)) = let same : own ≡ what = cc in subst (λ x. ContentIn of message from to (Ok x)) same h
told_content of message from to what (inr (fault, h, is)) = absurd cc

pub IsTotal-record : (message : List ℕ) (at : ℕ) → AllByRecursion IsByte message → IsTotal (RecordAt message at)
IsTotal-record message at all =
    IsTotal-then _ _ (IsTotal-name message at all) (λ owner h1.
    IsTotal-then _ _ (IsTotal-u16 Short message (length message) owner.1 all (omega arith)) (λ kind h2.
    IsTotal-then _ _ (IsTotal-u16 Short message (length message) kind.1 all (omega arith)) (λ class h3.
    IsTotal-then _ _ (IsTotal-u32 Short message (length message) class.1 all (omega arith)) (λ ttl h4.
    IsTotal-then _ _ (IsTotal-length message ttl.1 all) (λ rdata h5.
    let span = length_span message ttl.1 rdata h5 in
    IsTotal-then _ _ (IsTotal-told of_rdata (ContentIn (form_of kind.0 class.0) message rdata.1 rdata.0)
    (IsTotal-content (form_of kind.0 class.0) message rdata.1 rdata.0 all span.inside span.size)) (λ what h6.
    let fits = belongs_of kind.0 class.0 (form_of kind.0 class.0) message rdata.1 rdata.0 what
    (form_fits kind.0 class.0) span.few (told_content (form_of kind.0 class.0) message rdata.1 rdata.0 what h6) in
    record { result = _; comes = (fits, refl) }))))))

record-within : (message : List ℕ) (at : ℕ) (read : Record × ℕ) → RecordAt message at (Ok read) → read.1 ≤ length message
record-within message at read h =
    let a = then_value _ _ read h in
    let b = then_value _ _ read a.2 in
    let c = then_value _ _ read b.2 in
    let d = then_value _ _ read c.2 in
    let e = then_value _ _ read d.2 in
    let f = then_value _ _ read e.2 in
    last _ e.0.0 f.2.1 (length_span message d.0.1 e.0 e.1).inside
  where
    last : (one : Record) (end : ℕ) → ◌≡◌ {A = Result (Record × ℕ) DecodeFault} (Ok read) (Ok (one, end)) → end ≤ length message → read.1 ≤ length message
    last one end is low =
        let both : ◌≡◌ {A = Record × ℕ} read (one, end) = cc in
        subst (λ n. n ≤ length message) (sym (ap (λ (x : Record × ℕ). x.1) both)) low

-- items
IsSingle-items : {A F : Type 0} (one : ℕ → Result (A × ℕ) F → Type 0) → ((at : ℕ) → IsSingle (one at)) → (n at : ℕ) → IsSingle (ItemsAt one n at)
IsSingle-items one each zero at = IsSingle-is _
IsSingle-items one each (suc n) at = IsSingle-then _ _ (each at) (λ first. IsSingle-then _ _ (IsSingle-items one each n first.1) (λ rest. IsSingle-is _))

IsTotal-items : {A F : Type 0} (one : ℕ → Result (A × ℕ) F → Type 0) → ((at : ℕ) → IsTotal (one at)) → (n at : ℕ) → IsTotal (ItemsAt one n at)
IsTotal-items one each zero at = IsTotal-is _
IsTotal-items one each (suc n) at = IsTotal-then _ _ (each at) (λ first h. IsTotal-then _ _ (IsTotal-items one each n first.1) (λ rest k. IsTotal-is _))

items-within : {A F : Type 0} (one : ℕ → Result (A × ℕ) F → Type 0) (limit : ℕ)
    → ((at : ℕ) (read : A × ℕ) → one at (Ok read) → read.1 ≤ limit) → (n at : ℕ) → at ≤ limit → (read : List A × ℕ)
    → ItemsAt one n at (Ok read) → read.1 ≤ limit
items-within {A} {F} one limit each zero at low read is =
    let both : ◌≡◌ {A = List A × ℕ} read ([], at) = cc in
    subst (λ n. n ≤ limit) (sym (ap (λ (x : List A × ℕ). x.1) both)) low
items-within {A} {F} one limit each (suc n) at low read (goes first h (goes rest k is)) =
    let both : ◌≡◌ {A = List A × ℕ} read (first.0 ∷ rest.0, rest.1) = cc in
    subst (λ n. n ≤ limit) (sym (ap (λ (x : List A × ℕ). x.1) both)) (items-within one limit each n first.1 (each at first h) rest k)
items-within one limit each (suc n) at low read (goes first h (stops fault k is)) = absurd cc
items-within one limit each (suc n) at low read (stops fault h is) = absurd cc

-- headers
IsSingle-six : (message : List ℕ) → IsSingle (HeaderNumbers message)
IsSingle-six message =
    IsSingle-then _ _ (IsSingle-u16 Short message (length message) 0) (λ id.
    IsSingle-then _ _ (IsSingle-u16 Short message (length message) id.1) (λ bits.
    IsSingle-then _ _ (IsSingle-u16 Short message (length message) bits.1) (λ questions.
    IsSingle-then _ _ (IsSingle-u16 Short message (length message) questions.1) (λ answers.
    IsSingle-then _ _ (IsSingle-u16 Short message (length message) answers.1) (λ authority.
    IsSingle-then _ _ (IsSingle-u16 Short message (length message) authority.1) (λ additional. IsSingle-is _))))))

IsTotal-six : (message : List ℕ) → AllByRecursion IsByte message → IsTotal (HeaderNumbers message)
IsTotal-six message all =
    IsTotal-then _ _ (IsTotal-u16 Short message (length message) 0 all (omega arith)) (λ id h1.
    IsTotal-then _ _ (IsTotal-u16 Short message (length message) id.1 all (omega arith)) (λ bits h2.
    IsTotal-then _ _ (IsTotal-u16 Short message (length message) bits.1 all (omega arith)) (λ questions h3.
    IsTotal-then _ _ (IsTotal-u16 Short message (length message) questions.1 all (omega arith)) (λ answers h4.
    IsTotal-then _ _ (IsTotal-u16 Short message (length message) answers.1 all (omega arith)) (λ authority h5.
    IsTotal-then _ _ (IsTotal-u16 Short message (length message) authority.1 all (omega arith)) (λ additional h6. IsTotal-is _))))))

IsSingle-header : (message : List ℕ) → IsSingle (HeaderAt message)
IsSingle-header message = record { same = same }
  where
    same : (r s : Result (Header × Counts) DecodeFault) → HeaderAt message r → HeaderAt message s → r ≡ s
    same r s (inl (room, h)) (inl (room', k)) = (IsSingle-six message).same r s h k
    same r s (inl (room, h)) (inr (short, is)) = absurd (omega arith)
    same r s (inr (short, is)) (inl (room, h)) = absurd (omega arith)
    same r s (inr (short, is)) (inr (short', is')) = is ∙ sym is'

IsTotal-header : (message : List ℕ) → AllByRecursion IsByte message → IsTotal (HeaderAt message)
IsTotal-header message all = by_room (by_size 12 (length message))
  where
    by_room : (12 ≤ length message) ⊎ (length message < 12) → IsTotal (HeaderAt message)
    by_room (inl room) = let six = IsTotal-six message all in record { result = six.result; comes = inl (room, six.comes) }
    by_room (inr short) = record { result = Err (Short 0); comes = inr (short, refl) }

header_room : (message : List ℕ) (read : Header × Counts) → HeaderAt message (Ok read) → 12 ≤ length message
header_room message read (inl (room, h)) = room
header_room message read (inr (short, is)) = absurd cc

-- the end of a message
abbrev Ending : List ℕ → Header → List Question → List Record → List Record → List Record × ℕ → Result Message DecodeFault → Type 0
Ending bytes header questions answers authority additional all =
    ((additional.1 ≡ length bytes)
    × (fits : IsTrue (are_counted questions answers authority additional.0))
    × (all ≡ Ok (record {
      header = header;
      questions = questions;
      answers = answers;
      authority = authority;
      additional = additional.0;
      counted = fits;
    })))
    ⊎ ((additional.1 < length bytes) × (all ≡ Err (Trailing additional.1)))

whole : (header : Header) (questions : List Question) (answers authority additional : List Record)
    → IsTrue (are_counted questions answers authority additional) → Result Message DecodeFault
whole header questions answers authority additional fits =
    Ok (record { header = header; questions = questions; answers = answers; authority = authority; additional = additional; counted = fits })

IsSingle-ending : (bytes : List ℕ) (header : Header) (questions : List Question) (answers authority : List Record) (additional : List Record × ℕ)
    → IsSingle (Ending bytes header questions answers authority additional)
unfolding whole
IsSingle-ending bytes header questions answers authority additional = record { same = same }
  where
    same : (r s : Result Message DecodeFault) → Ending bytes header questions answers authority additional r
        → Ending bytes header questions answers authority additional s → r ≡ s
    same r s (inl (end, fits, is)) (inl (end', fits', is')) =
        is ∙ ap (whole header questions answers authority additional.0) (Bool-set _ _ fits fits') ∙ sym is'
    same r s (inl (end, fits, is)) (inr (more, is')) = absurd (omega arith)
    same r s (inr (more, is)) (inl (end, fits, is')) = absurd (omega arith)
    same r s (inr (more, is)) (inr (more', is')) = is ∙ sym is'

IsTotal-ending : (bytes : List ℕ) (header : Header) (questions : List Question) (answers authority : List Record) (additional : List Record × ℕ)
    → IsTrue (are_counted questions answers authority additional.0) → additional.1 ≤ length bytes
    → IsTotal (Ending bytes header questions answers authority additional)
IsTotal-ending bytes header questions answers authority additional fits low = by_end (by_size (length bytes) additional.1)
  where
    by_end : (length bytes ≤ additional.1) ⊎ (additional.1 < length bytes) → IsTotal (Ending bytes header questions answers authority additional)
    by_end (inl end) = record { result = _; comes = inl (omega arith, fits, refl) }
    by_end (inr more) = record { result = _; comes = inr (more, refl) }

-- messages
pub IsSingle-message : (bytes : List ℕ) → IsSingle (MessageIs bytes)
IsSingle-message bytes =
    IsSingle-then _ _ (IsSingle-header bytes) (λ header.
    IsSingle-then _ _ (IsSingle-items (QuestionAt bytes) (IsSingle-question bytes) header.1.questions 12) (λ questions.
    IsSingle-then _ _ (IsSingle-items (RecordAt bytes) (IsSingle-record bytes) header.1.answers questions.1) (λ answers.
    IsSingle-then _ _ (IsSingle-items (RecordAt bytes) (IsSingle-record bytes) header.1.authority answers.1) (λ authority.
    IsSingle-then _ _ (IsSingle-items (RecordAt bytes) (IsSingle-record bytes) header.1.additional authority.1) (λ additional.
    IsSingle-ending bytes header.0 questions.0 answers.0 authority.0 additional)))))

pub IsTotal-message : (bytes : List ℕ) → AllByRecursion IsByte bytes → IsTotal (MessageIs bytes)
IsTotal-message bytes all =
    IsTotal-then _ _ (IsTotal-header bytes all) (λ header h1.
    IsTotal-then _ _ (IsTotal-items (QuestionAt bytes) (λ at. IsTotal-question bytes at all) header.1.questions 12) (λ questions h2.
    IsTotal-then _ _ (IsTotal-items (RecordAt bytes) (λ at. IsTotal-record bytes at all) header.1.answers questions.1) (λ answers h3.
    IsTotal-then _ _ (IsTotal-items (RecordAt bytes) (λ at. IsTotal-record bytes at all) header.1.authority answers.1) (λ authority h4.
    IsTotal-then _ _ (IsTotal-items (RecordAt bytes) (λ at. IsTotal-record bytes at all) header.1.additional authority.1) (λ additional h5.
    let room = header_room bytes header h1 in
    let low1 = items-within (QuestionAt bytes) (length bytes) (question-within bytes) header.1.questions 12 room questions h2 in
    let low2 = items-within (RecordAt bytes) (length bytes) (record-within bytes) header.1.answers questions.1 low1 answers h3 in
    let low3 = items-within (RecordAt bytes) (length bytes) (record-within bytes) header.1.authority answers.1 low2 authority h4 in
    let low4 = items-within (RecordAt bytes) (length bytes) (record-within bytes) header.1.additional authority.1 low3 additional h5 in
    IsTotal-ending bytes header.0 questions.0 answers.0 authority.0 additional
    (are_few bytes header questions answers authority additional h1 h2 h3 h4 h5) low4)))))
