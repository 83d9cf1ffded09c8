use Rattle.std.specs.List.{flat_map}
use Rattle.dns_wire.specs.Encoding.{header_wire, counts_of, question_wire, record_wire}
use Rattle.dns_wire.proofs.EncodeLemmas.{front_through, on_ok, five_parts}
use Rattle.dns_wire.proofs.encoding.write_message.Goals as goal

pub returns-in_err-write_questions-clause-front : goal.returns-in_err-write_questions-clause-front
returns-in_err-write_questions-clause-front c =
    front_through _ _ _ c.write_header.ensures.front c.write_questions.ensures.front

pub returns-in_err-write_records-clause-front : goal.returns-in_err-write_records-clause-front
returns-in_err-write_records-clause-front c =
    front_through _ _ _ (front_through _ _ _ c.write_header.ensures.front c.write_questions.ensures.front) c.write_records.ensures.front

pub returns-in_err-write_records-2-clause-front : goal.returns-in_err-write_records-2-clause-front
returns-in_err-write_records-2-clause-front c =
    front_through _ _ _ (front_through _ _ _
    (front_through _ _ _ c.write_header.ensures.front c.write_questions.ensures.front)
    c.write_records.ensures.front) c.write_records-2.ensures.front

pub returns-clause-front : goal.returns-clause-front
returns-clause-front c =
    front_through _ _ _ (front_through _ _ _
    (front_through _ _ _ (front_through _ _ _ c.write_header.ensures.front c.write_questions.ensures.front)
    c.write_records.ensures.front) c.write_records-2.ensures.front) c.write_records-3.ensures.front

pub returns-clause-ok : goal.returns-clause-ok
returns-clause-ok c =
    let message = c.args.message.now in
    on_ok c.write_records-3.result
    (five_parts c.args.out.now (header_wire message.header (counts_of message))
    (flat_map question_wire message.questions) (flat_map record_wire message.answers)
    (flat_map record_wire message.authority)
    (flat_map record_wire message.additional) c.write_header.new.out c.write_questions.new.out
    c.write_records.new.out c.write_records-2.new.out c.write_records-3.new.out
    (rw c.counts-counts.ensures at c.in_ok-write_header.ensures.ok)
    (rw c.as_slice.ensures at c.in_ok-write_questions.ensures.ok)
    (rw c.as_slice-2.ensures at c.in_ok-write_records.ensures.ok)
    (rw c.as_slice-3.ensures at c.in_ok-write_records-2.ensures.ok))
    (rw c.as_slice-4.ensures at c.write_records-3.ensures.ok)
