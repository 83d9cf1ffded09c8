use Rattle.std.specs.Int.{w16, to_be_bytes}
use Rattle.dns_wire.proofs.EncodeLemmas.{front_through, on_ok, six_parts}
use Rattle.dns_wire.proofs.encoding.write_header.Goals as goal

pub returns-in_err-append_u16-2-clause-front : goal.returns-in_err-append_u16-2-clause-front
returns-in_err-append_u16-2-clause-front c =
    front_through _ _ _ c.append_u16.ensures.front c.append_u16-2.ensures.front

pub returns-in_err-append_u16-3-clause-front : goal.returns-in_err-append_u16-3-clause-front
returns-in_err-append_u16-3-clause-front c =
    front_through _ _ _ (front_through _ _ _ c.append_u16.ensures.front c.append_u16-2.ensures.front) c.append_u16-3.ensures.front

pub returns-in_err-append_u16-4-clause-front : goal.returns-in_err-append_u16-4-clause-front
returns-in_err-append_u16-4-clause-front c =
    front_through _ _ _ (front_through _ _ _
    (front_through _ _ _ c.append_u16.ensures.front c.append_u16-2.ensures.front) c.append_u16-3.ensures.front)
    c.append_u16-4.ensures.front

pub returns-in_err-append_u16-5-clause-front : goal.returns-in_err-append_u16-5-clause-front
returns-in_err-append_u16-5-clause-front c =
    front_through _ _ _ (front_through _ _ _
    (front_through _ _ _ (front_through _ _ _ c.append_u16.ensures.front c.append_u16-2.ensures.front)
    c.append_u16-3.ensures.front) c.append_u16-4.ensures.front) c.append_u16-5.ensures.front

pub returns-clause-front : goal.returns-clause-front
returns-clause-front c =
    front_through _ _ _ (front_through _ _ _
    (front_through _ _ _ (front_through _ _ _
    (front_through _ _ _ c.append_u16.ensures.front c.append_u16-2.ensures.front) c.append_u16-3.ensures.front)
    c.append_u16-4.ensures.front) c.append_u16-5.ensures.front) c.append_u16-6.ensures.front

pub returns-clause-ok : goal.returns-clause-ok
returns-clause-ok c =
    let header = c.args.header.now in
    let counts = c.args.counts.now in
    on_ok c.append_u16-6.result
    (six_parts c.args.out.now (to_be_bytes w16 header.id) (to_be_bytes w16 header.bits)
    (to_be_bytes w16 counts.questions) (to_be_bytes w16 counts.answers) (to_be_bytes w16 counts.authority)
    (to_be_bytes w16 counts.additional) c.append_u16.new.out c.append_u16-2.new.out c.append_u16-3.new.out
    c.append_u16-4.new.out c.append_u16-5.new.out c.append_u16-6.new.out c.in_ok-append_u16.ensures.ok
    c.in_ok-append_u16-2.ensures.ok c.in_ok-append_u16-3.ensures.ok c.in_ok-append_u16-4.ensures.ok
    c.in_ok-append_u16-5.ensures.ok) c.append_u16-6.ensures.ok
