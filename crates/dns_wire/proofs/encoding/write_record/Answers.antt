use Rattle.dns_wire.proofs.EncodeLemmas.{front_through}
use Rattle.dns_wire.proofs.encoding.write_record.Goals as goal

pub returns-in_err-append_u16-clause-front : goal.returns-in_err-append_u16-clause-front
returns-in_err-append_u16-clause-front c =
    front_through _ _ _ c.append.ensures.front c.append_u16.ensures.front

pub returns-in_err-append_u16-2-clause-front : goal.returns-in_err-append_u16-2-clause-front
returns-in_err-append_u16-2-clause-front c =
    front_through _ _ _ (front_through _ _ _ c.append.ensures.front c.append_u16.ensures.front) c.append_u16-2.ensures.front

pub returns-in_err-append_u32-clause-front : goal.returns-in_err-append_u32-clause-front
returns-in_err-append_u32-clause-front c =
    front_through _ _ _ (front_through _ _ _
    (front_through _ _ _ c.append.ensures.front c.append_u16.ensures.front) c.append_u16-2.ensures.front)
    c.append_u32.ensures.front

pub returns-in_err-append_u16-3-clause-front : goal.returns-in_err-append_u16-3-clause-front
returns-in_err-append_u16-3-clause-front c =
    front_through _ _ _ (front_through _ _ _
    (front_through _ _ _ (front_through _ _ _ c.append.ensures.front c.append_u16.ensures.front)
    c.append_u16-2.ensures.front) c.append_u32.ensures.front) c.append_u16-3.ensures.front

pub returns-clause-front : goal.returns-clause-front
returns-clause-front c =
    front_through _ _ _ (front_through _ _ _
    (front_through _ _ _ (front_through _ _ _
    (front_through _ _ _ c.append.ensures.front c.append_u16.ensures.front) c.append_u16-2.ensures.front)
    c.append_u32.ensures.front) c.append_u16-3.ensures.front) c.write.ensures.front
