use Rattle.std.proofs.Common.{inl, refl}
use Rattle.wire_source.proofs.ReadingLemmas.{read_ok}
use Rattle.wire_source.proofs.reading.read_reply.Goals as goal

pub returns-in-Ok-clause-read : goal.returns-in-Ok-clause-read
returns-in-Ok-clause-read c =
    read_ok c.args.id c.args.name.now c.args.way c.args.reply.now c.in-Ok.message c.read_message.result (c.in-Ok.ensures.message c.in-Ok.message refl)
    c.read_message.ensures.read

pub returns-else-is_memory-clause-read : goal.returns-else-is_memory-clause-read
returns-else-is_memory-clause-read c =
    inl (c.in-Err.fault, c.in-Err.ensures.fault c.in-Err.fault refl (λ m. absurd (cc (c.if-is_memory.ensures.1 m))), refl)
