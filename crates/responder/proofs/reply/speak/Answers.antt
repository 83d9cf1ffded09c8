use Rattle.std.proofs.Common.{◌≢◌, refl}
use Rattle.dns_wire.specs.declared.decode_fault.DecodeFault.TheVariants.{Memory}
use Rattle.responder.proofs.SendLemmas.{speaks_broken}
use Rattle.responder.proofs.reply.speak.Goals as goal

pub speak_to-requires-clause-spells : goal.speak_to-requires-clause-spells
speak_to-requires-clause-spells c = c.in-Ok.ensures.message c.in-Ok.message refl

pub returns-else-is_memory-clause-ok : goal.returns-else-is_memory-clause-ok
returns-else-is_memory-clause-ok c =
    let fault = c.in-Err.fault in
    let not : fault ≢ Memory = λ is. absurd (cc (c.if-is_memory.ensures.1 is)) in
    speaks_broken c.args.zones.now c.args.query.now c.args.way fault c.args.out.now c.speak_to_bytes.new.out c.speak_to_bytes.result
    (c.in-Err.ensures.fault fault refl not) c.speak_to_bytes.ensures.ok
