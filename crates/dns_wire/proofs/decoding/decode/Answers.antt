use Rattle.std.proofs.Common.{Ok, Err}
use Rattle.dns_wire.proofs.LawLemmas.{read_message, read_fault, read_as}
use Rattle.dns_wire.proofs.decoding.decode.Goals as goal

pub returns-clause-message : goal.returns-clause-message
returns-clause-message c = read_message c.args.bytes.now c.decode_inner.result c.decode_inner.ensures

pub returns-clause-fault : goal.returns-clause-fault
returns-clause-fault c = read_fault c.args.bytes.now c.decode_inner.result c.decode_inner.ensures

pub returns-clause-spelt : goal.returns-clause-spelt
returns-clause-spelt c = λ message. read_as c.args.bytes.now c.decode_inner.result (Ok message) c.decode_inner.ensures

pub returns-clause-broken : goal.returns-clause-broken
returns-clause-broken c = λ fault. read_as c.args.bytes.now c.decode_inner.result (Err fault) c.decode_inner.ensures
