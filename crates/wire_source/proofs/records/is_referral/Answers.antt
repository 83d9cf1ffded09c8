use Rattle.std.proofs.Common.{refl}
use Rattle.wire_source.proofs.ReferLemmas.{refers, refers_not}
use Rattle.wire_source.proofs.records.is_referral.Goals as goal

pub returns-then-has_server : goal.returns-then-has_server
returns-then-has_server c = refers c.args.authority.now c.has_soa.result (c.if-has_server.ensures.0 refl) c.has_soa.ensures

pub returns-else-has_server : goal.returns-else-has_server
returns-else-has_server c = refers_not c.args.authority.now c.has_server.result c.if-has_server.false c.has_server.ensures
