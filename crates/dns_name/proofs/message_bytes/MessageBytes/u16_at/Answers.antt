use Rattle.std.proofs.Common.{subst}
use Rattle.std.specs.Int.{w16, to_be_bytes}
use Rattle.dns_name.specs.Wire.{StandsAt}
use Rattle.dns_name.proofs.message_bytes.MessageBytes.u16_at.Goals as goal

pub returns : goal.returns
returns c = subst (λ m. StandsAt m c.args.at (to_be_bytes w16 c.u16_of.result)) c.self.view_is c.u16_of.ensures
