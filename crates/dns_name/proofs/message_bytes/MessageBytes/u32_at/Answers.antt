use Rattle.std.proofs.Common.{subst}
use Rattle.std.specs.Int.{w32, to_be_bytes}
use Rattle.dns_name.specs.Wire.{StandsAt}
use Rattle.dns_name.proofs.message_bytes.MessageBytes.u32_at.Goals as goal

pub returns : goal.returns
returns c = subst (λ m. StandsAt m c.args.at (to_be_bytes w32 c.u32_of.result)) c.self.view_is c.u32_of.ensures
