use Rattle.std.proofs.Common.{◌∙◌}
use Rattle.enum_app.proofs.KeyLemmas.{apex_read}
use Rattle.enum_app.proofs.number.default_apex.Goals as goal

pub unreachable-requires : goal.unreachable-requires
unreachable-requires c = absurd (cc (c.in-Err.ensures.value ∙ apex_read))

pub returns : goal.returns
returns c = cc (c.in-Ok.ensures.value ∙ apex_read)
