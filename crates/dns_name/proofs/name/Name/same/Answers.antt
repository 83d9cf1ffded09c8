use Rattle.dns_name.proofs.BelowLemmas.{AreSame-iff}
use Rattle.dns_name.proofs.name.Name.same.Goals as goal

pub returns : goal.returns
returns c =
    AreSame-iff c.args.self.now c.args.other.now _ _ _ c.wire.ensures.name c.wire-2.ensures.name c.wire.ensures.value
    c.wire-2.ensures.value c.same_folded.ensures
