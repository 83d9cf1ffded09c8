use Rattle.registry.proofs.RefusalLemmas.{alias_clash}
use Rattle.registry.proofs.registry.Registry.set_alias_fault.Goals as goal

pub returns-then-has_record : goal.returns-then-has_record
returns-then-has_record c =
    alias_clash c.args.owner.now c.args.target.now c.args.self.now (λ h. absurd (cc (c.if-is_outside.false, c.is_outside.ensures.1 h)))
    (λ h. absurd (cc (c.if-has_kind.false, c.has_kind.ensures.1 h)))
    (c.has_record.ensures.0 c.if-has_record.true)
