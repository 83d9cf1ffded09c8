use Rattle.registry.specs.declared.fault.RegistryFault.TheVariants as fault
use Rattle.registry.proofs.RefusalLemmas.{inside_of}
use Rattle.registry.proofs.registry.Registry.set_alias.Goals as goal

pub put_alias-requires-clause-inside : goal.put_alias-requires-clause-inside
put_alias-requires-clause-inside c = inside_of c.args.self.now c.args.owner.now (c.in_default.ensures fault.OutsideZone)

pub put_alias-requires-clause-new : goal.put_alias-requires-clause-new
put_alias-requires-clause-new c = c.in_default.ensures fault.AliasClash
