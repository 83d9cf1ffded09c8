use Rattle.std.proofs.Common.{Err, ap, inl, inr}
use Rattle.registry.specs.Commands.{add}
use Rattle.registry.specs.declared.fault.RegistryFault.TheVariants as fault
use Rattle.registry.proofs.RefusalLemmas.{inside_of}
use Rattle.registry.proofs.registry.Registry.add.Goals as goal

pub put_rule-requires-clause-inside : goal.put_rule-requires-clause-inside
put_rule-requires-clause-inside g c = inside_of c.args.self.now c.args.owner.now (c.in_default.ensures fault.OutsideZone)

pub put_rule-requires-clause-new : goal.put_rule-requires-clause-new
put_rule-requires-clause-new g c = c.in_default.ensures fault.Duplicate

pub put_rule-requires-clause-unaliased : goal.put_rule-requires-clause-unaliased
put_rule-requires-clause-unaliased g c = c.in_default.ensures fault.AliasClash

pub put_rule-requires-clause-room : goal.put_rule-requires-clause-room
put_rule-requires-clause-room g c = c.in_default.ensures fault.SetTooLarge

pub returns-in-Some-clause-refuses : goal.returns-in-Some-clause-refuses
returns-in-Some-clause-refuses g c = λ f h. elim c.in-Some.ensures [
  | inl memory ↦ inr (ap (λ e. Err e) memory)
  | inr refusal ↦ inl (ap (λ e. Err e)
      (c.one_refusal.ensures (add (g.P.DddsApp.meaning c.args.app.now) c.args.owner.now c.args.rule.now) c.args.self.now c.in-Some.fault f refusal h))
]
