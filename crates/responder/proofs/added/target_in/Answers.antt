use Rattle.std.proofs.Common.{ap, ◌∙◌}
use Rattle.dns_wire.specs.declared.record.Record.{Record}
use Rattle.responder.proofs.ReadyLemmas.{alias_target}
use Rattle.responder.proofs.added.target_in.Goals as goal

pub returns-in-Cname : goal.returns-in-Cname
returns-in-Cname c =
    alias_target c.args.set.now c.index-set-0.result c.requires.0 c.in-Cname.target c.requires.1 c.index-set-0.is
    (ap (λ (one : Record). one.content) c.index-set-0.is ∙ c.in-Cname.is)
