use Rattle.std.proofs.Common.{Err}
use Rattle.naptr_rule.specs.Bare.{BareRule}
use Rattle.rdata_field.proofs.FieldLemmas.{comes_iff}
use Rattle.naptr_rule.proofs.RdataLemmas.{IsSingle-bare_rule, rule_iff}
use Rattle.naptr_rule.proofs.rule.Naptr.read.Goals as goal

pub returns-clause-rule : goal.returns-clause-rule
returns-clause-rule c = rule_iff c.args.bytes.now c.read_inner.result c.read_inner.ensures

pub returns-clause-fault : goal.returns-clause-fault
returns-clause-fault c = λ fault.
    comes_iff (BareRule c.args.bytes.now) (IsSingle-bare_rule c.args.bytes.now) c.read_inner.result c.read_inner.ensures (Err fault)
