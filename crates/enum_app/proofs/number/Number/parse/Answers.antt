use Rattle.enum_app.proofs.NumberFaultsLemmas.{each_fault, each_number}
use Rattle.enum_app.proofs.number.Number.parse.Goals as goal

pub returns-clause-each_number : goal.returns-clause-each_number
returns-clause-each_number c = each_number c.args.text.now c.parse_inner.result c.parse_inner.ensures.digits c.parse_inner.ensures.fault

pub returns-clause-each_fault : goal.returns-clause-each_fault
returns-clause-each_fault c = each_fault c.args.text.now c.parse_inner.result c.parse_inner.ensures.number c.parse_inner.ensures.fault
