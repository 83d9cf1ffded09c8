use Rattle.rule_check.proofs.SomeFaultLemmas.{rule_or_fault}
use Rattle.rule_check.proofs.laws.rule_or_fault.Goals as goal

pub returns : goal.returns
returns c =
    rule_or_fault c.one_split.ensures c.split_has_pieces.ensures c.output_or_none.ensures.formed c.one_reading.ensures.no_fault
