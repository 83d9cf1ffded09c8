use Rattle.std.proofs.Common.{◌∙◌, ◌+◌, length, arith}
use Rattle.service_field.proofs.TagLemmas.{fault_first, kept, no_fault_last, no_fault_first}
use Rattle.service_field.proofs.form.Form.fault.Goals as goal

pub returns-in-Some : goal.returns-in-Some
returns-in-Some c =
    fault_first c.args.self c.loop-fault.at c.part_len.result c.loop-fault.rest.now _ c.in-Some.fault
    c.part_len.ensures.value c.split_at.ensures.front c.in-Some.ensures
    ∙ c.loop-fault.invariant.1

pub returns-in_default-more : goal.returns-in_default-more
returns-in_default-more c =
    no_fault_last c.args.self c.loop-fault.at c.part_len.result c.loop-fault.rest.now _ _ c.part_len.ensures.value
    c.part_len.ensures.within c.split_at.ensures.front c.split_at.ensures.back_len c.in_default-more.len_below
    c.in_default.ensures
    ∙ c.loop-fault.invariant.1

pub loop-fault-preserved : goal.loop-fault-preserved
loop-fault-preserved c = (
  kept c.loop-fault.at (length c.split_at.result.0.now) c.split_at.result.1.now (length c.loop-fault.rest.now)
      (c.args.at + length c.args.text.now) (omega arith) c.in-len1-up.len_at_least c.loop-fault.invariant.0,
  no_fault_first c.args.self c.loop-fault.at c.part_len.result c.loop-fault.rest.now _ _ c.part_len.ensures.value
      c.split_at.ensures.front c.split_at.ensures.back c.split_at.ensures.front_len c.split_at.ensures.back_len
      c.in-len1-up.len_at_least c.in_default.ensures
      ∙ c.loop-fault.invariant.1,
)
