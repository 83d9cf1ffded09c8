use Rattle.std.proofs.Common.{◌∙◌}
use Rattle.enum_top.proofs.InquiryLemmas.{listed}
use Rattle.enum_top.proofs.inquiry.read_list.Goals as goal

pub returns-in-Enum : goal.returns-in-Enum
returns-in-Enum c = rw c.in-Enum.is (c.wanted_or_cause.ensures ∙ listed _ _ _ c.want_enum.ensures.fault c.want_enum.ensures.list)

pub returns-in-Snaptr : goal.returns-in-Snaptr
returns-in-Snaptr c = rw c.in-Snaptr.is (c.wanted_or_cause-in-Snaptr.ensures ∙ listed _ _ _ c.want_snaptr.ensures.fault c.want_snaptr.ensures.list)

pub returns-in-Unaptr : goal.returns-in-Unaptr
returns-in-Unaptr c =
    rw c.in-Unaptr.is (c.wanted_or_cause-in-Unaptr.ensures ∙ listed _ _ _ c.want_snaptr-in-Unaptr.ensures.fault c.want_snaptr-in-Unaptr.ensures.list)
