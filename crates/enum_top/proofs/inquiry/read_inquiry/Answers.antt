use Rattle.request_words.specs.Words.{cells}
use Rattle.enum_top.proofs.inquiry.read_inquiry.Goals as goal

pub returns-in-Enum : goal.returns-in-Enum
returns-in-Enum c = rw (c.in-Enum.is, ← c.as_slice.ensures.value) c.ask_number.ensures

pub returns-in-Snaptr : goal.returns-in-Snaptr
returns-in-Snaptr c = rw c.in-Snaptr.is (c.ask_domain.ensures (cells c.args.asked.now.apexes))

pub returns-in-Unaptr : goal.returns-in-Unaptr
returns-in-Unaptr c = rw c.in-Unaptr.is (c.ask_domain-in-Unaptr.ensures (cells c.args.asked.now.apexes))
