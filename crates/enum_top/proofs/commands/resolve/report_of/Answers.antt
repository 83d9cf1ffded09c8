use Rattle.enum_top.proofs.commands.resolve.report_of.Goals as goal

pub returns-in-Enum : goal.returns-in-Enum
returns-in-Enum g c = rw c.in-Enum.is c.walk_as.ensures

pub returns-in-Snaptr : goal.returns-in-Snaptr
returns-in-Snaptr g c = rw c.in-Snaptr.is c.walk_as-in-Snaptr.ensures

pub returns-in-Unaptr : goal.returns-in-Unaptr
returns-in-Unaptr g c = rw c.in-Unaptr.is c.walk_as-in-Unaptr.ensures
