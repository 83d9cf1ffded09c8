use Rattle.enum_top.proofs.why.Why.tell.Goals as goal

pub returns-in-Usage : goal.returns-in-Usage
returns-in-Usage g c = rw c.in-Usage.is c.write_whole.ensures.takes

pub returns-in-Memory : goal.returns-in-Memory
returns-in-Memory g c = rw c.in-Memory.is c.write_whole-in-Memory.ensures.takes
