use Rattle.enum_top.proofs.cause.Cause.tell.Goals as goal

pub returns-in-Number : goal.returns-in-Number
returns-in-Number g c = rw (c.in-Number.is, ← c.words.ensures) c.tell_fault.ensures

pub returns-in-Domain : goal.returns-in-Domain
returns-in-Domain g c = rw (c.in-Domain.is, ← c.words-in-Domain.ensures) c.tell_fault-in-Domain.ensures

pub returns-in-Want : goal.returns-in-Want
returns-in-Want g c = rw (c.in-Want.is, ← c.words-in-Want.ensures) c.tell_fault-in-Want.ensures

pub returns-in-Apex : goal.returns-in-Apex
returns-in-Apex g c = rw (c.in-Apex.is, ← c.words-in-Apex.ensures) c.tell_fault-in-Apex.ensures

pub returns-in-Key : goal.returns-in-Key
returns-in-Key g c = rw c.in-Key.is c.write_whole.ensures.takes

pub returns-in-Absent : goal.returns-in-Absent
returns-in-Absent g c = rw (c.in-Absent.is, ← c.text_at.ensures, ← c.as_bytes.ensures.value) c.write_three.ensures.takes

pub returns-in-Text : goal.returns-in-Text
returns-in-Text g c = rw (c.in-Text.is, ← c.words-in-Text.ensures) c.tell_file.ensures

pub returns-in-Zone : goal.returns-in-Zone
returns-in-Zone g c = rw (c.in-Zone.is, ← c.words-in-Zone.ensures) c.tell_file-in-Zone.ensures

pub returns-in-Set : goal.returns-in-Set
returns-in-Set g c = rw (c.in-Set.is, ← c.words-in-Set.ensures) c.tell_file-in-Set.ensures

pub returns-in-InputTooLarge : goal.returns-in-InputTooLarge
returns-in-InputTooLarge g c = rw c.in-InputTooLarge.is c.write_whole-in-InputTooLarge.ensures.takes

pub returns-in-Hex : goal.returns-in-Hex
returns-in-Hex g c = rw c.in-Hex.is c.write_whole-in-Hex.ensures.takes

pub returns-in-Message : goal.returns-in-Message
returns-in-Message g c = rw (c.in-Message.is, ← c.words-in-Message.ensures) c.tell_fault-in-Message.ensures
