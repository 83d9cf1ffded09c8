use Rattle.enum_top.proofs.laws.early_verdict.Goals as goal

pub returns : goal.returns
returns c = λ told words asked cause broken. (c.sound_work.ensures words asked).early told cause broken
