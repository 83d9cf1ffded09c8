use Rattle.enum_top.proofs.laws.some_verdict.Goals as goal

pub returns : goal.returns
returns c = λ told words asked. (c.sound_work.ensures words asked).total told
