use Rattle.enum_top.proofs.laws.one_verdict.Goals as goal

pub returns : goal.returns
returns c = λ told words asked one other seen comes comes'. (c.sound_work.ensures words asked).single told one other seen comes comes'
