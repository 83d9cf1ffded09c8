use Rattle.enum_top.proofs.commands.resolve.walk_as.Goals as goal

pub returns : goal.returns
returns g c = rw (← c.as_slice.ensures.domains) (record {
  answer = c.walk.ensures.answer;
  asked = c.walk.ensures.all;
  most = c.walk.ensures.most;
  past = c.walk.ensures.past;
  trouble = c.walk.ensures.trouble;
})
