use Rattle.std.proofs.Common.{arith}
use Rattle.dns_wire.proofs.FrameLemmas.{HasGiven-held}
use Rattle.dns_wire.proofs.framer.Framer.next.Goals as goal

pub invariant_of-self : goal.invariant_of-self
invariant_of-self c =
    (HasGiven-held c.self.inside.stream c.as_slice.result.now c.self.inside.place c.in_ok-size.size c.as_slice.ensures
    c.self.invariant c.in_ok-size.ensures.front c.in_ok-size.ensures.within).whole

pub returns-clause-message : goal.returns-clause-message
returns-clause-message c =
    rw (← c.self.view_is)
    ((HasGiven-held c.self.inside.stream c.as_slice.result.now c.self.inside.place c.in_ok-size.size
    c.as_slice.ensures c.self.invariant c.in_ok-size.ensures.front c.in_ok-size.ensures.within).message)

pub returns-clause-within : goal.returns-clause-within
returns-clause-within c = (
  omega arith,
  (HasGiven-held c.self.inside.stream c.as_slice.result.now c.self.inside.place c.in_ok-size.size c.as_slice.ensures
      c.self.invariant c.in_ok-size.ensures.front c.in_ok-size.ensures.within).within,
)
