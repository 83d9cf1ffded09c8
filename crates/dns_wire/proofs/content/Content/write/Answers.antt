use Rattle.std.proofs.Common.{inl, inr}
use Rattle.dns_wire.proofs.EncodeLemmas.{on_ok_all}
use Rattle.dns_wire.proofs.content.Content.write.Goals as goal

pub returns-in-Opt-clause-fits : goal.returns-in-Opt-clause-fits
returns-in-Opt-clause-fits c =
    elim c.in-Opt.is [
      | inl is ↦ rw is (on_ok_all c.append-in-Opt.result (rw c.as_slice-in-Opt.ensures at c.append-in-Opt.ensures.fits))
      | inr is ↦ rw is (on_ok_all c.append-in-Opt.result (rw c.as_slice-in-Opt.ensures at c.append-in-Opt.ensures.fits))
    ]
