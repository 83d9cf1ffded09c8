use Rattle.ddds_walk.proofs.SoundLemmas.{is_placed, one_longer, moved_back}
use Rattle.ddds_walk.proofs.walker.Walker.back.Goals as goal

pub derivation-requires : goal.derivation-requires
derivation-requires c = record { placed = is_placed c.args.limit c.args.self.now c.requires.sound }

pub invariant_of-result : goal.invariant_of-result
invariant_of-result c = record {
  longer = one_longer c.args.limit c.args.self.now c.requires.sound c.args.next.now c.in_ok-place.field-0 c.in_ok-domains.domains
      c.in_ok-place.ensures c.in_ok-domains.ensures;
}

pub returns : goal.returns
returns c = record {
  moved = moved_back c.args.limit c.args.self.now c.requires.sound c.args.next.now _ c.requires.here c.in_ok-place.ensures c.in_ok-domains.ensures
      c.requires.on;
}
