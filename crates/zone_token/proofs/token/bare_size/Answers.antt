use Rattle.zone_token.proofs.RunLemmas.{bare-begins, left-size}
use Rattle.zone_token.proofs.token.bare_size.Goals as goal

pub loop-rest-init : goal.loop-rest-init
loop-rest-init c = record {
  same = bare-begins c.plain_size-size.result c.args.text.now c.plain_size-size.ensures.value c.plain_size-size.ensures.within;
  within = left-size c.plain_size-size.result c.args.text.now c.plain_size-size.ensures.within;
}
