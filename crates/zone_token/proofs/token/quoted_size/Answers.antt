use Rattle.zone_token.proofs.RunLemmas.{quoted-begins, left-size}
use Rattle.zone_token.proofs.token.quoted_size.Goals as goal

pub loop-rest-init : goal.loop-rest-init
loop-rest-init c = record {
  same = quoted-begins c.plain_quoted_size-size.result c.args.text.now c.plain_quoted_size-size.ensures.value c.plain_quoted_size-size.ensures.within;
  within = left-size c.plain_quoted_size-size.result c.args.text.now c.plain_quoted_size-size.ensures.within;
}
