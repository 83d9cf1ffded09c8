use Rattle.std.proofs.Common.{◌∙◌, sym}
use Rattle.zone_token.proofs.TextLemmas.{plain_string}
use Rattle.zone_token.proofs.texts.read_string.Goals as goal

pub returns-else-is_some : goal.returns-else-is_some
returns-else-is_some c =
    plain_string c.args.text.now c.first_place.result c.from_bytes.result c.first_place.ensures.value
    (sym c.is_some.ensures
    ∙ c.if-is_some.false) c.from_bytes.ensures.some c.from_bytes.ensures.none.0 c.from_bytes.ensures.none.1
