use Rattle.std.proofs.Common.{rules, ◌∙◌, sym}
use Rattle.zone_token.proofs.TextLemmas.{loop_goes_on, loop_breaks, loop_is_full, loop_ends, room}
use Rattle.zone_token.proofs.texts.read_escaped.Goals as goal

pub returns-in_err-byte : goal.returns-in_err-byte
returns-in_err-byte c = rw c.from_residual.ensures
    (sym (loop_breaks _ _ _ c.loop-rest.invariant.same (search rules)
    (sym c.first_byte.ensures.value ∙ c.in_err-byte.was)))

pub returns-then-is_full : goal.returns-then-is_full
returns-then-is_full c =
    sym (loop_is_full _ _ _ _ _ c.loop-rest.invariant.same (search rules)
    (sym c.first_byte.ensures.value ∙ c.in_ok-byte.was) (c.is_full.ensures.0 c.if-is_full.true))

pub loop-rest-preserved : goal.loop-rest-preserved
loop-rest-preserved c = record {
  same = loop_goes_on _ _ _ _ _ _ _ c.loop-rest.invariant.same (search rules)
      (sym c.first_byte.ensures.value ∙ c.in_ok-byte.was) c.push.ensures c.rest_after-rest.ensures;
  most = room c.loop-rest.bytes c.push.new.self _ c.loop-rest.invariant.most c.is_full.ensures.1 c.if-is_full.false c.push.ensures;
}

pub returns : goal.returns
returns c = loop_ends _ _ _ _ _ c.loop-rest.invariant.same
    (search rules) c.as_slice.ensures.value c.as_slice.ensures.most c.from_bytes.ensures.some
    c.from_bytes.ensures.none.0
