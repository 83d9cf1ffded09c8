use Rattle.std.proofs.Common.{◌≡◌, ◌≢◌, ◌⊎◌, ◌∙◌, ◌++◌, ◌∷◌, [], length, ap, inl, inr, arith}
use Rattle.dns_name.specs.Text.{dot}
use Rattle.dns_name.proofs.BelowLemmas.{IsWire-name}
use Rattle.dns_name.proofs.TextLemmas.{text_begin, text_room, text_more, text_fits, text_end}
use Rattle.dns_name.proofs.name.Name.text.Goals as goal
use Rattle.dns_name.proofs.name.Name.text.Goals.{then-rest-eq1, else-rest-eq1}

pub loop-rest-init : goal.loop-rest-init
loop-rest-init c =
    let wire = c.wire-rest.result.now in
    let start : ((length wire ≡ 1) × (c.if-rest-eq1.text ≡ dot ∷ [])) ⊎ ((length wire ≢ 1) × (c.if-rest-eq1.text ≡ [])) =
    elim c.if-rest-eq1.branch [
      | then-rest-eq1 w ↦ inl (w.if-rest-eq1.true, w.text-is ∙ w.push.ensures ∙ ap (λ t. t ++ dot ∷ []) c.new-text.ensures)
      | else-rest-eq1 w ↦ inr (w.if-rest-eq1.false, w.text-is ∙ c.new-text.ensures)
    ] in
    record {
      wire = IsWire-name c.args.self.now wire c.wire-rest.ensures.value c.wire-rest.ensures.name;
      bytes = text_begin c.args.self.now wire c.if-rest-eq1.text c.wire-rest.ensures.value c.wire-rest.ensures.name start;
      room = text_room wire c.if-rest-eq1.text (let short = c.wire-rest.ensures.name.short in omega (arith, ap length c.wire-rest.ensures.value)) start;
    }

pub loop-rest-preserved : goal.loop-rest-preserved
loop-rest-preserved c = record {
  wire = c.split_first.ensures.rest;
  bytes = text_more c.loop-rest.text _ _ c.loop-rest.rest.now _ c.split_first.result.1.now c.split_first.ensures.labels
      c.loop-rest.invariant.bytes c.push_label.ensures;
  room = text_fits c.loop-rest.text _ c.split_first.result.0.now _ _ c.loop-rest.invariant.room c.split_first.ensures.sum c.push_label.ensures;
}

pub returns : goal.returns
returns c = text_end c.loop-rest.text _ c.loop-rest.rest.now c.loop-rest.invariant.wire c.loop-rest-test.false c.loop-rest.invariant.bytes
