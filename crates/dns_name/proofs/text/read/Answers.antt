use Rattle.std.proofs.Common.{◌≡◌, ◌<◌, ◌∙◌, ◌∷◌, [], length, drop, Some, ap, sym, true, false, Ok, bytes_eq, ◌+◌, ◌-◌, arith, length-append}
use Rattle.std.proofs.lemmas.List.{length-take, length-drop}
use Rattle.dns_name.specs.Reading.{pieces, reading_from, while_fits, with_label}
use Rattle.dns_name.specs.declared.piece.Piece.TheVariants.{Dot, Byte, Broken}
use Rattle.dns_name.proofs.TextLemmas.{read-broken, read-empty, read-dot, read-full, read-byte, read-last, read-none}
use Rattle.dns_name.proofs.TextLemmas.{read-whole, reading_of-root, from_start, piece_met, some_unless, unless_true}
use Rattle.dns_name.proofs.text.read.Goals as goal

pub returns-then-eq : goal.returns-then-eq
returns-then-eq c =
    let text = c.args.text.now in
    let is = sym c.if-eq.true ∙ c.eq.ensures ∙ ap (bytes_eq text) c.as_slice.ensures in
    ap (λ labels. Ok (Some labels, true)) c.requires ∙ sym (reading_of-root text (sym is))

pub loop-at-init : goal.loop-at-init
loop-at-init c =
    let text = c.args.text.now in
    record {
      same =
          ap (λ l. reading_from (Some l) 0 c.new-label.result 0 (pieces text)) c.requires
          ∙ ap (λ l. reading_from (Some []) 0 l 0 (pieces text)) c.new-label.ensures;
      within = omega arith;
      most = omega (arith, ap length c.new-label.ensures);
    }

pub returns-in-Broken : goal.returns-in-Broken
returns-in-Broken c =
    let text = c.args.text.now in
    sym (read-broken (while_fits c.loop-at.fits c.loop-at.name) c.loop-at.start c.loop-at.label c.loop-at.at text
    c.loop-at-test.true (piece_met text c.loop-at.at _ Broken c.loop-at-test.true c.first.ensures.value c.in-Broken.is))
    ∙ c.loop-at.invariant.same ∙ sym (from_start text _ _ c.eq.ensures c.as_slice.ensures c.if-eq.false)

pub returns-in-Dot : goal.returns-in-Dot
returns-in-Dot c =
    let text = c.args.text.now in
    sym (read-empty (while_fits c.loop-at.fits c.loop-at.name) c.loop-at.start c.loop-at.label c.loop-at.at text
    c.loop-at-test.true (piece_met text c.loop-at.at _ Dot c.loop-at-test.true c.first.ensures.value c.in-Dot.is)
    (c.is_empty.ensures.0 c.if-is_empty.true))
    ∙ c.loop-at.invariant.same ∙ sym (from_start text _ _ c.eq.ensures c.as_slice.ensures c.if-eq.false)

pub loop-at-preserved-in-Dot-2 : goal.loop-at-preserved-in-Dot-2
loop-at-preserved-in-Dot-2 c =
    let text = c.args.text.now in
    let some : 0 < length c.loop-at.label = some_unless c.loop-at.label _ c.is_empty.ensures.1 c.if-is_empty.false in
    let below = c.loop-at-test.true in
    record {
      same =
          ap (λ l. reading_from l (c.loop-at.at + 1) c.new-label-in-Dot-2.result (c.loop-at.at + 1)
          (pieces (drop (c.loop-at.at + 1) text))) c.extended-fits.ensures
          ∙ ap (λ l. reading_from (with_label (while_fits c.loop-at.fits c.loop-at.name) c.loop-at.label)
          (c.loop-at.at + 1) l (c.loop-at.at + 1)
          (pieces (drop (c.loop-at.at + 1) text))) c.new-label-in-Dot-2.ensures
          ∙ sym (read-dot (while_fits c.loop-at.fits c.loop-at.name) c.loop-at.start c.loop-at.label c.loop-at.at text
          c.loop-at-test.true (piece_met text c.loop-at.at _ Dot c.loop-at-test.true c.first.ensures.value c.in-Dot.is) some)
          ∙ c.loop-at.invariant.same;
      within = omega arith;
      most = omega (arith, ap length c.new-label-in-Dot-2.ensures);
    }

pub returns-in-Byte : goal.returns-in-Byte
returns-in-Byte c =
    let text = c.args.text.now in
    sym (read-full (while_fits c.loop-at.fits c.loop-at.name) c.loop-at.start c.loop-at.label c.loop-at.at text
    c.in-Byte.field-0 c.in-Byte.field-1 c.loop-at-test.true
    (piece_met text c.loop-at.at _ (Byte c.in-Byte.field-0 c.in-Byte.field-1) c.loop-at-test.true c.first.ensures.value c.in-Byte.is)
    (c.is_full.ensures.0 c.if-is_full.true))
    ∙ c.loop-at.invariant.same ∙ sym (from_start text _ _ c.eq.ensures c.as_slice.ensures c.if-eq.false)

pub loop-at-preserved : goal.loop-at-preserved
loop-at-preserved c =
    let text = c.args.text.now in
    let room : length c.loop-at.label ≡ 63 → ⊥ = unless_true _ c.is_full.ensures.1 c.if-is_full.false in
    let most = c.loop-at.invariant.most in
    let place = c.loop-at.at + (c.in-Byte.field-1 + 1) in
    record {
      same =
          ap (λ l. reading_from (while_fits c.loop-at.fits c.loop-at.name) c.loop-at.start l place (pieces (drop place text))) c.push.ensures
          ∙ sym (read-byte (while_fits c.loop-at.fits c.loop-at.name) c.loop-at.start c.loop-at.label c.loop-at.at text
          c.in-Byte.field-0 c.in-Byte.field-1 c.loop-at-test.true
          (piece_met text c.loop-at.at _
          (Byte c.in-Byte.field-0 c.in-Byte.field-1) c.loop-at-test.true c.first.ensures.value c.in-Byte.is) room)
          ∙ c.loop-at.invariant.same;
      within = omega (arith, c.in-Byte.ensures.within, length-take (length text - (c.loop-at.at + 1)) (drop (c.loop-at.at + 1) text), length-drop (c.loop-at.at + 1) text);
      most = omega (arith, ap length c.push.ensures, length-append c.loop-at.label (c.in-Byte.field-0 ∷ []));
    }

pub returns-then-not-is_empty : goal.returns-then-not-is_empty
returns-then-not-is_empty c =
    let text = c.args.text.now in
    let some : 0 < length c.loop-at.label = some_unless c.loop-at.label _ c.is_empty-2.ensures.1 c.if-not-is_empty.true in
    ap (λ l. Ok (l, false)) c.extended-fits-then-not-is_empty.ensures
    ∙ sym (read-last (while_fits c.loop-at.fits c.loop-at.name) c.loop-at.start c.loop-at.label c.loop-at.at text c.loop-at-test.false some)
    ∙ c.loop-at.invariant.same ∙ sym (from_start text _ _ c.eq.ensures c.as_slice.ensures c.if-eq.false)

pub returns-then-start-eq0 : goal.returns-then-start-eq0
returns-then-start-eq0 c =
    let text = c.args.text.now in
    sym (read-none (while_fits c.loop-at.fits c.loop-at.name) c.loop-at.start c.loop-at.label c.loop-at.at text
    c.loop-at-test.false (c.is_empty-2.ensures.0 c.if-not-is_empty.false) c.if-start-eq0.true)
    ∙ c.loop-at.invariant.same ∙ sym (from_start text _ _ c.eq.ensures c.as_slice.ensures c.if-eq.false)

pub returns-else-start-eq0 : goal.returns-else-start-eq0
returns-else-start-eq0 c =
    let text = c.args.text.now in
    sym (read-whole (while_fits c.loop-at.fits c.loop-at.name) c.loop-at.start c.loop-at.label c.loop-at.at text
    c.loop-at-test.false (c.is_empty-2.ensures.0 c.if-not-is_empty.false) c.if-start-eq0.false)
    ∙ c.loop-at.invariant.same ∙ sym (from_start text _ _ c.eq.ensures c.as_slice.ensures c.if-eq.false)
