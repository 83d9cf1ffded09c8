use Rattle.std.proofs.Common.{Some, None}
use Rattle.std.proofs.lemmas.Bool.Decides.{Decides-eqb}
use Rattle.std.proofs.lemmas.Slice.Eq.{strip_suffix_is}
use Rattle.enum_app.specs.Number.{labels_wire}
use Rattle.enum_app.proofs.SameKeyLemmas.{folded_wire, found_key, labels_of_key, wire_of_key}
use Rattle.enum_app.proofs.number.Number.from_key.Goals as goal

pub returns-in-Some-clause-some : goal.returns-in-Some-clause-some
returns-in-Some-clause-some c =
    found_key c.args.name.now c.args.apex.now c.wire.result.now c.wire-2.result.now c.in-Some.labels.now c.number_of.result
    (folded_wire _ _ _ c.fold-folded.ensures c.wire.ensures.value c.wire.ensures.name)
    (folded_wire _ _ _ c.fold-top.ensures c.wire-2.ensures.value c.wire-2.ensures.name)
    (strip_suffix_is Decides-eqb c.wire.result.now c.wire-2.result.now (Some c.in-Some.labels) c.in-Some.ensures.cases)
    c.number_of.ensures.digits c.number_of.ensures.some

pub returns-in-Some-clause-only : goal.returns-in-Some-clause-only
returns-in-Some-clause-only c =
    λ digits are same. c.number_of.ensures.only digits are
    (labels_of_key c.args.name.now c.args.apex.now c.wire.result.now c.wire-2.result.now c.in-Some.labels.now digits
    (folded_wire _ _ _ c.fold-folded.ensures c.wire.ensures.value c.wire.ensures.name)
    (folded_wire _ _ _ c.fold-top.ensures c.wire-2.ensures.value c.wire-2.ensures.name)
    (strip_suffix_is Decides-eqb c.wire.result.now c.wire-2.result.now (Some c.in-Some.labels) c.in-Some.ensures.cases) are same)

pub returns-in-None-clause-only : goal.returns-in-None-clause-only
returns-in-None-clause-only c =
    λ digits are same. absurd (strip_suffix_is Decides-eqb c.wire.result.now c.wire-2.result.now None c.in-None.ensures.cases (labels_wire digits)
    (wire_of_key c.args.name.now c.args.apex.now c.wire.result.now c.wire-2.result.now digits
    (folded_wire _ _ _ c.fold-folded.ensures c.wire.ensures.value c.wire.ensures.name)
    (folded_wire _ _ _ c.fold-top.ensures c.wire-2.ensures.value c.wire-2.ensures.name) are same))
