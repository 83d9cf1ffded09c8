use Rattle.std.proofs.Common.{◌≡◌, ◌+◌, ◌*◌, ◌/◌, ℕ, List, length, take, ap, ◌∙◌, arith}
use Rattle.std.proofs.lemmas.List.{take_rest}
use Rattle.enum_base.specs.Folding.{folded}
use Rattle.zone_build.specs.Indexing.{number_after}
use Rattle.zone_build.proofs.IndexLemmas.{state_more, key_met}
use Rattle.zone_build.proofs.index.key_of.Goals as goal

pub loop-turn-preserved : goal.loop-turn-preserved
loop-turn-preserved c =
    c.mixed-state.ensures
    ∙ state_more c.args.seed c.wire-wire.result.now c.loop-turn.turn c.loop-turn.state c.number_of.result
    c.loop-turn.invariant
    (c.number_of.ensures
    ∙ ap (λ (xs : List ℕ). number_after 0 (folded (take 7 xs))) (take_rest c.wire-wire.result.now (7 * c.loop-turn.turn)))

pub returns : goal.returns
returns c =
    let end : c.loop-turn.turn ≡ length c.wire-wire.result.now / 7 + 1 = let a = c.loop-turn.auto.turn-end in let b = c.loop-turn-test.false in omega arith in
    key_met c.args.seed c.args.name.now c.wire-wire.result.now c.loop-turn.turn c.loop-turn.state c.wire-wire.ensures.value
    c.wire-wire.ensures.name end c.loop-turn.invariant
