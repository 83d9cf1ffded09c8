use Rattle.std.proofs.Common.{◌≡◌, inl, inr, sym, subst, ◌<◌, get_or, arith}
use Rattle.std.proofs.lemmas.Bool.{cases_lt}
use Rattle.enum_base.specs.Folding.{folded}
use Rattle.zone_build.proofs.FrontLemmas.{front-none, front-next, front-fits}
use Rattle.zone_build.proofs.entry.front_of.Goals as goal

pub loop-at-init : goal.loop-at-init
loop-at-init c = record { value = sym (front-none (folded c.args.text.now)); bytes = λ at h. absurd (omega arith) }

pub overflow_mul-front : goal.overflow_mul-front
overflow_mul-front c =
    let fits = front-fits c.loop-at.at (folded c.args.text.now) c.loop-at-test.true c.loop-at.invariant.bytes in
    let is = c.loop-at.invariant.value in
    omega (arith, fits, is)

pub overflow_add-front : goal.overflow_add-front
overflow_add-front c =
    let fits = front-fits c.loop-at.at (folded c.args.text.now) c.loop-at-test.true c.loop-at.invariant.bytes in
    let is = c.loop-at.invariant.value in
    let from = c.from.ensures in
    let byte = c.byte_at.type_inv in
    omega (arith, fits, is, from, byte)

pub loop-at-preserved : goal.loop-at-preserved
loop-at-preserved c =
    let text = folded c.args.text.now in
    let at = c.loop-at.at in
    let step = front-next at text in
    let is = c.loop-at.invariant.value in
    let from = c.from.ensures in
    let byte = c.byte_at.type_inv in
    let here = c.byte_at.ensures in
    let small : get_or text at 0 < 256 = omega (arith, byte, here) in
    record {
      value = omega (arith, step, is, from, here);
      bytes = λ i h. elim (cases_lt i at) [
        | inl before ↦ c.loop-at.invariant.bytes i before
        | inr not ↦
            let same : at ≡ i = omega (arith, h, not) in
            subst (λ n. get_or text n 0 < 256) same small
      ];
    }
