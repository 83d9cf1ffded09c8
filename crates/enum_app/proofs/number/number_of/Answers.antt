use Rattle.std.proofs.Common.{◌≡◌, ◌≢◌, ℕ, ◌-◌, ◌<◌, true, List, [], ◌∷◌, ◌++◌, length, take, get_or, Some, sym, ap, ◌∙◌, arith}
use Rattle.std.proofs.lemmas.Bool.{eqb-true, eqb-false, true≢false}
use Rattle.std.specs.Char.{is_ascii_digit}
use Rattle.enum_app.proofs.FromKeyLemmas.{goes_on, last_two, left_even, read_all, taken_more, taken_number}
use Rattle.enum_app.proofs.number.number_of.Goals as goal
use Rattle.enum_app.proofs.number.number_of.Goals.{then-size-ne1-via-then-size-ne1}
use Rattle.enum_app.proofs.number.number_of.Goals.{then-size-ne1-via-else-size-ne1+then-not-is_ascii_digit}
use Rattle.enum_app.proofs.number.number_of.Goals.{then-size-ne1-via-else-size-ne1+else-not-is_ascii_digit+then-len-eq-MOST_DIGITS}
use Rattle.enum_app.proofs.number.number_of.Goals.{then-not-is_empty-via-then-not-is_empty}
use Rattle.enum_app.proofs.number.number_of.Goals.{then-not-is_empty-via-else-not-is_empty+then-len-eq0}

pub returns-then-size-ne1-clause-only : goal.returns-then-size-ne1-clause-only
returns-then-size-ne1-clause-only c =
    λ digits are is.
    let rest : List ℕ = c.loop-rest.rest.now in
    let g = goes_on c.args.labels.now rest c.loop-rest.row (take (length rest - 2) rest) digits c.loop-rest.len
    (get_or rest (length rest - 2) 0) (get_or rest (length rest - 1) 0) c.loop-rest.invariant
    (last_two rest c.in-len2-up.len_at_least) are is in
    elim c.then-size-ne1.branch [
      | then-size-ne1-via-then-size-ne1 w ↦ absurd (w.if-size-ne1.true g.0)
      | then-size-ne1-via-else-size-ne1+then-not-is_ascii_digit w ↦ absurd
          (true≢false (sym g.1 ∙ sym w.is_ascii_digit.ensures.value ∙ w.if-not-is_ascii_digit.true))
      | then-size-ne1-via-else-size-ne1+else-not-is_ascii_digit+then-len-eq-MOST_DIGITS w ↦ absurd (omega (arith, w.if-len-eq-MOST_DIGITS.true, g.2))
    ]

pub loop-rest-preserved : goal.loop-rest-preserved
loop-rest-preserved c =
    let rest : List ℕ = c.loop-rest.rest.now in
    let one : get_or rest (length rest - 2) 0 ≡ 1 = c.if-size-ne1.false in
    let digit : is_ascii_digit (get_or rest (length rest - 1) 0) ≡ true = sym c.is_ascii_digit.ensures.value ∙ c.if-not-is_ascii_digit.false in
    let room : c.loop-rest.len < 15 = omega (arith, c.if-len-eq-MOST_DIGITS.false, c.loop-rest.invariant.most, c.loop-rest.invariant.count) in
    taken_more _ rest _ _ _ _ c.loop-rest.invariant
    (last_two rest c.in-len2-up.len_at_least
    ∙ ap (λ s. take (length rest - 2) rest ++ s ∷ get_or rest (length rest - 1) 0 ∷ []) one) digit room

pub returns-then-not-is_empty-clause-only : goal.returns-then-not-is_empty-clause-only
returns-then-not-is_empty-clause-only c =
    λ digits are is.
    elim c.then-not-is_empty.branch [
      | then-not-is_empty-via-then-not-is_empty w ↦
          let some : length c.loop-rest.rest.now ≢ 0 = eqb-false (length c.loop-rest.rest.now) 0 (sym c.is_empty.ensures ∙ w.if-not-is_empty.true) in
          absurd (left_even c.args.labels.now c.loop-rest.rest.now c.loop-rest.row digits c.loop-rest.len
          c.loop-rest.invariant is (omega (arith, some, c.in_default.len_below)))
      | then-not-is_empty-via-else-not-is_empty+then-len-eq0 w ↦
          let none : length c.loop-rest.rest.now ≡ 0 = eqb-true (length c.loop-rest.rest.now) 0 (sym c.is_empty.ensures ∙ w.if-not-is_empty.false) in
          let all : digits ≡ c.loop-rest.invariant.digits =
          read_all c.args.labels.now c.loop-rest.rest.now c.loop-rest.row digits c.loop-rest.len c.loop-rest.invariant none is in
          absurd (omega (arith, ap length all, are.some, w.if-len-eq0.true, c.loop-rest.invariant.count))
    ]

pub returns-clause-only : goal.returns-clause-only
returns-clause-only c =
    λ digits are is.
    let none : length c.loop-rest.rest.now ≡ 0 = eqb-true (length c.loop-rest.rest.now) 0 (sym c.is_empty.ensures ∙ c.if-not-is_empty.false) in
    let some : 0 < c.loop-rest.len = omega (arith, c.if-len-eq0.false) in
    let all : digits ≡ c.loop-rest.invariant.digits =
    read_all c.args.labels.now c.loop-rest.rest.now c.loop-rest.row digits c.loop-rest.len c.loop-rest.invariant none is in
    ap (λ (d : List ℕ). Some d)
    ((taken_number c.args.labels.now c.loop-rest.rest.now c.loop-rest.row c.loop-rest.len c.loop-rest.invariant none some).0 ∙ sym all)
