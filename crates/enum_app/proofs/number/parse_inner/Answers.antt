use Rattle.std.proofs.Common.{◌≡◌, ◌<◌, true, false, get_or, arith, rules}
use Rattle.std.specs.Char.{is_ascii_digit}
use Rattle.enum_app.specs.Number.{is_separator}
use Rattle.enum_app.proofs.NumberLemmas.{IsRead-digit, IsRead-separator, IsDigits-read}
use Rattle.enum_app.proofs.number.parse_inner.Goals as goal
use Rattle.enum_app.proofs.number.parse_inner.Goals.{then-is_ascii_digit+else-len-eq-MOST_DIGITS, else-is_ascii_digit+else-not-is_separator}

pub loop-at-preserved : goal.loop-at-preserved
loop-at-preserved c =
    elim c.if-is_ascii_digit.branch [
      | then-is_ascii_digit+else-len-eq-MOST_DIGITS w ↦
          let digit : is_ascii_digit (get_or c.args.text.now c.loop-at.at 0) ≡ true = cc in
          let most = c.loop-at.invariant.spelled.most in
          let room : c.loop-at.len < 15 = omega (arith, w.if-len-eq-MOST_DIGITS.false, c.loop-at.invariant.count) in
          rw (w.row-is, w.len-is) (IsRead-digit _ _ _ _ c.loop-at.auto.at c.loop-at-test.true c.loop-at.invariant digit room)
      | else-is_ascii_digit+else-not-is_separator w ↦
          let other : is_ascii_digit (get_or c.args.text.now c.loop-at.at 0) ≡ false = cc in
          let separator : is_separator (get_or c.args.text.now c.loop-at.at 0) ≡ true = search rules in
          rw (w.row-is, w.len-is) (IsRead-separator _ _ _ _ c.loop-at.auto.at c.loop-at-test.true c.loop-at.invariant other separator)
    ]

pub invariant_of-result : goal.invariant_of-result
invariant_of-result c = let some : 0 < c.loop-at.len = omega (arith, c.if-len-eq0.false) in IsDigits-read _ _ _ _ c.loop-at.invariant some
