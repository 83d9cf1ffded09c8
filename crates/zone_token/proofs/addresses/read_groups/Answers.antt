use Rattle.std.proofs.Common.{◌++◌, ◌≡◌, ◌∙◌, ap, sym, arith, length, length-append}
use Rattle.zone_token.proofs.AddressLemmas.{loop_goes_on, loop_breaks, loop_ends, loop_ends_broken, loop_is_full}
use Rattle.zone_token.proofs.addresses.read_groups.Goals as goal

pub returns-in_err-last-clause-value : goal.returns-in_err-last-clause-value
returns-in_err-last-clause-value c =
    rw c.from_residual.ensures
    (loop_ends_broken _ _ _ _ _ c.loop-more.invariant.same c.loop-more-test.true c.in_default.ensures
    (sym c.read_last.ensures.value ∙ c.in_err-last.was))

pub returns-in_default-clause-value : goal.returns-in_default-clause-value
returns-in_default-clause-value c =
    loop_ends _ _ _ _ _ _ _ c.loop-more.invariant.same c.loop-more-test.true c.in_default.ensures
    (sym c.read_last.ensures.value ∙ c.in_ok-last.was)
    (c.push_slice.ensures ∙ ap (λ last. c.loop-more.bytes ++ last) c.as_slice.ensures.value)

pub returns-in_err-group-clause-value : goal.returns-in_err-group-clause-value
returns-in_err-group-clause-value c =
    rw c.from_residual-in_err-group.ensures
    (loop_breaks _ _ _ _ _ _ _ c.loop-more.invariant.same c.loop-more-test.true c.in-Some.ensures
    (sym c.read_group.ensures.value ∙ c.in_err-group.was))

pub loop-more-preserved : goal.loop-more-preserved
loop-more-preserved c = record {
  same = loop_goes_on _ _ _ _ _ _ _ _ _ c.loop-more.invariant.same c.loop-more-test.true c.in-Some.ensures
      (sym c.read_group.ensures.value ∙ c.in_ok-group.was) c.push_slice-in-loop-more.ensures;
  most =
      let two : length c.in_ok-group.group ≡ 2 = c.in_ok-group.ensures.size in
      omega (arith, ap length c.push_slice-in-loop-more.ensures, length-append c.loop-more.bytes c.in_ok-group.group);
}

pub returns-clause-value : goal.returns-clause-value
returns-clause-value c =
    let none : c.loop-more.more ≡ 0 = omega arith in
    loop_is_full _ _ _ _ (rw none at c.loop-more.invariant.same)
