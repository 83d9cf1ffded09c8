use Rattle.std.proofs.Common.{◌∙◌, ap, sym}
use Rattle.enum_top.specs.Applications.{apex_of, every}
use Rattle.enum_top.proofs.KeyLemmas.{all_made, named, one_unmade}
use Rattle.enum_top.proofs.inquiry.read_names.Goals as goal

pub returns : goal.returns
returns c = all_made _ _ _ _ c.loop-place-test.false c.loop-place.invariant.made ∙ ap every (named _ _)

pub returns-in-Err : goal.returns-in-Err
returns-in-Err c =
    one_unmade _ _ _ 0 _ _ c.loop-place-test.true
    (ap apex_of (sym (c.as_bytes.ensures.value ∙ c.text_at.ensures)) ∙ sym c.read_apex.ensures ∙ c.in-Err.is)
    c.loop-place.invariant.made
    ∙ ap every (named _ _)
