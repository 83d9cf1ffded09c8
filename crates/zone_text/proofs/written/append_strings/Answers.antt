use Rattle.std.proofs.Common.{◌++◌, ap, ◌∙◌}
use Rattle.zone_text.proofs.WrittenLemmas.{held_front, strings_end}
use Rattle.zone_text.proofs.written.append_strings.Goals as goal

pub returns-in_err-append_string-2-clause-front : goal.returns-in_err-append_string-2-clause-front
returns-in_err-append_string-2-clause-front c = held_front _ _ _ (c.in_err-append_string-2.ensures.err ∙ c.loop-string.invariant)

pub returns-clause-front : goal.returns-clause-front
returns-clause-front c = held_front _ _ _ c.loop-string.invariant

pub returns-clause-ok : goal.returns-clause-ok
returns-clause-ok c =
    c.loop-string.invariant ∙ ap (λ text. c.args.out.now
    ++ text)
    (strings_end c.args.strings.now c.loop-string.string-index c.in-len1-up.len_at_least c.loop-string-test.false)
