use Rattle.std.proofs.Common.{length, not, rules, tests, ◌∙◌}
use Rattle.std.proofs.lemmas.Iterator.{YieldsList-from_slice}
use Rattle.std.proofs.lemmas.Iterator.Search.{position_from_yields_List}
use Rattle.std.proofs.lemmas.List.Sums.{prefix_len-le-length}
use Rattle.std.specs.List.{position_or_len}
use Rattle.service_field.specs.Faults.{ends_part}
use Rattle.service_field.proofs.TagLemmas.{unwrapped}
use Rattle.service_field.proofs.form.Form.part_len.Goals as goal

pub returns-clause-value : goal.returns-clause-value
returns-clause-value c =
    c.unwrap_or.ensures
    ∙ unwrapped c.position.result (length c.args.text.now) (position_or_len (ends_part c.args.self) c.args.text.now)
    (position_from_yields_List (ends_part c.args.self) _ _ c.position.result c.position.ensures.ran
    (YieldsList-from_slice c.args.text.now (cc)) (λ x b q k. search (rules, tests)))
    (prefix_len-le-length (λ b. not (ends_part c.args.self b)) c.args.text.now)
