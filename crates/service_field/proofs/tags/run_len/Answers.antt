use Rattle.std.proofs.Common.{length, not, rules, tests, ◌∙◌}
use Rattle.std.proofs.lemmas.Iterator.{YieldsList-from_slice}
use Rattle.std.proofs.lemmas.Iterator.Search.{position_from_yields_List}
use Rattle.std.proofs.lemmas.List.Sums.{prefix_len-le-length}
use Rattle.service_field.specs.Faults.{run_of}
use Rattle.service_field.specs.Tags.{is_tag_byte}
use Rattle.service_field.proofs.TagLemmas.{unwrapped}
use Rattle.service_field.proofs.tags.run_len.Goals as goal

pub returns-clause-value : goal.returns-clause-value
returns-clause-value c =
    c.unwrap_or.ensures
    ∙ unwrapped c.position.result (length c.args.text.now) (run_of c.args.alphabet c.args.text.now)
    (position_from_yields_List (λ b. not (is_tag_byte c.args.alphabet b)) _ _ c.position.result c.position.ensures.ran
    (YieldsList-from_slice c.args.text.now (cc)) (λ x b q k. search (rules, tests)))
    (prefix_len-le-length (λ b. not (not (is_tag_byte c.args.alphabet b))) c.args.text.now)
