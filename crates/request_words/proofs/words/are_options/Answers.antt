use Rattle.std.proofs.Common.{sym, ◌∙◌}
use Rattle.request_words.proofs.OptionLemmas.{options_end}
use Rattle.request_words.proofs.words.are_options.Goals as goal

pub returns : goal.returns
returns c = c.is_empty.ensures ∙ sym (options_end _ _ c.in_default.len_below) ∙ c.options.invariant
