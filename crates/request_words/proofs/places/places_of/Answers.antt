use Rattle.std.proofs.Common.{rules, sym, ◌∙◌, arith}
use Rattle.std.specs.Prelude.{string_bytes}
use Rattle.std.proofs.lemmas.Grind.{common_steps}
use Rattle.request_words.specs.Rows.{option_word}
use Rattle.request_words.proofs.PlaceLemmas.{added_all, added_more, added_none, value_count}
use Rattle.request_words.proofs.places.places_of.Goals as goal

pub options-init : goal.options-init
options-init c = record { read = added_all _; place = search rules; count = search rules }

pub options-preserved : goal.options-preserved
options-preserved c = record {
  read = added_more _ _ _ _ _ _ c.in-len2-up.len_at_least c.word-item.is c.with_value-places.ensures ∙ c.options.invariant.read;
  place = let long = c.in-len2-up.len_at_least in let before = c.options.invariant.place in grind (arith, common_steps);
  count = let long = c.in-len2-up.len_at_least in let before = c.options.invariant.count in let one =
      value_count c.options.places c.with_value-places.result (string_bytes c.word-item.result)
      (option_word c.args.option) c.options.at c.with_value-places.ensures in grind (arith, common_steps);
}

pub returns : goal.returns
returns c = sym (added_none _ _ _ _ c.in_default.len_below) ∙ c.options.invariant.read
