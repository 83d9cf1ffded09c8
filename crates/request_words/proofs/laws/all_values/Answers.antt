use Rattle.request_words.proofs.OptionLemmas.{few_values, one_value, places_are}
use Rattle.std.proofs.Common.{◌+◌, arith}
use Rattle.request_words.specs.Rows.{size_of}
use Rattle.request_words.proofs.laws.all_values.Goals as goal

pub returns-clause-once : goal.returns-clause-once
returns-clause-once c =
    λ row words app given choice spelled listed once.
    one_value _ (let few = few_values app row.choices choice given (size_of row + 1) spelled.often listed in omega (arith, few, once))

pub returns-clause-repeated : goal.returns-clause-repeated
returns-clause-repeated c =
    λ row words app given choice spelled listed most.
    places_are _ (let few = few_values app row.choices choice given (size_of row + 1) spelled.often listed in omega (arith, few, most))
