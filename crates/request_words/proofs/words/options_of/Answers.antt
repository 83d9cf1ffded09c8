use Rattle.std.proofs.Common.{◌∙◌, ap, drop, sym}
use Rattle.std.specs.Prelude.{string_bytes}
use Rattle.std.proofs.lemmas.List.{drop-map, take_rest}
use Rattle.request_words.specs.Words.{texts_of}
use Rattle.request_words.proofs.words.options_of.Goals as goal

pub returns-clause-words : goal.returns-clause-words
returns-clause-words c =
    ap texts_of (take_rest c.args.words.now c.size.result)
    ∙ sym (drop-map string_bytes c.size.result c.args.words.now)
    ∙ ap (λ n. drop n (texts_of c.args.words.now)) c.size.ensures
