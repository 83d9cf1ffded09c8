use Rattle.std.proofs.Common.{◌≡◌, ◌/◌, ◌∙◌, ap, get_or}
use Rattle.submatch.proofs.JoiningLemmas.{word_bits}
use Rattle.submatch.proofs.row.Row.word_from.Goals as goal

pub returns : goal.returns
returns c =
    let word : get_or c.self.inside.words c.from.result 0 ≡ get_or c.args.self.now (c.args.place / 64) 0 =
    ap (λ k. get_or c.self.inside.words k 0) c.from.ensures ∙ ap (λ row. get_or row (c.args.place / 64) 0) c.self.view_is in
    λ bit. word_bits c.args.self.now c.args.place (get_or c.self.inside.words c.from.result 0) c.bits_from.result bit c.requires word (c.bits_from.ensures bit)
