use Rattle.std.proofs.Common.{◌≤◌, w64, arith}
use Rattle.std.proofs.lemmas.Nat.{and_le_l}
use Rattle.std.specs.Prelude.{bit_and}
use Rattle.std.specs.Int.{bit_not}
use Rattle.submatch.proofs.ClosedLemmas.{known_below, passed_places}
use Rattle.submatch.proofs.row.Row.next_new.Goals as goal

pub returns-clause-passed : goal.returns-clause-passed
returns-clause-passed c =
    let few : bit_and c.word_from.result (bit_not w64 c.word_from-2.result) ≤ c.word_from.result =
    and_le_l c.word_from.result (bit_not w64 c.word_from-2.result) in
    λ k. passed_places c.args.self.now c.args.other.now c.args.place c.min.result c.word_from.result c.word_from-2.result k
    c.word_from.ensures c.word_from-2.ensures (omega (arith, c.min.ensures, c.from-most.ensures))
    (λ bit less set. known_below c.word_from.result c.word_from-2.result bit c.word_from-2.type_inv (omega (arith, few, c.word_from.type_inv))
    (omega (arith, c.min.ensures, c.from-most.ensures)) (omega (arith, c.min.ensures)) set)
