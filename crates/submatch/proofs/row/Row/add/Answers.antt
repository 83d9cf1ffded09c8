use Rattle.std.proofs.Common.{◌≡◌, ◌*◌, ◌/◌, ◌%◌, ◌^◌, subst, sym, get_or, set, arith}
use Rattle.std.proofs.lemmas.Nat.{one_shl}
use Rattle.std.specs.Prelude.{bit_or}
use Rattle.submatch.specs.Rows.{AddsPlaces}
use Rattle.submatch.proofs.RowLemmas.{added_place}
use Rattle.submatch.proofs.row.Row.add.Goals as goal

pub returns : goal.returns
returns c = subst (λ k. AddsPlaces (λ j. c.args.place ≡ j) c.args.self.now
    (set c.self.inside.words k (bit_or (get_or c.self.inside.words k 0) (1 * 2 ^ (c.args.place % 64) % 2 ^ 64)))) (sym c.from.ensures)
    (subst (λ b. AddsPlaces (λ j. c.args.place ≡ j) c.args.self.now
    (set c.self.inside.words (c.args.place / 64) (bit_or (get_or c.self.inside.words (c.args.place / 64) 0) b)))
    (sym (one_shl (c.args.place % 64) 64 (omega arith)))
    (subst (λ x. AddsPlaces (λ j. c.args.place ≡ j) x
    (set c.self.inside.words (c.args.place / 64) (bit_or (get_or c.self.inside.words (c.args.place / 64) 0) (2 ^ (c.args.place % 64))))) c.self.view_is
    (added_place c.self.inside.words c.args.place c.self.invariant c.requires)))
