use Rattle.std.proofs.Common.{length, subst, sym}
use Rattle.submatch.specs.Rows.{AreForward, IsClosedFrom}
use Rattle.submatch.proofs.search.Search.add_joined.Goals as goal

pub joined-requires : goal.joined-requires
joined-requires g c = record {
  forward = subst (λ x. AreForward (length c.args.self.now.text.now) x) (sym c.own.ensures) c.requires.forward;
  closed = λ closed. subst (λ x. IsClosedFrom 0 x) (sym c.column.ensures) (c.requires.closed closed);
}
