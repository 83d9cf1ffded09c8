use Rattle.std.proofs.Common.{◌≡◌, ◌+◌, ◌<◌, ◌^◌, ap, ◌∙◌, arith, length}
use Rattle.posix_ere.specs.Nodes.{whole}
use Rattle.posix_ere.specs.Machine.{State, state_of, top_of, ended}
use Rattle.posix_ere.proofs.ToldLemmas.{whole_top, expression_of, too_heavy}
use Rattle.posix_ere.proofs.reader.Reader.whole.Goals as goal

pub returns-then-weight-gt-MAX_WEIGHT-clause-stops : goal.returns-then-weight-gt-MAX_WEIGHT-clause-stops
returns-then-weight-gt-MAX_WEIGHT-clause-stops g c =
    let e = c.in_ok-end.ensures in
    let size : length c.end.new.self.cells ≡ length c.args.self.cells + 2 = ap (λ (s : State). s.nodes) e in
    let some : 0 < length c.end.new.self.cells = omega arith in
    let h = c.weight-weight.ensures in
    too_heavy c.end.new.self.cells (top_of (ended (state_of c.args.self))) c.len.result c.weight-weight.result some
    (ap (λ (s : State). top_of s.stack) e) c.len.ensures c.weight-weight.ensures c.if-weight-gt-MAX_WEIGHT.true

pub new-requires : goal.new-requires
new-requires g c =
    let e = c.in_ok-end.ensures in
    let size : length c.end.new.self.cells ≡ length c.args.self.cells + 2 = ap (λ (s : State). s.nodes) e in
    let some : 0 < length c.end.new.self.cells = omega arith in
    let small : length c.end.new.self.cells < 2 ^ 32 = omega (arith, c.requires.fair.nodes) in
    expression_of c.end.new.self.cells c.end.new.self.opened c.len.result c.weight-weight.result (top_of (ended (state_of c.args.self))) some small
    (ap (λ (s : State). top_of s.stack) e) (ap (λ (s : State). s.opened) e ∙ c.requires.numbered) c.len.ensures c.weight-weight.ensures
    c.if-weight-gt-MAX_WEIGHT.false

pub returns-clause-ok : goal.returns-clause-ok
returns-clause-ok g c =
    let e = c.in_ok-end.ensures in
    let size : length c.end.new.self.cells ≡ length c.args.self.cells + 2 = ap (λ (s : State). s.nodes) e in
    let some : 0 < length c.end.new.self.cells = omega arith in
    ap whole c.new.ensures ∙ (whole_top c.end.new.self.cells some ∙ ap (λ (s : State). top_of s.stack) e)
