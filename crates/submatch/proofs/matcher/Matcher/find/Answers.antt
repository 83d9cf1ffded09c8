use Rattle.std.proofs.Common.{◌≡◌, ◌+◌, ◌-◌, ◌*◌, ◌≤◌, ◌∙◌, length, subst, ap, arith}
use Rattle.posix_ere.specs.Parts.{weight}
use Rattle.posix_ere.specs.Nodes.{tree_at}
use Rattle.submatch.specs.Best.{TellsBest}
use Rattle.submatch.specs.Table.{square, tree_of}
use Rattle.submatch.proofs.FindingLemmas.{none_told, one_told, whole_told, groups_told}
use Rattle.submatch.proofs.SpendingLemmas.{spent_in_all}
use Rattle.submatch.proofs.matcher.Matcher.find.Goals as goal

pub returns-in_err-whole-clause-bounded : goal.returns-in_err-whole-clause-bounded
returns-in_err-whole-clause-bounded g c =
    let ere = c.self.inside.ere.now in
    let root : c.root.result ≡ length ere - 1 = omega (arith, c.root.ensures) in
    let is : tree_at ere c.root.result ≡ c.args.self.now = ap (λ x. tree_at ere x) root ∙ c.self.view_is in
    spent_in_all (weight c.args.self.now) (length c.args.text.now) c.args.steps.now c.compile.new.steps c.compile.new.steps
    (subst (λ t. c.compile.new.steps ≤ c.args.steps.now + 4 * (weight t * square c.args.text.now)) is c.compile.ensures.most) (omega arith)

pub returns-clause-none : goal.returns-clause-none
returns-clause-none g c =
    let ere = c.self.inside.ere.now in
    let root : c.root.result ≡ length ere - 1 = omega (arith, c.root.ensures) in
    let is : tree_of ere c.compile.new.table c.in_ok-whole.whole ≡ c.args.self.now =
    ap (λ x. tree_at ere x) (c.in_ok-whole.ensures.number ∙ root) ∙ c.self.view_is in
    none_told c.args.fold c.args.text.now c.args.self.now c.best.result
    (subst (λ t. TellsBest c.args.fold c.args.text.now t c.best.result) is c.best.ensures.best)

pub returns-clause-one : goal.returns-clause-one
returns-clause-one g c =
    let ere = c.self.inside.ere.now in
    let root : c.root.result ≡ length ere - 1 = omega (arith, c.root.ensures) in
    let is : tree_of ere c.compile.new.table c.in_ok-whole.whole ≡ c.args.self.now =
    ap (λ x. tree_at ere x) (c.in_ok-whole.ensures.number ∙ root) ∙ c.self.view_is in
    one_told c.args.fold c.args.text.now c.args.self.now c.best.result
    (subst (λ t. TellsBest c.args.fold c.args.text.now t c.best.result) is c.best.ensures.best)

pub returns-clause-whole : goal.returns-clause-whole
returns-clause-whole g c =
    let ere = c.self.inside.ere.now in
    let root : c.root.result ≡ length ere - 1 = omega (arith, c.root.ensures) in
    let is : tree_of ere c.compile.new.table c.in_ok-whole.whole ≡ c.args.self.now =
    ap (λ x. tree_at ere x) (c.in_ok-whole.ensures.number ∙ root) ∙ c.self.view_is in
    whole_told c.args.fold c.args.text.now c.args.self.now c.best.result
    (subst (λ t. TellsBest c.args.fold c.args.text.now t c.best.result) is c.best.ensures.best)

pub returns-clause-groups : goal.returns-clause-groups
returns-clause-groups g c =
    let ere = c.self.inside.ere.now in
    let root : c.root.result ≡ length ere - 1 = omega (arith, c.root.ensures) in
    let is : tree_of ere c.compile.new.table c.in_ok-whole.whole ≡ c.args.self.now =
    ap (λ x. tree_at ere x) (c.in_ok-whole.ensures.number ∙ root) ∙ c.self.view_is in
    groups_told c.args.fold c.args.text.now c.args.self.now c.best.result
    (subst (λ t. TellsBest c.args.fold c.args.text.now t c.best.result) is c.best.ensures.best)

pub returns-clause-bounded : goal.returns-clause-bounded
returns-clause-bounded g c =
    let ere = c.self.inside.ere.now in
    let q = square c.args.text.now in
    let root : c.root.result ≡ length ere - 1 = omega (arith, c.root.ensures) in
    let first : tree_at ere c.root.result ≡ c.args.self.now = ap (λ x. tree_at ere x) root ∙ c.self.view_is in
    let is : tree_of ere c.compile.new.table c.in_ok-whole.whole ≡ c.args.self.now =
    ap (λ x. tree_at ere x) (c.in_ok-whole.ensures.number ∙ root) ∙ c.self.view_is in
    spent_in_all (weight c.args.self.now) (length c.args.text.now) c.args.steps.now c.compile.new.steps c.best.new.steps
    (subst (λ t. c.compile.new.steps ≤ c.args.steps.now + 4 * (weight t * q)) first c.in_ok-whole.ensures.most)
    (subst (λ t. c.best.new.steps ≤ c.compile.new.steps + 4 * (weight t * q)) is c.best.ensures.most)
