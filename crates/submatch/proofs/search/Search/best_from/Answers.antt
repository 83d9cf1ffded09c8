use Rattle.std.proofs.Common.{◌≡◌, ℕ, ◌∙◌, ap, refl, replicate, None, List, Option}
use Rattle.submatch.specs.declared.spans.Span.{Span}
use Rattle.submatch.specs.Parses.{Parses, IsParse}
use Rattle.submatch.specs.Greater.{IsGreatestParse}
use Rattle.submatch.specs.Groups.{groups_of, with_groups}
use Rattle.submatch.specs.Table.{tree_of}
use Rattle.submatch.proofs.FindingLemmas.{no_match, greatest_from}
use Rattle.submatch.proofs.search.Search.best_from.Goals as goal

pub returns-in_default-clause-greatest : goal.returns-in_default-clause-greatest
returns-in_default-clause-greatest g c = no_match c.args.self.now.fold c.args.self.now.text.now (tree_of c.args.self.now.ere.now c.args.table.now c.args.whole)
    c.args.start c.in_default.ensures.end

pub returns-clause-greatest : goal.returns-clause-greatest
returns-clause-greatest g c =
    let F = c.args.self.now.fold in
    let W = c.args.self.now.text.now in
    let tree = tree_of c.args.self.now.ere.now c.args.table.now c.args.whole in
    let groups : (d : ℕ) (a : Parses) → IsGreatestParse (IsParse F W tree c.args.start c.in-Some.end) d a →
    c.spans.result ≡ with_groups (replicate 9 None) (groups_of tree c.args.start c.in-Some.end d a) =
    λ d a greatest. c.spans.ensures ∙ c.rebuild.ensures.groups d a greatest ∙
    ap (λ (x : List (Option Span)). with_groups x (groups_of tree c.args.start c.in-Some.end d a)) c.new-groups.ensures in
    rw c.new.ensures (greatest_from F W tree c.args.start c.in-Some.end
    (record { whole = record { from = c.args.start; to = c.in-Some.end }; groups = c.spans.result })
    c.requires.within c.in-Some.ensures.end refl groups)
