use Rattle.std.proofs.Common.{◌<◌, ◌∙◌, ap, sym, subst, length}
use Rattle.submatch.specs.Table.{PartValue, part_at}
use Rattle.submatch.proofs.MakingLemmas.{index_is, through_made}
use Rattle.submatch.proofs.search.Search.made_through.Goals as goal

pub returns-clause-made : goal.returns-clause-made
returns-clause-made g c =
    let some : 0 < length c.args.inside.items = subst (λ x. 0 < x) (sym c.requires.inside.count) c.requires.passes.some in
    through_made c.args.self.now.fold c.args.self.now.text.now c.args.self.now.ere.now c.args.table.now c.args.at
    c.own-own.result _ c.args.inside.items c.new-2.result c.new-2.ensures c.requires.known c.requires.passes c.requires.parts c.requires.inside
    (c.own-own.ensures ∙ ap (λ (p : PartValue). p.own) c.part.ensures ∙
    ap (λ x. (part_at c.args.table.now x).own) (index_is c.args.inside.items 0 c.index.result.now some c.index.ensures))

pub returns-clause-same : goal.returns-clause-same
returns-clause-same g c =
    let some : 0 < length c.args.inside.items = subst (λ x. 0 < x) (sym c.requires.inside.count) c.requires.passes.some in
    ap (λ (p : PartValue). p.own) c.new-2.ensures ∙ c.own-own.ensures ∙ ap (λ (p : PartValue). p.own) c.part.ensures ∙
    ap (λ x. (part_at c.args.table.now x).own) (index_is c.args.inside.items 0 c.index.result.now some c.index.ensures)
