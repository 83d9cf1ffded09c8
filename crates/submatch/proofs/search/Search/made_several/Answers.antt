use Rattle.std.proofs.Common.{length, subst}
use Rattle.submatch.specs.Rows.{IsColumn}
use Rattle.submatch.specs.Table.{LeadsSome}
use Rattle.submatch.proofs.MakingLemmas.{alt_made}
use Rattle.submatch.proofs.search.Search.made_several.Goals as goal

pub returns-clause-made : goal.returns-clause-made
returns-clause-made g c = alt_made c.args.self.now.fold c.args.self.now.text.now c.args.self.now.ere.now c.args.table.now c.add_column.new.self c.args.at
    c.in_ok-own.own 0 c.in_ok-column.column _ c.args.inside.items c.new-2.result c.new-2.ensures c.requires.known
    c.requires.kind c.requires.parts c.requires.inside
    (subst (λ xs. IsColumn (length c.args.self.now.text.now)
    (λ i j. LeadsSome c.args.table.now xs
    (length xs) i j) c.in_ok-column.column) c.as_slice.ensures.value c.in_ok-column.ensures.column)
    c.in_ok-own.ensures.number c.in_ok-own.ensures.columns c.in_ok-own.ensures.parts
