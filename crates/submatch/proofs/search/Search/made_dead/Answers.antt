use Rattle.submatch.proofs.MakingLemmas.{dead_made}
use Rattle.submatch.proofs.search.Search.made_dead.Goals as goal

pub returns-clause-made : goal.returns-clause-made
returns-clause-made g c = dead_made c.args.self.now.fold c.args.self.now.text.now c.args.self.now.ere.now c.args.table.now c.add_column.new.self c.args.at
    c.in_ok-own.own c.new.result _ c.args.inside.items c.new-3.result c.new-3.ensures c.requires.known c.requires.never c.requires.inside c.new.ensures
    c.in_ok-own.ensures.number c.in_ok-own.ensures.columns c.in_ok-own.ensures.parts
