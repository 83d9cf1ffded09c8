use Rattle.submatch.proofs.MakingLemmas.{empty_made}
use Rattle.submatch.proofs.search.Search.made_empty.Goals as goal

pub returns : goal.returns
returns g c = record {
  made = empty_made c.args.self.now.fold c.args.self.now.text.now c.args.self.now.ere.now c.args.table.now c.add_column.new.self c.args.at
      c.in_ok-own.own c.in_ok-column.column _ c.args.inside.items c.new-2.result c.new-2.ensures c.requires.known
      c.requires.kind c.requires.empty c.requires.inside
      c.in_ok-column.ensures.column c.in_ok-own.ensures.number c.in_ok-own.ensures.columns c.in_ok-own.ensures.parts;
}
