use Rattle.enum_base.proofs.ShelfLemmas.{place_of_name}
use Rattle.enum_base.proofs.mem_shelf.place_of.Goals as goal

pub returns-clause-place : goal.returns-clause-place
returns-clause-place c = (place_of_name c.args.files.now c.args.name.now _ c.first_named.ensures).standing

pub returns-clause-found : goal.returns-clause-found
returns-clause-found c = (place_of_name c.args.files.now c.args.name.now _ c.first_named.ensures).found

pub returns-clause-bytes : goal.returns-clause-bytes
returns-clause-bytes c = (place_of_name c.args.files.now c.args.name.now _ c.first_named.ensures).bytes
