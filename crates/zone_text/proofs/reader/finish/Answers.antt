use Rattle.std.proofs.Common.{rules, Ok, Err}
use Rattle.std.proofs.lemmas.Result.{on_ok_weaker, MatchResult-weaker}
use Rattle.zone_text.specs.Read.{seen}
use Rattle.zone_text.proofs.ReaderLemmas.{finish_none, finish_some}
use Rattle.zone_text.proofs.reader.finish.Goals as goal

pub returns-then-is_empty-clause-ok : goal.returns-then-is_empty-clause-ok
returns-then-is_empty-clause-ok c = finish_none c.args.progress.now c.args.left.now (search rules)

pub returns-clause-ok : goal.returns-clause-ok
returns-clause-ok c =
    on_ok_weaker c.read.result (λ read. finish_some c.args.progress.now c.args.left.now (Ok (seen c.read.new.self)) (search rules) read) c.read.ensures.ok

pub returns-clause-err : goal.returns-clause-err
returns-clause-err c =
    MatchResult-weaker c.read.result c.read.ensures.err (λ x h. h)
    (λ fault h known. finish_some c.args.progress.now c.args.left.now (Err fault) (search rules) (h known))
